-- Exact sharing: what it answers and leaves, refused and accepted; the rule of its plan, and its few pairs.
use Prim.Native.Nat.{ℕ, ◌≤◌, zero-le}
use native.Mathlib.Omega.{arith}
use mathlib.Core.Path.{◌≡◌, refl, sym, ap, ◌∙◌}
use mathlib.Core.Bool.{Bool, true, false}
use mathlib.Core.List.{List, ◌++◌}
use borrow.Author.Tests.{eqb-true, eqb-false, ltb-false}
use lib.Dec.{ltb}
use lib.ListN.{length, drop}
use lib.Seq.{take_at}
use Rattle.model.specs.Limits.{most_pairs}
use Rattle.model.specs.Plan.{pairs}
use Rattle.model.specs.Choice.{Mounted}
use Rattle.model.proofs.Valid.{valid_length}
use Rattle.placements.specs.Repeated.{repeated}
use Rattle.placements.specs.Good.{GoodLines}
use Rattle.placements.proofs.Bound.{pairs_bound}
use Rattle.refusal.specs.Told.{Refusal}
use Rattle.refusal.specs.Refusal.{accepts, or_else, when}
use Rattle.refusal.proofs.Laws.{or_first, or_none, when-none, refused, accepted, lent_refused, lent_accepted}
use Rattle.call_refusals.specs.Calls.{plan_refusal}
use Rattle.call_refusals.proofs.Calls.{plan_first, plan_none}
use Rattle.subset_rules.specs.Subsets.{tips_used, exact_plan_q}
use Rattle.subset_rules.specs.Exact.{most_named, capped}
use Rattle.subset_rules.specs.Table.{table_places, exact_table}
use Rattle.subset_rules.proofs.Placements.{exact-capped}
use Rattle.line_calls.specs.Answers.{ExactAnswer}
use Rattle.line_calls.specs.Exact.{count_named, exact_refusal, exact_of, exact_buffer, exact_cells, ExactRule}

-- what is known where exact sharing is not refused
pub record Plannable (earlier : Refusal) (m : ℕ) (lines : List ℕ) (room places : ℕ) : Type 0 where
  pub free : earlier.number ≡ 0
  pub bytes : length lines ≤ room
  pub few_tips : count_named m lines ≤ most_named
  pub cells : table_places (count_named m lines) ≤ places

module _ (earlier : Refusal) (m : ℕ) (lines : List ℕ) (room places : ℕ) where
  pub exact_none : (exact_refusal earlier m lines room places).number ≡ 0 → Plannable earlier m lines room places
  unfolding exact_refusal
  exact_none z =
      let r = count_named m lines in
      let many = when (ltb most_named r) 35 in
      let short = when (ltb places (table_places r)) 5 in
      let (plan, rest) = or_none (plan_refusal earlier (length lines) room) (or_else many short) z in
      let (named, table) = or_none many short rest in
      let (free, bytes) = plan_none earlier (length lines) room plan in
      record {
        free = free;
        bytes = bytes;
        few_tips = ltb-false most_named r (when-none (ltb most_named r) 35 (λ e. omega arith) named);
        cells = ltb-false places (table_places r) (when-none (ltb places (table_places r)) 5 (λ e. omega arith) table);
      }

  -- an earlier refusal stays
  pub exact_first : (earlier.number ≡ 0 → ⊥) → earlier ≡ exact_refusal earlier m lines room places
  unfolding exact_refusal
  exact_first n = or_first (plan_first earlier n (length lines) room) _ n

pub exact_later : {d earlier : Refusal} → d ≡ earlier → (d.number ≡ 0 → ⊥) → (m : ℕ) (lines : List ℕ) (room places : ℕ)
    → d ≡ exact_refusal earlier m lines room places
exact_later {d} e n m lines room places = exact_first d m lines room places n ∙ ap (λ r. exact_refusal r m lines room places) e

-- the same after the same refusal
pub exact_as : (m : ℕ) (lines : List ℕ) (room places : ℕ) {d first earlier : Refusal}
    → d ≡ exact_refusal first m lines room places → first ≡ earlier → d ≡ exact_refusal earlier m lines room places
exact_as m lines room places p e = p ∙ ap (λ r. exact_refusal r m lines room places) e

module _ (earlier : Refusal) (m : ℕ) (mounted : Mounted) (price : ℕ) (qs lines old cells : List ℕ) where
  abbrev laid : List ℕ
  laid = exact_plan_q mounted (capped price) m qs lines

  abbrev grid : List ℕ
  grid = exact_table (capped price) m (repeated qs lines)

  abbrev places : ℕ
  places = table_places (count_named m lines)

  abbrev decision : Refusal
  decision = exact_refusal earlier m lines (length old) (length cells)

  -- the three clauses, for what the code answers and leaves
  abbrev Clauses : ExactAnswer → List ℕ → List ℕ → Type 0
  Clauses r last table =
      (r ≡ exact_of earlier m mounted price qs lines (length old) (length cells))
      × ((last ≡ exact_buffer earlier m mounted price qs lines old (length cells))
      × (table ≡ exact_cells earlier m price qs lines (length old) cells))

  module _ {d : Refusal} (e : d ≡ decision) where
    pub exact_refused : (d.number ≡ 0 → ⊥) → Clauses (record { refusal = d; pairs = 0; tips = 0 }) old cells
    unfolding exact_of exact_buffer exact_cells
    exact_refused f = (
      rw (e, refused (pairs (repeated qs laid)) 0 e f, refused (tips_used m laid) 0 e f) refl,
      (lent_refused e (length lines) laid old f, lent_refused e places grid cells f),
    )

    pub exact_accepted : d.number ≡ 0 → {shared used : ℕ} {out table : List ℕ} → shared ≡ pairs (repeated qs laid) → used ≡ tips_used m laid
        → out ≡ laid → table ≡ grid
        → Clauses (record { refusal = d; pairs = shared; tips = used }) (out ++ drop (length lines) old) (table ++ drop places cells)
    unfolding exact_of exact_buffer exact_cells
    exact_accepted z p u o t = (
      rw (e, p, u, accepted (pairs (repeated qs laid)) 0 e z, accepted (tips_used m laid) 0 e z) refl,
      (lent_accepted e (length lines) laid old z o, lent_accepted e places grid cells z t),
    )

  -- THE RULE of what is answered and left, and few pairs, for good lines
  module _ (given : earlier.number ≡ 0 → GoodLines m qs lines) where
    abbrev RuleOf : ExactAnswer → List ℕ → Type 0
    RuleOf r last = ExactRule m price qs lines last r.refusal.number r.pairs r.tips × (r.pairs ≤ most_pairs)

    of-refused : (decision.number ≡ 0 → ⊥) → RuleOf (record { refusal = decision; pairs = 0; tips = 0 }) old
    of-refused f = (record { plan = λ z. absurd (f z); tips = λ z. absurd (f z); best = λ z. absurd (f z) }, zero-le)

    of_accepted : decision.number ≡ 0 → GoodLines m qs lines
        → RuleOf (record { refusal = decision; pairs = pairs (repeated qs laid); tips = tips_used m laid }) (laid ++ drop (length lines) old)
    of_accepted z good =
        let rule = exact-capped {plan = laid} good.domains good.placed good.same good.few mounted price refl in
        let size = valid_length rule.valid in
        let front = take_at laid (drop (length lines) old) (length lines) size in (
          record {
            plan = λ _. record { own = rw front rule.valid; counted = rw front refl };
            tips = λ _. rw front refl;
            best = λ _ other v. rule.best v;
          },
          pairs_bound qs laid (good.same ∙ sym size) good.few,
        )

    pub exact_holds : RuleOf (exact_of earlier m mounted price qs lines (length old) (length cells))
        (exact_buffer earlier m mounted price qs lines old (length cells))
    exact_holds = by (accepts decision) refl
      where
        by : (b : Bool) → accepts decision ≡ b → RuleOf (exact_of earlier m mounted price qs lines (length old) (length cells))
            (exact_buffer earlier m mounted price qs lines old (length cells))
        by true t =
            let z = eqb-true decision.number 0 t in
            let (answer, (buffer, table)) = exact_accepted {d = decision} refl z refl refl refl refl in
            rw (← answer, ← buffer) (of_accepted z (given (exact_none earlier m lines (length old) (length cells) z).free))
        by false t =
            let f = eqb-false decision.number 0 t in
            let (answer, (buffer, table)) = exact_refused {d = decision} refl f in
            rw (← answer, ← buffer) (of-refused f)
