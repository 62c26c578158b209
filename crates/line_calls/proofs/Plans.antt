-- Quick and best sharing of lines: what they answer and leave, refused and accepted, and the rules of the plans handed out.
use Prim.Native.Nat.{ℕ, ◌*◌}
use mathlib.Core.Path.{◌≡◌, refl, sym, ap, ◌∙◌}
use mathlib.Core.List.{List, ◌++◌}
use lib.Dec.{T}
use lib.ListN.{length, drop}
use lib.Seq.{take_at}
use Rattle.model.specs.Plan.{Valid, pairs}
use Rattle.model.specs.Choice.{Mounted, bare}
use Rattle.model.specs.Count.{All}
use Rattle.model.specs.Interval.{named, is_run_of, C, table}
use Rattle.model.proofs.Valid.{valid_length}
use Rattle.model.proofs.Lists.{all_map, all_both}
use Rattle.model.proofs.Run.{run_misses}
use Rattle.placements.specs.Repeated.{repeated}
use Rattle.placements.specs.Good.{GoodLines}
use Rattle.placements.specs.Plans.{quick_plan_q, best_plan_q}
use Rattle.placements.proofs.Plans.{quick_valid_lines, quick_half_placements, best_valid_lines, best-pairs-placements, best-placements}
use Rattle.refusal.specs.Told.{Refusal}
use Rattle.refusal.specs.Refusal.{none}
use Rattle.refusal.proofs.Laws.{number_of, or_same, refused, accepted, lent_refused, lent_accepted}
use Rattle.call_refusals.specs.Calls.{mounted_refusal, plan_refusal, best_refusal}
use Rattle.call_refusals.proofs.Calls.{plan_first, best_first, best_none}
use Rattle.line_calls.specs.Answers.{PlanAnswer}
use Rattle.line_calls.specs.Lines.{plan_answer, quick_of, quick_buffer, best_of, best_buffer, best_table}
use Rattle.line_calls.specs.Rules.{HandedOut, HalfRule, BestRule}

-- without a mounted tip nothing is asked
pub bare_none : (m : ℕ) → mounted_refusal none m bare ≡ none
unfolding mounted_refusal
bare_none m = refl

-- an earlier refusal stays
module _ {d earlier : Refusal} (e : d ≡ earlier) (n : d.number ≡ 0 → ⊥) where
  pub plan_later : (count room : ℕ) → d ≡ plan_refusal earlier count room
  plan_later count room = plan_first d n count room ∙ ap (λ r. plan_refusal r count room) e

  pub best_later : (m : ℕ) (lines : List ℕ) (room places : ℕ) → d ≡ best_refusal earlier m lines room places
  best_later m lines room places = best_first d n m lines room places ∙ ap (λ r. best_refusal r m lines room places) e

-- the same after the same refusal
pub plan_as : (count room : ℕ) {d first earlier : Refusal} → d ≡ plan_refusal first count room → first ≡ earlier
    → d ≡ plan_refusal earlier count room
plan_as count room p e = p ∙ ap (λ r. plan_refusal r count room) e

pub best_as : (m : ℕ) (lines : List ℕ) (room places : ℕ) {d first earlier : Refusal}
    → d ≡ best_refusal first m lines room places → first ≡ earlier → d ≡ best_refusal earlier m lines room places
best_as m lines room places p e = p ∙ ap (λ r. best_refusal r m lines room places) e

-- the answer where the call is refused, and where it is accepted
module _ {d r : Refusal} (e : d ≡ r) where
  plan_refused : (d.number ≡ 0 → ⊥) → (p : ℕ) → ◌≡◌ {A = PlanAnswer} (record { refusal = d; pairs = 0 }) (plan_answer r p)
  plan_refused n p = rw (e, refused p 0 e n) refl

  plan_accepted : d.number ≡ 0 → {x : ℕ} (p : ℕ) → x ≡ p → ◌≡◌ {A = PlanAnswer} (record { refusal = d; pairs = x }) (plan_answer r p)
  plan_accepted z p q = rw (e, q, accepted p 0 e z) refl

-- a valid plan at the front of the buffer is handed out with its pairs
pub handed_out : (qs : List ℕ) {lines new : List ℕ} (n : ℕ) → n ≡ length lines → (old : List ℕ) (x : ℕ)
    → Valid lines new → x ≡ pairs (repeated qs new) → HandedOut qs lines (new ++ drop n old) x
handed_out qs {lines} {new} n size old x v p =
    let front = take_at new (drop n old) (length lines) (valid_length v) in
    record { own = rw front v; counted = rw front (sym p) }

module _ (earlier : Refusal) (m : ℕ) (mounted : Mounted) (qs lines old : List ℕ) {n : ℕ} {d : Refusal}
    (by_count : d ≡ plan_refusal earlier n (length old)) (size : earlier.number ≡ 0 → n ≡ length lines) where
  -- the decision by the count is that by the lines
  e : d ≡ plan_refusal earlier (length lines) (length old)
  unfolding plan_refusal
  e = by_count ∙ or_same earlier (λ z. rw (size z) refl)

  -- the three clauses of quick sharing, for what the code answers and leaves
  abbrev Quick : PlanAnswer → List ℕ → Type 0
  Quick r last =
      (r ≡ quick_of earlier m mounted qs lines (length old))
      × ((last ≡ quick_buffer earlier m mounted qs lines old) × HalfRule qs lines last r.refusal.number r.pairs)

  pub quick_refused : (d.number ≡ 0 → ⊥) → Quick (record { refusal = d; pairs = 0 }) old
  unfolding quick_of quick_buffer
  quick_refused f = (
    plan_refused e f (pairs (repeated qs (quick_plan_q mounted m qs lines))),
    (lent_refused e (length lines) (quick_plan_q mounted m qs lines) old f, record { plan = λ z. absurd (f z); half = λ z. absurd (f z) }),
  )

  pub quick_accepted : d.number ≡ 0 → n ≡ length lines → GoodLines m qs lines → {x : ℕ} {out : List ℕ}
      → x ≡ pairs (repeated qs (quick_plan_q mounted m qs lines)) → out ≡ quick_plan_q mounted m qs lines
      → Quick (record { refusal = d; pairs = x }) (out ++ drop n old)
  unfolding quick_of quick_buffer
  quick_accepted z s good {x} {out} q o = (
    plan_accepted e z (pairs (repeated qs (quick_plan_q mounted m qs lines))) q,
    (
      rw s (lent_accepted e (length lines) (quick_plan_q mounted m qs lines) old z o),
      record {
        plan = λ _. rw o (handed_out qs n s old x (quick_valid_lines mounted good.domains good.placed good.same) q);
        half = λ _ other v. rw q (quick_half_placements mounted good.domains qs v);
      },
    ),
  )

-- ---- best sharing

module _ (earlier : Refusal) (m : ℕ) (mounted : Mounted) (qs lines old : List ℕ) (places : ℕ) {d : Refusal}
    (e : d ≡ best_refusal earlier m lines (length old) places) where
  -- the lines are runs of the named tips where best sharing is not refused
  pub best_runs : d.number ≡ 0 → All (λ s. T (is_run_of (named lines) s)) lines
  best_runs z = (best_none earlier m lines (length old) places (number_of e z)).runs

  -- the three clauses of best sharing without its table, for what the code answers and leaves
  abbrev BestPlan : PlanAnswer → List ℕ → Type 0
  BestPlan r last =
      (r ≡ best_of earlier m qs lines (length old) places)
      × ((last ≡ best_buffer earlier m mounted qs lines old places) × BestRule qs lines last r.refusal.number r.pairs)

  pub best-plan_refused : (d.number ≡ 0 → ⊥) → BestPlan (record { refusal = d; pairs = 0 }) old
  unfolding best_of best_buffer
  best-plan_refused f = (
    plan_refused e f (C (repeated qs lines) 0 m),
    (
      lent_refused e (length lines) (best_plan_q mounted m qs lines) old f,
      record { runs = λ z. absurd (f z); plan = λ z. absurd (f z); best = λ z. absurd (f z) },
    ),
  )

  pub best-plan_accepted : d.number ≡ 0 → GoodLines m qs lines → {n : ℕ} → n ≡ length lines → {x : ℕ} {out : List ℕ}
      → x ≡ C (repeated qs lines) 0 m → out ≡ best_plan_q mounted m qs lines
      → BestPlan (record { refusal = d; pairs = x }) (out ++ drop n old)
  unfolding best_of best_buffer
  best-plan_accepted z r {n} s {x} {out} q o =
      let runs = best_runs z in
      let plan = best_plan_q mounted m qs lines in
      let all = best-pairs-placements mounted r.domains r.placed r.same r.most runs in
      let counted : x ≡ pairs (repeated qs plan) = q ∙ sym all in (
        plan_accepted e z (C (repeated qs lines) 0 m) q,
        (
          rw s (lent_accepted e (length lines) plan old z o),
          record {
            runs = λ _. all_map (λ s (d, t). run_misses r.most d lines t) (all_both r.domains runs);
            plan = λ _. rw o (handed_out qs n s old x (best_valid_lines mounted r.domains r.placed r.same r.most runs) counted);
            best = λ _ other v. rw counted (best-placements mounted r.domains r.placed r.same r.most runs v);
          },
        ),
      )

module _ (earlier : Refusal) (m : ℕ) (mounted : Mounted) (qs lines old cells : List ℕ) {d : Refusal}
    (e : d ≡ best_refusal earlier m lines (length old) (length cells)) where
  -- and with its table
  abbrev Best : PlanAnswer → List ℕ → List ℕ → Type 0
  Best r last grid =
      (r ≡ best_of earlier m qs lines (length old) (length cells))
      × ((last ≡ best_buffer earlier m mounted qs lines old (length cells))
      × ((grid ≡ best_table earlier m qs lines (length old) cells) × BestRule qs lines last r.refusal.number r.pairs))

  pub best-refused : (d.number ≡ 0 → ⊥) → Best (record { refusal = d; pairs = 0 }) old cells
  unfolding best_table
  best-refused f =
      let (answer, (plan, rule)) = best-plan_refused earlier m mounted qs lines old (length cells) e f in
      (answer, (plan, (lent_refused e (m * m) (table m (repeated qs lines)) cells f, rule)))

  pub best_accepted : d.number ≡ 0 → GoodLines m qs lines → {n : ℕ} → n ≡ length lines → {x : ℕ} {out grid : List ℕ}
      → x ≡ C (repeated qs lines) 0 m → out ≡ best_plan_q mounted m qs lines → grid ≡ table m (repeated qs lines)
      → Best (record { refusal = d; pairs = x }) (out ++ drop n old) (grid ++ drop (m * m) cells)
  unfolding best_table
  best_accepted z good s q o g =
      let (answer, (plan, rule)) = best-plan_accepted earlier m mounted qs lines old (length cells) e z good s q o in
      (answer, (plan, (lent_accepted e (m * m) (table m (repeated qs lines)) cells z g, rule)))
