-- The check of a plan, a claim and a table from other software: the rule of its number, and our own best plan accepted.
use Prim.Native.Nat.{ℕ, zero, suc, ◌+◌, ◌*◌, ◌-◌, ◌≤◌, ◌<◌}
use mathlib.Core.Path.{◌≡◌, refl, sym, ap, subst, ◌∙◌}
use mathlib.Core.List.{List, [], ◌∷◌, ◌++◌}
use native.Mathlib.Omega.{arith}
use lib.ListN.{length, get_or, take, drop}
use lib.Seq.{take_at, length-take-le, length_front}
use Rattle.model.specs.Choice.{Mounted}
use Rattle.model.specs.Interval.{C, table}
use Rattle.model.proofs.Valid.{valid_length}
use Rattle.model.proofs.Table.{length-table}
use Rattle.placements.specs.Repeated.{repeated}
use Rattle.placements.specs.Good.{GoodLines}
use Rattle.placements.specs.Plans.{best_plan_q}
use Rattle.refusal.specs.Told.{Refusal}
use Rattle.refusal.specs.Refusal.{none}
use Rattle.refusal.proofs.Laws.{or_first, or_next, or_none, lent_accepted}
use Rattle.call_refusals.specs.Calls.{best_refusal}
use Rattle.call_refusals.proofs.Calls.{best_none}
use Rattle.goal_rules.specs.Check.{entry, Accepted}
use Rattle.goal_rules.proofs.Check.{own_accepted}
use Rattle.checking.specs.Checking.{check_refusal}
use Rattle.intervals.proofs.Entry.{place_lt}
use Rattle.checking.proofs.Laws.{refused_none, accepted_none, checked-best}
use Rattle.line_calls.specs.Lines.{best_buffer, best_table, check_of}
use Rattle.line_calls.specs.Rules.{CheckRule}

module _ (earlier : Refusal) (m : ℕ) (qs lines plan : List ℕ) (claim : ℕ) (tab : List ℕ) where
  -- what is asked before, and what is asked of the plan's bytes
  abbrev asked : Refusal
  asked = best_refusal earlier m lines (length plan) (length tab)

  abbrev front : List ℕ
  front = take (length lines) plan

  abbrev checked : Refusal
  checked = check_refusal m qs lines front claim tab

  -- refused before; or not, and the plan, the claim and the table decide
  pub check_first : {d : Refusal} → d ≡ asked → (d.number ≡ 0 → ⊥) → d ≡ check_of earlier m qs lines plan claim tab
  unfolding check_of
  check_first e n = or_first e checked n

  pub check_next : {d : Refusal} → d ≡ asked → d.number ≡ 0 → {n : ℕ} → n ≡ length lines → {r : Refusal}
      → r ≡ check_refusal m qs lines (take n plan) claim tab → r ≡ check_of earlier m qs lines plan claim tab
  unfolding check_of
  check_next e z s f = or_next e checked z (f ∙ ap (λ n. check_refusal m qs lines (take n plan) claim tab) s)

  pub check_rule : (earlier.number ≡ 0 → GoodLines m qs lines) → {r : Refusal} → r ≡ check_of earlier m qs lines plan claim tab
      → CheckRule asked.number m qs lines plan claim tab r.number
  unfolding check_of
  check_rule good {r} e = subst (λ x. CheckRule asked.number m qs lines plan claim tab x.number) (sym e) (record {
    accepted = λ z. refused_none m qs lines front claim tab (or_none asked checked z).1;
    exact = λ z a. sym (ap (λ x. x.number) (or_next {d = asked} refl checked z (sym (accepted_none m qs lines front claim tab a))));
    best = λ z other v.
        let (first, next) = or_none asked checked z in
        let b = best_none earlier m lines (length plan) (length tab) first in
        let a = refused_none m qs lines front claim tab next in
        omega (arith, a.counted, checked-best (good b.free) b.runs front claim tab next v);
  })

-- ---- our own best plan and table, at the front of buffers that may be longer

front_at : (xs ys : List ℕ) (i : ℕ) → i < length xs → get_or (xs ++ ys) i 0 ≡ get_or xs i 0
front_at [] ys i l = absurd (omega arith)
front_at (x ∷ xs) ys zero l = refl
front_at (x ∷ xs) ys (suc i) l = front_at xs ys i (omega arith)

-- the places after the table's own are not read
entry-front : (m : ℕ) (tab more : List ℕ) → length tab ≡ m * m → (a w : ℕ) → a + w ≤ m → entry m (tab ++ more) a w ≡ entry m tab a w
unfolding entry
entry-front m tab more e a zero h = refl
entry-front m tab more e a (suc w) h = front_at tab more (a * m + (a + w)) (omega (arith, e, place_lt m a (suc w) (omega arith) h))

accepted_front : {m : ℕ} {qs lines plan : List ℕ} {claim : ℕ} {tab : List ℕ} (more : List ℕ) → length tab ≡ m * m
    → Accepted m qs lines plan claim tab → Accepted m qs lines plan claim (tab ++ more)
accepted_front {m} {tab} more e a =
    let at = entry-front m tab more e in
    record {
      own = a.own;
      counted = a.counted;
      whole = at 0 m (omega arith) ∙ a.whole;
      bounded = λ c w i b l g. omega (
        arith,
        at c w b,
        at c i (omega arith),
        at (c + i + 1) (w - (i + 1)) (omega arith),
        a.bounded c w i b l g,
      );
    }

module _ (earlier : Refusal) (m : ℕ) (mounted : Mounted) (qs lines plan cells : List ℕ) (good : GoodLines m qs lines)
    (z : (best_refusal earlier m lines (length plan) (length cells)).number ≡ 0) where
  abbrev ours : List ℕ
  ours = best_plan_q mounted m qs lines ++ drop (length lines) plan

  abbrev grid : List ℕ
  grid = table m (repeated qs lines) ++ drop (m * m) cells

  -- WHAT BEST SHARING LEAVES IN THE BUFFERS is accepted, with its pairs as the claim
  pub own_left : check_of earlier m qs lines (best_buffer earlier m mounted qs lines plan (length cells)) (C (repeated qs lines) 0 m)
      (best_table earlier m qs lines (length plan) cells) ≡ none
  unfolding check_of best_buffer best_table
  own_left =
      let b = best_none earlier m lines (length plan) (length cells) z in
      let r = best_refusal earlier m lines (length plan) (length cells) in
      let laid = best_plan_q mounted m qs lines in
      let own = own_accepted good b.runs mounted in
      let size : length laid ≡ length lines = valid_length own.own in
      let squares = length-table m (repeated qs lines) in
      let same-plan : length ours ≡ length plan =
      length_front plan laid (length lines) (size ∙ sym (length-take-le (length lines) plan b.bytes)) in
      let same-grid : length grid ≡ length cells =
      length_front cells (table m (repeated qs lines)) (m * m) (squares ∙ sym (length-take-le (m * m) cells b.cells)) in
      let free : (best_refusal earlier m lines (length ours) (length grid)).number ≡ 0 = rw (same-plan, same-grid) z in
      let front : take (length lines) ours ≡ laid = take_at laid (drop (length lines) plan) (length lines) size in
      let fits = accepted_none m qs lines laid (C (repeated qs lines) 0 m) grid (accepted_front (drop (m * m) cells) squares own) in
      let checks : check_refusal m qs lines (take (length lines) ours) (C (repeated qs lines) 0 m) grid ≡ none = rw front fits in
      rw (
        ← (lent_accepted {d = r} refl (length lines) laid plan z refl),
        ← (lent_accepted {d = r} refl (m * m) (table m (repeated qs lines)) cells z refl),
      )
      (sym (or_next {d = best_refusal earlier m lines (length ours) (length grid)} refl _ free (sym checks)))
