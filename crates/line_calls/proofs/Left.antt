-- What quick, best and the Junior answer, and what best leaves in its buffers: the pairs are few, the table has the most pairs of each interval, and
-- the check accepts the plan, its pairs and the table.
use Prim.Native.Nat.{ℕ, ◌+◌, ◌*◌, ◌-◌, ◌≤◌, zero-le}
use native.Mathlib.Omega.{arith}
use mathlib.Core.Path.{◌≡◌, refl, sym, subst, ◌∙◌}
use mathlib.Core.Bool.{Bool, true, false}
use mathlib.Core.List.{List}
use borrow.Author.Tests.{eqb-true}
use lib.Arith.{digits_lt}
use lib.ListN.{length, take, drop, get_or-append}
use Rattle.model.specs.Limits.{most_pairs}
use Rattle.model.specs.Plan.{pairs}
use Rattle.model.specs.Choice.{Mounted, bare}
use Rattle.model.specs.Interval.{C, table}
use Rattle.model.proofs.Table.{length-table, table_at}
use Rattle.model.proofs.Valid.{valid_length}
use Rattle.placements.specs.Repeated.{repeated}
use Rattle.placements.specs.Good.{GoodLines}
use Rattle.placements.specs.Plans.{quick_plan_q, best_plan_q}
use Rattle.placements.proofs.Plans.{length_quick, length-best, best-pairs-placements}
use Rattle.placements.proofs.Bound.{pairs_bound}
use Rattle.refusal.specs.Told.{Refusal}
use Rattle.refusal.specs.Refusal.{none, accepts, told}
use Rattle.refusal.proofs.Laws.{or_none, accepted, lent_accepted}
use Rattle.call_refusals.specs.Calls.{mounted_refusal, plan_refusal, best_refusal}
use Rattle.call_refusals.proofs.Calls.{mounted_none, mounted_inside, plan_none, best_none}
use Rattle.call_refusals.proofs.Junior.{junior_none}
use Rattle.holder_rules.specs.Holders.{junior_plan}
use Rattle.line_calls.specs.Lines.{quick_of, best_of, best_buffer, best_table, check_of}
use Rattle.line_calls.specs.Junior.{junior_refusal, junior_of}
use Rattle.line_calls.specs.Rules.{HandedOut}
use Rattle.line_calls.specs.Table.{TableRule}
use Rattle.line_calls.proofs.Checked.{own_left}
use Rattle.line_calls.proofs.JuniorPlan.{asked, junior_rule}
use Rattle.line_calls.proofs.Within.{most-within}

-- what is told is few where it is few when nothing is refused
pub told_few : (r : Refusal) (x : ℕ) → (r.number ≡ 0 → x ≤ most_pairs) → told r x ≤ most_pairs
told_few r x h = by (accepts r) refl
  where
    by : (b : Bool) → accepts r ≡ b → told r x ≤ most_pairs
    by true e = rw e (h (eqb-true r.number 0 e))
    by false e = rw e zero-le

module _ {m : ℕ} {qs lines : List ℕ} (good : GoodLines m qs lines) where
  -- the quick plan has few pairs, and every plan handed out
  pub quick_plan_few : (mounted : Mounted) → pairs (repeated qs (quick_plan_q mounted m qs lines)) ≤ most_pairs
  quick_plan_few mounted =
      pairs_bound qs (quick_plan_q mounted m qs lines) (good.same ∙ sym (length_quick mounted m qs lines)) good.few

  handed_few : {buffer : List ℕ} {shared : ℕ} → HandedOut qs lines buffer shared → shared ≤ most_pairs
  handed_few {buffer} h =
      omega (arith, h.counted, pairs_bound qs (take (length lines) buffer) (good.same ∙ sym (valid_length h.own)) good.few)

module _ (earlier : Refusal) (m : ℕ) (qs lines : List ℕ) (given : earlier.number ≡ 0 → GoodLines m qs lines) where
  pub quick_few : (mounted : Mounted) (room : ℕ) → (quick_of earlier m mounted qs lines room).pairs ≤ most_pairs
  unfolding quick_of
  quick_few mounted room =
      told_few (plan_refusal earlier (length lines) room) _ (λ z. quick_plan_few (given (plan_none earlier (length lines) room z).0) mounted)

  pub best_few : (room places : ℕ) → (best_of earlier m qs lines room places).pairs ≤ most_pairs
  unfolding best_of
  best_few room places =
      told_few (best_refusal earlier m lines room places) _ (λ z.
      let free = best_none earlier m lines room places z in
      let good = given free.free in
      omega (
        arith,
        best-pairs-placements bare good.domains good.placed good.same good.most free.runs,
        pairs_bound qs (best_plan_q bare m qs lines) (good.same ∙ sym (length-best bare m qs lines)) good.few,
      ))

  asked_free : (plan : List ℕ) → (junior_refusal earlier m qs lines (length plan)).number ≡ 0 → (asked earlier m qs lines plan).number ≡ 0
  unfolding junior_refusal
  asked_free plan z = (or_none (asked earlier m qs lines plan) _ z).0

  pub junior_few : (plan : List ℕ) → (junior_of earlier m qs lines (length plan)).pairs ≤ most_pairs
  unfolding junior_of
  junior_few plan =
      let r = junior_refusal earlier m qs lines (length plan) in
      told_few r _ (λ z.
      let state = (junior_none earlier m (length lines) (length plan) (asked_free plan z)).0 in
      let rule = junior_rule earlier m qs lines plan given in
      omega (arith, accepted (pairs (repeated qs (junior_plan m qs lines))) 0 {d = r} refl z, handed_few (given state) (rule.plan z)))

  -- THE TABLE has the most pairs of the lines within each interval
  pub best_entries : (room : ℕ) (cells : List ℕ)
      → TableRule m qs lines (best_table earlier m qs lines room cells) (best_of earlier m qs lines room (length cells)).refusal.number
  unfolding best_of best_table
  best_entries room cells z a b ha hb =
      let free = best_none earlier m lines room (length cells) z in
      let good = given free.free in
      let own = table m (repeated qs lines) in
      let size = length-table m (repeated qs lines) in
      let front = get_or-append own (drop (m * m) cells) 0 (a * m + b) (omega (arith, size, digits_lt {m = m} ha hb)) in
      let left = lent_accepted {d = best_refusal earlier m lines room (length cells)} refl (m * m) own cells z refl in
      rw (← left, front, table_at m (repeated qs lines) a b ha hb)
      (most-within good free.runs a (b + 1 - a) (omega arith))

  -- THE CHECK ACCEPTS what best sharing leaves, whatever tip was mounted
  pub best_checked : (mounted : Mounted) (plan cells : List ℕ)
      → let h = mounted_refusal earlier m mounted in
      let r = best_of h m qs lines (length plan) (length cells) in
      r.refusal.number ≡ 0
      → check_of earlier m qs lines (best_buffer h m mounted qs lines plan (length cells)) r.pairs (best_table h m qs lines (length plan) cells)
      ≡ none
  unfolding best_of
  best_checked mounted plan cells z =
      let h = mounted_refusal earlier m mounted in
      let free = (best_none h m lines (length plan) (length cells) z).free in
      let (state, inside) = mounted_none earlier m mounted free in
      let left = own_left h m mounted qs lines plan cells (given state) z in
      rw (accepted (C (repeated qs lines) 0 m) 0 {d = best_refusal h m lines (length plan) (length cells)} refl z)
      (subst (λ x. check_of x m qs lines (best_buffer h m mounted qs lines plan (length cells)) (C (repeated qs lines) 0 m)
      (best_table h m qs lines (length plan) cells) ≡ none) (sym (mounted_inside earlier m mounted inside)) left)
