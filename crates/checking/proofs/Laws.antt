-- Nothing is refused exactly where all is accepted; then the plan is a best plan. Our own best plan, count and table are accepted.
use Rattle.std.proofs.Common.{◌≡◌, ℕ, ◌≤◌, Bool, not, ◌&&◌, T, eqb, List, refl, arith, eqb→eq}
use Rattle.model.specs.Count.{All}
use Rattle.model.specs.Plan.{Valid, pairs}
use Rattle.model.specs.Choice.{Mounted}
use Rattle.model.specs.Interval.{named, is_run_of, C, table}
use Rattle.model.proofs.Tests.{and_left, and_right, true_T, T_true, passes, eqb_T}
use Rattle.placements.specs.Repeated.{repeated}
use Rattle.placements.specs.Good.{GoodLines}
use Rattle.placements.specs.Plans.{best_plan_q}
use Rattle.refusal.specs.Refusal.{none, or_else, when}
use Rattle.refusal.proofs.Laws.{or_none, when-none}
use Rattle.goal_rules.specs.Check.{is_valid, entry, bounds, Accepted}
use Rattle.goal_rules.proofs.Check.{valid_iff, bounds_iff, accepted_best, own_accepted}
use Rattle.checking.specs.Checking.{claim_refusal, table_ok, check_refusal}

-- the number is not given only where the test passes
passed : (b : Bool) (n : ℕ) → (n ≡ 0 → ⊥) → (when (not b) n).number ≡ 0 → T b
passed b n h z = T_true {b = b} (passes {r = b} refl (when-none (not b) n h z))

module _ (m : ℕ) (qs sets plan : List ℕ) (claim : ℕ) (tab : List ℕ) where
  -- ACCEPTED exactly where nothing is refused
  pub refused_none : (check_refusal m qs sets plan claim tab).number ≡ 0 → Accepted m qs sets plan claim tab
  unfolding check_refusal claim_refusal table_ok
  refused_none z =
      let whole = eqb (entry m tab 0 m) claim in
      let bound = bounds (named sets) m (repeated qs sets) tab in
      let (first, third) = or_none (claim_refusal qs sets plan claim) (when (not (whole && bound)) 33) z in
      let (one, two) = or_none (when (not (is_valid sets plan)) 19) (when (not (eqb claim (pairs (repeated qs plan)))) 20) first in
      let t = passed (whole && bound) 33 (λ e. omega arith) third in
      record {
        own = (valid_iff sets plan).0 (passed (is_valid sets plan) 19 (λ e. omega arith) one);
        counted = eqb→eq _ _ (passed (eqb claim (pairs (repeated qs plan))) 20 (λ e. omega arith) two);
        whole = eqb→eq _ _ (and_left whole bound t);
        bounded = (bounds_iff (named sets) m (repeated qs sets) tab).0 (and_right whole bound t);
      }

  pub accepted_none : Accepted m qs sets plan claim tab → check_refusal m qs sets plan claim tab ≡ none
  unfolding check_refusal claim_refusal table_ok or_else
  accepted_none a = rw (
    true_T (is_valid sets plan) ((valid_iff sets plan).1 a.own),
    true_T (eqb claim (pairs (repeated qs plan))) (eqb_T claim (pairs (repeated qs plan)) a.counted),
    true_T (eqb (entry m tab 0 m) claim) (eqb_T (entry m tab 0 m) claim a.whole),
    true_T (bounds (named sets) m (repeated qs sets) tab) ((bounds_iff (named sets) m (repeated qs sets) tab).1 a.bounded),
  )

module _ {m : ℕ} {qs sets : List ℕ} (good : GoodLines m qs sets) (rs : All (λ s. T (is_run_of (named sets) s)) sets) where
  -- WHERE NOTHING IS REFUSED the plan is a best plan: no valid plan has more placement pairs
  pub checked-best : (plan : List ℕ) (claim : ℕ) (tab : List ℕ) → (check_refusal m qs sets plan claim tab).number ≡ 0
      → {other : List ℕ} → Valid sets other → pairs (repeated qs other) ≤ pairs (repeated qs plan)
  checked-best plan claim tab z v = accepted_best good rs (refused_none m qs sets plan claim tab z) v

  -- OUR OWN best plan, count and table are accepted, whatever is mounted
  pub own_checked : (mounted : Mounted)
      → check_refusal m qs sets (best_plan_q mounted m qs sets) (C (repeated qs sets) 0 m) (table m (repeated qs sets)) ≡ none
  own_checked mounted = accepted_none m qs sets _ _ _ (own_accepted good rs mounted)
