-- What each test of a refusal says, as a sentence.
use Prim.Native.Nat.{ℕ, zero, suc, ◌+◌, ◌-◌, ◌^◌, ◌≤◌, ◌<◌}
use native.Mathlib.Omega.{arith}
use native.Mathlib.Nat.{lt_of_lt_of_le}
use mathlib.Core.Path.{◌≡◌}
use mathlib.Core.Logic.{◌↔◌, ◌⊎◌, inl, inr, ⊎_elim}
use mathlib.Core.Bool.{Bool, not, ◌&&◌}
use mathlib.Core.List.{List, [], ◌∷◌}
use lib.Dec.{T, T_not, not_T, ltb, leb, eqb, eqb→eq, ltb→lt, lt→ltb, leb→le, le→leb}
use lib.ListN.{length, get_or, take}
use lib.Seq.{take-take}
use lib.Pow.{pow_mono, pow_pos}
use Rattle.model.specs.Limits.{most_tips, most_placements}
use Rattle.model.specs.Count.{All, every}
use Rattle.model.specs.Plan.{has, in_rack, rack_ok, Domain}
use Rattle.model.specs.Choice.{Mounted, bare, tip}
use Rattle.model.specs.CommonTip.{top, margin}
use Rattle.model.specs.Interval.{named, is_run_of, split, Misses}
use Rattle.model.proofs.Tests.{le_or_lt, true_T, T_true, not_and, and_left, and_right, imply_fails, eqb_T}
use Rattle.model.proofs.Lists.{all-at}
use Rattle.model.proofs.Run.{run_misses, broken_misses}
use Rattle.model.proofs.Sets.{highest, lt_pow, in_rack_iff}
use Rattle.placements.specs.Repeated.{total, repeated}
use Rattle.placements.specs.Totals.{first_over}
use Rattle.placements.specs.Good.{GoodLines}
use Rattle.placements.proofs.Totals.{before-over, total-take_le}
use Rattle.placements.proofs.CommonTip.{within_iff_placements}
use Rattle.goal_rules.specs.Check.{is_valid, entry, at_tip, bounds}
use Rattle.goal_rules.proofs.Check.{bounds_iff}
use Rattle.holder_rules.specs.Holders.{is_served, NoneOnTips}
use Rattle.holder_rules.proofs.Junior.{unserved}
use Rattle.sound.proofs.Laws as Sound
use Rattle.call_refusals.specs.Calls.{is_negative, is_outside}
use Rattle.checking.specs.Checking.{table_ok}
use Rattle.line_calls.specs.Rules.{NoneWithin}
use Rattle.line_calls.proofs.KeepWithin.{negative_iff}
use Rattle.call_cases.specs.State.{RackOut, HasOutside}
use Rattle.call_cases.specs.Calls.{OffRack, Foreign, Less}

pub less_iff : (a b : ℕ) → T (ltb a b) ↔ (a < b)
less_iff a b = (ltb→lt a b, lt→ltb a b)

pub unlike_iff : (a b : ℕ) → T (not (eqb a b)) ↔ (a ≡ b → ⊥)
unlike_iff a b = (λ n e. T_not (eqb a b) n (eqb_T a b e), λ f. not_T (eqb a b) (λ t. f (eqb→eq a b t)))

pub outside_iff : (m : ℕ) (mounted : Mounted) → T (is_outside m mounted) ↔ OffRack m mounted
outside_iff m bare = (λ x. x, λ x. x)
outside_iff m (tip t) = (leb→le m t, le→leb m t)

-- a line is no run exactly where it misses a named tip
pub run_iff : {m : ℕ} {lines : List ℕ} → m ≤ most_tips → All (Domain m) lines → (i : ℕ) → i < length lines
    → T (not (is_run_of (named lines) (get_or lines i 0))) ↔ ((c : ℕ) × Misses lines (get_or lines i 0) c)
run_iff {m} {lines} narrow ds i l = (
  broken_misses lines (get_or lines i 0),
  λ (c, x). not_T (is_run_of (named lines) (get_or lines i 0)) (λ r. run_misses narrow (all-at 0 ds i l) lines r c x),
)

-- a plan with a byte for each line is not valid exactly where some line is on a foreign tip
pub foreign_iff : (lines plan : List ℕ) → length plan ≡ length lines → T (not (is_valid lines plan)) ↔ Foreign lines plan
unfolding is_valid
foreign_iff [] [] e = (λ x. absurd x, λ (i, l, f). absurd (omega arith))
foreign_iff [] (t ∷ plan) e = absurd (omega arith)
foreign_iff (s ∷ lines) [] e = absurd (omega arith)
foreign_iff (s ∷ lines) (t ∷ plan) e =
    let (there, back) = foreign_iff lines plan (omega arith) in (
      λ n. ⊎_elim
          (λ h. (0, omega arith, T_not (has s t) h))
          (λ h. let (i, l, f) = there h in (suc i, omega arith, f))
          (not_and (has s t) (is_valid lines plan) n),
      λ (i, l, f). not_T (has s t && is_valid lines plan) (λ v.
          let rest = and_right (has s t) (is_valid lines plan) v in
          at i l f (and_left (has s t) (is_valid lines plan) v) (λ w. T_not (is_valid lines plan) (back w) rest)),
    )
  where
    at : (i : ℕ) → i < suc (length lines) → (T (has (get_or (s ∷ lines) i 0) (get_or (t ∷ plan) i 0)) → ⊥)
        → T (has s t) → (Foreign lines plan → ⊥) → ⊥
    at zero l f h k = f h
    at (suc i) l f h k = k (i, omega arith, f)

-- a test of each number below m fails at one of them
every_below : (f : ℕ → Bool) (m : ℕ) → T (not (every f m)) → (t : ℕ) × (t < m) × T (not (f t))
unfolding every
every_below f zero n = absurd n
every_below f (suc m) n =
    ⊎_elim (λ x. let (t, l, y) = every_below f m x in (t, omega arith, y)) (λ x. (m, omega arith, x)) (not_and (every f m) (f m) n)

-- a table is less than a split at a named tip exactly where it fails the test
less_split : (m : ℕ) (qs lines tab : List ℕ) → T (not (bounds (named lines) m (repeated qs lines) tab)) → Less m qs lines tab
unfolding bounds
less_split m qs lines tab n =
    let at = at_tip (named lines) m (repeated qs lines) tab in
    let (a, la, x) = every_below (λ c. every (λ v. every (at c v) v) (m - c + 1)) m n in
    let (w, lw, y) = every_below (λ v. every (at a v) v) (m - a + 1) x in
    let (i, li, z) = every_below (at a w) w y in
    let whole = entry m tab a w in
    let parts = split (entry m tab) (repeated qs lines) a w i in
    let (o, k) = imply_fails (named lines (a + i)) (leb parts whole) z in
    (a, w, i, omega arith, li, o, ⊎_elim (λ h. absurd (T_not (leb parts whole) k (le→leb parts whole h))) (λ h. h) (le_or_lt parts whole))

pub table_iff : (m : ℕ) (qs lines : List ℕ) (claim : ℕ) (tab : List ℕ)
    → T (not (table_ok m qs lines claim tab)) ↔ ((entry m tab 0 m ≡ claim → ⊥) ⊎ Less m qs lines tab)
unfolding table_ok
table_iff m qs lines claim tab = (
  λ n. ⊎_elim (λ x. inl (λ e. T_not whole x (eqb_T (entry m tab 0 m) claim e))) (λ x. inr (less_split m qs lines tab x)) (not_and whole bound n),
  λ f. not_T (whole && bound) (λ t. fails f (eqb→eq (entry m tab 0 m) claim (and_left whole bound t)) (and_right whole bound t)),
)
  where
    whole : Bool
    whole = eqb (entry m tab 0 m) claim

    bound : Bool
    bound = bounds (named lines) m (repeated qs lines) tab

    fails : (entry m tab 0 m ≡ claim → ⊥) ⊎ Less m qs lines tab → entry m tab 0 m ≡ claim → T bound → ⊥
    fails (inl f) e t = f e
    fails (inr (a, w, i, b, l, o, h)) e t = omega (arith, (bounds_iff (named lines) m (repeated qs lines) tab).0 t a w i b l o)

pub equal_iff : (a b : ℕ) → T (eqb a b) ↔ (a ≡ b)
equal_iff a b = (eqb→eq a b, eqb_T a b)

-- the placements pass the limit at no line before the first
pub over_first : (qs : List ℕ) (j : ℕ) → most_placements < total (take (suc j) qs) → first_over most_placements qs ≤ j
over_first qs j h =
    let o = first_over most_placements qs in
    ⊎_elim
    (λ l. l)
    (λ l.
    let sum : total (take (suc j) qs) ≤ total (take o qs) = rw (take-take (suc j) o qs l) at (total-take_le (take o qs) (suc j)) in
    absurd (omega (arith, sum, before-over most_placements qs)))
    (le_or_lt o j)

-- a rack's size is refused exactly where it is 0 or too large
pub size_iff : (m : ℕ) → T (not (rack_ok m)) ↔ RackOut m
size_iff m = (
  λ n. ⊎_elim
      (λ h. inl (omega arith))
      (λ h. ⊎_elim (λ k. absurd (T_not (rack_ok m) n ((Sound.rack_iff m).1 (h, k)))) (λ k. inr k) (le_or_lt m most_tips))
      (le_or_lt m 0),
  λ o. not_T (rack_ok m) (λ t. let r = (Sound.rack_iff m).0 t in ⊎_elim (λ e. omega arith) (λ h. omega arith) o),
)

-- the highest tip of a set that is not in the rack is outside
pub tip_above : (m s : ℕ) → 2 ^ m ≤ s → HasOutside m s
tip_above m s h =
    let (t, e, k, u) = highest s s (omega (arith, pow_pos m)) (lt_pow s) in
    (t, ⊎_elim (λ l. l) (λ l. let b : s < 2 ^ m = lt_of_lt_of_le u (pow_mono l) in absurd (omega arith)) (le_or_lt m t), k)

pub rack_iff : (m s : ℕ) → T (not (in_rack m s)) ↔ HasOutside m s
unfolding in_rack
rack_iff m s = (
  λ n. ⊎_elim (tip_above m s) (λ h. absurd (T_not (in_rack m s) n (lt→ltb s (2 ^ m) h))) (le_or_lt (2 ^ m) s),
  λ (t, l, h). not_T (in_rack m s) (λ x. omega (arith, (in_rack_iff m s).0 x t h)),
)

module _ {m : ℕ} {qs lines : List ℕ} (good : GoodLines m qs lines) where
  -- the margin is below zero exactly where no valid plan is within k
  pub within_iff : (k : ℕ) → T (is_negative (margin m (repeated qs lines) k)) ↔ NoneWithin m qs lines k
  within_iff k =
      let placements = repeated qs lines in
      let some = within_iff_placements good.some good.domains qs good.same k in
      let neg = negative_iff m placements k in (
        λ t plan v w. omega (arith, neg.0 (true_T (is_negative (margin m placements k)) t), some.0 (plan, v, w)),
        λ f. T_true (neg.1 (⊎_elim (λ h. let (plan, v, w) = some.1 h in absurd (f plan v w)) (λ h. h)
            (le_or_lt (length placements) (top m placements + k)))),
      )

  -- no tips serve every line exactly where no valid plan is on one tip or two
  pub served_iff : T (not (is_served m (repeated qs lines))) ↔ NoneOnTips lines
  served_iff =
      let served = is_served m (repeated qs lines) in
      (λ n. (unserved good).0 (T_not served n), λ f. not_T served ((unserved good).1 f))
