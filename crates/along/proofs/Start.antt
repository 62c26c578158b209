-- The start set as code makes it: one tip's bit, every bit, or none.
use Prim.Native.Nat.{ℕ, ◌+◌, ◌-◌, ◌^◌, ◌≤◌, ◌<◌}
use native.Mathlib.Omega.{arith}
use mathlib.Core.Path.{◌≡◌, ◌∙◌}
use mathlib.Core.Bool.{false, ◌&&◌}
use lib.Dec.{eqb, eqb→eq, ltb, lt→ltb}
use borrow.Author.Tests.{ne_eqb}
use Rattle.model.specs.Limits.{most_tips}
use Rattle.model.specs.Plan.{has}
use Rattle.model.specs.Choice.{bare, tip}
use Rattle.model.proofs.Tests.{same_test, eqb_T, and_right, and_in}
use Rattle.model.proofs.Sets.{has-set_of, set_of-all, set_of-none, set_of_cong, set_same}
use Rattle.tips.proofs.Bits.{has-between}
use Rattle.along.specs.Along.{can_start, start_set}

pub start_all : 2 ^ most_tips - 1 ≡ start_set bare
unfolding start_set
start_all = rw (set_of-all most_tips)

pub start_none : (t : ℕ) → most_tips ≤ t → 0 ≡ start_set (tip t)
unfolding start_set
start_none t h =
    rw (set_of_cong (eqb t) (λ _. false) most_tips (λ u l. ne_eqb t u (λ e. omega arith)) ∙ set_of-none most_tips)

pub start_one : (t : ℕ) → t < most_tips → 2 ^ (t + 1) - 2 ^ t ≡ start_set (tip t)
unfolding start_set
start_one t h = set_same _ _ (λ u.
    let b = has-between t t u (omega arith) in
    rw (has-set_of (can_start (tip t)) most_tips u) (same_test (has (2 ^ (t + 1) - 2 ^ t) u) (ltb u most_tips && eqb t u)
    (λ y. let e : t ≡ u = omega (arith, b.0 y) in and_in (ltb u most_tips) (eqb t u) (lt→ltb u most_tips (omega arith)) (eqb_T t u e))
    (λ y. let e : t ≡ u = eqb→eq t u (and_right (ltb u most_tips) (eqb t u) y) in b.1 (omega arith, omega arith))))
