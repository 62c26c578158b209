-- How many places the table by ranks needs: a row for each named tip.
use Prim.Native.Nat.{ℕ, zero, suc, ◌+◌, ◌*◌, ◌/◌, ◌%◌, ◌≤◌, ◌<◌, zero-le}
use native.Mathlib.Omega.{arith}
use native.Mathlib.Nat.{mul-le-mul}
use mathlib.Core.Path.{◌≡◌, refl}
use mathlib.Core.Bool.{Bool, cond}
use mathlib.Core.Logic.{⊎_elim}
use lib.Count.{ones, ones_step}
use lib.Dec.{T}
use Rattle.model.specs.Plan.{has}
use Rattle.model.specs.Renumber.{rank}
use Rattle.model.proofs.Sets.{has-suc, has-digit}
use Rattle.model.proofs.Tests.{test, true_T, false_T}
use Rattle.best.specs.Runs.{rank_places}

-- the digit of tip 0
has_low : (s : ℕ) → cond (has s 0) 1 0 ≤ s % 2
has_low s =
    ⊎_elim
    (λ t. rw (true_T (has s 0) t) (omega (arith, has-digit s 0 t)))
    (λ n. rw (false_T (has s 0) n) zero-le)
    (test (has s 0))

-- is counted first, and then those above it
rank-low : (s n : ℕ) → rank (has s) (suc n) ≤ s % 2 + rank (has (s / 2)) n
unfolding rank
rank-low s zero = omega (arith, has_low s)
rank-low s (suc n) = rw has-suc (omega (arith, rank-low s n))

-- no more tips have a rank than a set has
rank_ones : (s n : ℕ) → rank (has s) n ≤ ones s
unfolding rank
rank_ones s zero = zero-le
rank_ones s (suc n) = omega (arith, rank-low s n, rank_ones (s / 2) n, ones_step s)

-- each tip of the rack has one where each is named
pub rank_all : (ok : ℕ → Bool) (m : ℕ) → ((t : ℕ) → t < m → T (ok t)) → rank ok m ≡ m
unfolding rank
rank_all ok zero f = refl
rank_all ok (suc m) f = rw (true_T (ok m) (f m (omega arith))) (omega (arith, rank_all ok m (λ t l. f t (omega arith))))

-- A FEW NAMED TIPS need few places
pub few_places : (s m : ℕ) {most : ℕ} → ones s ≤ most → rank_places s m ≤ most * most
few_places s m {most} h =
    let few : rank (has s) m ≤ most = omega (arith, rank_ones s m, h) in
    mul-le-mul few few
