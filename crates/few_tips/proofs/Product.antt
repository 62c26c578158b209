-- A quantity times the binary digit of a tip.
use Prim.Native.Nat.{ℕ, ◌*◌, ◌/◌, ◌%◌, ◌^◌, ◌≤◌}
use native.Mathlib.Omega.{arith}
use mathlib.Core.Path.{◌≡◌}
use mathlib.Core.Logic.{⊎_elim}
use mathlib.Core.Bool.{not, cond}
use lib.Dec.{T, T_not}
use Rattle.model.specs.Plan.{has}
use Rattle.model.proofs.Tests.{test, true_T, false_T, le_or_lt}
use Rattle.model.proofs.Sets.{has-digit, digit-has}

-- a tip that the set lacks
lacks : (s t : ℕ) → T (not (has s t)) → s / 2 ^ t % 2 ≡ 0
lacks s t n =
    ⊎_elim
    (λ (l : 1 ≤ s / 2 ^ t % 2). absurd (T_not (has s t) n (digit-has s t (omega arith))))
    (λ l. omega arith)
    (le_or_lt 1 (s / 2 ^ t % 2))

pub times_digit : (q s t : ℕ) → q * (s / 2 ^ t % 2) ≡ cond (has s t) q 0
times_digit q s t =
    ⊎_elim
    (λ y. rw (true_T (has s t) y, has-digit s t y) (omega arith))
    (λ n. rw (false_T (has s t) n, lacks s t n) (omega arith))
    (test (has s t))
