-- Refusals whose numbers are equal, whatever their places are; and what an accepted call leaves in a lent buffer.
use Prim.Native.Nat.{ℕ, ◌<◌}
use native.Mathlib.Omega.{arith}
use mathlib.Core.Path.{◌≡◌, refl, ap, ◌∙◌}
use mathlib.Core.Logic.{⊎_elim}
use mathlib.Core.Bool.{Bool, true, false, cond}
use mathlib.Core.List.{List}
use lib.ListN.{length, get_or, take, drop, get_or-append}
use lib.Seq.{take_at}
use Rattle.model.specs.Count.{each, first_fail}
use Rattle.model.proofs.Tests.{le_or_lt, true_T, false_not}
use Rattle.model.proofs.Lists.{each_iff}
use Rattle.model.proofs.Fails.{fails_none, none_fails}
use Rattle.refusal.specs.Told.{Refusal}
use Rattle.refusal.specs.Refusal.{accepts, or_else, scan, lent_by}
use Rattle.refusal.proofs.Laws.{accepted, scan_passes, scan-at}

-- after the same refusal the number of the next one decides
pub or_number : {d r : Refusal} → d ≡ r → (x y : Refusal) → x.number ≡ y.number → (or_else d x).number ≡ (or_else r y).number
unfolding or_else
or_number {d} {r} e x y n = ap (λ q. (cond (accepts q) x q).number) e ∙ by (accepts r)
  where
    by : (b : Bool) → (cond b x r).number ≡ (cond b y r).number
    by true = n
    by false = refl

-- a scan tells its number exactly where not each element passes
pub scan-number : {A : Type 0} (test : A → Bool) (n : ℕ) (xs : List A) → (scan test (λ _. n) xs).number ≡ cond (each test xs) 0 n
scan-number test n xs =
    ⊎_elim
    (λ past. let ps = none_fails test xs past in rw (scan_passes test (λ _. n) xs ps, true_T (each test xs) ((each_iff test xs).1 ps)) refl)
    (λ l. rw (scan-at test (λ _. n) xs l, false_not (each test xs) (λ t. omega (arith, fails_none test ((each_iff test xs).0 t)))) refl)
    (le_or_lt (length xs) (first_fail test xs))

-- the new places of a lent buffer, one by one and together
module _ (r : Refusal) (z : r.number ≡ 0) (n : ℕ) (new old : List ℕ) where
  pub lent_at : (i : ℕ) → i < length new → get_or (lent_by r n new old) i 0 ≡ get_or new i 0
  lent_at i l = ap (λ buffer. get_or buffer i 0) (accepted _ _ {d = r} refl z) ∙ get_or-append new (drop n old) 0 i l

  pub lent_take : length new ≡ n → take n (lent_by r n new old) ≡ new
  lent_take e = ap (take n) (accepted _ _ {d = r} refl z) ∙ take_at new (drop n old) n e
