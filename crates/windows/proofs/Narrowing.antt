-- What one test says of the bounds: it compares a bound with the position tested.
use Prim.Native.Nat.{ℕ, ◌≤◌, ◌<◌}
use native.Mathlib.Omega.{arith}
use mathlib.Core.Path.{◌≡◌, ap}
use mathlib.Core.Logic.{⊎_elim}
use mathlib.Core.Bool.{true, false}
use lib.Dec.{T}
use Rattle.model.proofs.Tests.{le_or_lt, T_true}
use Rattle.order_rules.specs.Order.{Task}
use Rattle.windows.specs.Bounds.{solvable, due_by, not_before, soonest, latest, CanStand}
use Rattle.windows.proofs.Bounds.{Below, due_iff, since_iff, soonest_le, latest_ge, bounds}

-- a part stands in its window
in_window : (t : Task) (i p : ℕ) → CanStand t i p → (t.first i ≤ p) × (p ≤ t.last i)
in_window t i p s =
    let o = s.obeys in (
      omega (arith, o.opens p s.below, ap (λ j. t.first j) s.at),
      omega (arith, o.closes p s.below, ap (λ j. t.last j) s.at),
    )

module _ (t : Task) (below : Below t) (i : ℕ) (l : i < t.size) (y : T (solvable t)) where
  -- at the start: the window's ends
  pub soonest_in : (t.first i ≤ soonest t i) × (soonest t i ≤ t.last i)
  soonest_in = in_window t i (soonest t i) (bounds t below i l y).first_reached

  pub latest_in : (t.first i ≤ latest t i) × (latest t i ≤ t.last i)
  latest_in = in_window t i (latest t i) (bounds t below i l y).last_reached

  module _ (p : ℕ) where
    pub soonest_yes : solvable (due_by t i p) ≡ true → soonest t i ≤ p
    soonest_yes e = let (q, h, s) = (due_iff t i p below l).0 (T_true e) in omega (arith, soonest_le t below i l q s)

    pub soonest_no : solvable (due_by t i p) ≡ false → p < soonest t i
    soonest_no e =
        ⊎_elim
        (λ h. absurd (rw e at ((due_iff t i p below l).1 (soonest t i, h, (bounds t below i l y).first_reached))))
        (λ h. h)
        (le_or_lt (soonest t i) p)

    pub latest_yes : solvable (not_before t i p) ≡ true → p ≤ latest t i
    latest_yes e = let (q, h, s) = (since_iff t i p below l).0 (T_true e) in omega (arith, latest_ge t below i l q s)

    pub latest_no : solvable (not_before t i p) ≡ false → latest t i < p
    latest_no e =
        ⊎_elim
        (λ h. absurd (rw e at ((since_iff t i p below l).1 (latest t i, h, (bounds t below i l y).last_reached))))
        (λ h. h)
        (le_or_lt p (latest t i))
