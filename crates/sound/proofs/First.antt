-- Laws for the walks over a board: the first wrong line, and the first place after the lines where something stands.
use Prim.Native.Nat.{ℕ, suc, min, ◌+◌, ◌-◌, ◌≤◌, ◌<◌}
use native.Mathlib.Omega.{arith}
use mathlib.Core.Path.{◌≡◌, refl, sym, ap, ◌∙◌}
use mathlib.Core.Bool.{Bool, true, false, not, cond, ◌||◌}
use mathlib.Core.List.{List, [], ◌∷◌}
use lib.ListN.{length, drop, get_or}
use borrow.Author.Tests.{eq-eqb, ne_eqb, lt-ltb, le-ltb}
use Rattle.std.specs.List.{position, position_or_len, zip}
use Rattle.std.proofs.Common.{eqb}
use Rattle.std.proofs.lemmas.Slice.Zip.{length-zip}
use Rattle.model.specs.Count.{first_fail, place_in}
use Rattle.model.specs.Plan.{is_empty, is_domain}
use Rattle.model.specs.Limits.{most_placements}
use Rattle.model.proofs.Fails.{fails_next, fails_end}
use Rattle.placements.specs.Totals.{first_over}
use Rattle.placements.proofs.Totals.{over_next, over_end}
use Rattle.sound.specs.Sound.{is_placed, first_wrong, first_held}

module _ (m : ℕ) (qs lines : List ℕ) where
  -- no line before line i is wrong, and with these lines so much is left of the limit
  pub record WrongFrom (left i : ℕ) : Type 0 where
    pub domain_from : first_fail (is_domain m) lines ≡ i + first_fail (is_domain m) (drop i lines)
    pub placed-from : first_fail is_placed qs ≡ i + first_fail is_placed (drop i qs)
    pub over-from : first_over most_placements qs ≡ i + first_over left (drop i qs)

  pub wrong_start : WrongFrom most_placements 0
  wrong_start = record { domain_from = omega arith; placed-from = omega arith; over-from = omega arith }

  module _ {left i : ℕ} (w : WrongFrom left i) where
    -- line i is wrong by its set, by its quantity, or by the total
    pub wrong_set : i < length lines → is_domain m (get_or lines i 0) ≡ false → i ≡ first_wrong m qs lines
    unfolding first_wrong
    wrong_set h e = omega (arith, fails_next (is_domain m) lines i false h (sym e) w.domain_from, w.placed-from, w.over-from)

    module _ {q : ℕ} (h : i < length qs) (here : q ≡ get_or qs i 0) where
      pub wrong_quantity : q ≡ 0 → i ≡ first_wrong m qs lines
      unfolding first_wrong
      wrong_quantity z =
          let zero = ap not (eq-eqb (get_or qs i 0) 0 (sym here ∙ z)) in
          omega (arith, fails_next is_placed qs i false h (sym zero) w.placed-from, w.domain_from, w.over-from)

      pub wrong_total : left < q → i ≡ first_wrong m qs lines
      unfolding first_wrong
      wrong_total l =
          let over = lt-ltb left (get_or qs i 0) (omega (arith, here)) in
          omega (arith, over_next most_placements qs i left true h over w.over-from, w.domain_from, w.placed-from)

      -- line i is not wrong
      pub wrong_next : i < length lines → is_domain m (get_or lines i 0) ≡ true → (q ≡ 0 → ⊥) → q ≤ left → WrongFrom (left - q) (i + 1)
      wrong_next l e n k = record {
        domain_from = fails_next (is_domain m) lines i true l (sym e) w.domain_from;
        placed-from = fails_next is_placed qs i true h (sym (ap not (ne_eqb (get_or qs i 0) 0 (λ z. n (here ∙ z))))) w.placed-from;
        over-from = rw here (over_next most_placements qs i left false h (le-ltb left (get_or qs i 0) (omega (arith, here))) w.over-from);
      }

    -- no line left
    pub wrong_end : length lines ≤ i → length qs ≤ i → i ≡ first_wrong m qs lines
    unfolding first_wrong
    wrong_end h k =
        omega (
          arith,
          fails_end (is_domain m) lines i h w.domain_from,
          fails_end is_placed qs i k w.placed-from,
          over_end most_placements qs i left k w.over-from,
        )

-- ---- after the lines

-- a place where a set is not empty or a quantity is not 0
abbrev pub held : ℕ × ℕ → Bool
held x = not (is_empty x.0) || not (eqb x.1 0)

-- the first of these places among both lists
first-place : (qs sets : List ℕ) → length qs ≡ length sets → position_or_len held (zip sets qs) ≡ first_held qs sets
unfolding first_held first_fail
first-place [] [] e = refl
first-place [] (s ∷ sets) e = absurd (omega (arith, e))
first-place (q ∷ qs) [] e = absurd (omega (arith, e))
first-place (q ∷ qs) (s ∷ sets) e = both (is_empty s) (is_empty q) _ _ _ (first-place qs sets (omega (arith, e)))
  where
    both : (a b : Bool) (n i j : ℕ) → n ≡ min i j
        → cond (not (not a || not b)) (1 + n) 0 ≡ min (cond a (suc i) 0) (cond b (suc j) 0)
    both true true n i j e = omega (arith, e)
    both true false n i j e = omega arith
    both false b n i j e = omega arith

pub held-position : (qs sets : List ℕ) → length qs ≡ length sets → position held (zip sets qs) ≡ place_in (first_held qs sets) (length sets)
held-position qs sets e =
    let l : length (zip sets qs) ≡ length sets = omega (arith, length-zip sets qs, e) in
    rw (first-place qs sets e, l)
