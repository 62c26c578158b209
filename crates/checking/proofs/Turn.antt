-- A loop over three slices of one length at once, or over four in two pairs: which place a turn is at, and how many turns there are.
use Rattle.std.proofs.Common.{◌≡◌, ℕ, ◌<◌, List, length, get_or, Option, Some, None, ap, ◌∙◌, arith, Bor}
use Rattle.std.specs.List.{zip}
use Rattle.std.specs.Iterator.{Yields}
use Rattle.std.specs.Iterator.Adapters.{zip_first, zip_second}
use Rattle.std.specs.Slice.Iter.{iter_rest}
use Rattle.std.specs.declared.iter.Zip.{Zip}
use Rattle.std.proofs.Common.{Iter}
use Rattle.std.proofs.iter.Yields.{fronts}
use Rattle.std.proofs.lemmas.Iterator.{zips, YieldsList, YieldsList-from_slice, YieldsList-from_zip}
use Rattle.std.proofs.lemmas.Iterator.Consumers.{YieldsList-turn, YieldsList-end}
use Rattle.std.proofs.lemmas.List.{get_or_default}
use Rattle.std.proofs.lemmas.Slice.Zip.{get_or-zip, length-zip}

abbrev Three : Type 0
Three = Zip (Zip (Iter ℕ) (Iter ℕ)) (Iter ℕ)

abbrev Row : Type 0
Row = (Bor ℕ × Bor ℕ) × Bor ℕ

abbrev steps : Three → Option Row → Three → Type 0
steps = zips (zips fronts fronts) fronts

-- the lists that the loop is over
pub record Over (xs ys zs : List ℕ) (s : Three) : Type 0 where
  pub first : iter_rest (zip_first (zip_first s)) ≡ xs
  pub second : iter_rest (zip_second (zip_first s)) ≡ ys
  pub third : iter_rest (zip_second s) ≡ zs
  pub as_second : length ys ≡ length xs
  pub as_third : length zs ≡ length xs

pub record At (xs ys zs : List ℕ) (i : ℕ) (p : Row) : Type 0 where
  pub below : i < length xs
  pub first : p.0.0.now ≡ get_or xs i 0
  pub second : p.0.1.now ≡ get_or ys i 0
  pub third : p.1.now ≡ get_or zs i 0

module _ {xs ys zs : List ℕ} {s : Three} (o : Over xs ys zs s) (rows : List Row) (t u : Three) (r : Option Row)
    (y : Yields steps s rows t) (more : steps t r u) where
  all : YieldsList {B = (ℕ × ℕ) × ℕ} steps (λ p. ((p.0.0.now, p.0.1.now), p.1.now)) s (zip (zip xs ys) zs)
  all = YieldsList-from_zip (YieldsList-from_zip (YieldsList-from_slice xs o.first) (YieldsList-from_slice ys o.second))
      (YieldsList-from_slice zs o.third)

  pub turn : (p : Row) → r ≡ Some p → At xs ys zs (length rows) p
  turn p e =
      let i = length rows in
      let (below, same) = YieldsList-turn all rows t y r u p e more in
      let l : i < length xs = omega (arith, o.as_second, o.as_third, length-zip (zip xs ys) zs, length-zip xs ys) in
      let k : i < length ys = omega (arith, o.as_second) in
      let n : i < length zs = omega (arith, o.as_third) in
      let m : i < length (zip xs ys) = omega (arith, length-zip xs ys) in
      let row = same ∙ get_or-zip (zip xs ys) zs i _ m n in
      let front = ap (λ q. q.0) row ∙ get_or-zip xs ys i _ l k in
      record {
        below = l;
        first = ap (λ q. q.0) front ∙ get_or_default xs i _ 0 l;
        second = ap (λ q. q.1) front ∙ get_or_default ys i _ 0 k;
        third = ap (λ q. q.1) row ∙ get_or_default zs i _ 0 n;
      }

  pub turns : r ≡ None → length rows ≡ length xs
  turns e =
      (YieldsList-end all rows t y r u e more).1 ∙ omega (arith, o.as_second, o.as_third, length-zip (zip xs ys) zs, length-zip xs ys)

abbrev Four : Type 0
Four = Zip (Zip (Iter ℕ) (Iter ℕ)) (Zip (Iter ℕ) (Iter ℕ))

abbrev Pairs : Type 0
Pairs = (Bor ℕ × Bor ℕ) × (Bor ℕ × Bor ℕ)

abbrev steps_of_four : Four → Option Pairs → Four → Type 0
steps_of_four = zips (zips fronts fronts) (zips fronts fronts)

-- the lists that the loop is over
pub record OverFour (ws xs ys zs : List ℕ) (s : Four) : Type 0 where
  pub first : iter_rest (zip_first (zip_first s)) ≡ ws
  pub second : iter_rest (zip_second (zip_first s)) ≡ xs
  pub third : iter_rest (zip_first (zip_second s)) ≡ ys
  pub fourth : iter_rest (zip_second (zip_second s)) ≡ zs
  pub as_first : length ws ≡ length zs
  pub as_second : length xs ≡ length zs
  pub as_third : length ys ≡ length zs

pub record AtFour (ws xs ys zs : List ℕ) (i : ℕ) (p : Pairs) : Type 0 where
  pub below : i < length zs
  pub first : p.0.0.now ≡ get_or ws i 0
  pub second : p.0.1.now ≡ get_or xs i 0
  pub third : p.1.0.now ≡ get_or ys i 0
  pub fourth : p.1.1.now ≡ get_or zs i 0

module _ {ws xs ys zs : List ℕ} {s : Four} (o : OverFour ws xs ys zs s) (rows : List Pairs) (t u : Four) (r : Option Pairs)
    (y : Yields steps_of_four s rows t) (more : steps_of_four t r u) where
  all_four : YieldsList {B = (ℕ × ℕ) × (ℕ × ℕ)} steps_of_four (λ p. ((p.0.0.now, p.0.1.now), (p.1.0.now, p.1.1.now))) s
      (zip (zip ws xs) (zip ys zs))
  all_four =
      YieldsList-from_zip (YieldsList-from_zip (YieldsList-from_slice ws o.first) (YieldsList-from_slice xs o.second))
      (YieldsList-from_zip (YieldsList-from_slice ys o.third) (YieldsList-from_slice zs o.fourth))

  pub turn_of_four : (p : Pairs) → r ≡ Some p → AtFour ws xs ys zs (length rows) p
  turn_of_four p e =
      let i = length rows in
      let (below, same) = YieldsList-turn all_four rows t y r u p e more in
      let h = length-zip ws xs in
      let k = length-zip ys zs in
      let l : i < length zs = omega (arith, o.as_first, o.as_second, o.as_third, length-zip (zip ws xs) (zip ys zs), h, k) in
      let row = same ∙ get_or-zip (zip ws xs) (zip ys zs) i _ (omega (arith, o.as_first, o.as_second)) (omega (arith, o.as_third)) in
      let front = ap (λ q. q.0) row ∙ get_or-zip ws xs i _ (omega (arith, o.as_first)) (omega (arith, o.as_second)) in
      let back = ap (λ q. q.1) row ∙ get_or-zip ys zs i _ (omega (arith, o.as_third)) l in
      record {
        below = l;
        first = ap (λ q. q.0) front ∙ get_or_default ws i _ 0 (omega (arith, o.as_first));
        second = ap (λ q. q.1) front ∙ get_or_default xs i _ 0 (omega (arith, o.as_second));
        third = ap (λ q. q.0) back ∙ get_or_default ys i _ 0 (omega (arith, o.as_third));
        fourth = ap (λ q. q.1) back ∙ get_or_default zs i _ 0 l;
      }

  pub turns_of_four : r ≡ None → length rows ≡ length zs
  turns_of_four e =
      (YieldsList-end all_four rows t y r u e more).1
      ∙ omega (arith, o.as_first, o.as_second, o.as_third, length-zip (zip ws xs) (zip ys zs), length-zip ws xs, length-zip ys zs)
