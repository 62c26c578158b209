-- A loop over two slices of one length at once, which counts its turns: which place a turn is at.
use Rattle.std.proofs.Common.{◌≡◌, ℕ, ◌<◌, List, length, get_or, Option, Some, ap, ◌∙◌, arith, Bor, Iter}
use Rattle.std.specs.List.{zip, enumerate_from}
use Rattle.std.specs.Iterator.{Yields}
use Rattle.std.specs.Iterator.Adapters.{zip_first, zip_second, enumerate_source, enumerate_count, enumerate_steps}
use Rattle.std.specs.Slice.Iter.{iter_rest}
use Rattle.std.specs.declared.iter.Zip.{Zip}
use Rattle.std.specs.declared.iter.Enumerate.{Enumerate}
use Rattle.std.proofs.iter.Yields.{fronts}
use Rattle.std.proofs.lemmas.Iterator.{zips, YieldsList, YieldsList-from_slice, YieldsList-from_zip}
use Rattle.std.proofs.lemmas.Iterator.Consumers.{YieldsList-turn, YieldsList-from_enumerate}
use Rattle.std.proofs.lemmas.List.{get_or_default}
use Rattle.std.proofs.lemmas.List.FromFn.{length-enumerate_from, get_or-enumerate_from}
use Rattle.std.proofs.lemmas.Slice.Zip.{get_or-zip, length-zip}

abbrev Two : Type 0
Two = Enumerate (Zip (Iter ℕ) (Iter ℕ))

abbrev Row : Type 0
Row = ℕ × (Bor ℕ × Bor ℕ)

abbrev steps : Two → Option Row → Two → Type 0
steps = enumerate_steps (zips fronts fronts)

-- the lists that the loop is over
pub record Over (xs ys : List ℕ) (s : Two) : Type 0 where
  pub first : iter_rest (zip_first (enumerate_source s)) ≡ xs
  pub second : iter_rest (zip_second (enumerate_source s)) ≡ ys
  pub from_0 : enumerate_count s ≡ 0
  pub same : length ys ≡ length xs

pub record At (xs ys : List ℕ) (i : ℕ) (p : Row) : Type 0 where
  pub below : i < length xs
  pub place : p.0 ≡ i
  pub first : p.1.0.now ≡ get_or xs i 0
  pub second : p.1.1.now ≡ get_or ys i 0

module _ {xs ys : List ℕ} {s : Two} (o : Over xs ys s) (rows : List Row) (t u : Two) (r : Option Row)
    (y : Yields steps s rows t) (more : steps t r u) where
  all : YieldsList {B = ℕ × (ℕ × ℕ)} steps (λ p. (p.0, (p.1.0.now, p.1.1.now))) s (enumerate_from 0 (zip xs ys))
  all = YieldsList-from_enumerate (YieldsList-from_zip (YieldsList-from_slice xs o.first) (YieldsList-from_slice ys o.second)) o.from_0

  pub turn : (p : Row) → r ≡ Some p → At xs ys (length rows) p
  turn p e =
      let i = length rows in
      let (below, same) = YieldsList-turn all rows t y r u p e more in
      let l : i < length xs = omega (arith, o.same, length-enumerate_from 0 (zip xs ys), length-zip xs ys) in
      let k : i < length ys = omega (arith, o.same) in
      let row = same ∙ get_or-enumerate_from 0 (zip xs ys) i _ (omega (arith, length-zip xs ys)) in
      let both = ap (λ q. q.1) row ∙ get_or-zip xs ys i _ l k in
      record {
        below = l;
        place = omega (arith, ap (λ q. q.0) row);
        first = ap (λ q. q.0) both ∙ get_or_default xs i _ 0 l;
        second = ap (λ q. q.1) both ∙ get_or_default ys i _ 0 k;
      }
