-- What reading leaves: the lines of an accepted file in the first places, and good.
use Prim.Native.Nat.{ℕ, ◌+◌, ◌*◌, ◌≤◌}
use native.Mathlib.Omega.{arith}
use mathlib.Core.Path.{◌≡◌, refl, sym, ap, ◌∙◌}
use mathlib.Core.Bool.{Bool, true, false}
use mathlib.Core.List.{List, ◌++◌}
use lib.ListN.{length, take, drop, length-append}
use lib.Seq.{take_at}
use Rattle.std.proofs.Common.{Some}
use Rattle.std.specs.Bool.{then_some}
use Rattle.placements.specs.Good.{GoodLines}
use Rattle.refusal.specs.Told.{Refusal}
use Rattle.refusal.specs.Refusal.{Given}
use native.Mathlib.Nat.{mul-le-mul_right}
use Rattle.model.specs.Limits.{most_lines}
use Rattle.job.specs.Job.{header_length, set_length, version_in, count_in, sets_in, quantities_in, header_number, read_refusal}
use Rattle.job.specs.declared.Header.{Header}
use Rattle.job.specs.Header.{IsHeaderOf}
use Rattle.job.proofs.HeaderLaws.{header_good}
use Rattle.job.proofs.Lines.{line_long}
use Rattle.job.proofs.Reading.{length-sets_in, length-quantities_in, read_good}
use Rattle.job_read.specs.Reading.{LinesRead, HasRoom, few_lines}

-- there is a place for each of n elements that stand at the front
front_room : (xs ys : List ℕ) {zs : List ℕ} {n : ℕ} → zs ≡ xs ++ ys → length xs ≡ n → n ≤ length zs
front_room xs ys e h = omega (arith, ap length e ∙ length-append xs ys, h)

module _ {file : List ℕ} {m n : ℕ} {old-sets sets old-qs qs : List ℕ} (l : LinesRead file m n old-sets sets old-qs qs) where
  -- as many lines as were read
  sets_count : length (sets_in file) ≡ n
  sets_count = length-sets_in file ∙ sym l.count-is

  quantities_count : length (quantities_in file) ≡ n
  quantities_count = length-quantities_in file ∙ sym l.count-is

  -- the first places hold the sets and the quantities of the lines
  pub first_sets : take n sets ≡ sets_in file
  first_sets = ap (take n) l.sets_are ∙ take_at (sets_in file) (drop (count_in file) old-sets) n sets_count

  pub first_quantities : take n qs ≡ quantities_in file
  first_quantities = ap (take n) l.quantities_are ∙ take_at (quantities_in file) (drop (count_in file) old-qs) n quantities_count

  -- the lines of an accepted file are good
  pub first_good : (read_refusal file).number ≡ 0 → GoodLines m (take n qs) (take n sets)
  first_good z = rw (first_sets, first_quantities, l.rack-is) (read_good file z)

  pub given_read : {r : Refusal} → r ≡ read_refusal file → Given r m n qs sets
  given_read e = record {
    room = λ z. front_room (sets_in file) _ l.sets_are sets_count;
    quantity_room = λ z. front_room (quantities_in file) _ l.quantities_are quantities_count;
    good = λ z. first_good (sym (ap (λ q. q.number) e) ∙ z);
  }

-- what is taken where a test holds
pub some_taken : (test : Bool) {x y : ℕ} → Some y ≡ then_some test x → (test ≡ true) × (y ≡ x)
some_taken true e = (refl, cc)
some_taken false e = cc

-- any file has room in the most places
pub most_room : (file : List ℕ) → HasRoom most_lines file
most_room file z = (header_good file z).few_lines

-- and a file of few bytes in few
pub few_room : (file : List ℕ) → length file ≤ header_length + set_length * few_lines → HasRoom few_lines file
few_room file l z =
    let good = header_good file z in
    let long = mul-le-mul_right (count_in file) (line_long (version_in file)) in
    omega (arith, good.whole, long)

-- the lines of a header that is read
pub count_room : {file bytes : List ℕ} {header : Header} → bytes ≡ file → IsHeaderOf bytes header → header_number file ≡ 0 → (n : ℕ) → HasRoom n file
    → header.count ≤ n
count_room same is z n room = omega (arith, room z, rw same at is.count-is)
