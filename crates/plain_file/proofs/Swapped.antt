-- The lines of a file by the order of its bytes: parts of them, and what they count.
use Prim.Native.Nat.{ℕ, ◌+◌, ◌^◌, ◌≤◌, ◌<◌}
use native.Mathlib.Omega.{arith}
use native.Mathlib.Nat.{lt_of_lt_of_le}
use mathlib.Core.Path.{◌≡◌, sym, ◌∙◌}
use mathlib.Core.Bool.{false}
use mathlib.Core.List.{List}
use lib.ListN.{length, take, drop, length-take, length-drop}
use lib.Seq.{take_all, get_or-take, get_or-drop}
use lib.Pow.{pow_mono}
use Rattle.model.specs.Count.{list_of}
use Rattle.model.specs.Plan.{has, occ}
use Rattle.model.specs.Limits.{most_lines}
use Rattle.model.proofs.Lists.{all-at, count_le}
use Rattle.model.proofs.ListOf.{length-list_of, list_of-at, list_is}
use Rattle.placements.specs.Repeated.{repeated}
use Rattle.placements.proofs.Repeated.{repeated_ones}
use Rattle.counts.specs.Counts.{plane_count, count_at, Counts}
use Rattle.counts.specs.Swapped.{facing}
use Rattle.counts.specs.declared.adders.Pair.{Pair}
use Rattle.counts.specs.Sums.{Empty, Fits, Added, Joinable, Joined}
use Rattle.counts.proofs.Swapped.{occ-swapped, put_back}
use Rattle.job.specs.Job.{counted, version_in, count_in, set_in, sets_in, quantities_in, header_number, read_refusal}
use Rattle.job.proofs.HeaderLaws.{header_good}
use Rattle.job.proofs.Reading.{length-sets_in, length-quantities_in, set_there, plain_quantities, read_good}
use Rattle.plain_file.specs.Swapped.{swapped_in, swapped_sets}

-- n of the values of a function, from place i on
part_of : (f : ℕ → ℕ) (i n m : ℕ) → i + n ≤ m → list_of (λ k. f (i + k)) n ≡ take n (drop i (list_of f m))
part_of f i n m h =
    let xs = list_of f m in
    sym (list_is (λ k. f (i + k)) n (take n (drop i xs)) (simp (length-take, length-drop) (omega (arith, length-list_of f m)))
    (λ k b. get_or-take n (drop i xs) k 0 b ∙ get_or-drop i xs k 0 ∙ list_of-at f m (i + k) (omega arith)))

module _ (file : List ℕ) where
  -- a part of the lines
  pub lines_part : (i n : ℕ) → i + n ≤ count_in file → list_of (λ k. swapped_in file (i + k)) n ≡ take n (drop i (swapped_sets file))
  unfolding swapped_sets
  lines_part i n h = part_of (swapped_in file) i n (count_in file) h

  pub lines_count : length (swapped_sets file) ≡ count_in file
  unfolding swapped_sets
  lines_count = length-list_of (swapped_in file) (count_in file)

  -- those from line i on
  pub lines_rest : (i n : ℕ) → count_in file ≤ i + n → take n (drop i (swapped_sets file)) ≡ drop i (swapped_sets file)
  lines_rest i n h = take_all n (drop i (swapped_sets file)) (simp length-drop (omega (arith, lines_count)))

  module _ (z : header_number file ≡ 0) where
    few : (t : ℕ) → occ (swapped_sets file) t ≤ most_lines
    unfolding occ
    few t = omega (arith, count_le (λ s. has s t) (swapped_sets file), lines_count, (header_good file z).few_lines)

    module _ {sums : List Pair} (e : Empty sums) where
      pub lines_fit : Fits (swapped_sets file) sums
      lines_fit = record { size = e.size; fits = λ t. omega (arith, few t, e.none t) }

      module _ {sums' : List Pair} (a : Added (swapped_sets file) sums sums') where
        pub lines-joinable : Joinable sums'
        lines-joinable = record { size = a.size; fits = λ t. omega (arith, a.sum t, e.none t, few t) }

        pub lines_joined : {planes : List ℕ} → Joined sums' planes → Counts (swapped_sets file) planes
        lines_joined j = record { size = j.size; counted = λ t. omega (arith, j.sum t, a.sum t, e.none t) }

  -- the occurrences in an accepted file
  module _ (z : (read_refusal file).number ≡ 0) where
    set_small : (k : ℕ) → k < count_in file → set_in file k < 2 ^ 64
    set_small k h =
        let good = read_good file z in
        let domain = all-at 0 good.domains k (omega (arith, length-sets_in file)) in
        rw (set_there file k h) (lt_of_lt_of_le domain.below (pow_mono good.most))

    occ-file : (t : ℕ) → occ (swapped_sets file) t ≡ occ (sets_in file) (facing t)
    unfolding swapped_sets sets_in
    occ-file t = occ-swapped (set_in file) (count_in file) t set_small

    -- PLANES OF A FILE WITHOUT QUANTITIES, put back
    pub counted-back : counted (version_in file) ≡ false → {old planes : List ℕ} → Counts (swapped_sets file) old
        → length planes ≡ plane_count → ((t : ℕ) → count_at planes t ≡ count_at old (facing t))
        → Counts (repeated (quantities_in file) (sets_in file)) planes
    counted-back plain c n back =
        let once = repeated_ones (plain_quantities file plain) (sets_in file) (length-quantities_in file ∙ sym (length-sets_in file)) in
        rw once (put_back occ-file c n back)
