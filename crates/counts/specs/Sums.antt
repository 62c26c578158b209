-- Two counts of all tips side by side: in pairs, a plane of each.
use Rattle.std.specs.Prelude.{ℕ, ◌+◌, ◌*◌, ◌^◌, ◌≤◌, ◌<◌, ◌≡◌, List, [], ◌∷◌, length, get_or, drop}
use Rattle.std.specs.Int.Bits.{bit_and, bit_xor}
use Rattle.model.specs.Plan.{occ}
use Rattle.placements.specs.Repeated.{repeated}
use Rattle.counts.specs.declared.adders.Pair.{Pair}
use Rattle.counts.specs.Counts.{plane_count, digit, count_at}

-- the tips that one of two planes has, and those that both have, for each plane of a pair
unfoldable pub differing : Pair → Pair → Pair
differing p q = record { even = bit_xor p.even q.even; odd = bit_xor p.odd q.odd }

unfoldable pub met : Pair → Pair → Pair
met p q = record { even = bit_and p.even q.even; odd = bit_and p.odd q.odd }

-- how many planes of a pair have tip t
abbrev pub pair_at : Pair → ℕ → ℕ
pair_at p t = digit p.even t + digit p.odd t

-- the sum of both counts of tip t
unfoldable pub both_at : List Pair → ℕ → ℕ
both_at [] t = 0
both_at (p ∷ sums) t = pair_at p t + 2 * both_at sums t

-- how many of eight lines have tip t: every other of sixteen
unfoldable pub eight_at : List ℕ → ℕ → ℕ
eight_at lines t =
    let d : ℕ → ℕ = λ i. digit (get_or lines i 0) t in
    d 0 + d 2 + d 4 + d 6 + d 8 + d 10 + d 12 + d 14

-- the counts of three planes with the occurrences among those lines, in four planes
pub record AddsEight (a b c : ℕ) (lines : List ℕ) (ones twos fours eights : ℕ) : Type 0 where
  pub sum : (t : ℕ)
      → digit ones t + 2 * digit twos t + 4 * digit fours t + 8 * digit eights t
      ≡ digit a t + 2 * digit b t + 4 * digit c t + eight_at lines t

-- both counts have room for 16 more for each tip of the carries
pub record Raisable (carry : Pair) (sums : List Pair) : Type 0 where
  pub size : length sums ≡ plane_count
  pub fits : (t : ℕ) → both_at sums t + 16 * pair_at carry t < 2 ^ plane_count

-- they have it
pub record Raised (carry : Pair) (old sums : List Pair) : Type 0 where
  pub size : length sums ≡ plane_count
  pub sum : (t : ℕ) → both_at sums t ≡ both_at old t + 16 * pair_at carry t

-- both counts have room for the occurrences among the lines
pub record Fits (lines : List ℕ) (sums : List Pair) : Type 0 where
  pub size : length sums ≡ plane_count
  pub fits : (t : ℕ) → both_at sums t + occ lines t < 2 ^ plane_count

-- they have them
pub record Added (lines : List ℕ) (old sums : List Pair) : Type 0 where
  pub size : length sums ≡ plane_count
  pub sum : (t : ℕ) → both_at sums t ≡ both_at old t + occ lines t

-- they have those among the lines before line i
pub record AddedTo (i : ℕ) (lines : List ℕ) (old sums : List Pair) : Type 0 where
  pub size : length sums ≡ plane_count
  pub within : i ≤ length lines
  pub sum : (t : ℕ) → both_at sums t + occ (drop i lines) t ≡ both_at old t + occ lines t

-- thirty-two lines that allow no tip
pub record NoTip (lines : List ℕ) : Type 0 where
  pub size : length lines ≡ 32
  pub none : (t : ℕ) → occ lines t ≡ 0

-- both counts are 0
pub record Empty (sums : List Pair) : Type 0 where
  pub size : length sums ≡ plane_count
  pub none : (t : ℕ) → both_at sums t ≡ 0

-- they have room for themselves once more
pub record Doublable (sums : List Pair) : Type 0 where
  pub size : length sums ≡ plane_count
  pub fits : (t : ℕ) → 2 * both_at sums t < 2 ^ plane_count

pub record Doubled (old sums : List Pair) : Type 0 where
  pub size : length sums ≡ plane_count
  pub sum : (t : ℕ) → both_at sums t ≡ 2 * both_at old t

-- their sum has room in one count
pub record Joinable (sums : List Pair) : Type 0 where
  pub size : length sums ≡ plane_count
  pub fits : (t : ℕ) → both_at sums t < 2 ^ plane_count

pub record Joined (sums : List Pair) (planes : List ℕ) : Type 0 where
  pub size : length planes ≡ plane_count
  pub sum : (t : ℕ) → count_at planes t ≡ both_at sums t

-- they have the occurrences of each tip in the placements
pub record Whole (qs lines : List ℕ) (sums : List Pair) : Type 0 where
  pub size : length sums ≡ plane_count
  pub sum : (t : ℕ) → both_at sums t ≡ occ (repeated qs lines) t
