-- The scores of sets of tips, by lists of counts and scores with a place for each set.
-- For proofs and leaf contracts: no call's contract speaks of these.
use Rattle.std.specs.Prelude.{ℕ, ◌*◌, ◌-◌, ◌^◌, ◌≤◌, ◌<◌, ◌≡◌, Bool, cond, ◌&&◌, List, T, eqb, length, get_or}
use Rattle.model.specs.Limits.{most_placements}
use Rattle.model.specs.Plan.{has}
use Rattle.subset_rules.specs.Subsets.{taking, score}
use Rattle.subset_rules.specs.Exact.{most_named, most_price}

-- the number at a set's place
abbrev pub at : List ℕ → ℕ → ℕ
at xs u = get_or xs u 0

-- the score of u by the lists if its tip t takes its lines
abbrev pub taking_by : ℕ → List ℕ → List ℕ → ℕ → ℕ → ℕ
taking_by price counts scores u t = taking price (at counts) (at scores) u t

-- 0 for a tip that u does not have
abbrev pub at_tip : ℕ → List ℕ → List ℕ → ℕ → ℕ → ℕ
at_tip price counts scores u t = cond (has u t) (taking_by price counts scores u t) 0

-- the tip is one of u, and the score with it is that of u
abbrev pub tied_at : ℕ → List ℕ → List ℕ → ℕ → ℕ → Bool
tied_at price counts scores u t = has u t && eqb (taking_by price counts scores u t) (at scores u)

-- the counts are those of lines: not many, and no more for a set without one of its tips
pub record Counted (m : ℕ) (counts : List ℕ) : Type 0 where
  pub narrow : m ≤ most_named
  pub size : length counts ≡ 2 ^ m
  pub few : (u : ℕ) → u < 2 ^ m → at counts u ≤ most_placements
  pub rises : (u t : ℕ) → u < 2 ^ m → T (has u t) → at counts (u - 2 ^ t) ≤ at counts u

-- and the scores of the sets below u are small
pub record Ready (price m : ℕ) (counts scores : List ℕ) (u : ℕ) : Type 0 where
  pub counted : Counted m counts
  pub low : price ≤ most_price
  pub size : length scores ≡ 2 ^ m
  pub inside : u < 2 ^ m
  pub small : (v : ℕ) → v < u → at scores v ≤ most_named * most_price

-- for some number of tips
abbrev pub ReadyBy : ℕ → List ℕ → List ℕ → ℕ → Type 0
ReadyBy price counts scores u = (m : ℕ) × Ready price m counts scores u

-- the scores of the sets below u are right
pub record Filling (price m : ℕ) (counts : List ℕ) (u : ℕ) (scores : List ℕ) : Type 0 where
  pub size : length scores ≡ 2 ^ m
  pub right : (v : ℕ) → v < u → at scores v ≡ score price (at counts) m v

-- and so are the scores of all sets
pub record Scored (price m : ℕ) (counts scores : List ℕ) : Type 0 where
  pub counted : Counted m counts
  pub low : price ≤ most_price
  pub filled : Filling price m counts (2 ^ m) scores
