-- The placements within each set of tips, while they are summed tip by tip.
-- For proofs and leaf contracts: no call's contract speaks of these.
use Rattle.std.specs.Prelude.{ℕ, ◌+◌, ◌-◌, ◌*◌, ◌^◌, ◌≤◌, ◌<◌, ◌≡◌, Bool, not, cond, ◌&&◌, ◌||◌, List, leb, eqb, length, get_or}
use Rattle.model.specs.Limits.{most_placements}
use Rattle.model.specs.Count.{count, every, list_of, All}
use Rattle.model.specs.Plan.{has, Domain}
use Rattle.model.specs.CommonTip.{covers}
use Rattle.placements.specs.Repeated.{total}
use Rattle.subset_rules.specs.Exact.{most_named}

-- lines whose tips are below m, which is at most 20, each with a quantity that is not 0, and all together few placements
pub record NarrowLines (m : ℕ) (qs sets : List ℕ) : Type 0 where
  pub narrow : m ≤ most_named
  pub same : length qs ≡ length sets
  pub placed : All (λ q. 1 ≤ q) qs
  pub few : total qs ≤ most_placements
  pub domains : All (Domain m) sets

-- and a place for each set of m tips
pub record CountsRoom (m : ℕ) (qs sets counts : List ℕ) : Type 0 where
  pub lines : NarrowLines m qs sets
  pub size : length counts ≡ 2 ^ m

-- the set s is within u, and has each tip of u from b on
unfoldable pub partly : ℕ → ℕ → ℕ → ℕ → Bool
partly m b u s = covers m u s && every (λ t. not (leb b t) || (not (has u t) || has s t)) m

-- how many lines do so, for each set u of m tips
unfoldable pub part_counts : ℕ → ℕ → List ℕ → List ℕ
part_counts m b lines = list_of (λ u. count (partly m b u) lines) (2 ^ m)

-- how many lines have each set below n
unfoldable pub set_counts : ℕ → List ℕ → List ℕ
set_counts n lines = list_of (λ u. count (λ s. eqb s u) lines) n

-- the number at u, and where u has tip t the number at u without it
unfoldable pub added_at : ℕ → List ℕ → ℕ → ℕ
added_at t xs u = cond (has u t) (get_or xs u 0 + get_or xs (u - 2 ^ t) 0) (get_or xs u 0)

-- a list of whole blocks, each of 2 ^ t sets without tip t and then the same with it, and its numbers are not much
pub record Addable (t : ℕ) (counts : List ℕ) : Type 0 where
  pub tip : t < most_named
  pub blocks : ℕ
  pub whole : length counts ≡ 2 * blocks * 2 ^ t
  pub few : All (λ n. n ≤ most_placements) counts

-- a block of it begins here, and from here on the numbers are not much
pub record Block (t start : ℕ) (counts : List ℕ) : Type 0 where
  pub tip : t < most_named
  pub before : ℕ
  pub here : start ≡ 2 * before * 2 ^ t
  pub room : start + 2 * 2 ^ t ≤ length counts
  pub few : (u : ℕ) → start ≤ u → u < length counts → get_or counts u 0 ≤ most_placements

-- the sets from start to before u are summed by tip t, and the others are as they were
pub record Summing (t start : ℕ) (old : List ℕ) (u : ℕ) (new : List ℕ) : Type 0 where
  pub size : length new ≡ length old
  pub before : (v : ℕ) → v < start → get_or new v 0 ≡ get_or old v 0
  pub done : (v : ℕ) → start ≤ v → v < u → get_or new v 0 ≡ added_at t old v
  pub left : (v : ℕ) → u ≤ v → get_or new v 0 ≡ get_or old v 0
