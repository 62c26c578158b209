-- A plan, a claim and a table from other software: what is refused, and how the sums of the placements tell it.
use Rattle.std.specs.Prelude.{◌≡◌, ℕ, ◌+◌, ◌-◌, ◌*◌, ◌%◌, ◌^◌, ◌<◌, ◌≤◌, Bool, not, ◌&&◌, ◌||◌, leb, List, length, ◌==◌, nat_le, slice_index}
use Rattle.model.specs.Limits.{most_placements}
use Rattle.model.specs.Count.{every}
use Rattle.model.specs.Plan.{has, pairs, choose2}
use Rattle.model.specs.Interval.{named}
use Rattle.placements.specs.Repeated.{repeated}
use Rattle.refusal.specs.Told.{Refusal}
use Rattle.refusal.specs.Refusal.{or_else, when}
use Rattle.spans.specs.Spans.{Ready}
use Rattle.goal_rules.specs.Check.{is_valid, entry, bounds}
use Rattle.intervals.specs.Splits.{split_by}

-- a line on a foreign tip, then a claim that is not the plan's count
unfoldable pub claim_refusal : List ℕ → List ℕ → List ℕ → ℕ → Refusal
claim_refusal qs sets plan claim = or_else (when (not (is_valid sets plan)) 19) (when (not (claim == pairs (repeated qs plan))) 20)

-- the table's entry for the rack is the claim, and for each interval and each named tip in it the entry is at least the split there
unfoldable pub table_ok : ℕ → List ℕ → List ℕ → ℕ → List ℕ → Bool
table_ok m qs sets claim tab = entry m tab 0 m == claim && bounds (named sets) m (repeated qs sets) tab

-- these, then a table that fails; none where the plan, the claim and the table are accepted
unfoldable pub check_refusal : ℕ → List ℕ → List ℕ → List ℕ → ℕ → List ℕ → Refusal
check_refusal m qs sets plan claim tab = or_else (claim_refusal qs sets plan claim) (when (not (table_ok m qs sets claim tab)) 33)

-- ---- for proofs and leaf contracts: no call's contract speaks of these

-- the split at tip c of the interval from tip a to tip b, by the sums xs and the table, is at most the entry of the interval
abbrev pub end_by : ℕ → List ℕ → List ℕ → ℕ → ℕ → ℕ → Bool
end_by m xs tab a c b = nat_le (split_by m xs tab 0 a (b + 1 - a) (c - a)) (entry m tab a (b + 1 - a))

-- and so at each last tip, from c on
unfoldable pub ends_by : ℕ → List ℕ → List ℕ → ℕ → ℕ → Bool
ends_by m xs tab a c = every (λ j. end_by m xs tab a c (c + j)) (m - c)

-- and so for each first tip, up to c
unfoldable pub tip_by : ℕ → List ℕ → List ℕ → ℕ → Bool
tip_by m xs tab c = every (λ a. ends_by m xs tab a c) (c + 1)

-- and so for each named tip
unfoldable pub bounds_by : ℕ → ℕ → List ℕ → List ℕ → Bool
bounds_by names m xs tab = every (λ c. not (has names c) || tip_by m xs tab c) m

-- the table has its m * m places, and the sums can be read
pub record Held (m : ℕ) (xs tab : List ℕ) : Type 0 where
  pub size : m * m ≤ length tab
  pub sums : Ready m 0 xs

-- the split at place i of lists: the sums of the row after the tip, shifted, less those of the first tip's row; and the entries right of the tip
abbrev pub split_at : ℕ → ℕ → List ℕ → List ℕ → List ℕ → ℕ → ℕ
split_at left shift nexts firsts rights i = choose2 ((slice_index nexts i + shift) % 2 ^ 32 - slice_index firsts i) + (left + slice_index rights i)

-- it is at most this entry, at each place
unfoldable pub ends_at : ℕ → ℕ → List ℕ → List ℕ → List ℕ → List ℕ → Bool
ends_at left shift nexts firsts rights mosts = every (λ i. leb (split_at left shift nexts firsts rights i) (slice_index mosts i)) (length mosts)

-- lists of one length, whose sums can be subtracted and tell few placements
pub record EndLists (left shift : ℕ) (nexts firsts rights mosts : List ℕ) : Type 0 where
  pub as_nexts : length nexts ≡ length mosts
  pub as_firsts : length firsts ≡ length mosts
  pub as_rights : length rights ≡ length mosts
  pub entry_left : left < 2 ^ 32
  pub covers : (i : ℕ) → i < length mosts → slice_index firsts i ≤ (slice_index nexts i + shift) % 2 ^ 32
  pub few : (i : ℕ) → i < length mosts → (slice_index nexts i + shift) % 2 ^ 32 ≤ slice_index firsts i + most_placements
