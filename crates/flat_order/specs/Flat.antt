-- The task that flat arrays describe: first and last positions, and the rows of the parts that are to precede each part.
use Rattle.std.proofs.Math.Option.{Option}
use Rattle.std.specs.Prelude.{ℕ, suc, ◌+◌, ◌-◌, ◌*◌, ◌^◌, ◌≤◌, ◌<◌, min, ◌≡◌, Bool, false, cond, ◌&&◌, List, T, ltb, leb, eqb, length, get_or}
use Rattle.model.specs.Count.{list_of}
use Rattle.order_rules.specs.Number.{number, lowest, comes_first, lowest_on}
use Rattle.order_rules.specs.Order.{Task}
use Rattle.order_rules.specs.Prefer.{Preference, Choice}
use Rattle.order_rules.specs.Least.{best_order}
use Rattle.flat_order.specs.declared.sets.PartSet.{PartSet}
use Rattle.flat_order.specs.Sets.{has_part, single, removed, met, apart, no_parts}

-- the row of part b
abbrev pub row_at : List PartSet → ℕ → PartSet
row_at rows b = get_or rows b no_parts

-- the task, with a part for each last position
abbrev pub flat_task : List ℕ → List ℕ → List PartSet → Task
flat_task firsts lasts rows = record {
  size = length lasts;
  first = λ i. get_or firsts i 0;
  last = λ i. get_or lasts i 0;
  before = λ a b. has_part (row_at rows b) a;
}

-- how early the last position of part i is, if it is left
abbrev pub weight_of : PartSet → List ℕ → ℕ → ℕ
weight_of left lasts i = cond (has_part left i) (length lasts - get_or lasts i 0) 0

-- the last position of part i, which is not after the limit if the part is in the set
abbrev pub cap_of : PartSet → ℕ → List ℕ → ℕ → ℕ
cap_of earlier limit lasts i = cond (has_part earlier i) (min (get_or lasts i 0) limit) (get_or lasts i 0)

-- the last positions, where no part of the set has one after the limit
unfoldable pub capped : PartSet → ℕ → List ℕ → List ℕ
capped earlier limit lasts = list_of (cap_of earlier limit lasts) (length lasts)

-- part i is left and has to stand at position v or earlier
abbrev pub is_due : PartSet → List ℕ → ℕ → ℕ → Bool
is_due left lasts v i = has_part left i && leb (get_or lasts i 0) v

-- from position p on, the level of a position: how many parts are placed before p, or are left and due there
pub record Levels (left : PartSet) (lasts : List ℕ) (p : ℕ) (levels : List ℕ) : Type 0 where
  pub size : length lasts ≤ length levels
  pub each : (v : ℕ) → p ≤ v → v < length lasts → get_or levels v 0 ≡ number (is_due left lasts v) (length lasts) + p

-- the levels from one position up to another are one higher, and r is false only where none was the number of its position before
pub record Raised (from to : ℕ) (old levels : List ℕ) (r : Bool) : Type 0 where
  pub size : length levels ≡ length old
  pub inside : (v : ℕ) → from ≤ v → v < to → get_or levels v 0 ≡ get_or old v 0 + 1
  pub after : (v : ℕ) → from ≤ v → to ≤ v → get_or levels v 0 ≡ get_or old v 0
  pub none : r ≡ false → (v : ℕ) → from ≤ v → v < to → get_or old v 0 ≡ v → ⊥

-- r is the first position from p on that has as level its number and one more; n where there is none
pub record IsEnd (n p : ℕ) (levels : List ℕ) (r : ℕ) : Type 0 where
  pub from : p ≤ r
  pub most : r ≤ n
  pub full : r < n → get_or levels r 0 ≡ r + 1
  pub none : (v : ℕ) → p ≤ v → v < r → get_or levels v 0 ≡ v + 1 → ⊥

-- the least d such that the positions p to p + d are all taken by the parts left that are due there
unfoldable pub tight_of : PartSet → List ℕ → ℕ → ℕ
tight_of left lasts p = lowest (λ d. eqb (number (is_due left lasts (p + d)) (length lasts)) (suc d)) (length lasts - p)

-- the parts begun that have not ended before position p, and have to stand at v or earlier: at each place of the lists stand the parts whose
-- last positions are before it
unfoldable pub candidates_at : ℕ → ℕ → PartSet → List PartSet → PartSet
candidates_at p v begun ends = met begun (removed (row_at ends (v + 1)) (row_at ends p))

-- part x is among the candidates, and no other part left is to be placed earlier
unfoldable pub is_pick : PartSet → PartSet → List PartSet → ℕ → Bool
is_pick among left rows x = has_part among x && apart (row_at rows x) (removed left (single x))

-- x is the least number that passes the test
pub record IsFirst (f : ℕ → Bool) (x : ℕ) : Type 0 where
  pub passes : T (f x)
  pub least : (y : ℕ) → T (f y) → x ≤ y

-- a part that is ready is preferred, and among those alike the lower number
abbrev pub by_ready : Preference PartSet
by_ready ready = comes_first (has_part ready)

abbrev pub choose_ready : Choice PartSet
choose_ready ready = lowest_on (has_part ready)

-- the best order by it, from the parts ready at the start on; after part x those of `next x` are ready
abbrev pub ready_order : PartSet → (ℕ → PartSet) → Task → Option (List ℕ)
ready_order ready next t = best_order choose_ready next ready t

-- what a function answers for each of the first n parts is what is ready after it
pub record Leaves (post : ℕ → PartSet → Type 0) (n : ℕ) (next : ℕ → PartSet) : Type 0 where
  pub each : (x : ℕ) (s : PartSet) → x < n → post x s → s ≡ next x

-- x is chosen: the least that passes both tests, or where none does the least that passes f
pub data IsChosen (on f : ℕ → Bool) (x : ℕ) : Type 0 where
  one_ready : IsFirst (λ y. f y && on y) x → IsChosen on f x
  none_ready : ((y : ℕ) → T (f y && on y) → ⊥) → IsFirst f x → IsChosen on f x

-- each of the first n positions is below n
abbrev pub InPlace : ℕ → List ℕ → Type 0
InPlace n positions = (i : ℕ) → i < n → get_or positions i 0 < n

-- each of the first n parts is at its place
pub record AtPlaces (place : ℕ → ℕ) (n : ℕ) (rows : List PartSet) : Type 0 where
  pub each : (w x : ℕ) → w < length rows → has_part (row_at rows w) x ≡ (ltb x n && eqb (place x) w)

-- each of the first n parts is at the place after its position
abbrev pub PartsAt : List ℕ → ℕ → List PartSet → Type 0
PartsAt positions n rows = AtPlaces (λ x. get_or positions x 0 + 1) n rows

-- at each place up to n are those of the first n parts whose positions are before it
pub record Below (positions : List ℕ) (n : ℕ) (rows : List PartSet) : Type 0 where
  pub each : (w x : ℕ) → w ≤ n → has_part (row_at rows w) x ≡ (ltb x n && ltb (get_or positions x 0) w)

-- each part that waits is noted at a part left that is to precede it; each part left has a place there
pub record Held (left waiting : PartSet) (rows noted : List PartSet) : Type 0 where
  pub places : (x : ℕ) → T (has_part left x) → x < length noted
  pub each : (x : ℕ) → T (has_part waiting x)
      → (b : ℕ) × T (has_part (met (row_at rows x) (removed left (single x))) b) × T (has_part (row_at noted b) x)

-- there are at most 128 parts, and each has its first position and its row
pub record SizedFor (n : ℕ) (fs : List ℕ) (rs : List PartSet) : Type 0 where
  pub parts : n ≤ 128
  pub firsts : n ≤ length fs
  pub rows : n ≤ length rs

-- a search for n parts has places enough, by part and by position, and they are few enough for an array
pub record Room (places ends n : ℕ) : Type 0 where
  pub parts : n ≤ places
  pub positions : n + 2 ≤ ends
  pub small : places * 17 + ends * 16 < 2 ^ 63

-- each part of the order has a byte in the plan
abbrev pub Tipped : List ℕ → List ℕ → Type 0
Tipped plan order = (p : ℕ) → p < length order → get_or order p 0 < length plan
