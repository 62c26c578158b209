-- The bounds over flat arrays: what the arrays are to hold, and what is found.
use Rattle.std.specs.Prelude.{ℕ, ◌≤◌, ◌<◌, ◌≡◌, Bool, true, false, cond, List, T, length, get_or}
use Rattle.model.specs.Count.{list_of}
use Rattle.order_rules.specs.Order.{Task, Obeys}
use Rattle.flat_order.specs.declared.sets.PartSet.{PartSet}
use Rattle.flat_order.specs.Flat.{SizedFor, InPlace, flat_task}
use Rattle.windows.specs.Bounds.{solvable, soonest, latest, Bounds}

-- the arrays describe a task of at most 128 parts, each position of which is one of its parts'
pub record Ready (firsts lasts : List ℕ) (rows : List PartSet) : Type 0 where
  pub sized : SizedFor (length lasts) firsts rows
  pub opens : InPlace (length lasts) firsts
  pub closes : InPlace (length lasts) lasts

-- no part comes before its first position in any order that obeys, nor after its last
abbrev pub SeenFirst : Task → List ℕ → Type 0
SeenFirst t first = (j : ℕ) → j < t.size → soonest t j ≤ get_or first j 0

abbrev pub SeenLast : Task → List ℕ → Type 0
SeenLast t last = (j : ℕ) → j < t.size → get_or last j 0 ≤ latest t j

-- what is seen so far, at a place for each part
pub record Seen (firsts lasts : List ℕ) (rows : List PartSet) (first last : List ℕ) : Type 0 where
  pub first_size : length first ≡ length lasts
  pub last_size : length last ≡ length lasts
  pub first_seen : SeenFirst (flat_task firsts lasts rows) first
  pub last_seen : SeenLast (flat_task firsts lasts rows) last

-- the arrays describe a task that has part i and that some order obeys
pub record Narrowable (firsts lasts : List ℕ) (rows : List PartSet) (i : ℕ) : Type 0 where
  pub ready : Ready firsts lasts rows
  pub part : i < length lasts
  pub solvable : T (solvable (flat_task firsts lasts rows))

-- with the first p positions of an order: no part's first position is later than it was, nor than its position in the order; and it is
-- no sooner than in any order that obeys, if that is so before and the order obeys
pub record Lowered (order : List ℕ) (p : ℕ) (old new : List ℕ) : Type 0 where
  pub size : length new ≡ length old
  pub lower : (j : ℕ) → get_or new j 0 ≤ get_or old j 0
  pub had : (q : ℕ) → q < p → get_or new (get_or order q 0) 0 ≤ q
  pub seen : (t : Task) → ((i : ℕ) → i < t.size → t.last i < t.size) → Obeys t order → SeenFirst t old → SeenFirst t new

-- and so for the last positions
pub record Raised (order : List ℕ) (p : ℕ) (old new : List ℕ) : Type 0 where
  pub size : length new ≡ length old
  pub higher : (j : ℕ) → get_or old j 0 ≤ get_or new j 0
  pub had : (q : ℕ) → q < p → q ≤ get_or new (get_or order q 0) 0
  pub seen : (t : Task) → ((i : ℕ) → i < t.size → t.last i < t.size) → Obeys t order → SeenLast t old → SeenLast t new

-- the answer: whether some order obeys; the bounds of each part where one does, else the bytes as they were
pub record FoundBounds (t : Task) (first₀ last₀ first last : List ℕ) (r : Bool) : Type 0 where
  pub told : r ≡ solvable t
  pub firsts : first ≡ cond (solvable t) (list_of (soonest t) t.size) first₀
  pub lasts : last ≡ cond (solvable t) (list_of (latest t) t.size) last₀

-- the bounds of each part, where some order obeys; else no order does
pub record BoundsRule (t : Task) (firsts lasts : List ℕ) (r : Bool) : Type 0 where
  pub exact : r ≡ true → (i : ℕ) → i < t.size → Bounds t i (get_or firsts i 0) (get_or lasts i 0)
  pub none : r ≡ false → (order : List ℕ) → Obeys t order → ⊥
