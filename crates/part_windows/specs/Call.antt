-- What the call for the windows of the parts answers, and what it leaves in its two buffers. Its refusals are those of the placing order, with
-- the room of the shorter buffer.
use Rattle.std.specs.Prelude.{ℕ, ◌<◌, ◌≡◌, min, List, length, get_or}
use Rattle.model.specs.Count.{list_of}
use Rattle.refusal.specs.Told.{Refusal}
use Rattle.refusal.specs.Refusal.{lent_by}
use Rattle.order_rules.specs.declared.Part.{Part}
use Rattle.order_rules.specs.declared.Rule.{Rule}
use Rattle.order_rules.specs.Parts.{task_of}
use Rattle.order_rules.specs.Call.{given_refusal, order_refusal, NoneObeys}
use Rattle.windows.specs.Bounds.{soonest, latest, Bounds}

-- how many parts both buffers have room for
abbrev pub room : List ℕ → List ℕ → ℕ
room first last = min (length first) (length last)

-- the first position of each part in any order that obeys, one byte a part
unfoldable pub soonest_of : List Part → List Rule → List ℕ
soonest_of parts rules = list_of (soonest (task_of parts rules)) (length parts)

-- and the last
unfoldable pub latest_of : List Part → List Rule → List ℕ
latest_of parts rules = list_of (latest (task_of parts rules)) (length parts)

-- the buffers after the call: the positions, and the bytes past them as they were
unfoldable pub first_after : List Part → List Rule → List ℕ → List ℕ → List ℕ
first_after parts rules first last = lent_by (order_refusal parts rules (room first last)) (length parts) (soonest_of parts rules) first

unfoldable pub last_after : List Part → List Rule → List ℕ → List ℕ → List ℕ
last_after parts rules first last = lent_by (order_refusal parts rules (room first last)) (length parts) (latest_of parts rules) last

-- the whole answer
pub record WindowsAnswer (parts : List Part) (rules : List Rule) (first₀ last₀ first last : List ℕ) (r : Refusal) : Type 0 where
  pub refusal : r ≡ order_refusal parts rules (room first₀ last₀)
  pub firsts : first ≡ first_after parts rules first₀ last₀
  pub lasts : last ≡ last_after parts rules first₀ last₀

-- what is accepted are the bounds of each part
pub record WindowsRule (parts : List Part) (rules : List Rule) (room : ℕ) (first last : List ℕ) (r : Refusal) : Type 0 where
  pub exact : r.number ≡ 0 → (i : ℕ) → i < length parts → Bounds (task_of parts rules) i (get_or first i 0) (get_or last i 0)
  pub none : NoneObeys (task_of parts rules) (given_refusal parts rules room) r
