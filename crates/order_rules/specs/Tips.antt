-- The placing order by tips: after each part one on the same tip is preferred, and at the start one on the mounted tip.
use Rattle.std.specs.Prelude.{ℕ, zero, suc, ◌<◌, ◌≡◌, Bool, false, not, List, T, eqb, get_or, map, take}
use Rattle.std.proofs.Math.Option.{Option}
use Rattle.model.specs.Choice.{Mounted, bare, tip, is_on}
use Rattle.along.specs.Along as Along
use Rattle.order_rules.specs.declared.Part.{Part}
use Rattle.order_rules.specs.declared.Rule.{Rule}
use Rattle.order_rules.specs.Number.{comes_first, lowest_on}
use Rattle.order_rules.specs.Order.{Task, Obeys}
use Rattle.order_rules.specs.Prefer.{Preference, Choice, FirstBetter}
use Rattle.order_rules.specs.Least.{best_order}
use Rattle.order_rules.specs.Parts.{task_of}

-- the tip of part x
abbrev pub tip_at : List ℕ → ℕ → ℕ
tip_at tips x = get_or tips x 0

-- part x is on the tip that is on the head
abbrev pub is_ready : List ℕ → Mounted → ℕ → Bool
is_ready tips head x = is_on head (tip_at tips x)

-- after part x its tip is on the head
abbrev pub head_after : List ℕ → ℕ → Mounted
head_after tips x = tip (tip_at tips x)

-- a part on the tip of the head is preferred, and among those alike the lower number
abbrev pub by_tip : List ℕ → Preference Mounted
by_tip tips head = comes_first (is_ready tips head)

abbrev pub choose_by_tip : List ℕ → Choice Mounted
choose_by_tip tips head = lowest_on (is_ready tips head)

-- the best order of a task by tips
abbrev pub order_by_tips : List ℕ → Mounted → Task → Option (List ℕ)
order_by_tips tips mounted t = best_order (choose_by_tip tips) (head_after tips) mounted t

-- the placing order by tips: each part's tip, and the tip that is on the head at the start
unfoldable pub placing_by_tips : List Part → List Rule → List ℕ → Mounted → Option (List ℕ)
placing_by_tips parts rules tips mounted = order_by_tips tips mounted (task_of parts rules)

-- the head has another tip on it than t; to mount t on a bare head is no change
abbrev pub has_other : Mounted → ℕ → Bool
has_other bare t = false
has_other (tip h) t = not (eqb h t)

-- part x needs another tip than the one on the head
abbrev pub is_change : List ℕ → Mounted → ℕ → Bool
is_change tips head x = has_other head (tip_at tips x)

-- the tip that is on the head before position p of an order
abbrev pub head_at : List ℕ → Mounted → List ℕ → ℕ → Mounted
head_at tips mounted order zero = mounted
head_at tips mounted order (suc p) = head_after tips (get_or order p 0)

-- how often the head changes its tip along an order, counted as along a list of lines
abbrev pub changes : List ℕ → Mounted → List ℕ → ℕ
changes tips mounted order = Along.changes mounted (map (tip_at tips) order)

-- the best order by tips: it obeys; at the first position where another that obeys differs it has the preferred part; and where it changes
-- the tip, each that obeys and begins alike changes it there
pub record BestByTips (t : Task) (tips : List ℕ) (mounted : Mounted) (order : List ℕ) : Type 0 where
  pub obeys : Obeys t order
  pub better : (other : List ℕ) → Obeys t other → FirstBetter (by_tip tips) (head_after tips) mounted order other
  pub needed : (other : List ℕ) → Obeys t other → (p : ℕ) → p < t.size → take p order ≡ take p other
      → T (is_change tips (head_at tips mounted order p) (get_or order p 0))
      → T (is_change tips (head_at tips mounted other p) (get_or other p 0))
