-- What the call for a placing order by tips answers, and what it leaves in the order buffer. The plan has each part's tip, one byte a part.
use Rattle.std.specs.Prelude.{ℕ, ◌≡◌, Bool, true, not, List, ltb, length, take}
use Rattle.model.specs.Limits.{most_tips}
use Rattle.model.specs.Choice.{Mounted, bare, tip}
use Rattle.refusal.specs.Told.{Refusal}
use Rattle.refusal.specs.Refusal.{when, or_else, scan, lent_by, told}
use Rattle.order_rules.specs.declared.Part.{Part}
use Rattle.order_rules.specs.declared.Rule.{Rule}
use Rattle.order_rules.specs.Parts.{task_of}
use Rattle.order_rules.specs.Call.{absent, ordered, given_refusal, NoneObeys}
use Rattle.order_rules.specs.Tips.{placing_by_tips, changes, BestByTips}

-- no rack is named: a tip is one of 64
abbrev pub tip_ok : ℕ → Bool
tip_ok t = ltb t most_tips

abbrev pub head_ok : Mounted → Bool
head_ok bare = true
head_ok (tip t) = tip_ok t

-- 4 where the plan has not a byte for each of n parts, then 3 at the first part whose tip is none, then 16 where the mounted tip is none
unfoldable pub tips_refusal : ℕ → List ℕ → Mounted → Refusal
tips_refusal n plan mounted =
    or_else (when (ltb (length plan) n) 4) (or_else (scan tip_ok (λ _. 3) (take n plan)) (when (not (head_ok mounted)) 16))

-- after 12, 13 and 14
unfoldable pub given_by_tips : List Part → List Rule → List ℕ → Mounted → ℕ → Refusal
given_by_tips parts rules plan mounted room = or_else (given_refusal parts rules room) (tips_refusal (length parts) plan mounted)

-- then 29 where no order obeys
unfoldable pub refusal_by_tips : List Part → List Rule → List ℕ → Mounted → ℕ → Refusal
refusal_by_tips parts rules plan mounted room =
    or_else (given_by_tips parts rules plan mounted room) (when (absent (placing_by_tips parts rules plan mounted)) 29)

-- the order buffer: the order, one byte a position, and the bytes past it as they were
unfoldable pub buffer_by_tips : List Part → List Rule → List ℕ → Mounted → List ℕ → List ℕ
buffer_by_tips parts rules plan mounted buffer =
    lent_by (refusal_by_tips parts rules plan mounted (length buffer)) (length parts) (ordered (placing_by_tips parts rules plan mounted)) buffer

-- how often the tip is changed in it
unfoldable pub changes_by_tips : List Part → List Rule → List ℕ → Mounted → ℕ → ℕ
changes_by_tips parts rules plan mounted room =
    told (refusal_by_tips parts rules plan mounted room) (changes plan mounted (ordered (placing_by_tips parts rules plan mounted)))

-- what is accepted is the best order by tips, with the changes told
pub record TipsRule (parts : List Part) (rules : List Rule) (plan : List ℕ) (mounted : Mounted) (room : ℕ) (buffer : List ℕ) (r : Refusal)
    (changed : ℕ) : Type 0 where
  pub best : r.number ≡ 0 → BestByTips (task_of parts rules) plan mounted (take (length parts) buffer)
  pub counted : r.number ≡ 0 → changed ≡ changes plan mounted (take (length parts) buffer)
  pub none : NoneObeys (task_of parts rules) (given_by_tips parts rules plan mounted room) r
