-- The cases of the placing order as sentences, in the order of RULES 4.3.
use Rattle.std.specs.Prelude.{ℕ, ◌≤◌, ◌<◌, ◌≡◌, ◌⊎◌, List, [], ◌∷◌, ◌++◌, length, get_or}
use Rattle.model.specs.Limits.{most_tips}
use Rattle.model.specs.Choice.{Mounted, bare, tip}
use Rattle.refusal.specs.declared.Reason.TheVariants.{BadWindow, BadRule, ShortOrder, NoOrder}
use Rattle.refusal.specs.declared.Reason.TheVariants.{ShortPlan, TipOutside, MountedOutside}
use Rattle.cases.specs.Cases.{Case, plain, placed}
use Rattle.order_rules.specs.declared.Part.{Part}
use Rattle.order_rules.specs.declared.Rule.{Rule}
use Rattle.order_rules.specs.Order.{Obeys}
use Rattle.order_rules.specs.Parts.{no_rule, part_at, task_of}

-- the first position of a part is after its last, or its last is not one of n
abbrev pub WrongPart : ℕ → Part → Type 0
WrongPart n p = (p.last < p.first) ⊎ (n ≤ p.last)

-- a rule names a part that is not one of n, or the same part twice
abbrev pub WrongRule : ℕ → Rule → Type 0
WrongRule n r = (n ≤ r.earlier) ⊎ ((n ≤ r.later) ⊎ (r.earlier ≡ r.later))

-- 12 for over 128 parts, 12 at the first part with bad positions, 13 at the first bad rule, 14
abbrev pub given_cases : List Part → List Rule → ℕ → List Case
given_cases parts rules room =
    plain BadWindow (128 < length parts)
    ∷ placed BadWindow (λ i. (i < length parts) × WrongPart (length parts) (part_at parts i))
    ∷ placed BadRule (λ i. (i < length rules) × WrongRule (length parts) (get_or rules i no_rule))
    ∷ plain ShortOrder (room < length parts)
    ∷ []

-- 29: no order obeys
abbrev pub lost_cases : List Part → List Rule → List Case
lost_cases parts rules = plain NoOrder ((order : List ℕ) → Obeys (task_of parts rules) order → ⊥) ∷ []

-- 12, 13, 14, then 29
abbrev pub order_cases : List Part → List Rule → ℕ → List Case
order_cases parts rules room = given_cases parts rules room ++ lost_cases parts rules

-- a tip is mounted, and it is none of 64
abbrev pub NoHead : Mounted → Type 0
NoHead bare = ⊥
NoHead (tip t) = most_tips ≤ t

-- of the tips of n parts: 4, the plan has not a byte for each; 3 at the first part whose tip is none of 64; 16
abbrev pub tips_cases : ℕ → List ℕ → Mounted → List Case
tips_cases n plan mounted =
    plain ShortPlan (length plan < n)
    ∷ placed TipOutside (λ i. (i < n) × (most_tips ≤ get_or plan i 0))
    ∷ plain MountedOutside (NoHead mounted)
    ∷ []

-- 12, 13, 14, then 4, 3, 16, then 29
abbrev pub tip_order_cases : List Part → List Rule → List ℕ → Mounted → ℕ → List Case
tip_order_cases parts rules plan mounted room =
    given_cases parts rules room ++ (tips_cases (length parts) plan mounted ++ lost_cases parts rules)
