-- Exact sharing: a plan for any lines, at a price for each tip that it uses.
-- U is a set of tips. A line is within U when all its tips are in U. z(U), here `lying`, counts the lines within U. E(U), here `score`, is the
-- most that a plan of those lines has: its pairs, and the price of each tip of U that it does not use.
-- The plan: the tip at which E of the named tips is reached takes all lines that allow it; the same follows for the tips left.
use Rattle.std.specs.Prelude.{ℕ, zero, suc, ◌+◌, ◌-◌, ◌^◌, cond, List, [], ◌∷◌, map, ltb, eqb}
use Rattle.model.specs.Count.{count, largest}
use Rattle.model.specs.Plan.{has, uses, choose2}
use Rattle.model.specs.CommonTip.{covers}
use Rattle.model.specs.Choice.{Mounted, choice}
use Rattle.model.specs.Greedy.{first}
use Rattle.model.specs.Renumber.{names, rank}
use Rattle.placements.specs.Repeated.{repeated}

-- how many tips below m the set u has
abbrev pub size : ℕ → ℕ → ℕ
size m u = rank (has u) m

-- how many different tips below m the plan uses
unfoldable pub tips_used : ℕ → List ℕ → ℕ
tips_used m plan = rank (λ t. ltb 0 (uses plan t)) m

-- z(u): how many lines are within the set u
unfoldable pub lying : ℕ → List ℕ → ℕ → ℕ
lying m lines u = count (covers m u) lines

-- what a tip on which p lines are adds: their pairs, or where there is none the price that is saved
unfoldable pub gain : ℕ → ℕ → ℕ
gain price p = cond (eqb p 0) price (choose2 p)

-- what u has if its tip t takes the lines within u that allow it, where D says what the set left has
abbrev pub taking : ℕ → (ℕ → ℕ) → (ℕ → ℕ) → ℕ → ℕ → ℕ
taking price z D u t = gain price (z u - z (u - 2 ^ t)) + D (u - 2 ^ t)

-- the largest of that over the tips t of u, 0 where u has none, and so on for the sets left; k bounds the number of its tips
unfoldable pub score_by : ℕ → (ℕ → ℕ) → ℕ → ℕ → ℕ → ℕ
score_by price z m zero u = 0
score_by price z m (suc k) u = largest (λ t. cond (has u t) (taking price z (score_by price z m k) u t) 0) m

-- E(u)
unfoldable pub score : ℕ → (ℕ → ℕ) → ℕ → ℕ → ℕ
score price z m u = score_by price z m m u

-- how good tip t is for u: what u has if t takes its lines, and one more; 0 for a tip that u does not have
unfoldable pub worth : ℕ → (ℕ → ℕ) → ℕ → ℕ → ℕ → ℕ
worth price z m u t = cond (has u t) (suc (taking price z (score price z m) u t)) 0

-- the tip of u at which E(u) is reached; on a tie the mounted one, else the lowest
unfoldable pub pick : Mounted → ℕ → (ℕ → ℕ) → ℕ → ℕ → ℕ
pick mounted price z m u = choice mounted (worth price z m u) m

-- the tips of u in the order in which they are picked; k bounds their number
unfoldable pub order : Mounted → ℕ → (ℕ → ℕ) → ℕ → ℕ → ℕ → List ℕ
order mounted price z m zero u = []
order mounted price z m (suc k) u =
    let t = pick mounted price z m u in
    cond (eqb u 0) [] (t ∷ order mounted price z m k (u - 2 ^ t))

-- the tip of a line s: the first that it allows of the named tips as they are picked
unfoldable pub exact_tip : Mounted → ℕ → ℕ → List ℕ → ℕ → ℕ
exact_tip mounted price m lines s = first (order mounted price (lying m lines) m m (names lines)) s

-- each line on its tip
unfoldable pub exact_plan : Mounted → ℕ → ℕ → List ℕ → List ℕ
exact_plan mounted price m lines = map (exact_tip mounted price m lines) lines

-- each line on its tip, where placements are counted
unfoldable pub exact_plan_q : Mounted → ℕ → ℕ → List ℕ → List ℕ → List ℕ
exact_plan_q mounted price m qs sets = map (exact_tip mounted price m (repeated qs sets)) sets
