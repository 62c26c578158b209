-- Best sharing on lines that are runs of the named tips. An interval of tips has a first tip a and a width w.
use Rattle.std.specs.Prelude.{ℕ, zero, suc, ◌+◌, ◌*◌, ◌-◌, ◌/◌, ◌%◌, ◌≤◌, ◌<◌, ◌≡◌, ◌⊎◌}
use Rattle.std.specs.Prelude.{Bool, true, not, cond, ◌&&◌, ◌||◌, List, map, T, ltb, leb, eqb}
use Rattle.std.specs.Int.Count.{ones, count_leading_zeros, count_trailing_zeros}
use Rattle.model.specs.Count.{count, every, list_of, largest}
use Rattle.model.specs.Plan.{has, occ, choose2, Domain, prefer}
use Rattle.model.specs.Choice.{Mounted, choice, from}

-- the lowest and the highest tip of a set that is not empty
unfoldable pub low : ℕ → ℕ
low s = count_trailing_zeros 64 s

unfoldable pub high : ℕ → ℕ
high s = 63 - count_leading_zeros 64 s

-- some line has tip t
unfoldable pub named : List ℕ → ℕ → Bool
named lines t = ltb 0 (occ lines t)

-- tip t is not between the lowest and the highest tip of s, or s has it
unfoldable pub fills : ℕ → ℕ → Bool
fills s t = not (leb (low s) t && leb t (high s)) || has s t

-- a run among the tips that pass the test ok: the set has each of them between its lowest tip and its highest
unfoldable pub is_run_of : (ℕ → Bool) → ℕ → Bool
is_run_of ok s = every (λ t. not (ok t) || fills s t) 64

-- the line s misses tip c: some line names it, it is between the lowest and the highest tip of s, and s does not have it
pub record Misses (lines : List ℕ) (s c : ℕ) : Type 0 where
  pub names : T (named lines c)
  pub from : low s ≤ c
  pub to : c ≤ high s
  pub lacks : T (not (has s c))

-- the line s lies within the interval
unfoldable pub lies : ℕ → ℕ → ℕ → Bool
lies a w s = leb a (low s) && ltb (high s) (a + w)

-- how many of the lines lying within the interval allow tip c
unfoldable pub inside : List ℕ → ℕ → ℕ → ℕ → ℕ
inside lines a w c = count (λ s. lies a w s && has s c) lines

-- the pairs of the interval if tip a + i takes its lines: those on it, and by the table D those of the intervals beside it
abbrev pub split : (ℕ → ℕ → ℕ) → List ℕ → ℕ → ℕ → ℕ → ℕ
split D lines a w i = choose2 (inside lines a w (a + i)) + (D a i + D (a + i + 1) (w - (i + 1)))

-- the largest split of the interval at a tip that is ok, 0 where it has none, and so on for those beside it; k bounds the width
unfoldable pub most : (ℕ → Bool) → ℕ → List ℕ → ℕ → ℕ → ℕ
most ok zero lines a w = 0
most ok (suc k) lines a w = largest (λ i. cond (ok (a + i)) (split (most ok k lines) lines a w i) 0) w

-- the most pairs of the lines lying within the interval, where the tips that are ok may be chosen
abbrev pub most_of : (ℕ → Bool) → List ℕ → ℕ → ℕ → ℕ
most_of ok lines a w = most ok w lines a w

-- and where the named tips may be chosen
unfoldable pub C : List ℕ → ℕ → ℕ → ℕ
C lines a w = most_of (named lines) lines a w

-- the tip of the line s, where tip a + pick a w takes the lines of an interval that allow it; k bounds the width
unfoldable pub tip_by : (ℕ → ℕ → ℕ) → ℕ → ℕ → ℕ → ℕ → ℕ
tip_by pick zero a w s = 0
tip_by pick (suc k) a w s =
    let i = pick a w in
    let c = a + i in
    prefer c (λ x. cond (ltb (high x) c) (tip_by pick k a i x) (tip_by pick k (c + 1) (w - (i + 1)) x)) s

-- how good tip a + i is for the interval: the pairs of its split and one more; 0 for a tip that is not ok
unfoldable pub worth : (ℕ → Bool) → (ℕ → ℕ → ℕ) → List ℕ → ℕ → ℕ → ℕ → ℕ
worth ok D lines a w i = cond (ok (a + i)) (suc (split D lines a w i)) 0

-- the tip that is ok, less a, at which the split of the interval is largest; on a tie the mounted one, else the lowest
unfoldable pub pick_of : Mounted → (ℕ → Bool) → List ℕ → ℕ → ℕ → ℕ
pick_of mounted ok lines a w = choice (from a mounted) (worth ok (most_of ok lines) lines a w) w

-- the tip of a line s where the named tips may be chosen
unfoldable pub best_tip : Mounted → ℕ → List ℕ → ℕ → ℕ
best_tip mounted m lines s = tip_by (pick_of mounted (named lines) lines) m 0 m s

-- each line on its tip
unfoldable pub best_plan : Mounted → ℕ → List ℕ → List ℕ
best_plan mounted m lines = map (best_tip mounted m lines) lines

-- C of the interval from tip a to tip b, b included, at a * m + b; below the diagonal the width b + 1 - a is 0, and so is C
unfoldable pub table : ℕ → List ℕ → List ℕ
table m lines = list_of (λ k. C lines (k / m) (k % m + 1 - k / m)) (m * m)

-- the table D is at least each split of each interval at a tip that is ok
abbrev pub Dominates : (ℕ → Bool) → ℕ → List ℕ → (ℕ → ℕ → ℕ) → Type 0
Dominates ok m lines D = (a w i : ℕ) → a + w ≤ m → i < w → T (ok (a + i)) → split D lines a w i ≤ D a w

-- ---- for proofs and leaf contracts: no call's contract speaks of these

-- every tip passes
abbrev pub any : ℕ → Bool
any c = true

-- an unbroken run: the distance from its lowest tip to its highest, plus one, is the number of its tips
unfoldable pub is_run : ℕ → Bool
is_run s = eqb (high s - low s + 1) (ones s)

-- a line whose tips pass the test ok, and that has each such tip between its lowest and its highest
pub record Line (ok : ℕ → Bool) (m s : ℕ) : Type 0 where
  pub domain : Domain m s
  pub run : (c : ℕ) → T (ok c) → low s ≤ c → c ≤ high s → T (has s c)
  pub fits : (c : ℕ) → T (has s c) → T (ok c)

-- each set on the tip that takes it when each interval is split at its pick, a tip that is ok, for the pairs of the lines
abbrev pub plan_for : Mounted → (ℕ → Bool) → ℕ → List ℕ → List ℕ → List ℕ
plan_for mounted ok m lines sets = map (tip_by (pick_of mounted ok lines) m 0 m) sets

-- and so the lines themselves
abbrev pub plan_of : Mounted → (ℕ → Bool) → ℕ → List ℕ → List ℕ
plan_of mounted ok m lines = plan_for mounted ok m lines lines

-- no tip of the interval is ok
abbrev pub Idle : (ℕ → Bool) → ℕ → ℕ → Type 0
Idle ok a w = (c : ℕ) → a ≤ c → c < a + w → T (ok c) → ⊥

-- D is the split of the interval at its pick, a tip of it that is ok; or the interval has no tip that is ok, and D is 0
abbrev pub Attains : (ℕ → Bool) → List ℕ → (ℕ → ℕ → ℕ) → (ℕ → ℕ → ℕ) → ℕ → ℕ → Type 0
Attains ok lines D pick a w = ((pick a w < w) × T (ok (a + pick a w)) × (split D lines a w (pick a w) ≡ D a w)) ⊎ (Idle ok a w × (D a w ≡ 0))

-- and so for each interval
pub record Picks (ok : ℕ → Bool) (m : ℕ) (lines : List ℕ) (D pick : ℕ → ℕ → ℕ) : Type 0 where
  pub attains : (a w : ℕ) → a + w ≤ m → Attains ok lines D pick a w
