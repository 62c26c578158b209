-- Tables of the most pairs, inside each interval and outside it. A list of lines has a set for each placement.
-- For proofs and leaf contracts: no call's contract speaks of these.
use Rattle.std.specs.Prelude.{ℕ, zero, suc, ◌+◌, ◌*◌, ◌-◌, ◌≤◌, ◌<◌, max, ◌≡◌, ◌⊎◌, Bool, true, cond, List, ◌++◌, map, T, replicate}
use Rattle.model.specs.Count.{All, largest}
use Rattle.model.specs.Plan.{has, Valid, pairs, choose2}
use Rattle.model.specs.Interval.{low, high, inside, split, Dominates, Picks}

-- a table that is at least each split at a tip that is ok, and is one of them: that of the most pairs, for runs of the tips that are ok
pub record Solved (ok : ℕ → Bool) (m : ℕ) (lines : List ℕ) (D : ℕ → ℕ → ℕ) : Type 0 where
  pub pick : ℕ → ℕ → ℕ
  pub bounds : Dominates ok m lines D
  pub picks : Picks ok m lines D pick

-- with q placements more on tip t, some plan of the other lines by a rule has d pairs, and no valid plan of them has more
pub record Most (rest : List ℕ) (q t d : ℕ) : Type 0 where
  pub reached : (g : ℕ → ℕ) × All (λ s. T (has s (g s))) rest × (pairs (replicate q t ++ map g rest) ≡ d)
  pub bound : {plan : List ℕ} → Valid rest plan → pairs (replicate q t ++ plan) ≤ d

-- the pairs outside the interval if it lies before the tip a + w of one that is j + 1 tips wider: by the table O those outside the wider one,
-- those on the tip, and by the table D those of the interval behind it
abbrev pub before : (ℕ → ℕ → ℕ) → (ℕ → ℕ → ℕ) → List ℕ → ℕ → ℕ → ℕ → ℕ
before O D lines a w j = O a (w + 1 + j) + (choose2 (inside lines a (w + 1 + j) (a + w)) + D (a + w + 1) j)

-- the same if it lies behind the tip a - 1 of one with the first tip j
abbrev pub behind : (ℕ → ℕ → ℕ) → (ℕ → ℕ → ℕ) → List ℕ → ℕ → ℕ → ℕ → ℕ
behind O D lines a w j = O j (a - j + w) + (choose2 (inside lines j (a - j + w) (a - 1)) + D j (a - (j + 1)))

-- the most pairs outside the interval by one of these steps
abbrev pub around : ℕ → (ℕ → ℕ → ℕ) → (ℕ → ℕ → ℕ) → List ℕ → ℕ → ℕ → ℕ
around m O D lines a w = max (largest (before O D lines a w) (m - (a + w))) (largest (behind O D lines a w) a)

-- the most pairs outside the interval, by a chain of splits from the rack down to it through intervals that are open; 0 for the rack itself and
-- for an interval that is not open, which its own number can decide; k bounds the number of tips outside
unfoldable pub outer : ℕ → (ℕ → ℕ → ℕ → Bool) → ℕ → (ℕ → ℕ → ℕ) → List ℕ → ℕ → ℕ → ℕ
outer zero is_open m D lines a w = 0
outer (suc k) is_open m D lines a w =
    cond (is_open a w (around m (outer k is_open m D lines) D lines a w)) (around m (outer k is_open m D lines) D lines a w) 0

-- the outside table
unfoldable pub Out : (ℕ → ℕ → ℕ → Bool) → ℕ → (ℕ → ℕ → ℕ) → List ℕ → ℕ → ℕ → ℕ
Out is_open m D lines a w = outer (m - w) is_open m D lines a w

-- every interval is open
abbrev pub always : ℕ → ℕ → ℕ → Bool
always a w outside = true

-- the most pairs outside the interval by the outside table, before it is asked whether the interval is open
abbrev pub Chained : (ℕ → ℕ → ℕ → Bool) → ℕ → (ℕ → ℕ → ℕ) → List ℕ → ℕ → ℕ → ℕ
Chained is_open m D lines a w = around m (Out is_open m D lines) D lines a w

-- it is open
abbrev pub Opened : (ℕ → ℕ → ℕ → Bool) → ℕ → (ℕ → ℕ → ℕ) → List ℕ → ℕ → ℕ → Type 0
Opened is_open m D lines a w = T (is_open a w (Chained is_open m D lines a w))

-- the pairs if the chain ends at the interval, whose tip a + i takes its lines and q placements more
abbrev pub ended : (ℕ → ℕ → ℕ → Bool) → ℕ → (ℕ → ℕ → ℕ) → List ℕ → ℕ → ℕ → ℕ → ℕ → ℕ
ended is_open m D rest q a w i = Out is_open m D rest a w + (choose2 (inside rest a w (a + i) + q) + (D a i + D (a + i + 1) (w - (i + 1))))

-- some chain that ends at an open interval with tip t has at least K pairs
abbrev pub Ends : (ℕ → ℕ → ℕ → Bool) → ℕ → (ℕ → ℕ → ℕ) → List ℕ → ℕ → ℕ → ℕ → Type 0
Ends is_open m D rest q K t =
    (a : ℕ) × (w : ℕ) × (i : ℕ) × (a + i ≡ t) × (i < w) × (a + w ≤ m) × Opened is_open m D rest a w × (K ≤ ended is_open m D rest q a w i)

-- the interval is in the rack, and has the line s whole
pub record Whole (m s a w : ℕ) : Type 0 where
  pub from : a ≤ low s
  pub to : high s < a + w
  pub ends : a + w ≤ m

-- the pairs of the interval if its tip a + i takes its lines but for q of them, which go to a tip that n of the lines beside it allow
abbrev pub parted : (ℕ → ℕ → ℕ) → List ℕ → ℕ → ℕ → ℕ → ℕ → ℕ → ℕ
parted D lines q a w i n = choose2 (inside lines a w (a + i) - q) + (D a i + D (a + i + 1) (w - (i + 1))) + (q * n + choose2 q)

-- an interval that has the line s whole has K pairs with those outside, by a split at tip t
abbrev pub First : ℕ → ℕ → (ℕ → ℕ → ℕ) → (ℕ → ℕ → ℕ) → List ℕ → ℕ → ℕ → Type 0
First m s O D lines K t = (a : ℕ) × (w : ℕ) × (i : ℕ) × Whole m s a w × (i < w) × (a + i ≡ t) × (K ≤ O a w + split D lines a w i)

-- an interval that has the line s whole has K pairs with those outside, and a tip of the line takes the others: tip t beside it can have K pairs
pub record Start (m s q : ℕ) (O D : ℕ → ℕ → ℕ) (lines : List ℕ) (K t a w i : ℕ) : Type 0 where
  pub whole : Whole m s a w
  pub tip : i < w
  pub own : T (has s (a + i))
  pub live : K ≤ O a w + D a w
  pub beside : ((t < a + i) × (K ≤ O a w + parted D lines q a w i (inside lines a i t)))
      ⊎ ((a + i < t) × (K ≤ O a w + parted D lines q a w i (inside lines (a + i + 1) (w - (i + 1)) t)))
