-- What is read from the sums of lines: the pairs on a tip, with placements more, and what meets some tips.
use Prim.Native.Nat.{ℕ, ◌+◌, ◌-◌, ◌≤◌, ◌<◌, zero-le}
use native.Mathlib.Omega.{arith}
use mathlib.Core.Path.{◌≡◌, refl, ap}
use mathlib.Core.Bool.{Bool, true, false, cond}
use mathlib.Core.List.{List, [], ◌∷◌}
use lib.Dec.{T}
use Rattle.model.specs.Count.{count}
use Rattle.model.specs.Plan.{choose2}
use Rattle.model.specs.Interval.{inside, split, C}
use Rattle.model.proofs.Tests.{true_T}
use Rattle.model.proofs.Lists.{count_mono}
use Rattle.spans.specs.Spans.{inside_by, below, sums, RunSums}
use Rattle.spans.proofs.Below.{under, under-out, under_in, below_le, below_mono, length-sums, sums_at}
use Rattle.spans.proofs.Read.{inside_is}
use Rattle.goal_rules.specs.Check.{entry}
use Rattle.intervals.specs.Splits.{Meeting, meeting_by, pairs_by, split_by, InsideAll}

-- more lines begin below a higher tip
below_more : (lines : List ℕ) (x y e : ℕ) → x ≤ y → below lines x e ≤ below lines y e
unfolding below
below_more lines x y e h = count_mono _ _ lines (λ s t. let k = under-out x e s t in under_in y e s (omega arith) (omega arith))

-- of two tests each gives a third, and both give a fourth
four : (f g x y : Bool) → (T f → T x) → (T g → T x) → (T f → T g → T y) → cond f 1 0 + cond g 1 0 ≤ cond x 1 0 + cond y 1 0
four true true x y p q r = rw (true_T x (p tt), true_T y (r tt tt)) (omega arith)
four true false x y p q r = rw (true_T x (p tt)) (omega arith)
four false true x y p q r = rw (true_T x (q tt)) (omega arith)
four false false x y p q r = zero-le

counts_le : (f g x y : ℕ → Bool) (lines : List ℕ) → ((s : ℕ) → T (f s) → T (x s)) → ((s : ℕ) → T (g s) → T (x s))
    → ((s : ℕ) → T (f s) → T (g s) → T (y s)) → count f lines + count g lines ≤ count x lines + count y lines
unfolding count
counts_le f g x y [] p q r = zero-le
counts_le f g x y (s ∷ lines) p q r = omega (arith, four (f s) (g s) (x s) (y s) (p s) (q s) (r s), counts_le f g x y lines p q r)

-- the lines that end before l and do not begin before a are among those that end before y and do not begin before a, or from x on
before_le : (lines : List ℕ) (a l x y : ℕ) → a ≤ x → l ≤ x → l ≤ y → below lines a y + below lines l l ≤ below lines x y + below lines a l
unfolding below
before_le lines a l x y p q r = counts_le (under a y) (under l l) (under x y) (under a l) lines
    (λ s t. let k = under-out a y s t in under_in x y s (omega arith) (omega arith))
    (λ s t. let k = under-out l l s t in under_in x y s (omega arith) (omega arith))
    (λ s t u. let k = under-out a y s t in let j = under-out l l s u in under_in a l s (omega arith) (omega arith))

-- no tip from l to h has more lines of an interval than these
meeting_ge : (m : ℕ) (lines : List ℕ) (l h a w c : ℕ) → a + w ≤ m → a ≤ c → c < a + w → l ≤ c → c ≤ h → h < m
    → inside_by m (sums m lines) a w c ≤ meeting_by m (sums m lines) l h a w
unfolding inside_by meeting_by
meeting_ge m lines l h a w c e f g p q r = omega (
  arith,
  sums_at m lines (c + 1) (a + w) (omega arith) (omega arith),
  sums_at m lines a c (omega arith) (omega arith),
  sums_at m lines a (a + w) (omega arith) (omega arith),
  sums_at m lines (c + 1) c (omega arith) (omega arith),
  sums_at m lines (h + 1) (a + w) (omega arith) (omega arith),
  sums_at m lines a l (omega arith) (omega arith),
  sums_at m lines l l (omega arith) (omega arith),
  below_more lines (c + 1) (h + 1) (a + w) (omega arith),
  before_le lines a l (c + 1) c (omega arith) (omega arith) p,
)

module _ {m q : ℕ} {lines xs : List ℕ} (k : RunSums m q lines xs) where
  -- what meets the tips l to h can be read
  pub meets : (l h a w : ℕ) → a + w ≤ m → l ≤ h → h < m → a ≤ h + 1 → l ≤ a + w → Meeting m xs l h a w
  unfolding meeting_by
  meets l h a w e run top p r = rw k.summed (
      let last = sums_at m lines (h + 1) (a + w) (omega arith) (omega arith) in
      let left = sums_at m lines a l (omega arith) (omega arith) in
      let first = sums_at m lines a (a + w) (omega arith) (omega arith) in
      let next = sums_at m lines l l (omega arith) (omega arith) in
      let covers = before_le lines a l (h + 1) (a + w) (omega arith) (omega arith) (omega arith) in record {
        size = length-sums m lines;
        ends = e;
        from = run;
        to = top;
        small = omega (arith, k.few, last, left, below_le lines (h + 1) (a + w), below_le lines a l);
        covers = omega (arith, last, left, first, next, covers);
        few = omega (arith, k.few, last, left, first, next, below_le lines (h + 1) (a + w), below_mono lines a l (a + w) (omega arith));
      })

  -- a tip of the interval, from l to h
  pub inside_meeting : (l h a w c : ℕ) → a + w ≤ m → a ≤ c → c < a + w → l ≤ c → c ≤ h → h < m
      → inside lines a w c ≤ meeting_by m xs l h a w
  inside_meeting l h a w c e f g p r n =
      omega (arith, inside_is k a w c e f g, rw (← k.summed) at (meeting_ge m lines l h a w c e f g p r n))

  -- THE PAIRS BY THE SUMS are those of the lines
  pub pairs_same : (p a w c : ℕ) → a + w ≤ m → a ≤ c → c < a + w → pairs_by m xs p a w c ≡ choose2 (inside lines a w c + p)
  unfolding pairs_by
  pairs_same p a w c e f g = ap (λ n. choose2 (n + p)) (inside_is k a w c e f g)

-- THE SPLIT BY THE SUMS and the table is that of the lines
pub split_same : {m : ℕ} {lines xs tab : List ℕ} → RunSums m 0 lines xs → InsideAll m lines tab
    → (a w i : ℕ) → a + w ≤ m → i < w → split_by m xs tab 0 a w i ≡ split (C lines) lines a w i
unfolding split_by
split_same {lines = lines} k x a w i b l =
    let none : inside lines a w (a + i) + 0 ≡ inside lines a w (a + i) = omega arith in
    omega (
      arith,
      pairs_same k 0 a w (a + i) b (omega arith) (omega arith),
      ap choose2 none,
      x.entries a i (omega arith),
      x.entries (a + i + 1) (w - (i + 1)) (omega arith),
    )

-- the split of the interval from tip a to tip b, at its tip c
pub split_tips : (m : ℕ) (xs tab : List ℕ) (a c b : ℕ) → a ≤ c → c ≤ b → split_by m xs tab 0 a (b + 1 - a) (c - a)
    ≡ choose2 (inside_by m xs a (b + 1 - a) c) + (entry m tab a (c - a) + entry m tab (c + 1) (b - c))
unfolding split_by pairs_by
split_tips m xs tab a c b from to =
    let tip : a + (c - a) ≡ c = omega arith in
    let width : b + 1 - a - (c - a + 1) ≡ b - c = omega arith in
    let none : inside_by m xs a (b + 1 - a) c + 0 ≡ inside_by m xs a (b + 1 - a) c = omega arith in
    rw (tip, width, none) refl
