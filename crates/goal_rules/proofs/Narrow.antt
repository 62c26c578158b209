-- Within an interval that has a line whole, the line on one of its tips alone gives no more pairs: a plan of the interval is a plan still.
use Prim.Native.Nat.{ℕ, ◌+◌, ◌-◌, ◌≤◌, ◌<◌, min, max}
use native.Mathlib.Omega.{arith}
use mathlib.Core.Path.{◌≡◌, ap, ap₂, ◌∙◌}
use mathlib.Core.Logic.{⊎_elim}
use mathlib.Core.Bool.{Bool, true, false, cond, ◌&&◌}
use mathlib.Core.List.{List, ◌++◌}
use lib.Dec.{T}
use lib.ListN.{replicate}
use Rattle.model.specs.Count.{All}
use Rattle.model.specs.Plan.{has, choose2}
use Rattle.model.specs.Choice.{bare}
use Rattle.model.specs.Interval.{low, high, Line, lies, inside, split, C, Dominates}
use Rattle.model.proofs.Tests.{le_or_lt, true_T, and_left, and_right, and_in}
use Rattle.model.proofs.Lists.{all-select, count-select, count_mono, count_none}
use Rattle.model.proofs.Mix.{count_mix}
use Rattle.model.proofs.Pairs.{choose2_mono, choose2_square}
use Rattle.model.proofs.Interval.{span, in_span, held}
use Rattle.model.proofs.Run.{low_le, le_high}
use Rattle.model.proofs.Best.{C_zero}
use Rattle.model.proofs.Valid.{valid_map}
use Rattle.model.proofs.Dominate.{dominated}
use Rattle.goal_rules.specs.Goal.{joined}
use Rattle.goal_rules.specs.Tables.{Whole}
use Rattle.model.proofs.Append.{all_append, all_replicate, mix_append, count-replicate, valid_append, valid_replicate}
use Rattle.goal_rules.proofs.Solved.{C_solved, solved_le, whole_le, split_le}
use Rattle.goal_rules.proofs.Joined.{joined-lines, inside-joined}
use Rattle.goal_rules.proofs.Reach.{reach-most}

-- a test that gives another counts no more
cond_le : (b c : Bool) (q : ℕ) → (T b → T c) → cond b q 0 ≤ cond c q 0
cond_le true c q f = rw (true_T c (f tt)) (omega arith)
cond_le false c q f = omega arith

-- ---- the part of an interval that is in the interval of first tip a and width w

module _ (a w : ℕ) where
  abbrev first : ℕ → ℕ
  first b = max a b

  abbrev width : ℕ → ℕ → ℕ
  width b v = min (a + w) (b + v) - first b

  -- an interval beside a tip of another: its end, and its part where the tip is before the interval, behind it or in it
  end_same : (b v i : ℕ) → i < v → b + i + 1 + (v - (i + 1)) ≡ b + v
  end_same b v i u = omega arith

  first_past : (b i : ℕ) → b + i < a → first (b + i + 1) ≡ first b
  first_past b i k = omega arith

  width_past : (b v i : ℕ) → i < v → b + i < a → width (b + i + 1) (v - (i + 1)) ≡ width b v
  width_past b v i u k = ap₂ (λ x y. min (a + w) x - y) (end_same b v i u) (first_past b i k)

  width-none : (b i : ℕ) → b + i < a → width b i ≡ 0
  width-none b i k = omega arith

  ends_same : (b v i : ℕ) → i < v → a + w ≤ b + i → min (a + w) (b + i) ≡ min (a + w) (b + v)
  ends_same b v i u k = omega arith

  width_end : (b v i : ℕ) → i < v → a + w ≤ b + i → width b i ≡ width b v
  width_end b v i u k = ap (λ x. x - first b) (ends_same b v i u k)

  width-behind : (b x : ℕ) → a + w ≤ b → width b x ≡ 0
  width-behind b x k = omega arith

  width-before : (b i : ℕ) → b + i < a + w → width b i ≡ b + i - first b
  width-before b i k = let e : min (a + w) (b + i) ≡ b + i = omega arith in ap (λ x. x - first b) e

  first-after : (b i : ℕ) → a ≤ b + i → first (b + i + 1) ≡ first b + (b + i - first b) + 1
  first-after b i p = omega arith

  less_less : (x f k : ℕ) → f ≤ k → x - (f + (k - f) + 1) ≡ x - f - (k - f + 1)
  less_less x f k h = omega arith

  first_le : (b i : ℕ) → a ≤ b + i → first b ≤ b + i
  first_le b i p = omega arith

  width-after : (b v i : ℕ) → i < v → a ≤ b + i → width (b + i + 1) (v - (i + 1)) ≡ width b v - (b + i - first b + 1)
  width-after b v i u p = ap₂ (λ x y. min (a + w) x - y) (end_same b v i u) (first-after b i p)
      ∙ less_less (min (a + w) (b + v)) (first b) (b + i) (first_le b i p)

  width_in : (b v i : ℕ) → i < v → a ≤ b + i → b + i < a + w → b + i - first b < width b v
  width_in b v i u p k = let e : b + i < min (a + w) (b + v) = omega arith in omega (arith, first_le b i p)

  width_le : (b v : ℕ) → first b + width b v ≤ max (b + v) (first b)
  width_le b v = let e : min (a + w) (b + v) ≤ b + v = omega arith in omega arith

  -- a line within both is within the part
  lies-part : (b v c s : ℕ) → a ≤ c → c < a + w → b ≤ c → c < b + v → T (lies a w s) → T (lies b v s) → T (lies (first b) (width b v) s)
  lies-part b v c s p q r u x y =
      let e = span a w s x in
      let f = span b v s y in
      in_span (first b) (width b v) s (omega arith) (omega arith)

  -- the lines within the interval that are within another are within the part
  inside-part : (lines : List ℕ) (b v c : ℕ) → a ≤ c → c < a + w → b ≤ c → c < b + v
      → inside (held lines a w) b v c ≤ inside lines (first b) (width b v) c
  unfolding inside
  inside-part lines b v c p q r u = omega (
    arith,
    count-select (lies a w) (λ s. lies b v s && has s c) lines,
    count_mono (λ s. lies a w s && (lies b v s && has s c)) (λ s. lies (first b) (width b v) s && has s c) lines (λ s t.
        let x = and_left (lies a w s) (lies b v s && has s c) t in
        let y = and_right (lies a w s) (lies b v s && has s c) t in
        and_in (lies (first b) (width b v) s) (has s c)
        (lies-part b v c s p q r u x (and_left (lies b v s) (has s c) y)) (and_right (lies b v s) (has s c) y)),
  )

  -- within it the lines that lie there are counted
  inside-held : (lines : List ℕ) (b v c : ℕ) → a ≤ b → b + v ≤ a + w → inside lines b v c ≤ inside (held lines a w) b v c
  unfolding inside
  inside-held lines b v c p q = omega (
    arith,
    count-select (lies a w) (λ s. lies b v s && has s c) lines,
    count_mono (λ s. lies b v s && has s c) (λ s. lies a w s && (lies b v s && has s c)) lines (λ s t.
        let e = span b v s (and_left (lies b v s) (has s c) t) in
        and_in (lies a w s) (lies b v s && has s c) (in_span a w s (omega arith) (omega arith)) t),
  )

module _ {ok : ℕ → Bool} {m : ℕ} {rest placed : List ℕ} (narrow : m ≤ 64) (ls : All (Line ok m) rest) (all : All (Line ok m) placed)
    (q s : ℕ) (line : Line ok m s)
    (counts : (a w c : ℕ) → inside placed a w c ≡ cond (lies a w s && has s c) q 0 + inside rest a w c) (a w : ℕ) (x : Whole m s a w) where
  abbrev D : ℕ → ℕ → ℕ
  D = C placed

  -- the lines of the interval: the line, and the others that lie in it
  abbrev others : List ℕ
  others = held rest a w

  abbrev part : List ℕ
  part = replicate q s ++ others

  -- the table for the part of each interval that is in this one
  abbrev P : ℕ → ℕ → ℕ
  P b v = D (first a w b) (width a w b v)

  other_lines : All (Line ok m) others
  other_lines = all-select (lies a w) (λ _ _ k. k) ls

  part-lines : All (Line ok m) part
  part-lines = all_append (all_replicate q s line) other_lines

  part_count : (b v c : ℕ) → inside part b v c ≡ cond (lies b v s && has s c) q 0 + inside others b v c
  unfolding inside
  part_count b v c =
      let f : ℕ → Bool = λ u. lies b v u && has u c in
      omega (arith, count_mix f (mix_append (replicate q s) others), count-replicate f q s)

  -- no line of them has a tip outside the interval
  outside_none : (b v c : ℕ) → (a ≤ c → c < a + w → ⊥) → inside part b v c ≡ 0
  unfolding inside
  outside_none b v c n = count_none (λ u. lies b v u && has u c) (all_append
      (all_replicate q s (λ k. none s line x.from x.to (and_right (lies b v s) (has s c) k)))
      (all-select (lies a w) (λ u i k g. let e = span a w u i in none u k e.0 e.1 (and_right (lies b v u) (has u c) g)) ls))
    where
      none : (u : ℕ) → Line ok m u → a ≤ low u → high u < a + w → T (has u c) → ⊥
      none u k p r g = n (omega (arith, low_le u c g)) (omega (arith, le_high narrow k.domain c g))

  inside-most : (b v c : ℕ) → a ≤ c → c < a + w → b ≤ c → c < b + v → inside part b v c ≤ inside placed (first a w b) (width a w b v) c
  inside-most b v c p r u g =
      let f = first a w b in
      let n = width a w b v in
      let step : T (lies b v s && has s c) → T (lies f n s && has s c) = λ k.
      and_in (lies f n s) (has s c)
      (lies-part a w b v c s p r u g (in_span a w s x.from x.to) (and_left (lies b v s) (has s c) k)) (and_right (lies b v s) (has s c) k) in
      omega (
        arith,
        part_count b v c,
        counts f n c,
        cond_le (lies b v s && has s c) (lies f n s && has s c) q step,
        inside-part a w rest b v c p r u g,
      )

  dominates : Dominates ok m part P
  dominates b v i e u g = ⊎_elim
      (λ p. ⊎_elim above (within p) (le_or_lt (a + w) (b + i)))
      below
      (le_or_lt a (b + i))
    where
      none_left : (c z : ℕ) → z ≡ 0 → D c z ≡ 0
      none_left c z e = ap (D c) e ∙ C_zero placed c

      below : b + i < a → split P part b v i ≤ P b v
      below k = omega (
        arith,
        ap choose2 (outside_none b v (b + i) (λ p _. omega (arith, p))),
        choose2_square 0,
        none_left (first a w b) (width a w b i) (width-none a w b i k),
        ap₂ D (first_past a w b i k) (width_past a w b v i u k),
      )

      above : a + w ≤ b + i → split P part b v i ≤ P b v
      above k =
          let far : a + w ≤ b + i + 1 = omega arith in
          omega (
            arith,
            ap choose2 (outside_none b v (b + i) (λ _ p. omega (arith, p))),
            choose2_square 0,
            none_left (first a w (b + i + 1)) (width a w (b + i + 1) (v - (i + 1))) (width-behind a w (b + i + 1) (v - (i + 1)) far),
            ap (D (first a w b)) (width_end a w b v i u k),
          )

      within : a ≤ b + i → b + i < a + w → split P part b v i ≤ P b v
      within p k =
          let f = first a w b in
          let n = width a w b v in
          let j = b + i - f in
          let c : f + j ≡ b + i = omega (arith, first_le a w b i p) in
          omega (
            arith,
            choose2_mono (inside-most b v (b + i) p k (omega arith) (omega arith)),
            ap (λ t. choose2 (inside placed f n t)) c,
            ap (D f) (width-before a w b i k),
            ap₂ D (first-after a w b i p) (width-after a w b v i u p),
            split_le (C_solved bare m placed all) all f n j (inner p k) (width_in a w b v i u p k) tt,
          )
        where
          inner : a ≤ b + i → b + i < a + w → first a w b + width a w b v ≤ m
          inner p k = let h : a ≤ b + v = omega arith in omega (arith, width_le a w b v, h)

  -- A NARROWER SET never raises the pairs of an interval that has the line whole
  pub narrower_le : (t : ℕ) → T (has s t) → C (joined rest q t) a w ≤ C placed a w
  narrower_le t h =
      let low-t = low_le s t h in
      let high-t = le_high narrow line.domain t h in
      let below : t < m = omega (arith, x.to, x.ends) in
      let good = line.fits t h in
      let y = C_solved bare m (joined rest q t) (joined-lines narrow ls q t below good) in
      let z = C_solved bare m (joined others q t) (joined-lines narrow other_lines q t below good) in
      let more = solved_le y z a w x.ends (λ b v c p r. omega (
        arith,
        inside-joined rest q t b v c,
        inside-joined others q t b v c,
        inside-held a w rest b v c p r,
      )) in
      let (g, own, e) = (reach-most narrow other_lines q t below good).reached in
      let plan = valid_append (valid_replicate q s t h) (valid_map g own) in
      let f : first a w 0 ≡ a = omega arith in
      let n : width a w 0 m ≡ w = omega (arith, x.ends) in
      omega (arith, more, whole_le z a w x.ends, e, dominated narrow part-lines P dominates plan, ap₂ D f n)
