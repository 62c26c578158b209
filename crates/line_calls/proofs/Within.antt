-- C of an interval is the most pairs of the lines within it: of a board that has these lines alone, C of the whole rack is as large.
use Prim.Native.Nat.{ℕ, zero, suc, ◌+◌, ◌-◌, ◌≤◌, ◌<◌}
use native.Mathlib.Omega.{arith}
use native.Mathlib.Nat.{le_antisymm}
use mathlib.Core.Path.{◌≡◌, refl, ap, ◌∙◌}
use mathlib.Core.Logic.{⊎_elim}
use mathlib.Core.Bool.{Bool, true, false, cond, ◌&&◌}
use mathlib.Core.List.{List, [], ◌∷◌, ◌++◌, map}
use lib.Dec.{T, leb, ltb, leb→le, le→leb}
use lib.ListN.{length, replicate, length-map}
use Rattle.model.specs.Count.{All, none, more, select}
use Rattle.model.specs.Choice.{bare}
use Rattle.model.specs.Plan.{has}
use Rattle.model.specs.Interval.{Line, lies, inside, named, is_run_of, C, tip_by}
use Rattle.model.proofs.Tests.{and_left, and_right, and_in}
use Rattle.model.proofs.Lists.{all_map, all_both, all-select, count-select, count_mono}
use Rattle.model.proofs.Pairs.{choose2_mono}
use Rattle.model.proofs.Run.{named-lines}
use Rattle.model.proofs.Interval.{span, in_span, tips_in}
use Rattle.model.proofs.Attain.{plan_valid, plan_pairs}
use Rattle.model.proofs.Dominate.{dominated}
use Rattle.placements.specs.Repeated.{repeated}
use Rattle.placements.specs.Good.{GoodLines}
use Rattle.placements.proofs.Repeated.{all-repeated, repeated-map}
use Rattle.placements.proofs.Valid.{valid_repeated, valid_once}
use Rattle.goal_rules.specs.Tables.{Solved}
use Rattle.goal_rules.proofs.Solved.{C_solved, solved_le, whole_le}
use Rattle.line_calls.specs.Table.{sets_within, quantities_within, MostPairs}

module _ (a w : ℕ) where
  -- the placements of the lines within are the placements within
  pub repeated-within : (qs sets : List ℕ) → repeated (quantities_within a w qs sets) (sets_within a w sets) ≡ select (lies a w) (repeated qs sets)
  unfolding repeated quantities_within select
  repeated-within [] sets = refl
  repeated-within (q ∷ qs) [] = refl
  repeated-within (q ∷ qs) (s ∷ sets) = by (lies a w s) refl (repeated-within qs sets)
    where
      Q : List ℕ
      Q = quantities_within a w qs sets

      S : List ℕ
      S = sets_within a w sets

      R : List ℕ
      R = repeated qs sets

      yes : (n : ℕ) → lies a w s ≡ true → repeated Q S ≡ select (lies a w) R → replicate n s ++ repeated Q S ≡ select (lies a w) (replicate n s ++ R)
      yes zero t e = e
      yes (suc n) t e = rw t (ap (λ r. s ∷ r) (yes n t e))

      no : (n : ℕ) → lies a w s ≡ false → select (lies a w) R ≡ select (lies a w) (replicate n s ++ R)
      no zero t = refl
      no (suc n) t = rw t (no n t)

      by : (b : Bool) → lies a w s ≡ b → repeated Q S ≡ select (lies a w) R
          → repeated (cond b (q ∷ Q) Q) (cond b (s ∷ S) S) ≡ select (lies a w) (replicate q s ++ R)
      by true t e = yes q t e
      by false t e = e ∙ no q t

  -- the lines within have a quantity each
  size-within : (qs sets : List ℕ) → length qs ≡ length sets → length (quantities_within a w qs sets) ≡ length (sets_within a w sets)
  unfolding quantities_within select
  size-within [] [] e = refl
  size-within [] (s ∷ sets) e = absurd (omega arith)
  size-within (q ∷ qs) [] e = refl
  size-within (q ∷ qs) (s ∷ sets) e = by (lies a w s) (size-within qs sets (omega arith))
    where
      by : (b : Bool) → length (quantities_within a w qs sets) ≡ length (sets_within a w sets)
          → length (cond b (q ∷ quantities_within a w qs sets) (quantities_within a w qs sets))
          ≡ length (cond b (s ∷ sets_within a w sets) (sets_within a w sets))
      by true h = ap suc h
      by false h = h

  -- and none is 0
  placed-within : {qs : List ℕ} → All (λ q. 1 ≤ q) qs → (sets : List ℕ) → All (λ q. 1 ≤ q) (quantities_within a w qs sets)
  unfolding quantities_within
  placed-within none sets = none
  placed-within (more p ps) [] = none
  placed-within (more {x = q} {xs = qs} p ps) (s ∷ sets) = by (lies a w s) (placed-within ps sets)
    where
      by : (b : Bool) → All (λ q. 1 ≤ q) (quantities_within a w qs sets)
          → All (λ q. 1 ≤ q) (cond b (q ∷ quantities_within a w qs sets) (quantities_within a w qs sets))
      by true h = more p h
      by false h = h

module _ {ok : ℕ → Bool} {m : ℕ} {placed : List ℕ} (narrow : m ≤ 64) (ls : All (Line ok m) placed) (a w : ℕ) where
  -- the placements within the interval
  abbrev held : List ℕ
  held = select (lies a w) placed

  -- a tip that is ok, and in the interval
  abbrev inner : ℕ → Bool
  inner c = ok c && (leb a c && ltb c (a + w))

  held-lines : All (Line inner m) held
  held-lines =
      all_map
      (λ s (l, t). record {
        domain = l.domain;
        run = λ c o. l.run c (and_left (ok c) (leb a c && ltb c (a + w)) o);
        fits = λ c h.
            let (from, to) = t c h in
            and_in (ok c) (leb a c && ltb c (a + w)) (l.fits c h) (and_in (leb a c) (ltb c (a + w)) (le→leb a c from) (le→leb (suc c) (a + w) to));
      })
      (all_both (all-select (lies a w) (λ s _ l. l) ls) (tips_in narrow ls a w))

  -- no fewer of them lie within a part of the interval, and in none more
  inside_part : (b v c : ℕ) → a ≤ b → b + v ≤ a + w → inside placed b v c ≤ inside held b v c
  unfolding inside
  inside_part b v c from to =
      omega (
        arith,
        count-select (lies a w) (λ s. lies b v s && has s c) placed,
        count_mono (λ s. lies b v s && has s c) (λ s. lies a w s && (lies b v s && has s c)) placed (λ s t.
            let (x, y) = span b v s (and_left (lies b v s) (has s c) t) in
            and_in (lies a w s) (lies b v s && has s c) (in_span a w s (omega arith) (omega arith)) t),
      )

  module _ (b v p u : ℕ) (from : (x : ℕ) → b ≤ x → a ≤ x → p ≤ x) (to : (x : ℕ) → x < b + v → x < a + w → x < p + u) where
    -- what lies within both intervals lies within the third
    inside-both : (c : ℕ) → inside held b v c ≤ inside placed p u c
    unfolding inside
    inside-both c =
        omega (
          arith,
          count-select (lies a w) (λ s. lies b v s && has s c) placed,
          count_mono (λ s. lies a w s && (lies b v s && has s c)) (λ s. lies p u s && has s c) placed (λ s t.
              let (x, y) = span a w s (and_left (lies a w s) (lies b v s && has s c) t) in
              let r = and_right (lies a w s) (lies b v s && has s c) t in
              let (z, k) = span b v s (and_left (lies b v s) (has s c) r) in
              and_in (lies p u s) (has s c) (in_span p u s (from _ z x) (to _ k y)) (and_right (lies b v s) (has s c) r)),
        )

  abbrev whole : Solved inner m held (C held)
  whole = C_solved bare m held held-lines

  abbrev all : Solved ok m placed (C placed)
  all = C_solved bare m placed ls

  -- so none of their intervals has more pairs than its part in this one
  part_most : (k b v p u : ℕ) → v < k → b + v ≤ m → p + u ≤ m → ((x : ℕ) → b ≤ x → a ≤ x → p ≤ x) → ((x : ℕ) → x < b + v → x < a + w → x < p + u)
      → C held b v ≤ C placed p u
  part_most zero b v p u n e f from to = absurd (omega arith)
  part_most (suc k) b v p u n e f from to =
      let i = whole.pick b v in
      let c = b + i in
      ⊎_elim
      (λ (l, o, s).
      let g = and_left (ok c) (leb a c && ltb c (a + w)) o in
      let r = and_right (ok c) (leb a c && ltb c (a + w)) o in
      let first : a ≤ c = leb→le a c (and_left (leb a c) (ltb c (a + w)) r) in
      let last : c < a + w = leb→le (suc c) (a + w) (and_right (leb a c) (ltb c (a + w)) r) in
      let low = from c (omega arith) first in
      let high = to c (omega arith) last in
      let j = c - p in
      let same : p + j ≡ c = omega arith in
      omega (
        arith,
        s,
        choose2_mono (inside-both b v p u from to c),
        part_most k b i p j (omega arith) (omega arith) (omega arith) from (λ x h _. omega arith),
        part_most k (c + 1) (v - (i + 1)) (c + 1) (u - (j + 1)) (omega arith) (omega arith) (omega arith) (λ x h _. h)
            (λ x h t. omega (arith, to x (omega arith) t)),
        rw same at (all.bounds p u j f (omega arith) (rw same g)),
      ))
      (λ (_, z). omega (arith, z))
      (whole.picks.attains b v e)

  -- THE LINES WITHIN, as a board of their own, have as many pairs as C says of the interval
  C-held : a + w ≤ m → C held 0 m ≡ C placed a w
  C-held e = le_antisymm
      (part_most (suc m) 0 m a w (omega arith) (omega arith) e (λ x _ h. h) (λ x _ h. h))
      (omega (
        arith,
        solved_le all (C_solved bare m held (all-select (lies a w) (λ s _ l. l) ls)) a w e (λ b v c p q. inside_part b v c p q),
        whole_le whole a w e,
      ))

module _ {m : ℕ} {qs sets : List ℕ} (good : GoodLines m qs sets) (rs : All (λ s. T (is_run_of (named sets) s)) sets) (a w : ℕ) (e : a + w ≤ m) where
  abbrev Q : List ℕ
  Q = quantities_within a w qs sets

  abbrev S : List ℕ
  S = sets_within a w sets

  placed : All (Line (named sets) m) (repeated qs sets)
  placed = all-repeated qs (named-lines good.most good.domains rs)

  -- C IS THE MOST PAIRS of the lines within the interval
  pub most-within : MostPairs Q S (C (repeated qs sets) a w)
  most-within =
      let lines = held-lines good.most placed a w in
      let solved = whole good.most placed a w in
      let tip = tip_by solved.pick m 0 m in
      let plan = map tip S in
      let within = repeated-within a w qs sets in
      let same : repeated Q plan ≡ map tip (select (lies a w) (repeated qs sets)) = repeated-map tip Q S ∙ ap (map tip) within in
      record {
        reached = (
          plan,
          valid_once (placed-within a w good.placed sets) S plan (size-within a w qs sets good.same) (length-map S tip)
              (rw (within, same) (plan_valid good.most lines solved.picks)),
          rw same (plan_pairs good.most lines solved.picks ∙ C-held good.most placed a w e),
        );
        most = λ other v.
            omega (
              arith,
              dominated good.most lines (C (select (lies a w) (repeated qs sets))) solved.bounds (rw within at (valid_repeated Q v)),
              C-held good.most placed a w e,
            );
      }
