-- Striking the tips that miss a pair goal keeps exactly the tips that some plan with at least K pairs uses.
use Prim.Native.Nat.{ℕ, ◌+◌, ◌*◌, ◌≤◌, ◌<◌}
use native.Mathlib.Omega.{arith}
use mathlib.Core.Path.{◌≡◌, refl, ap, sym, ◌∙◌}
use mathlib.Core.Logic.{◌↔◌}
use mathlib.Core.Bool.{Bool, cond, ◌&&◌}
use mathlib.Core.List.{List, ◌++◌, map}
use lib.Dec.{T, not_T, leb, ltb, leb→le, le→leb, lt→ltb}
use lib.ListN.{length, get_or, replicate}
use Rattle.model.specs.Count.{All}
use Rattle.model.specs.Plan.{has, choose2, Domain, Valid, pairs}
use Rattle.model.specs.Choice.{bare}
use Rattle.model.specs.Interval.{Line, named, is_run_of, lies, inside, split, C}
use Rattle.model.proofs.Tests.{false_T, and_left, and_right, and_in, same_test}
use Rattle.model.proofs.Lists.{all-at, all_get_d}
use Rattle.model.proofs.ListOf.{length-list_of, list_of-at, list_is}
use Rattle.model.proofs.Sets.{has-below, has_some, set_of_lt, has-set_of, set_same}
use Rattle.model.proofs.Mix.{count_mix}
use Rattle.model.proofs.Pairs.{choose2_mono}
use Rattle.model.proofs.Interval.{span}
use Rattle.model.proofs.Run.{named-lines, low_le, le_high}
use Rattle.model.proofs.Valid.{valid_at, valid_length, valid_map}
use Rattle.placements.specs.Repeated.{repeated}
use Rattle.placements.specs.Good.{GoodLines}
use Rattle.placements.specs.Plans.{best_plan_q}
use Rattle.placements.proofs.Repeated.{repeated-map, all-repeated, all_once}
use Rattle.placements.proofs.Valid.{valid_repeated}
use Rattle.placements.proofs.Plans.{best-pairs-placements, best-placements, best_valid_lines}
use Rattle.goal_rules.specs.Goal.{without, others, joined, reach, goal_tips, strike, Meets, Struck}
use Rattle.goal_rules.specs.Tables.{Solved, Most, Chained, Ends}
use Rattle.model.proofs.Append.{count-replicate, pairs-joined}
use Rattle.goal_rules.proofs.Without.{mix_repeated, all_without, length_without, valid_without, valid_insert}
use Rattle.goal_rules.proofs.Solved.{C_solved, solved_same, split_le}
use Rattle.goal_rules.proofs.Joined.{joined-lines, inside-apart}
use Rattle.goal_rules.proofs.Fast.{more_le, ended_le, reach-found}
use Rattle.goal_rules.proofs.Reach.{reach-most}

module _ {m : ℕ} {qs sets : List ℕ} (good : GoodLines m qs sets) (rs : All (λ s. T (is_run_of (named sets) s)) sets) where
  narrow : m ≤ 64
  narrow = good.most

  same : length qs ≡ length sets
  same = good.same

  pub ls : All (Line (named sets) m) sets
  ls = named-lines narrow good.domains rs

  valid_best : Valid sets (best_plan_q bare m qs sets)
  valid_best = best_valid_lines bare good.domains good.placed same narrow rs

  pairs-best : pairs (repeated qs (best_plan_q bare m qs sets)) ≡ C (repeated qs sets) 0 m
  pairs-best = best-pairs-placements bare good.domains good.placed same narrow rs

  -- THE GOAL IS MISSED exactly when no valid plan has K placement pairs
  pub missed_iff : (K : ℕ) → (C (repeated qs sets) 0 m < K) ↔ ((plan : List ℕ) → Valid sets plan → pairs (repeated qs plan) < K)
  missed_iff K = (
    λ h plan v. omega (arith, best-placements bare good.domains good.placed same narrow rs v, pairs-best),
    λ f. omega (arith, f (best_plan_q bare m qs sets) valid_best, pairs-best),
  )

  -- a plan's pairs, with the placements of line i in front
  front : (plan : List ℕ) (i : ℕ) → length plan ≡ length sets → i < length sets
      → pairs (repeated qs plan) ≡ pairs (replicate (get_or qs i 0) (get_or plan i 0) ++ repeated (without i qs) (without i plan))
  front plan i e l = pairs-joined (mix_repeated qs plan i (omega arith) (omega arith))

  module _ (i t : ℕ) (l : i < length sets) where
    abbrev q : ℕ
    q = get_or qs i 0

    tip-below : T (has (get_or sets i 0) t) → t < m
    tip-below h = has-below m (get_or sets i 0) t (all-at 0 ls i l).domain.below h

    most : T (has (get_or sets i 0) t) → Most (others qs sets i) q t (reach m (others qs sets i) q t)
    most h = reach-most narrow (all-repeated (without i qs) (all_without i ls)) q t (tip-below h) ((all-at 0 ls i l).fits t h)

    -- THE GOAL: some plan with at least K pairs has line i on t exactly when t is of the line's set and reach is at least K
    pub meets_iff : (K : ℕ) → (T (has (get_or sets i 0) t) × (K ≤ reach m (others qs sets i) q t)) ↔ Meets qs sets K i t
    meets_iff K = (into, back)
      where
        into : T (has (get_or sets i 0) t) × (K ≤ reach m (others qs sets i) q t) → Meets qs sets K i t
        into (h, k) =
            let (g, own, e) = (most h).reached in
            let fewer : length (without i qs) ≡ length (without i sets) =
            omega (arith, length_without qs i (omega arith), length_without sets i l) in
            let rest = valid_map g (all_once (all_without i good.placed) (without i sets) fewer own) in
            let (plan, v, at, r) = valid_insert sets i t l h rest in
            let f : pairs (repeated qs plan) ≡ pairs (replicate q t ++ map g (others qs sets i)) =
            rw (at, r, repeated-map) at (front plan i (valid_length v) l) in
            (plan, v, omega arith, at)

        back : Meets qs sets K i t → T (has (get_or sets i 0) t) × (K ≤ reach m (others qs sets i) q t)
        back (plan, v, k, at) =
            let h : T (has (get_or sets i 0) t) = rw at at (valid_at v i l) in
            let b = (most h).bound (valid_repeated (without i qs) (valid_without i v)) in
            (h, omega (arith, rw at at (front plan i (valid_length v) l)))

  module _ (K : ℕ) where
    tips_iff : (i t : ℕ) → i < length sets → T (has (goal_tips m qs sets K i) t) ↔ Meets qs sets K i t
    unfolding goal_tips
    tips_iff i t l =
        let s = get_or sets i 0 in
        let r = reach m (others qs sets i) (get_or qs i 0) t in
        rw (has-set_of (λ u. has s u && leb K (reach m (others qs sets i) (get_or qs i 0) u)) m t) (
          λ x. let y = and_right (ltb t m) (has s t && leb K r) x in
              (meets_iff i t l K).0 (and_left (has s t) (leb K r) y, leb→le K r (and_right (has s t) (leb K r) y)),
          λ p. let (h, k) = (meets_iff i t l K).1 p in
              and_in (ltb t m) (has s t && leb K r) (lt→ltb t m (tip-below i t l h)) (and_in (has s t) (leb K r) h (le→leb K r k)),
        )

    at : (i : ℕ) → i < length sets → get_or (strike m qs sets K) i 0 ≡ goal_tips m qs sets K i
    unfolding strike
    at i l = list_of-at (goal_tips m qs sets K) (length sets) i l

    -- EXACTNESS, where the best plan has at least K pairs
    pub strike_runs : K ≤ C (repeated qs sets) 0 m → Struck m qs sets K (strike m qs sets K)
    unfolding strike goal_tips
    strike_runs k = record {
      same_length = count;
      domains = all_get_d 0 (strike m qs sets K) (λ i l. rw (at i (omega (arith, count))) (domain i (omega (arith, count))));
      own = λ i t l h. ((meets_iff i t l K).1 ((tips_iff i t l).0 (rw (at i l) at h))).0;
      exact = λ i t l. rw (at i l) (tips_iff i t l);
    }
      where
        count : length (strike m qs sets K) ≡ length sets
        count = length-list_of (goal_tips m qs sets K) (length sets)

        plan : List ℕ
        plan = best_plan_q bare m qs sets

        -- the best plan meets the goal
        meets : (i : ℕ) → Meets qs sets K i (get_or plan i 0)
        meets i = (plan, valid_best, omega (arith, pairs-best), refl)

        domain : (i : ℕ) → i < length sets → Domain m (goal_tips m qs sets K i)
        domain i l = record {
          some = has_some (goal_tips m qs sets K i) (get_or plan i 0) ((tips_iff i (get_or plan i 0) l).1 (meets i));
          below = set_of_lt _ m;
        }

  -- the placements of all lines, and those of the others than line i
  module _ (i : ℕ) (l : i < length sets) where
    abbrev s : ℕ
    s = get_or sets i 0

    abbrev rest : List ℕ
    rest = others qs sets i

    abbrev placed : List ℕ
    placed = repeated qs sets

    -- the table of all lines
    abbrev D : ℕ → ℕ → ℕ
    D = C placed

    pub rest_lines : All (Line (named sets) m) rest
    rest_lines = all-repeated (without i qs) (all_without i ls)

    solved : Solved (named sets) m placed D
    solved = C_solved bare m placed (all-repeated qs ls)

    -- what line i adds
    pub inside-placed : (a w c : ℕ) → inside placed a w c ≡ cond (lies a w s && has s c) (get_or qs i 0) 0 + inside rest a w c
    unfolding inside
    inside-placed a w c =
        let f : ℕ → Bool = λ x. lies a w x && has x c in
        omega (arith, count_mix f (mix_repeated qs sets i same l), count-replicate f (get_or qs i 0) s)

    pub fewer : (a w c : ℕ) → inside rest a w c ≤ inside placed a w c
    fewer a w c = omega (arith, inside-placed a w c)

    -- so the table of all lines is at least each split of the others
    pub bounds : (a w j : ℕ) → a + w ≤ m → j < w → split D rest a w j ≤ D a w
    bounds a w j b g = omega (arith, choose2_mono (fewer a w (a + j)), split_le solved (all-repeated qs ls) a w j b g tt)

    module _ (t : ℕ) (h : T (has s t)) where
      abbrev E : ℕ → ℕ → ℕ
      E = C (joined rest (get_or qs i 0) t)

      pub own_tip : T (named sets t)
      own_tip = (all-at 0 ls i l).fits t h

      pub own_below : t < m
      own_below = has-below m s t (all-at 0 ls i l).domain.below h

      -- within an interval without t line i does not lie
      outside_line : (a w : ℕ) → (a ≤ t → t < a + w → ⊥) → (c v u : ℕ) → a ≤ c → c + v ≤ a + w → inside placed c v u ≡ inside rest c v u
      outside_line a w n c v u p r =
          let b = lies c v s && has s u in
          let out : T (lies c v s) → ⊥ = λ k.
          let e = span c v s k in n (omega (arith, low_le s t h)) (omega (arith, le_high narrow (all-at 0 ls i l).domain t h)) in
          let z = not_T b (λ k. out (and_left (lies c v s) (has s u) k)) in
          omega (arith, inside-placed c v u, ap (λ x. cond x (get_or qs i 0) 0) (false_T b z))

      pub reached : Solved (named sets) m (joined rest (get_or qs i 0) t) E
      reached = C_solved bare m (joined rest (get_or qs i 0) t) (joined-lines narrow rest_lines (get_or qs i 0) t own_below own_tip)

      -- so the table of all lines serves there
      pub apart : (a w : ℕ) → a + w ≤ m → (a ≤ t → t < a + w → ⊥) → E a w ≡ D a w
      apart a w b n = solved_same reached solved a w b (λ c v u p r.
          inside-apart rest (get_or qs i 0) t narrow own_below a w n c v u p r ∙ sym (outside_line a w n c v u p r))

    -- THE GOAL'S TIPS BY TWO TABLES, where an interval is open if a chain through it can have K pairs
    module _ (K : ℕ) (is_open : ℕ → ℕ → ℕ → Bool) (t : ℕ)
        (opens : (a w outside : ℕ) → T (has s t) → a ≤ t → t < a + w → a + w ≤ m
        → K ≤ outside + (D a w + (get_or qs i 0 * inside rest a w t + choose2 (get_or qs i 0))) → T (is_open a w outside)) where
      pub tips-by_tables : T (has (goal_tips m qs sets K i) t) ↔ (T (has s t) × Ends is_open m D rest (get_or qs i 0) K t)
      unfolding goal_tips
      tips-by_tables =
          let r = reach m rest (get_or qs i 0) t in
          rw (has-set_of (λ u. has s u && leb K (reach m rest (get_or qs i 0) u)) m t) (
            λ x. let y = and_right (ltb t m) (has s t && leb K r) x in
                let h = and_left (has s t) (leb K r) y in
                (h, found h (leb→le K r (and_right (has s t) (leb K r) y))),
            λ (h, e). and_in (ltb t m) (has s t && leb K r) (lt→ltb t m (own_below t h)) (and_in (has s t) (leb K r) h (le→leb K r (met h e))),
          )
        where
          found : T (has s t) → K ≤ reach m rest (get_or qs i 0) t → Ends is_open m D rest (get_or qs i 0) K t
          found h = reach-found narrow rest_lines (get_or qs i 0) t (own_below t h) (own_tip t h) (reached t h) (apart t h) is_open K (λ a w p r b k.
              opens a w (Chained is_open m D rest a w) h p r b (omega (
                arith,
                more_le narrow rest_lines (get_or qs i 0) t (own_below t h) (own_tip t h) (reached t h) (apart t h) bounds a w p r b,
              )))

          met : T (has s t) → Ends is_open m D rest (get_or qs i 0) K t → K ≤ reach m rest (get_or qs i 0) t
          met h (a, w, j, e, g, b, _, k) = omega (
            arith,
            ended_le narrow rest_lines (get_or qs i 0) t (own_below t h) (own_tip t h) (reached t h) (apart t h) is_open a w j e g b,
          )

-- A GOAL OF NO PAIRS STRIKES NOTHING
pub goal_of_none : (m : ℕ) (qs : List ℕ) {sets : List ℕ} → All (Domain m) sets → strike m qs sets 0 ≡ sets
unfolding strike goal_tips
goal_of_none m qs {sets} ds = sym (list_is (goal_tips m qs sets 0) (length sets) sets refl (λ i l. set_same _ _ (λ t. same i t l)))
  where
    same : (i t : ℕ) → i < length sets → has (get_or sets i 0) t ≡ has (goal_tips m qs sets 0 i) t
    same i t l =
        let s = get_or sets i 0 in
        let r = reach m (others qs sets i) (get_or qs i 0) t in
        rw (has-set_of (λ u. has s u && leb 0 (reach m (others qs sets i) (get_or qs i 0) u)) m t) (same_test _ _
        (λ h. and_in (ltb t m) (has s t && leb 0 r) (lt→ltb t m (has-below m s t (all-at 0 ds i l).below h))
        (and_in (has s t) (leb 0 r) h (le→leb 0 r (omega arith))))
        (λ x. and_left (has s t) (leb 0 r) (and_right (ltb t m) (has s t && leb 0 r) x)))
