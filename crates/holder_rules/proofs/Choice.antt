-- One tip or two for all lines: when they are a choice, and that no plan on one tip or two has more pairs than some choice.
use Prim.Native.Nat.{ℕ, zero, suc, ◌+◌, ◌-◌, ◌≤◌, ◌<◌}
use native.Mathlib.Omega.{arith}
use mathlib.Core.Path.{◌≡◌, ap, sym, ◌∙◌}
use mathlib.Core.Logic.{◌↔◌, ◌⊎◌, inl, inr, ⊎_elim}
use mathlib.Core.Bool.{Bool, not, ◌&&◌, ◌||◌}
use mathlib.Core.List.{List, [], ◌∷◌}
use lib.ListN.{length}
use lib.Dec.{T, T_not, leb, ltb, eqb, eqb→eq, eqb_refl, leb→le, le→leb, ltb→lt, lt→ltb}
use Rattle.model.specs.Count.{count, All, none, more}
use Rattle.model.specs.Plan.{has, occ, uses, Valid, empty, line, pairs, choose2}
use Rattle.model.proofs.Tests.{le_or_lt, test, false_T, one_le, and_left, and_right, and_in}
use Rattle.model.proofs.Lists.{all_map, length-select, select-all}
use Rattle.model.proofs.Pairs.{choose2_square}
use Rattle.model.proofs.Valid.{valid_length}
use Rattle.holder_rules.specs.Holders.{serves, gathered, two_plan, is_choice, OnTips}
use Rattle.holder_rules.proofs.Two.{On, pairs-one, pairs-two, or_out, or_in, Served, serves_iff, on_swap, valid_served}
use Rattle.holder_rules.proofs.Two.{gathered-pairs, two_pairs, two_valid, two_on, two-most}

-- each passes, or some do not
all_or : (f : ℕ → Bool) (xs : List ℕ) → All (λ x. T (f x)) xs ⊎ (0 < count (λ x. not (f x)) xs)
unfolding count
all_or f [] = inl none
all_or f (x ∷ xs) =
    ⊎_elim
    (λ t. ⊎_elim (λ a. inl (more t a)) (λ h. inr (omega arith)) (all_or f xs))
    (λ n. inr (rw (false_T (f x) n) (omega arith)))
    (test (f x))

-- the lines without u are on v
lacks_le : {u v : ℕ} {lines plan : List ℕ} → Valid lines plan → On u v plan → count (λ s. not (has s u)) lines ≤ uses plan v
unfolding count uses
lacks_le empty none = omega arith
lacks_le {u} {v} (line {s} {t} h w) (more p ps) = omega (
  arith,
  one_le (not (has s u)) (eqb v t) (λ n. ⊎_elim (λ e. absurd (T_not (has s u) n (rw e at h))) (λ e. rw e (eqb_refl v)) p),
  lacks_le w ps,
)

-- where each line has x, it counts them all
pub count-all : (x : ℕ) {lines : List ℕ} → All (λ s. T (has s x)) lines → occ lines x ≡ length lines
unfolding occ
count-all x {lines} h = sym (length-select (λ s. has s x) lines) ∙ ap length (select-all (λ s. has s x) h)

-- two counts together have more pairs
apart_less : (a b : ℕ) → 0 < a → 0 < b → choose2 a + choose2 b < choose2 (a + b)
apart_less zero b p q = absurd (omega arith)
apart_less (suc a) zero p q = absurd (omega arith)
apart_less (suc a) (suc b) p q = omega (arith, choose2_square (suc a), choose2_square (suc b), choose2_square (suc a + suc b))

-- what a choice is
pub choice_iff : (lines : List ℕ) (u v : ℕ)
    → T (is_choice lines u v) ↔ ((u ≤ v) × Served lines u v × (u < v → (0 < uses (two_plan lines u v) u) × (0 < uses (two_plan lines u v) v)))
unfolding is_choice
choice_iff lines u v = (into, back)
  where
    x : ℕ
    x = uses (two_plan lines u v) u

    y : ℕ
    y = uses (two_plan lines u v) v

    both : Bool
    both = eqb u v || (ltb 0 x && ltb 0 y)

    into : T (leb u v && (serves lines u v && both)) → (u ≤ v) × Served lines u v × (u < v → (0 < x) × (0 < y))
    into c =
        let d = and_right (leb u v) (serves lines u v && both) c in
        let e = or_out (eqb u v) (ltb 0 x && ltb 0 y) (and_right (serves lines u v) both d) in (
          leb→le u v (and_left (leb u v) (serves lines u v && both) c),
          (serves_iff lines u v).0 (and_left (serves lines u v) both d),
          λ l. ⊎_elim
              (λ s. absurd (omega (arith, eqb→eq u v s)))
              (λ s. (ltb→lt 0 x (and_left (ltb 0 x) (ltb 0 y) s), ltb→lt 0 y (and_right (ltb 0 x) (ltb 0 y) s)))
              e,
        )

    back : (u ≤ v) × Served lines u v × (u < v → (0 < x) × (0 < y)) → T (leb u v && (serves lines u v && both))
    back (l, a, f) =
        let used : T both = ⊎_elim
        (λ h. let e : u ≡ v = omega arith in or_in (eqb u v) (ltb 0 x && ltb 0 y) (inl (rw e (eqb_refl v))))
        (λ h. let (p, q) = f h in or_in (eqb u v) (ltb 0 x && ltb 0 y) (inr (and_in (ltb 0 x) (ltb 0 y) (lt→ltb 0 x p) (lt→ltb 0 y q))))
        (le_or_lt v u) in
        and_in (leb u v) (serves lines u v && both) (le→leb u v l) (and_in (serves lines u v) both ((serves_iff lines u v).1 a) used)

module _ {lines : List ℕ} where
  -- a tip that each line has is a choice, with all lines on it
  pub one_choice : (z : ℕ) → All (λ s. T (has s z)) lines → T (is_choice lines z z) × (pairs (two_plan lines z z) ≡ choose2 (length lines))
  one_choice z a =
      let served : Served lines z z = all_map (λ s. inl) a in (
        (choice_iff lines z z).1 (omega arith, served, λ l. absurd (omega arith)),
        (pairs-one (all_map (λ t. ⊎_elim (λ e. e) (λ e. e)) (two_on lines z z))).0 ∙ ap choose2 (valid_length (two_valid lines z z served)),
      )

  -- of two different tips that serve each line, one is in each line, or each is needed and they are a choice
  pub kinds : (x y : ℕ) → x < y → Served lines x y → All (λ s. T (has s x)) lines ⊎ (All (λ s. T (has s y)) lines ⊎ T (is_choice lines x y))
  kinds x y l a =
      ⊎_elim inl
      (λ p. inr (⊎_elim inl (λ q. inr ((choice_iff lines x y).1 (
        omega arith,
        a,
        λ _. (
          omega (arith, lacks_le (two_valid lines x y a) (on_swap (two_on lines x y))),
          omega (arith, lacks_le (two_valid lines x y a) (two_on lines x y)),
        ),
      ))) (all_or (λ s. has s y) lines)))
      (all_or (λ s. has s x) lines)

  -- a choice of two different tips: some line lacks u, and some line lacks v
  pub choice_lacks : (u v : ℕ) → u < v → Served lines u v
      → T (is_choice lines u v) ↔ ((0 < count (λ s. not (has s u)) lines) × (0 < count (λ s. not (has s v)) lines))
  choice_lacks u v l a = (
    λ c. let (_, _, f) = (choice_iff lines u v).0 c in
        let (p, q) = f l in (
          ⊎_elim
              (λ h. absurd (alone u v (λ e. omega arith) h p q (two_pairs lines u v).0 (two_on lines u v)))
              (λ h. h)
              (all_or (λ s. has s u) lines),
          ⊎_elim
              (λ h. absurd (alone v u (λ e. omega arith) h q p (two_pairs lines u v).1 (on_swap (two_on lines u v))))
              (λ h. h)
              (all_or (λ s. has s v) lines),
        ),
    λ (p, q). (choice_iff lines u v).1 (
      omega arith,
      a,
      λ _. (
        omega (arith, lacks_le (two_valid lines u v a) (on_swap (two_on lines u v))),
        omega (arith, lacks_le (two_valid lines u v a) (two_on lines u v)),
      ),
    ),
  )
    where
      size : length (two_plan lines u v) ≡ length lines
      size = valid_length (two_valid lines u v a)

      -- where each line has x, a plan with the most pairs uses no other tip
      alone : (x y : ℕ) → (x ≡ y → ⊥) → All (λ s. T (has s x)) lines → 0 < uses (two_plan lines u v) x → 0 < uses (two_plan lines u v) y
          → pairs (gathered lines x y) ≤ pairs (two_plan lines u v) → On x y (two_plan lines u v) → ⊥
      alone x y n h p q g on =
          let (e, s) = pairs-two n on in
          let full : occ lines x ≡ length lines = count-all x h in
          let z : length lines - occ lines x ≡ 0 = omega arith in
          let less = apart_less (uses (two_plan lines u v) x) (uses (two_plan lines u v) y) p q in
          omega (arith, gathered-pairs lines n, ap choose2 (s ∙ size), ap choose2 full)

  -- no plan on one tip or two has more pairs than its tips as a choice; or else some one tip has more
  pub covered : {m x y : ℕ} {other : List ℕ} → y < m → Valid lines other → OnTips x y other
      → (T (is_choice lines x y) × (pairs other ≤ pairs (two_plan lines x y)))
      ⊎ ((z : ℕ) × (z < m) × T (is_choice lines z z) × (pairs other < pairs (two_plan lines z z)))
  covered {m} {x} {y} {other} b w o = ⊎_elim same two (le_or_lt y x)
    where
      Goal : Type 0
      Goal = (T (is_choice lines x y) × (pairs other ≤ pairs (two_plan lines x y)))
          ⊎ ((z : ℕ) × (z < m) × T (is_choice lines z z) × (pairs other < pairs (two_plan lines z z)))

      same : y ≤ x → Goal
      same h =
          let e : y ≡ x = omega (arith, o.ordered) in
          let on : On x x other = rw e at o.on in
          let (c, p) = one_choice x (all_map (λ s. ⊎_elim (λ t. t) (λ t. t)) (valid_served w on)) in
          let q = (pairs-one (all_map (λ t. ⊎_elim (λ e. e) (λ e. e)) on)).0 in
          rw e (inl (c, omega (arith, ap choose2 (valid_length w))))

      more_on : x < y → (z : ℕ) → z < m → All (λ s. T (has s z)) lines → Goal
      more_on h z k a =
          let (c, p) = one_choice z a in
          let (q, n) = pairs-two (λ e. omega arith) o.on in
          let f = o.used h in
          inr (z, k, c, omega (arith, apart_less (uses other x) (uses other y) f.0 f.1, ap choose2 (n ∙ valid_length w)))

      two : x < y → Goal
      two h =
          ⊎_elim (more_on h x (omega arith))
          (⊎_elim (more_on h y b) (λ c. inl (c, two-most lines x y (λ e. omega arith) w o.on)))
          (kinds x y h (valid_served w o.on))
