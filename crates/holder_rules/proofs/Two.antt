-- Plans on two tips: their pairs, and the two plans that gather on one of them, of which one has the most.
use Prim.Native.Nat.{ℕ, suc, ◌+◌, ◌-◌, ◌≤◌}
use native.Mathlib.Omega.{arith}
use mathlib.Core.Path.{◌≡◌, refl, ap, sym, ◌∙◌}
use mathlib.Core.Logic.{◌↔◌, ◌⊎◌, inl, inr, ⊎_elim}
use mathlib.Core.Bool.{Bool, true, false, cond, ◌||◌}
use mathlib.Core.List.{List, [], ◌∷◌}
use lib.ListN.{length, length-map}
use lib.Dec.{T, T_not, leb, leb→le, nleb→lt}
use store.Seg.{eqb_same}
use borrow.Author.Tests.{ne_eqb}
use Rattle.model.specs.Count.{count, All, none, more}
use Rattle.model.specs.Plan.{has, occ, uses, Valid, empty, line, pairs, choose2, prefer}
use Rattle.model.proofs.Tests.{le_or_lt, test, true_T, false_T, cond_case}
use Rattle.model.proofs.Lists.{all, all_map, all-mapped, each_iff}
use Rattle.model.proofs.Pairs.{choose2_square}
use Rattle.model.proofs.Valid.{valid_map, valid_length, uses_le}
use Rattle.holder_rules.specs.Holders.{serves, gathered, to_first, two_plan}

-- each tip of the plan is u or v
abbrev pub On : ℕ → ℕ → List ℕ → Type 0
On u v plan = All (λ t. (t ≡ u) ⊎ (t ≡ v)) plan

pub uses_nil : (t : ℕ) → uses [] t ≡ 0
unfolding uses count
uses_nil t = refl

pub uses_on : {x t : ℕ} (plan : List ℕ) → x ≡ t → uses (x ∷ plan) t ≡ suc (uses plan t)
unfolding uses count
uses_on {t} plan e = rw (e, eqb_same t) (omega arith)

pub uses-off : (x t : ℕ) (plan : List ℕ) → (t ≡ x → ⊥) → uses (x ∷ plan) t ≡ uses plan t
unfolding uses count
uses-off x t plan n = rw (ne_eqb t x n) (omega arith)

-- a plan on one tip
pub pairs-one : {u : ℕ} {plan : List ℕ} → All (λ t. t ≡ u) plan → (pairs plan ≡ choose2 (length plan)) × (uses plan u ≡ length plan)
unfolding pairs
pairs-one {u} none = (omega (arith, choose2_square 0), uses_nil u)
pairs-one (more {x} {xs} e ps) =
    let (p, n) = pairs-one ps in
    (omega (arith, choose2_square (length xs), choose2_square (suc (length xs)), ap (uses xs) e), omega (arith, uses_on xs e))

module _ {u v : ℕ} (apart : u ≡ v → ⊥) where
  -- a plan on two tips
  pub pairs-two : {plan : List ℕ} → On u v plan
      → (pairs plan ≡ choose2 (uses plan u) + choose2 (uses plan v)) × (uses plan u + uses plan v ≡ length plan)
  unfolding pairs
  pairs-two none = rw (uses_nil u, uses_nil v) (omega (arith, choose2_square 0), refl)
  pairs-two (more {x} {xs} p ps) = ⊎_elim (on_u (pairs-two ps)) (on_v (pairs-two ps)) p
    where
      Goal : Type 0
      Goal = (uses xs x + pairs xs ≡ choose2 (uses (x ∷ xs) u) + choose2 (uses (x ∷ xs) v)) × (uses (x ∷ xs) u + uses (x ∷ xs) v ≡ suc (length xs))

      on_u : (pairs xs ≡ choose2 (uses xs u) + choose2 (uses xs v)) × (uses xs u + uses xs v ≡ length xs) → x ≡ u → Goal
      on_u h e =
          let f = uses_on xs e in
          let g = uses-off x v xs (λ z. apart (sym (z ∙ e))) in
          rw (f, g) (omega (arith, choose2_square (uses xs u), choose2_square (suc (uses xs u)), ap (uses xs) e))

      on_v : (pairs xs ≡ choose2 (uses xs u) + choose2 (uses xs v)) × (uses xs u + uses xs v ≡ length xs) → x ≡ v → Goal
      on_v h e =
          let f = uses_on xs e in
          let g = uses-off x u xs (λ z. apart (z ∙ e)) in
          rw (f, g) (omega (arith, choose2_square (uses xs v), choose2_square (suc (uses xs v)), ap (uses xs) e))

-- of two counts with the same sum, those further apart have more pairs
spread : (b d e : ℕ) → choose2 (b + d + e) + choose2 (b + d) ≤ choose2 (b + d + e + d) + choose2 b
spread b d e = omega (arith, choose2_square (b + d + e), choose2_square (b + d), choose2_square (b + d + e + d), choose2_square b)

pub spread_le : (x y c d : ℕ) → x + y ≡ c + d → y ≤ x → x ≤ c → choose2 x + choose2 y ≤ choose2 c + choose2 d
spread_le x y c d e l h =
    let p : d + (c - x) ≡ y = omega arith in
    let q : d + (c - x) + (x - y) ≡ x = omega arith in
    let r : d + (c - x) + (x - y) + (c - x) ≡ c = omega arith in
    omega (arith, spread d (c - x) (x - y), ap choose2 p, ap choose2 q, ap choose2 r)

-- ---- lines that have one of two tips

pub or_out : (a b : Bool) → T (a || b) → T a ⊎ T b
or_out true b t = inl tt
or_out false b t = inr t

pub or_in : (a b : Bool) → T a ⊎ T b → T (a || b)
or_in true b t = tt
or_in false b (inl t) = absurd t
or_in false b (inr t) = t

abbrev pub Served : List ℕ → ℕ → ℕ → Type 0
Served lines u v = All (λ s. T (has s u) ⊎ T (has s v)) lines

pub serves_iff : (lines : List ℕ) (u v : ℕ) → T (serves lines u v) ↔ Served lines u v
unfolding serves
serves_iff lines u v = (
  λ x. all_map (λ s. or_out (has s u) (has s v)) ((each_iff (λ s. has s u || has s v) lines).0 x),
  λ a. (each_iff (λ s. has s u || has s v) lines).1 (all_map (λ s. or_in (has s u) (has s v)) a),
)

swap : {A B : Type 0} → A ⊎ B → B ⊎ A
swap = ⊎_elim inr inl

pub served_swap : {lines : List ℕ} (u v : ℕ) → Served lines u v → Served lines v u
served_swap u v = all_map (λ s. swap)

pub on_swap : {plan : List ℕ} {u v : ℕ} → On u v plan → On v u plan
on_swap = all_map (λ t. swap)

-- the lines of a valid plan on two tips each have one
pub valid_served : {lines plan : List ℕ} {u v : ℕ} → Valid lines plan → On u v plan → Served lines u v
valid_served empty none = none
valid_served {u} {v} (line {s} {t} h w) (more p ps) = more (⊎_elim (λ e. inl (rw e at h)) (λ e. inr (rw e at h)) p) (valid_served w ps)

-- ---- the plans that gather on u, and on v

pub gathered_valid : {lines : List ℕ} (u v : ℕ) → Served lines u v → Valid lines (gathered lines u v)
unfolding gathered
gathered_valid u v a = valid_map (prefer u (λ s. v)) (all_map (λ s. own s) a)
  where
    own : (s : ℕ) → T (has s u) ⊎ T (has s v) → T (has s (cond (has s u) u v))
    own s p = cond_case (λ t. T (has s t)) (has s u) (λ y. y) (λ n. ⊎_elim (λ y. absurd (T_not (has s u) n y)) (λ y. y) p)

pub gathered_on : (lines : List ℕ) (u v : ℕ) → On u v (gathered lines u v)
unfolding gathered
gathered_on lines u v =
    all-mapped (prefer u (λ s. v)) (all (λ s. cond_case (λ t. (t ≡ u) ⊎ (t ≡ v)) (has s u) (λ _. inl refl) (λ _. inr refl)) lines)

gathered-uses : (lines : List ℕ) {u v : ℕ} → (u ≡ v → ⊥) → uses (gathered lines u v) u ≡ occ lines u
unfolding gathered occ count
gathered-uses [] {u} n = uses_nil u
gathered-uses (s ∷ lines) {u} {v} n =
    let ih : uses (gathered lines u v) u ≡ occ lines u = gathered-uses lines n in
    ⊎_elim
    (λ y. rw (true_T (has s u) y) (omega (arith, uses_on {t = u} (gathered lines u v) refl)))
    (λ y. rw (false_T (has s u) y) (omega (arith, uses-off v u (gathered lines u v) n)))
    (test (has s u))

-- THE COUNTS: the lines that have u, and the others
pub gathered-pairs : (lines : List ℕ) {u v : ℕ} → (u ≡ v → ⊥)
    → pairs (gathered lines u v) ≡ choose2 (occ lines u) + choose2 (length lines - occ lines u)
unfolding gathered
gathered-pairs lines {u} {v} n =
    let (p, s) = pairs-two n (gathered_on lines u v) in
    let a = gathered-uses lines n in
    let b : uses (gathered lines u v) v ≡ length lines - occ lines u = omega (arith, length-map lines (prefer u (λ s. v))) in
    omega (arith, ap choose2 a, ap choose2 b)

-- what holds of both holds of the better one, and its pairs are at least those of both
module _ (lines : List ℕ) (u v : ℕ) where
  two_case : (P : List ℕ → Type 0) → P (gathered lines u v) → P (gathered lines v u) → P (two_plan lines u v)
  unfolding two_plan
  two_case P p q = cond_case P (to_first lines u v) (λ _. p) (λ _. q)

  pub two_pairs : (pairs (gathered lines u v) ≤ pairs (two_plan lines u v)) × (pairs (gathered lines v u) ≤ pairs (two_plan lines u v))
  unfolding two_plan to_first
  two_pairs =
      let p = pairs (gathered lines u v) in
      let q = pairs (gathered lines v u) in
      cond_case (λ x. (p ≤ pairs x) × (q ≤ pairs x)) (leb q p) (λ y. omega (arith, leb→le q p y)) (λ n. omega (arith, nleb→lt q p n))

  pub two_valid : Served lines u v → Valid lines (two_plan lines u v)
  two_valid a = two_case (Valid lines) (gathered_valid u v a) (gathered_valid v u (served_swap u v a))

  pub two_on : On u v (two_plan lines u v)
  two_on = two_case (On u v) (gathered_on lines u v) (on_swap (gathered_on lines v u))

  -- no valid plan on the two tips has more pairs: the pairs of two counts are most where one of them is as large as can be
  pub two-most : {plan : List ℕ} → (u ≡ v → ⊥) → Valid lines plan → On u v plan → pairs plan ≤ pairs (two_plan lines u v)
  two-most {plan} n w on =
      let k : v ≡ u → ⊥ = λ e. n (sym e) in
      let (p, a) = pairs-two n on in
      let (p1, a1) = pairs-two n (gathered_on lines u v) in
      let (p2, a2) = pairs-two k (gathered_on lines v u) in
      let l1 = valid_length (gathered_valid u v (valid_served w on)) in
      let l2 = valid_length (gathered_valid v u (served_swap u v (valid_served w on))) in
      ⊎_elim
      (λ h. omega (
        arith,
        spread_le (uses plan u) (uses plan v) (uses (gathered lines u v) u) (uses (gathered lines u v) v)
            (omega (arith, valid_length w)) h (omega (arith, gathered-uses lines n, uses_le w u)),
        two_pairs,
      ))
      (λ h. omega (
        arith,
        spread_le (uses plan v) (uses plan u) (uses (gathered lines v u) v) (uses (gathered lines v u) u)
            (omega (arith, valid_length w)) (omega arith) (omega (arith, gathered-uses lines k, uses_le w v)),
        two_pairs,
      ))
      (le_or_lt (uses plan v) (uses plan u))
