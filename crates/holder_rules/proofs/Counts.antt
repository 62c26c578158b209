-- The score of two tips by counts: how many placements have u, how many have v, and how many there are.
use Prim.Native.Nat.{ℕ, ◌+◌, ◌*◌, ◌-◌, ◌≤◌, ◌<◌, max}
use native.Mathlib.Omega.{arith}
use mathlib.Core.Path.{◌≡◌, refl, ap, sym, ◌∙◌}
use mathlib.Core.Logic.{◌⊎◌, inl, inr, ⊎_elim}
use mathlib.Core.Bool.{Bool, true, false, not, cond, ◌&&◌, ◌||◌}
use mathlib.Core.List.{List, [], ◌∷◌}
use lib.Arith.{digits_div, digits_mod}
use lib.ListN.{length}
use lib.Dec.{T, T_not, leb, ltb, eqb, eqb→eq, eqb_refl, ltb→lt, lt→ltb, leb→le, nleb→lt}
use Rattle.model.specs.Count.{count}
use Rattle.model.specs.Plan.{has, occ, pairs, choose2}
use Rattle.model.proofs.Tests.{le_or_lt, test, false_not, same_test, and_left, and_right, and_in, cond_case}
use Rattle.model.proofs.Lists.{all_map}
use Rattle.model.proofs.Pairs.{choose2_square}
use Rattle.model.proofs.Valid.{valid_length}
use Rattle.holder_rules.specs.Holders.{gathered, to_first, two_plan, is_choice, score, side_pairs, score_by}
use Rattle.holder_rules.proofs.Two.{pairs-one, or_in, or_out, Served, served_swap, gathered_valid, gathered_on, gathered-pairs}
use Rattle.holder_rules.proofs.Choice.{count-all, choice_iff, choice_lacks}

-- the lines without a tip, and those that have it
lacking : (u : ℕ) (lines : List ℕ) → count (λ s. not (has s u)) lines + occ lines u ≡ length lines
unfolding occ count
lacking u [] = refl
lacking u (s ∷ lines) = omega (arith, one (has s u), lacking u lines)
  where
    one : (b : Bool) → cond (not b) 1 0 + cond b 1 0 ≡ 1
    one true = refl
    one false = refl

cond-pairs : (b : Bool) (p q : List ℕ) → pairs (cond b p q) ≡ cond b (pairs p) (pairs q)
cond-pairs true p q = refl
cond-pairs false p q = refl

module _ (lines : List ℕ) (u v : ℕ) (served : Served lines u v) where
  abbrev n : ℕ
  n = length lines

  -- the pairs of the plan that gathers on u: on two different tips, and on one
  side-pairs : pairs (gathered lines u v) ≡ side_pairs n (occ lines u)
  unfolding side_pairs
  side-pairs = ⊎_elim same (λ d. gathered-pairs lines d) (apart u v)
    where
      apart : (u v : ℕ) → (u ≡ v) ⊎ (u ≡ v → ⊥)
      apart u v = ⊎_elim (λ t. inl (eqb→eq u v t)) (λ t. inr (λ e. absurd (T_not (eqb u v) t (rw e (eqb_refl v))))) (test (eqb u v))

      same : u ≡ v → pairs (gathered lines u v) ≡ choose2 (occ lines u) + choose2 (n - occ lines u)
      same e =
          let full : occ lines u ≡ n = count-all u (all_map (λ s. ⊎_elim (λ t. t) (λ t. rw e t)) served) in
          let rest : n - occ lines u ≡ 0 = omega arith in
          let one = (pairs-one (all_map (λ t. ⊎_elim (λ z. z) (λ z. z ∙ sym e)) (gathered_on lines u v))).0 in
          omega (arith, one, ap choose2 (valid_length (gathered_valid u v served)), ap choose2 full, ap choose2 rest, choose2_square 0)

module _ (lines : List ℕ) (u v : ℕ) (served : Served lines u v) where
  abbrev total : ℕ
  total = length lines

  abbrev to_u : ℕ
  to_u = side_pairs total (occ lines u)

  abbrev to_v : ℕ
  to_v = side_pairs total (occ lines v)

  -- the side for the lines that have both
  pub first_by : to_first lines u v ≡ leb to_v to_u
  unfolding to_first
  first_by = rw (side-pairs lines u v served, side-pairs lines v u (served_swap u v served))

  two-by : pairs (two_plan lines u v) ≡ max to_u to_v
  unfolding two_plan
  two-by =
      cond-pairs (to_first lines u v) (gathered lines u v) (gathered lines v u)
      ∙ rw (first_by, side-pairs lines u v served, side-pairs lines v u (served_swap u v served))
      (cond_case (λ x. x ≡ max to_u to_v) (leb to_v to_u) (λ t. omega (arith, leb→le to_v to_u t)) (λ t. omega (arith, nleb→lt to_v to_u t)))

  -- which tips are a choice
  choice-by : u ≤ v → is_choice lines u v ≡ (eqb u v || (ltb (occ lines u) total && ltb (occ lines v) total))
  choice-by l = same_test (is_choice lines u v) (eqb u v || (ltb (occ lines u) total && ltb (occ lines v) total)) into back
    where
      few : ℕ → Bool
      few t = ltb (occ lines t) total

      into : T (is_choice lines u v) → T (eqb u v || (few u && few v))
      into c = ⊎_elim
          (λ h. let e : u ≡ v = omega arith in or_in (eqb u v) (few u && few v) (inl (rw e (eqb_refl v))))
          (λ h. let (p, q) = (choice_lacks u v h served).0 c in
          or_in (eqb u v) (few u && few v) (inr (and_in (few u) (few v)
          (lt→ltb (occ lines u) total (omega (arith, lacking u lines))) (lt→ltb (occ lines v) total (omega (arith, lacking v lines))))))
          (le_or_lt v u)

      back : T (eqb u v || (few u && few v)) → T (is_choice lines u v)
      back c = ⊎_elim
          (λ h. (choice_iff lines u v).1 (l, served, λ g. absurd (omega arith)))
          (λ h. ⊎_elim (λ t. absurd (omega (arith, eqb→eq u v t)))
          (λ t. (choice_lacks u v h served).1 (
            omega (arith, lacking u lines, ltb→lt (occ lines u) total (and_left (few u) (few v) t)),
            omega (arith, lacking v lines, ltb→lt (occ lines v) total (and_right (few u) (few v) t)),
          ))
          (or_out (eqb u v) (few u && few v) c))
          (le_or_lt v u)

  -- THE SCORE of tips that serve every line
  pub score-served : {m : ℕ} → v < m → u ≤ v → score m lines (u * m + v) ≡ score_by (eqb u v) total (occ lines u) (occ lines v)
  unfolding score score_by
  score-served b l = rw (digits_div u b, digits_mod u b, choice-by l, two-by)

-- tips that do not serve every line, or are not in order, are no choice
pub score_unserved : {m : ℕ} (lines : List ℕ) (u v : ℕ) → v < m → (Served lines u v → ⊥) → score m lines (u * m + v) ≡ 0
unfolding score
score_unserved lines u v b n = rw (digits_div u b, digits_mod u b, false_not (is_choice lines u v) (λ c. n ((choice_iff lines u v).0 c).1))

pub score-below : {m : ℕ} (lines : List ℕ) (u v : ℕ) → v < m → v < u → score m lines (u * m + v) ≡ 0
unfolding score
score-below lines u v b l = rw (digits_div u b, digits_mod u b, false_not (is_choice lines u v) (λ c. omega (arith, ((choice_iff lines u v).0 c).0)))
