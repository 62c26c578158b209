-- The lines that lie within a set of tips, and what is left of them without those that allow one of its tips.
use Prim.Native.Nat.{ℕ, ◌-◌, ◌^◌, ◌≤◌}
use native.Mathlib.Omega.{arith}
use mathlib.Core.Path.{◌≡◌, refl, ap, sym, ◌∙◌}
use mathlib.Core.Logic.{⊎_elim}
use mathlib.Core.Bool.{Bool, not, ◌&&◌}
use mathlib.Core.List.{List}
use lib.Dec.{T, T_not, not_T, eqb, eqb→eq}
use lib.ListN.{length}
use Rattle.model.specs.Count.{select, All, none, more}
use Rattle.model.specs.Plan.{has, occ, Domain}
use Rattle.model.specs.CommonTip.{covers}
use Rattle.model.specs.Greedy.{rest}
use Rattle.model.proofs.Tests.{test, eqb_T, same_test, and_left, and_right, and_in}
use Rattle.model.proofs.Lists.{all_map, all_both, all-select, length-select, select-select, select-all}
use Rattle.model.proofs.Mix.{mix_select, length_mix}
use Rattle.model.proofs.Sets.{has_some, some_tip, covers_iff}
use Rattle.subset_rules.specs.Subsets.{lying}
use Rattle.subset_rules.proofs.Drop.{drop_own, drop_other}

pub select_cong : {A : Type 0} {f g : A → Bool} {xs : List A} → All (λ x. f x ≡ g x) xs → select f xs ≡ select g xs
unfolding select
select_cong none = refl
select_cong (more {x} e es) = rw (e, select_cong es)

-- the lines that lie within u
abbrev pub held : ℕ → List ℕ → ℕ → List ℕ
held m lines u = select (covers m u) lines

-- a line lies within the set left exactly when it lies within u and does not allow the tip
module _ {m s : ℕ} (d : Domain m s) (u t : ℕ) (h : T (has u t)) where
  abbrev in_whole : T (covers m u s) → (v : ℕ) → T (has s v) → T (has u v)
  in_whole = (covers_iff m u s d.below).0

  abbrev in_left : T (covers m (u - 2 ^ t) s) → (v : ℕ) → T (has s v) → T (has (u - 2 ^ t) v)
  in_left = (covers_iff m (u - 2 ^ t) s d.below).0

  kept : (v : ℕ) → T (has (u - 2 ^ t) v) → T (has u v)
  kept v g = ⊎_elim (λ e. rw (eqb→eq v t e) h) (λ n. rw (drop_other u t v h (λ e. T_not (eqb v t) n (eqb_T v t e))) at g) (test (eqb v t))

  pub covers-drop : covers m (u - 2 ^ t) s ≡ (covers m u s && not (has s t))
  covers-drop =
      same_test (covers m (u - 2 ^ t) s) (covers m u s && not (has s t))
      (λ c. and_in (covers m u s) (not (has s t))
      ((covers_iff m u s d.below).1 (λ v g. kept v (in_left c v g)))
      (not_T (has s t) (λ g. rw (drop_own u t h) at (in_left c t g))))
      (λ b. (covers_iff m (u - 2 ^ t) s d.below).1 (λ v g. stays b v g))
    where
      stays : T (covers m u s && not (has s t)) → (v : ℕ) → T (has s v) → T (has (u - 2 ^ t) v)
      stays b v g =
          let apart : v ≡ t → ⊥ = λ e. T_not (has s t) (and_right (covers m u s) (not (has s t)) b) (rw e at g) in
          rw (drop_other u t v h apart) (in_whole (and_left (covers m u s) (not (has s t)) b) v g)

module _ {m : ℕ} {lines : List ℕ} (ds : All (Domain m) lines) where
  -- the lines left are those that lie within the set left
  pub held-rest : (u t : ℕ) → T (has u t) → rest (held m lines u) t ≡ held m lines (u - 2 ^ t)
  held-rest u t h = select-select (covers m u) (λ s. not (has s t)) lines ∙ sym (select_cong (all_map (λ s d. covers-drop d u t h) ds))

  -- as many lines allow the tip as the counts of the two sets differ by
  pub lying-drop : (u t : ℕ) → T (has u t) → lying m lines u - lying m lines (u - 2 ^ t) ≡ occ (held m lines u) t
  unfolding lying occ
  lying-drop u t h =
      omega (
        arith,
        length-select (covers m u) lines,
        length-select (covers m (u - 2 ^ t)) lines,
        ap length (held-rest u t h),
        length_mix (mix_select (λ s. has s t) (held m lines u)),
        length-select (λ s. has s t) (held m lines u),
      )

  -- no more lines lie within the set left
  pub lying_falls : (u t : ℕ) → T (has u t) → lying m lines (u - 2 ^ t) ≤ lying m lines u
  unfolding lying
  lying_falls u t h =
      omega (
        arith,
        length-select (covers m u) lines,
        length-select (covers m (u - 2 ^ t)) lines,
        ap length (held-rest u t h),
        length_mix (mix_select (λ s. has s t) (held m lines u)),
      )

  -- no line lies within the empty set
  pub held_none : All (λ s. ⊥) (held m lines 0)
  held_none = all-select (covers m 0) nothing ds
    where
      nothing : (s : ℕ) → T (covers m 0 s) → Domain m s → ⊥
      nothing s c d =
          let (t, h, l) = some_tip d in
          omega (arith, has_some 0 t ((covers_iff m 0 s d.below).0 c t h))

  -- where each line lies within u they are all held
  pub held_all : (u : ℕ) → All (λ s. (t : ℕ) → T (has s t) → T (has u t)) lines → held m lines u ≡ lines
  held_all u hs = select-all (covers m u) (all_map (λ s (d, h). (covers_iff m u s d.below).1 h) (all_both ds hs))

  -- a tip of a line that is held is a tip of the set
  pub held_own : (u : ℕ) → All (λ s. (t : ℕ) → T (has s t) → T (has u t)) (held m lines u)
  held_own u = all-select (covers m u) (λ s c d. (covers_iff m u s d.below).0 c) ds
