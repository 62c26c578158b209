-- A set renumbered, one tip more at a time.
use Prim.Native.Nat.{ℕ, ◌+◌, ◌^◌, ◌≤◌, ◌<◌}
use native.Mathlib.Omega.{arith}
use mathlib.Core.Path.{◌≡◌, refl, ap, ap₂, ◌∙◌}
use mathlib.Core.Logic.{⊎_elim}
use mathlib.Core.Bool.{Bool, not, cond}
use mathlib.Core.List.{List}
use lib.Dec.{T, T_not}
use lib.ListN.{get_or}
use lib.Pow.{pow_mono}
use Rattle.model.specs.Plan.{has}
use Rattle.model.specs.CommonTip.{set_of}
use Rattle.model.specs.Renumber.{rank, tip_at, ranks}
use Rattle.model.proofs.Tests.{test, false_T, false_not}
use Rattle.model.proofs.Sets.{set_of_lt, set_of_cong}
use Rattle.model.proofs.Rank.{rank_ok, rank_mono, rank_lt, tip-rank, tip_same, rank-more}
use Rattle.subset_rules.specs.Exact.{most_named}
use Rattle.exact.specs.Leaf.{Renumbering}
use Rattle.exact.proofs.Picks.{set_of-more}

pub ranks_zero : (ok : ℕ → Bool) (s : ℕ) → ranks ok 0 s ≡ 0
unfolding ranks rank set_of
ranks_zero ok s = refl

-- the bit of the rank of tip t, which is ok if the set has it
pub ranks-more : (ok : ℕ → Bool) (s t : ℕ) → (T (has s t) → T (ok t)) → ranks ok (t + 1) s ≡ ranks ok t s + cond (has s t) (2 ^ rank ok t) 0
unfolding ranks
ranks-more ok s t own = ⊎_elim good bad (test (ok t))
  where
    f : ℕ → Bool
    f j = has s (tip_at ok (t + 1) j)

    lower : set_of f (rank ok t) ≡ set_of (λ j. has s (tip_at ok t j)) (rank ok t)
    lower = set_of_cong _ _ (rank ok t) (λ j l. ap (has s) (tip_same ok (t + 1) t j (omega arith) l))

    good : T (ok t) → set_of f (rank ok (t + 1)) ≡ set_of (λ j. has s (tip_at ok t j)) (rank ok t) + cond (has s t) (2 ^ rank ok t) 0
    good o =
        ap (set_of f) (rank_ok ok t o)
        ∙ set_of-more f (rank ok t)
        ∙ ap₂ (λ x b. x + cond (has s b) (2 ^ rank ok t) 0) lower (tip-rank ok (t + 1) t (omega arith) o)

    bad : T (not (ok t)) → set_of f (rank ok (t + 1)) ≡ set_of (λ j. has s (tip_at ok t j)) (rank ok t) + cond (has s t) (2 ^ rank ok t) 0
    bad n =
        let e : rank ok (t + 1) ≡ rank ok t = rank-more ok t ∙ rw (false_T (ok t) n) (omega arith) in
        ap (set_of f) e ∙ lower ∙ rw (false_not (has s t) (λ h. T_not (ok t) n (own h))) (omega arith)

module _ {names m : ℕ} {list : List ℕ} {set : ℕ} (r : Renumbering names m list set) (t : ℕ) (l : t < m) where
  -- the rank of a tip of the set is small
  pub rank_few : T (has set t) → get_or list t 0 < most_named
  rank_few h = omega (arith, r.listed.places t l, rank_lt (has names) t m (r.own t h) l, r.few)

  -- one tip more
  pub bits-more : ranks (has names) (t + 1) set ≡ ranks (has names) t set + cond (has set t) (2 ^ get_or list t 0) 0
  bits-more = rw (r.listed.places t l) (ranks-more (has names) set t (r.own t))

  pub bits_few : ranks (has names) (t + 1) set < 2 ^ most_named
  unfolding ranks
  bits_few =
      let below : rank (has names) (t + 1) ≤ most_named = omega (arith, rank_mono (has names) (t + 1) m (omega arith), r.few) in
      let b : 2 ^ rank (has names) (t + 1) ≤ 2 ^ most_named = pow_mono {j = most_named} below in
      omega (arith, set_of_lt (λ j. has set (tip_at (has names) (t + 1) j)) (rank (has names) (t + 1)))
