-- The pairs and the tips of a plan, summed tip by tip.
use Prim.Native.Nat.{ℕ, ◌+◌, ◌-◌, ◌^◌, ◌≤◌, ◌<◌}
use native.Mathlib.Omega.{arith}
use native.Mathlib.Numerals.{add-one}
use mir.Val.{bool_byte}
use mathlib.Core.Path.{◌≡◌, refl, subst}
use mathlib.Core.Bool.{Bool, true, false, not, cond}
use mathlib.Core.List.{List, [], ◌∷◌}
use lib.Dec.{T, eqb}
use lib.ListN.{length, drop, get_or, drop_of_length-le}
use lib.Seq.{drop-cons}
use Rattle.model.specs.Limits.{most_pairs}
use Rattle.model.specs.Plan.{has, choose2}
use Rattle.model.proofs.Sets.{has-below}
use Rattle.subset_rules.specs.Chains.{Chain, link, pairs_by, used_by}
use Rattle.subset_rules.proofs.Drop.{drop_lt}
use Rattle.subset_rules.specs.Exact.{most_named}
use Rattle.subset_table.specs.Scores.{at}
use Rattle.exact.specs.Leaf.{Summable}

chain_head : {t u : ℕ} {tips : List ℕ} → Chain (t ∷ tips) u → T (has u t)
chain_head (link h c) = h

chain_tail : {t u : ℕ} {tips : List ℕ} → Chain (t ∷ tips) u → Chain tips (u - 2 ^ t)
chain_tail (link h c) = c

one_le_one : (b : Bool) → cond b 0 1 ≤ 1
one_le_one true = omega arith
one_le_one false = omega arith

-- 1 where the test fails, as a number
pub byte_not : (b : Bool) → bool_byte (not b) ≡ cond b 0 1
byte_not true = refl
byte_not false = refl

module _ {counts : List ℕ} {all : ℕ} {tips : List ℕ} (s : Summable counts all tips) where
  abbrev z : ℕ → ℕ
  z = at counts

  -- the first i tips are summed, and the lines within u are left
  pub record Summing (i u shared used : ℕ) : Type 0 where
    pub inside : u < 2 ^ s.m
    pub chain : Chain (drop i tips) u
    pub pairs : shared + pairs_by (at counts) (drop i tips) u ≡ pairs_by (at counts) tips all
    pub used_tips : used + used_by (at counts) (drop i tips) u ≡ used_by (at counts) tips all
    pub few : used ≤ i

  pub summing-first : Summing 0 all 0 0
  summing-first = record { inside = s.inside; chain = s.chain; pairs = omega arith; used_tips = omega arith; few = omega arith }

  module _ {i u shared used : ℕ} (x : Summing i u shared used) (l : i < length tips) where
    abbrev t : ℕ
    t = get_or tips i 0

    rest : drop i tips ≡ t ∷ drop (i + 1) tips
    rest = rw (add-one, drop-cons tips i 0 l)

    -- the next tip is one of u
    pub next-has : T (has u (get_or tips i 0))
    next-has = chain_head (subst (λ r. Chain r u) rest x.chain)

    pub next-tip : get_or tips i 0 < most_named
    next-tip = omega (arith, has-below s.m u (get_or tips i 0) x.inside next-has, s.counted.narrow)

    module _ (left : ℕ) (e : left ≡ u - 2 ^ get_or tips i 0) where
      pub next-left : left < u
      next-left = omega (arith, drop_lt u t next-has)

      pub next_drops : at counts left ≤ at counts u
      next_drops = rw e (s.counted.rises u t x.inside next-has)

      module _ (p : ℕ) (q : p ≡ at counts u - at counts left) where
        sums : (shared + choose2 p + pairs_by z (drop (i + 1) tips) left ≡ pairs_by z tips all)
            × (used + cond (eqb p 0) 0 1 + used_by z (drop (i + 1) tips) left ≡ used_by z tips all)
        unfolding pairs_by used_by
        sums = rw (q, e) (
          omega (arith, rw rest at x.pairs),
          omega (arith, rw rest at x.used_tips),
        )

        -- the sum of the pairs stays small
        pub next_few : shared + choose2 p ≤ most_pairs
        next_few = omega (arith, sums.0, s.few)

        pub next_more : Summing (i + 1) left (shared + choose2 p) (used + cond (eqb p 0) 0 1)
        next_more = record {
          inside = omega (arith, next-left, x.inside);
          chain = rw e (chain_tail (subst (λ r. Chain r u) rest x.chain));
          pairs = sums.0;
          used_tips = sums.1;
          few = omega (arith, x.few, one_le_one (eqb p 0));
        }

  pub summing-all : {i u shared used : ℕ} → length tips ≤ i → Summing i u shared used
      → (shared ≡ pairs_by (at counts) tips all) × (used ≡ used_by (at counts) tips all)
  unfolding pairs_by used_by
  summing-all {i} {u} l x =
      let e : drop i tips ≡ [] = drop_of_length-le tips l in
      (omega (arith, rw e at x.pairs), omega (arith, rw e at x.used_tips))
