-- The plan by tips that are picked as a table says is valid, and has the score of that table.
use Prim.Native.Nat.{ℕ, zero, suc, ◌+◌, ◌*◌, ◌-◌, ◌^◌, ◌<◌}
use native.Mathlib.Omega.{arith}
use mathlib.Core.Path.{◌≡◌, refl, ap, subst, sym, ◌∙◌}
use mathlib.Core.Logic.{⊎_elim}
use mathlib.Core.List.{List, [], ◌∷◌, map}
use lib.Dec.{T, ltb, eqb}
use lib.ListN.{replicate}
use borrow.Author.Tests.{lt-ltb, le-ltb, ne_eqb}
use Rattle.model.specs.Count.{count, All, none, more}
use Rattle.model.specs.Plan.{has, occ, uses, Domain, pairs, choose2, prefer}
use Rattle.model.specs.Greedy.{rest, first}
use Rattle.model.specs.Renumber.{rank}
use Rattle.model.proofs.Tests.{le_or_lt}
use Rattle.model.proofs.Lists.{all_map}
use Rattle.model.proofs.Mix.{count_mix}
use Rattle.model.proofs.Pairs.{choose2_square, uses-replicate}
use Rattle.model.proofs.Sets.{has-below}
use Rattle.model.proofs.Valid.{valid_map, valid_none, rest-free, prefer_mix, prefer_own, prefer-pairs}
use Rattle.subset_rules.specs.Subsets.{size, tips_used, lying, gain, taking}
use Rattle.subset_rules.specs.Chains.{Picked, done, next, pairs_by, used_by, Chain, end, link}
use Rattle.subset_rules.proofs.Drop.{drop_lt, rank_cong, rank-added, size-drop, size_zero}
use Rattle.subset_rules.proofs.Lying.{held, held-rest, held_none, lying-drop}
use Rattle.subset_rules.proofs.Dominate.{gain-none, gain_some}

uses_other : (n c t : ℕ) → (t ≡ c → ⊥) → uses (replicate n c) t ≡ 0
unfolding uses count
uses_other zero c t d = refl
uses_other (suc n) c t d = rw (ne_eqb t c d) (omega (arith, uses_other n c t d))

-- a plan that prefers tip c uses the tips of the rest, and c where a line allows it
module _ (c : ℕ) (g : ℕ → ℕ) (lines : List ℕ) where
  abbrev n : ℕ
  n = occ lines c

  abbrev whole : List ℕ
  whole = map (prefer c g) lines

  abbrev part : List ℕ
  part = map g (rest lines c)

  prefer-uses : (t : ℕ) → uses whole t ≡ uses (replicate n c) t + uses part t
  unfolding uses
  prefer-uses t = count_mix (eqb t) (prefer_mix c g lines)

  other_uses : (t : ℕ) → (t ≡ c → ⊥) → uses whole t ≡ uses part t
  other_uses t d = omega (arith, prefer-uses t, uses_other n c t d)

  -- no line allows it
  same_uses : n ≡ 0 → (t : ℕ) → uses whole t ≡ uses part t
  unfolding uses count
  same_uses z t = omega (arith, prefer-uses t, ap (λ k. uses (replicate k c) t) z)

  tips_same : (m : ℕ) → n ≡ 0 → tips_used m whole ≡ tips_used m part
  unfolding tips_used
  tips_same m z = rank_cong _ _ m (λ t l. ap (ltb 0) (same_uses z t))

  -- some line allows it, and the rest does not use it
  tips-more : (m : ℕ) → c < m → 0 < n → uses part c ≡ 0 → tips_used m whole ≡ suc (tips_used m part)
  unfolding tips_used
  tips-more m l s z =
      rank-added _ _ c m l (le-ltb 0 (uses part c) (omega arith))
      (lt-ltb 0 (uses whole c) (omega (arith, prefer-uses c, uses-replicate n c)))
      (λ t d. ap (ltb 0) (sym (other_uses t d)))

tips-none : (m : ℕ) → tips_used m [] ≡ 0
unfolding tips_used rank uses count
tips-none zero = refl
tips-none (suc m) = omega (arith, tips-none m)

module _ {m : ℕ} {lines : List ℕ} (price : ℕ) (ds : All (Domain m) lines) (D : ℕ → ℕ) (zero-score : D 0 ≡ 0) where
  abbrev planned : List ℕ → ℕ → List ℕ
  planned tips u = map (first tips) (held m lines u)

  -- the lines within u are each given a tip of their own, and have the score that D says
  pub record Laid (tips : List ℕ) (u : ℕ) : Type 0 where
    pub own : All (λ s. T (has s (first tips s))) (held m lines u)
    pub shared : pairs (map (first tips) (held m lines u)) ≡ pairs_by (lying m lines) tips u
    pub used : tips_used m (map (first tips) (held m lines u)) ≡ used_by (lying m lines) tips u
    pub sum : pairs (map (first tips) (held m lines u)) + price * size m u ≡ D u + price * tips_used m (map (first tips) (held m lines u))

  empty_laid : Laid [] 0
  unfolding pairs_by used_by
  empty_laid =
      let own : All (λ s. T (has s (first [] s))) (held m lines 0) = all_map (λ s n. absurd n) (held_none ds) in
      let alone : pairs (map (first []) (held m lines 0)) ≡ 0 = valid_none (held_none ds) (valid_map (first []) own) in
      let unused : tips_used m (map (first []) (held m lines 0)) ≡ 0 = ap (tips_used m) (no_lines (held_none ds)) ∙ tips-none m in
      record {
        own = own;
        shared = alone;
        used = unused;
        sum = omega (arith, zero-score, alone, ap (λ n. price * n) (size_zero m), ap (λ n. price * n) unused);
      }
    where
      no_lines : {xs : List ℕ} → All (λ s. ⊥) xs → map (first []) xs ≡ []
      no_lines none = refl
      no_lines (more x xs) = absurd x

  step : (t u : ℕ) (tips : List ℕ) → u < 2 ^ m → T (has u t) → taking price (lying m lines) D u t ≡ D u → Laid tips (u - 2 ^ t)
      → Laid (t ∷ tips) u
  unfolding first pairs_by used_by
  step t u tips b h e l =
      let w = u - 2 ^ t in
      let r = rest (held m lines u) t in
      let same : r ≡ held m lines w = held-rest ds u t h in
      let n = occ (held m lines u) t in
      let own : All (λ s. T (has s (first tips s))) r = subst (All (λ s. T (has s (first tips s)))) (sym same) l.own in
      let sum : pairs (map (first tips) r) + price * size m w ≡ D w + price * tips_used m (map (first tips) r) =
      subst (λ x. pairs (map (first tips) x) + price * size m w ≡ D w + price * tips_used m (map (first tips) x)) (sym same) l.sum in
      let score : gain price n + D w ≡ D u = rw (lying-drop ds u t h) at e in
      let sizes : price * size m u ≡ price * suc (size m w) = ap (λ k. price * k) (size-drop m u t b h) in
      let taken = prefer-pairs t (first tips) (held m lines u) own in
      let free : uses (map (first tips) r) t ≡ 0 = rest-free t (held m lines u) (valid_map (first tips) own) in
      let rest-shared : pairs (map (first tips) r) ≡ pairs_by (lying m lines) tips w =
      subst (λ x. pairs (map (first tips) x) ≡ pairs_by (lying m lines) tips w) (sym same) l.shared in
      let rest-used : tips_used m (map (first tips) r) ≡ used_by (lying m lines) tips w =
      subst (λ x. tips_used m (map (first tips) x) ≡ used_by (lying m lines) tips w) (sym same) l.used in
      record {
        own = prefer_own t (first tips) (held m lines u) own;
        shared = rw (lying-drop ds u t h) (omega (arith, taken, rest-shared));
        used = rw (lying-drop ds u t h) (
            ⊎_elim
            (λ z.
            let i : n ≡ 0 = omega arith in
            rw i (omega (arith, tips_same t (first tips) (held m lines u) m i, rest-used)))
            (λ s. rw (ne_eqb n 0 (λ q. omega arith))
            (omega (arith, tips-more t (first tips) (held m lines u) m (has-below m u t b h) s free, rest-used)))
            (le_or_lt n 0)
            );
        sum =
            ⊎_elim
            (λ z.
            let i : n ≡ 0 = omega arith in
            omega (
              arith,
              taken,
              ap choose2 i,
              choose2_square 0,
              ap (gain price) i,
              gain-none price,
              ap (λ k. price * k) (tips_same t (first tips) (held m lines u) m i),
            ))
            (λ s. omega (
              arith,
              taken,
              gain_some price n s,
              ap (λ k. price * k) (tips-more t (first tips) (held m lines u) m (has-below m u t b h) s free),
            ))
            (le_or_lt n 0);
      }

  -- THE PLAN BY PICKED TIPS, for the lines within u
  pub laid : {tips : List ℕ} {u : ℕ} → u < 2 ^ m → Picked price (lying m lines) D tips u → Laid tips u
  laid b done = empty_laid
  laid b (next {t} {u} {tips} h e p) = step t u tips b h e (laid (omega (arith, drop_lt u t h)) p)

-- the tips picked are different tips of the set
pub picked_chain : {price : ℕ} {z D : ℕ → ℕ} {tips : List ℕ} {u : ℕ} → Picked price z D tips u → Chain tips u
picked_chain done = end
picked_chain (next h e p) = link h (picked_chain p)
