-- EXACT SHARING ON THE BOARD RENUMBERED: the scores, the tips in their order and each line's tip are those of the board.
use Prim.Native.Nat.{ℕ, zero, suc, ◌+◌, ◌-◌, ◌^◌, ◌≤◌, ◌<◌}
use native.Mathlib.Omega.{arith}
use mathlib.Core.Path.{◌≡◌, refl, ap, ap₂, sym, ◌∙◌}
use mathlib.Core.Logic.{◌⊎◌, inl, inr, ⊎_elim}
use mathlib.Core.Bool.{Bool, false, not, cond, ◌&&◌}
use mathlib.Core.List.{List, [], ◌∷◌, map}
use lib.Dec.{T, T_not, ltb, eqb, eqb→eq, eqb-suc-zero}
use borrow.Author.Tests.{lt-ltb, le-ltb, ne_eqb}
use Rattle.model.specs.Count.{count, lowest_at, All, none, more}
use Rattle.model.specs.Plan.{has, occ, Domain, pairs}
use Rattle.model.specs.CommonTip.{covers}
use Rattle.model.specs.Choice.{Mounted}
use Rattle.model.specs.Greedy.{first}
use Rattle.model.specs.Interval.{named}
use Rattle.model.specs.Renumber.{names, rank, tip_at, ranks, renumbered, rank_on, Fits}
use Rattle.model.proofs.Tests.{le_or_lt, test, true_T, false_T, eqb_T, same_test, cond_case}
use Rattle.model.proofs.Lists.{all, all_map, count_none, count_map, count_cong}
use Rattle.model.proofs.Largest.{largest_ge, largest_le, lowest_attains, lowest-first, lowest-only}
use Rattle.model.proofs.Choice.{favour, choice-favour}
use Rattle.model.proofs.Sets.{has-below, has_some, has-set_of, set_same, set_of_lt, some_tip, covers_iff}
use Rattle.model.proofs.Rank.{rank_le, rank_lt, lt_rank, tip-at, rank-on}
use Rattle.model.proofs.Names.{has-names, names_lt}
use Rattle.model.proofs.Renumber.{has-ranks, ranks-tip, ranks_domain, renumbered_domains, named-fits}
use Rattle.subset_rules.specs.Subsets.{size, tips_used, lying, taking, score, worth, pick, order, exact_tip, exact_plan}
use Rattle.subset_rules.specs.Chains.{Chain, end, link, pairs_by, used_by}
use Rattle.subset_rules.proofs.Drop.{drop_own, drop_other, drop_lt, size-drop, rank-more}
use Rattle.subset_rules.proofs.Score.{score_step, score_dominates, worth-has, worth-not, picked-has, order-picked}
use Rattle.subset_rules.proofs.Attain.{picked_chain}
use Rattle.subset_rules.proofs.Exact.{exact_pairs, exact_used}

order_zero : (mounted : Mounted) (price : ℕ) (z : ℕ → ℕ) (m u : ℕ) → order mounted price z m 0 u ≡ []
unfolding order
order_zero mounted price z m u = refl

module _ (ok : ℕ → Bool) (m : ℕ) where
  abbrev r : ℕ
  r = rank ok m

  abbrev R : ℕ → ℕ
  R u = ranks ok m u

  -- the tips of u are in the rack and ok
  pub record Owned (u : ℕ) : Type 0 where
    pub below : u < 2 ^ m
    pub own : (t : ℕ) → T (has u t) → T (ok t)

  pub ranks-below : (u : ℕ) → ranks ok m u < 2 ^ rank ok m
  unfolding ranks
  ranks-below u = set_of_lt _ (rank ok m)

  module _ {u : ℕ} (o : Owned u) where
    -- the rank of a tip of u is in the set renumbered
    ranked : (t : ℕ) → T (has u t) → T (has (R u) (rank ok t))
    ranked t h = rw (has-ranks ok m u t (has-below m u t o.below h) (o.own t h)) h

    -- a tip of the set renumbered is the rank of a tip of u
    unranked : (j : ℕ) → T (has (R u) j) → (t : ℕ) × T (has u t) × (rank ok t ≡ j)
    unranked j h =
        let (l, g) = ranks-tip ok m u j h in
        (tip_at ok m j, g, (tip-at ok m j l).2)

    owned-drop : (t : ℕ) → T (has u t) → Owned (u - 2 ^ t)
    owned-drop t h = record {
      below = omega (arith, o.below);
      own = λ v g.
          ⊎_elim
          (λ e. rw (eqb→eq v t e) (o.own t h))
          (λ n. o.own v (rw (drop_other u t v h (λ e. T_not (eqb v t) n (eqb_T v t e))) at g))
          (test (eqb v t));
    }

    -- the set left renumbered is the set renumbered without the rank of the tip
    ranks-drop : (t : ℕ) → T (has u t) → R (u - 2 ^ t) ≡ R u - 2 ^ rank ok t
    unfolding ranks
    ranks-drop t h = set_same _ _ (λ j. ⊎_elim (here j) (other j) (test (eqb j (rank ok t))))
      where
        l : t < m
        l = has-below m u t o.below h

        w : ℕ
        w = u - 2 ^ t

        here : (j : ℕ) → T (eqb j (rank ok t)) → has (R w) j ≡ has (R u - 2 ^ rank ok t) j
        here j e =
            rw (eqb→eq j (rank ok t) e, drop_own (R u) (rank ok t) (ranked t h), has-ranks ok m w t l (o.own t h)) (drop_own u t h)

        other : (j : ℕ) → T (not (eqb j (rank ok t))) → has (R w) j ≡ has (R u - 2 ^ rank ok t) j
        other j n =
            let d : j ≡ rank ok t → ⊥ = λ e. T_not (eqb j (rank ok t)) n (eqb_T j (rank ok t) e) in
            rw (
              drop_other (R u) (rank ok t) j (ranked t h) d,
              has-set_of (λ i. has w (tip_at ok m i)) r j,
              has-set_of (λ i. has u (tip_at ok m i)) r j,
            )
            (⊎_elim
            (λ p. rw (le-ltb j r p))
            (λ p. rw (drop_other u t (tip_at ok m j) h (λ e. d (sym (tip-at ok m j p).2 ∙ ap (rank ok) e))))
            (le_or_lt r j))

    -- it is empty exactly where u is
    ranks_empty : eqb (R u) 0 ≡ eqb u 0
    ranks_empty =
        same_test (eqb (R u) 0) (eqb u 0)
        (λ e. ⊎_elim (λ p. eqb_T u 0 (omega arith)) (λ p.
        let (t, h, l) = some_tip (record { some = p; below = o.below }) in
        absurd (omega (arith, has_some (R u) (rank ok t) (ranked t h), eqb→eq (R u) 0 e))) (le_or_lt u 0))
        (λ e. ⊎_elim (λ p. eqb_T (R u) 0 (omega arith)) (λ p.
        let (j, h, l) = some_tip (record { some = p; below = ranks-below u }) in
        let (t, g, q) = unranked j h in
        absurd (omega (arith, has_some u t g, eqb→eq u 0 e))) (le_or_lt (R u) 0))

    -- a line lies within u exactly when it does so renumbered
    covers-ranks : {s : ℕ} → m ≤ 64 → Fits ok m s → covers (rank ok m) (R u) (R s) ≡ covers m u s
    covers-ranks {s} narrow f =
        let d = ranks_domain narrow f in
        same_test (covers r (R u) (R s)) (covers m u s)
        (λ c. (covers_iff m u s f.domain.below).1 (λ t h.
        let l = has-below m s t f.domain.below h in
        let g = (covers_iff r (R u) (R s) d.below).0 c (rank ok t) (rw (has-ranks ok m s t l (f.own t h)) h) in
        rw (has-ranks ok m u t l (f.own t h)) at g))
        (λ c. (covers_iff r (R u) (R s) d.below).1 (λ j h.
        let (l, g) = ranks-tip ok m s j h in
        rw (tip-at ok m j l).2 at (ranked (tip_at ok m j) ((covers_iff m u s f.domain.below).0 c (tip_at ok m j) g))))

module _ (ok : ℕ → Bool) {m : ℕ} {lines : List ℕ} (narrow : m ≤ 64) (fs : All (Fits ok m) lines) where
  -- as many lines lie within u as do so renumbered
  pub lying-ranks : {u : ℕ} → Owned ok m u → lying (rank ok m) (renumbered ok m lines) (ranks ok m u) ≡ lying m lines u
  unfolding lying renumbered
  lying-ranks {u} o = count_map _ (ranks ok m) lines ∙ count_cong (all_map (λ s f. covers-ranks ok m o narrow f) fs)

  module _ (price : ℕ) where
    abbrev z : ℕ → ℕ
    z = lying m lines

    abbrev z' : ℕ → ℕ
    z' = lying (rank ok m) (renumbered ok m lines)

    abbrev D : ℕ → ℕ
    D = score price z m

    abbrev D' : ℕ → ℕ
    D' = score price z' (rank ok m)

    -- the score with a tip is that with its rank, where the scores of the sets left agree
    taking-ranks : {u : ℕ} → Owned ok m u → (t : ℕ) → T (has u t) → D' (ranks ok m (u - 2 ^ t)) ≡ D (u - 2 ^ t)
        → taking price z' D' (ranks ok m u) (rank ok t) ≡ taking price z D u t
    taking-ranks {u} o t h e = rw (sym (ranks-drop ok m o t h), lying-ranks o, lying-ranks (owned-drop ok m o t h), e)

    -- a set whose score is that renumbered where it is so for the sets left
    score-here : {u : ℕ} → Owned ok m u → ((t : ℕ) → T (has u t) → D' (ranks ok m (u - 2 ^ t)) ≡ D (u - 2 ^ t)) → D' (ranks ok m u) ≡ D u
    score-here {u} o ih =
        omega (
          arith,
          score_step price z m u o.below,
          score_step price z' (rank ok m) (ranks ok m u) (ranks-below ok m u),
          largest_le (λ t. cond (has u t) (taking price z D u t) 0) m (D' (ranks ok m u)) up,
          largest_le (λ j. cond (has (ranks ok m u) j) (taking price z' D' (ranks ok m u) j) 0) (rank ok m) (D u) down,
        )
      where
        up : (t : ℕ) → t < m → cond (has u t) (taking price z D u t) 0 ≤ D' (ranks ok m u)
        up t b = cond_case (λ x. x ≤ D' (ranks ok m u)) (has u t)
            (λ h. omega (
              arith,
              taking-ranks o t h (ih t h),
              score_dominates price z' (rank ok m) (ranks ok m u) (rank ok t) (ranks-below ok m u) (ranked ok m o t h),
            ))
            (λ _. omega arith)

        down : (j : ℕ) → j < rank ok m → cond (has (ranks ok m u) j) (taking price z' D' (ranks ok m u) j) 0 ≤ D u
        down j b = cond_case (λ x. x ≤ D u) (has (ranks ok m u) j)
            (λ g.
            let (t, h, e) = unranked ok m o j g in
            rw (← e) (omega (arith, taking-ranks o t h (ih t h), score_dominates price z m u t o.below h)))
            (λ _. omega arith)

    score-by : (k u : ℕ) → u < k → Owned ok m u → D' (ranks ok m u) ≡ D u
    score-by zero u l o = absurd (omega arith)
    score-by (suc k) u l o = score-here o (λ t h. score-by k (u - 2 ^ t) (omega (arith, drop_lt u t h)) (owned-drop ok m o t h))

    -- THE SCORES
    pub score-ranks : {u : ℕ} → Owned ok m u → score price z' (rank ok m) (ranks ok m u) ≡ score price z m u
    score-ranks {u} o = score-by (suc u) u (omega arith) o

    worth-ranks : {u : ℕ} → Owned ok m u → (t : ℕ) → t < m → T (ok t) → worth price z' (rank ok m) (ranks ok m u) (rank ok t) ≡ worth price z m u t
    worth-ranks {u} o t l k =
        ⊎_elim
        (λ h. worth-has price z' (rank ok m) (ranks ok m u) (rank ok t) (ranked ok m o t h)
        ∙ ap suc (taking-ranks o t h (score-ranks (owned-drop ok m o t h)))
        ∙ sym (worth-has price z m u t h))
        (λ n. worth-not price z' (rank ok m) (ranks ok m u) (rank ok t) (rw (has-ranks ok m u t l k) n) ∙ sym (worth-not price z m u t n))
        (test (has u t))

    module _ (mounted : Mounted) where
      -- THE PICK of the set renumbered is the rank of the set's pick
      pick-ranks : {u : ℕ} → Owned ok m u → 0 < u → pick (rank_on ok mounted) price z' (rank ok m) (ranks ok m u) ≡ rank ok (pick mounted price z m u)
      unfolding pick
      pick-ranks {u} o some =
          choice-favour (rank_on ok mounted) f' (rank ok m) ∙ lowest-only g' (rank ok m) (rank ok i) (rank_lt ok i m good inside) most least
        where
          f : ℕ → ℕ
          f = worth price z m u

          f' : ℕ → ℕ
          f' = worth price z' (rank ok m) (ranks ok m u)

          g : ℕ → ℕ
          g = favour mounted f

          g' : ℕ → ℕ
          g' = favour (rank_on ok mounted) f'

          i : ℕ
          i = pick mounted price z m u

          e : i ≡ lowest_at g m
          e = choice-favour mounted f m

          here : T (has u i)
          here = picked-has price z m mounted u some o.below

          good : T (ok i)
          good = o.own i here

          inside : i < m
          inside = has-below m u i o.below here

          one : Bool → ℕ
          one b = cond b 1 0

          same : (t : ℕ) → t < m → T (ok t) → g' (rank ok t) ≡ g t
          same t l k = omega (arith, worth-ranks o t l k, ap one (rank-on ok mounted t k))

          most : (j : ℕ) → j < rank ok m → g' j ≤ g' (rank ok i)
          most j l =
              let (b, k, q) = tip-at ok m j l in
              let t = tip_at ok m j in
              omega (arith, ap g' q, same t b k, same i inside good, largest_ge g m t b, lowest_attains g m, ap g e)

          least : (j : ℕ) → j < rank ok i → g' j < g' (rank ok i)
          least j l =
              let (b, k, q) = tip-at ok m j (omega (arith, rank_lt ok i m good inside)) in
              let t = tip_at ok m j in
              let d : t < i = lt_rank ok t i (omega arith) in
              omega (arith, ap g' q, same t b k, same i inside good, lowest-first g m t (omega (arith, e)), ap g e)

      abbrev order' : ℕ → ℕ → List ℕ
      order' k u = order (rank_on ok mounted) price z' (rank ok m) k u

      order-here : (k : ℕ) {u : ℕ} → Owned ok m u
          → ((w : ℕ) → Owned ok m w → order' k (ranks ok m w) ≡ map (rank ok) (order mounted price z m k w))
          → order' (suc k) (ranks ok m u) ≡ map (rank ok) (order mounted price z m (suc k) u)
      unfolding order
      order-here k {u} o ih = rw (ranks_empty ok m o) (⊎_elim empty next (le_or_lt u 0))
        where
          t : ℕ
          t = pick mounted price z m u

          j : ℕ
          j = pick (rank_on ok mounted) price z' (rank ok m) (ranks ok m u)

          Goal : Type 0
          Goal =
              cond (eqb u 0) [] (j ∷ order' k (ranks ok m u - 2 ^ j))
              ≡ map (rank ok) (cond (eqb u 0) [] (t ∷ order mounted price z m k (u - 2 ^ t)))

          empty : u ≤ 0 → Goal
          empty p = rw (true_T (eqb u 0) (eqb_T u 0 (omega arith)))

          next : 0 < u → Goal
          next p =
              let h = picked-has price z m mounted u p o.below in
              let e : j ≡ rank ok t = pick-ranks o p in
              rw (ne_eqb u 0 (λ q. omega arith)) (ap₂ ◌∷◌ e
              (ap (λ x. order' k (ranks ok m u - 2 ^ x)) e ∙ ap (order' k) (sym (ranks-drop ok m o t h)) ∙ ih (u - 2 ^ t) (owned-drop ok m o t h)))

      -- THE TIPS in their order
      pub order-ranks : (k u : ℕ) → Owned ok m u
          → order (rank_on ok mounted) price z' (rank ok m) k (ranks ok m u) ≡ map (rank ok) (order mounted price z m k u)
      order-ranks zero u o = none-ranks
        where
          none-ranks : order (rank_on ok mounted) price z' (rank ok m) 0 (ranks ok m u) ≡ map (rank ok) (order mounted price z m 0 u)
          none-ranks = rw (order_zero (rank_on ok mounted) price z' (rank ok m) (ranks ok m u), order_zero mounted price z m u)
      order-ranks (suc k) u o = order-here k o (λ w. order-ranks k w)

-- the first tip of the order that a line allows
pub first-ranks : (ok : ℕ → Bool) (m : ℕ) {tips : List ℕ} → All (λ t. (t < m) × T (ok t)) tips → (s : ℕ)
    → first (map (rank ok) tips) (ranks ok m s) ≡ rank ok (first tips s)
unfolding first rank
first-ranks ok m none s = refl
first-ranks ok m (more {x = t} {xs = tips} (l, o) h) s =
    rw (has-ranks ok m s t l o) (⊎_elim
    (λ y. rw (true_T (has s t) y))
    (λ n. rw (false_T (has s t) n) (first-ranks ok m h s))
    (test (has s t)))

-- ---- the order of a set's tips

module _ (mounted : Mounted) (price : ℕ) (z : ℕ → ℕ) (m : ℕ) where
  -- the bound of their number does not count once it is at least that
  order-more : (k u : ℕ) → u < 2 ^ m → size m u ≤ k → order mounted price z m (suc k) u ≡ order mounted price z m k u
  unfolding order
  order-more zero zero b l = refl
  order-more (suc k) zero b l = refl
  order-more zero (suc n) b l =
      let (t, h, _) = some_tip (record { some = omega arith; below = b }) in
      absurd (omega (arith, size-drop m (suc n) t b h))
  order-more (suc k) (suc n) b l =
      let u = suc n in
      let t = pick mounted price z m u in
      let h = picked-has price z m mounted u (omega arith) b in
      ap (λ x. cond (eqb u 0) [] (t ∷ x)) (order-more k (u - 2 ^ t) (omega (arith, drop_lt u t h)) (omega (arith, size-drop m u t b h)))

  order_up : (d k u : ℕ) → u < 2 ^ m → size m u ≤ k → order mounted price z m (d + k) u ≡ order mounted price z m k u
  order_up zero k u b l =
      let e : 0 + k ≡ k = omega arith in
      rw e
  order_up (suc d) k u b l =
      let e : suc d + k ≡ suc (d + k) = omega arith in
      rw e (order-more (d + k) u b (omega arith) ∙ order_up d k u b l)

  pub order_same : (j k u : ℕ) → u < 2 ^ m → size m u ≤ k → k ≤ j → order mounted price z m j u ≡ order mounted price z m k u
  order_same j k u b l h =
      let e : j ≡ j - k + k = omega arith in
      ap (λ n. order mounted price z m n u) e ∙ order_up (j - k) k u b l

  order-owned : (ok : ℕ → Bool) (k u : ℕ) → Owned ok m u → All (λ t. (t < m) × T (ok t)) (order mounted price z m k u)
  unfolding order
  order-owned ok zero u o = none
  order-owned ok (suc k) zero o = none
  order-owned ok (suc k) (suc n) o =
      let u = suc n in
      let t = pick mounted price z m u in
      let h = picked-has price z m mounted u (omega arith) o.below in
      rw (eqb-suc-zero n) (more (has-below m u t o.below h, o.own t h) (order-owned ok k (u - 2 ^ t) (owned-drop ok m o t h)))

-- the named tips renumbered
module _ (ok : ℕ → Bool) (m : ℕ) (lines : List ℕ) where
  pub names-ranks : names (renumbered ok m lines) ≡ ranks ok m (names lines)
  unfolding renumbered named occ ranks
  names-ranks = set_same _ _ (λ j.
      has-names (map (ranks ok m) lines) j
      ∙ ap (ltb 0) (count_map (λ x. has x j) (ranks ok m) lines ∙ at j)
      ∙ by j (le_or_lt (rank ok m) j)
      ∙ sym (has-set_of (λ i. has (names lines) (tip_at ok m i)) (rank ok m) j))
    where
      at : (j : ℕ) → count (λ s. has (ranks ok m s) j) lines ≡ count (λ s. ltb j (rank ok m) && has s (tip_at ok m j)) lines
      at j = count_cong (all (λ s. has-set_of (λ i. has s (tip_at ok m i)) (rank ok m) j) lines)

      by : (j : ℕ) → (rank ok m ≤ j) ⊎ (j < rank ok m)
          → ltb 0 (count (λ s. ltb j (rank ok m) && has s (tip_at ok m j)) lines) ≡ (ltb j (rank ok m) && has (names lines) (tip_at ok m j))
      by j (inl p) = rw (le-ltb j (rank ok m) p, count_none (λ s. false) (all (λ s x. x) lines))
      by j (inr p) = rw (lt-ltb j (rank ok m) p) (sym (has-names lines (tip_at ok m j)))

module _ {m : ℕ} {lines : List ℕ} (narrow : m ≤ 64) (ds : All (Domain m) lines) (mounted : Mounted) (price : ℕ) where
  abbrev N : ℕ → Bool
  N = named lines

  abbrev lines' : List ℕ
  lines' = renumbered (named lines) m lines

  owned-names : Owned (named lines) m (names lines)
  owned-names = record { below = names_lt m (all_map (λ s d. d.below) ds); own = λ t h. rw (has-names lines t) at h }

  -- the tips of the board renumbered are the ranks of the tips
  tips-ranks : order (rank_on N mounted) price (lying (rank N m) lines') (rank N m) (rank N m) (names lines')
      ≡ map (rank N) (order mounted price (lying m lines) m m (names lines))
  tips-ranks =
      let o = owned-names in
      ap (order (rank_on N mounted) price (lying (rank N m) lines') (rank N m) (rank N m)) (names-ranks N m lines)
      ∙ order-ranks N narrow (named-fits ds) price mounted (rank N m) (names lines) o
      ∙ ap (map (rank N)) (sym (order_same mounted price (lying m lines) m m (rank N m) (names lines) o.below
      (rank-more (has (names lines)) N m o.own) (rank_le N m)))

  abbrev tips : List ℕ
  tips = order mounted price (lying m lines) m m (names lines)

  -- THE TIP of a line renumbered is the rank of its tip
  pub tip-ranks : (s : ℕ)
      → exact_tip (rank_on (named lines) mounted) price (rank (named lines) m) (renumbered (named lines) m lines) (ranks (named lines) m s)
      ≡ rank (named lines) (exact_tip mounted price m lines s)
  unfolding exact_tip
  tip-ranks s =
      ap (λ l. first l (ranks N m s)) tips-ranks
      ∙ first-ranks N m (order-owned mounted price (lying m lines) m N m (names lines) owned-names) s

  -- ---- the pairs and the tips used

  sums-ranks : {u : ℕ} {l : List ℕ} → Owned N m u → Chain l u
      → (pairs_by (lying (rank N m) lines') (map (rank N) l) (ranks N m u) ≡ pairs_by (lying m lines) l u)
      × (used_by (lying (rank N m) lines') (map (rank N) l) (ranks N m u) ≡ used_by (lying m lines) l u)
  unfolding pairs_by used_by
  sums-ranks o end = (refl, refl)
  sums-ranks {u} o (link {t} {tips = l} h c) =
      let w = owned-drop N m o t h in
      let (p, q) = sums-ranks w c in
      rw (sym (ranks-drop N m o t h), lying-ranks N narrow (named-fits ds) o, lying-ranks N narrow (named-fits ds) w, p, q) (refl, refl)

  abbrev plan' : List ℕ
  plan' = exact_plan (rank_on N mounted) price (rank N m) lines'

  ds' : All (Domain (rank N m)) lines'
  ds' = renumbered_domains narrow (named-fits ds)

  both : (pairs plan' ≡ pairs (exact_plan mounted price m lines)) × (tips_used (rank N m) plan' ≡ tips_used m (exact_plan mounted price m lines))
  both =
      let o = owned-names in
      let picked = order-picked price (lying m lines) m mounted m (names lines) o.below (rank_le _ m) in
      let (p, q) = sums-ranks o (picked_chain picked) in (
        exact_pairs (rank_on N mounted) price ds'
            ∙ ap₂ (pairs_by (lying (rank N m) lines')) tips-ranks (names-ranks N m lines)
            ∙ p
            ∙ sym (exact_pairs mounted price ds),
        exact_used (rank_on N mounted) price ds'
            ∙ ap₂ (used_by (lying (rank N m) lines')) tips-ranks (names-ranks N m lines)
            ∙ q
            ∙ sym (exact_used mounted price ds),
      )

  pub pairs-ranks : pairs (exact_plan (rank_on (named lines) mounted) price (rank (named lines) m) (renumbered (named lines) m lines))
      ≡ pairs (exact_plan mounted price m lines)
  pairs-ranks = both.0

  pub used_ranks : tips_used (rank (named lines) m)
      (exact_plan (rank_on (named lines) mounted) price (rank (named lines) m) (renumbered (named lines) m lines))
      ≡ tips_used m (exact_plan mounted price m lines)
  used_ranks = both.1
