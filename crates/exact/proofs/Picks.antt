-- The tips picked by a table, and the list of them while it is made.
use Prim.Native.Nat.{ℕ, zero, suc, ◌+◌, ◌*◌, ◌-◌, ◌%◌, ◌^◌, ◌≤◌, ◌<◌}
use native.Mathlib.Omega.{arith}
use native.Mathlib.Numerals.{add-one}
use mathlib.Core.Path.{◌≡◌, refl, ap, sym, ◌∙◌}
use mathlib.Core.Logic.{⊎_elim}
use mathlib.Core.Bool.{Bool, not, cond, ◌&&◌}
use mathlib.Core.List.{List, [], ◌∷◌, ◌++◌, append-nil, append_assoc}
use lib.Dec.{T, ltb, eqb, eqb-suc-zero, eqb-suc-suc}
use lib.ListN.{length, take, set}
use lib.Pow.{pow_mono}
use lib.Seq.{take-suc-set}
use borrow.Author.Tests.{lt-ltb, ne_eqb}
use Rattle.model.specs.Count.{largest, All, none, more}
use Rattle.model.specs.Plan.{has}
use Rattle.model.specs.CommonTip.{set_of}
use Rattle.model.specs.Choice.{Mounted}
use Rattle.model.proofs.Tests.{test, true_T, false_T}
use Rattle.model.proofs.Largest.{largest_ge}
use Rattle.model.proofs.Choice.{choice_attains}
use Rattle.model.proofs.Sets.{has-below, set_of_cong}
use Rattle.head.proofs.Chosen.{chosen-busiest}
use Rattle.head.specs.OnHead.{chosen}
use Rattle.subset_rules.specs.Subsets.{size, taking, score, worth, pick, order}
use Rattle.subset_rules.proofs.Drop.{drop_lt, size-drop}
use Rattle.subset_rules.proofs.Score.{worth-has, worth-not, picked-has, picked-score}
use Rattle.subset_table.specs.Scores.{at, tied_at, Ready, Scored}
use Rattle.subset_table.proofs.Scores.{score_few}

module _ {price m : ℕ} {counts scores : List ℕ} (s : Scored price m counts scores) where
  abbrev z : ℕ → ℕ
  z = at counts

  pub scored_ready : (u : ℕ) → u < 2 ^ m → Ready price m counts scores u
  scored_ready u b = record {
    counted = s.counted;
    low = s.low;
    size = s.filled.size;
    inside = b;
    small = λ v l. omega (arith, s.filled.right v (omega arith), score_few price z m s.low s.counted.few s.counted.narrow v (omega arith));
  }

  module _ (mounted : Mounted) (u : ℕ) (some : 0 < u) (b : u < 2 ^ m) where
    abbrev f : ℕ → ℕ
    f = worth price z m u

    abbrev top : ℕ
    top = suc (score price z m u)

    picked_lt : pick mounted price z m u < m
    picked_lt = has-below m u (pick mounted price z m u) b (picked-has price z m mounted u some b)

    -- the largest worth is that of the tip picked
    largest-worth : top ≡ largest f m
    unfolding pick
    largest-worth =
        let i = pick mounted price z m u in
        omega (
          arith,
          worth-has price z m u i (picked-has price z m mounted u some b),
          picked-score price z m mounted u some b,
          choice_attains f mounted m,
          largest_ge f m i picked_lt,
        )

    -- the tips at which the scores say the score are those that are worth most
    tied_same : (t : ℕ) → tied_at price counts scores u t ≡ (ltb 0 (f t) && eqb (f t) top)
    tied_same t = ⊎_elim owned lacked (test (has u t))
      where
        owned : T (has u t) → tied_at price counts scores u t ≡ (ltb 0 (f t) && eqb (f t) top)
        owned h =
            let w = u - 2 ^ t in
            let d = drop_lt u t h in
            rw (
              true_T (has u t) h,
              worth-has price z m u t h,
              lt-ltb 0 (suc (taking price z (score price z m) u t)) (omega arith),
              eqb-suc-suc,
              s.filled.right u b,
              s.filled.right w (omega arith),
            )

        lacked : T (not (has u t)) → tied_at price counts scores u t ≡ (ltb 0 (f t) && eqb (f t) top)
        lacked n = rw (false_T (has u t) n, worth-not price z m u t n)

    -- THE PICK by the table
    pub chosen-pick : chosen mounted (set_of (tied_at price counts scores u) m) ≡ pick mounted price z m u
    unfolding pick
    chosen-pick =
        ap (chosen mounted) (set_of_cong _ _ m (λ t _. tied_same t))
        ∙ chosen-busiest mounted f m top (λ e. omega arith) largest-worth (omega (arith, s.counted.narrow))

-- ---- the list of the tips

module _ (mounted : Mounted) (price : ℕ) (z : ℕ → ℕ) (m : ℕ) where
  order-none : (k : ℕ) → order mounted price z m k 0 ≡ []
  unfolding order
  order-none zero = refl
  order-none (suc k) = refl

  order-next : (k u : ℕ) → 0 < u
      → order mounted price z m (suc k) u ≡ pick mounted price z m u ∷ order mounted price z m k (u - 2 ^ pick mounted price z m u)
  unfolding order
  order-next k u l = rw (ne_eqb u 0 (λ e. omega arith))

  -- they are tips of the rack
  pub order_below : (k u : ℕ) → u < 2 ^ m → All (λ t. t < m) (order mounted price z m k u)
  unfolding order
  order_below zero u b = none
  order_below (suc k) zero b = none
  order_below (suc k) (suc n) b =
      let u = suc n in
      let t = pick mounted price z m u in
      let h = picked-has price z m mounted u (omega arith) b in
      rw (eqb-suc-zero n) (more (has-below m u t b h) (order_below k (u - 2 ^ t) (omega arith)))

  -- the first k tips are listed, and those of u are left
  pub record Picking (all k u : ℕ) (tips : List ℕ) : Type 0 where
    pub inside : u < 2 ^ m
    pub left : size m u + k ≤ m
    pub listed : order mounted price z m m all ≡ take k tips ++ order mounted price z m (m - k) u

  module _ (all : ℕ) where
    pub picking_first : (tips : List ℕ) → all < 2 ^ m → size m all ≤ m → Picking all 0 all tips
    picking_first tips b l =
        let e : m - 0 ≡ m = omega arith in
        record { inside = b; left = omega arith; listed = rw e }

    module _ {k u : ℕ} {tips : List ℕ} (p : Picking all k u tips) where
      -- there is room for one more
      pub picking_room : 0 < u → k < m
      picking_room some =
          let t = pick mounted price z m u in
          omega (arith, p.left, size-drop m u t p.inside (picked-has price z m mounted u some p.inside))

      -- the tip picked is a tip of u
      pub picking_own : (t : ℕ) → 0 < u → t ≡ pick mounted price z m u → T (has u t) × (t < m)
      picking_own t some e =
          let h : T (has u t) = rw e (picked-has price z m mounted u some p.inside) in
          (h, has-below m u t p.inside h)

      pub picking_more : (t : ℕ) → 0 < u → k < length tips → t ≡ pick mounted price z m u → Picking all (k + 1) (u - 2 ^ t) (set tips k t)
      picking_more t some l e =
          let h : T (has u t) = rw e (picked-has price z m mounted u some p.inside) in
          let q : m - k ≡ suc (m - (k + 1)) = omega (arith, picking_room some) in
          let o : order mounted price z m (m - k) u ≡ t ∷ order mounted price z m (m - (k + 1)) (u - 2 ^ t) =
          ap (λ j. order mounted price z m j u) q
          ∙ order-next (m - (k + 1)) u some
          ∙ ap (λ x. x ∷ order mounted price z m (m - (k + 1)) (u - 2 ^ x)) (sym e) in
          let a : take (k + 1) (set tips k t) ≡ take k tips ++ (t ∷ []) = rw (add-one, take-suc-set tips k t l) in
          record {
            inside = omega (arith, p.inside);
            left = omega (arith, p.left, size-drop m u t p.inside h);
            listed = p.listed ∙ ap (λ r. take k tips ++ r) o ∙ rw (a, append_assoc);
          }

      pub picking_all : u ≡ 0 → take k tips ≡ order mounted price z m m all
      picking_all e =
          let over = ap (λ v. take k tips ++ order mounted price z m (m - k) v) e in
          sym (p.listed ∙ over ∙ rw (order-none (m - k)) (append-nil (take k tips)))

-- ---- a set of the tips that pass a test, one tip more

pub set_of-more : (f : ℕ → Bool) (t : ℕ) → set_of f (t + 1) ≡ set_of f t + cond (f t) (2 ^ t) 0
unfolding set_of
set_of-more f t = rw add-one

-- the bit of a tip is a number of 64 bits
pub bit_is : (t : ℕ) → t < 64 → 1 * 2 ^ t % 2 ^ 64 ≡ 2 ^ t
bit_is t l =
    let h : 2 ^ t ≤ 2 ^ 63 = pow_mono {j = 63} (omega arith) in
    omega arith
