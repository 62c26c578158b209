-- The counts while they are summed by one tip, and while the lines are counted at their sets.
use Prim.Native.Nat.{ℕ, suc, ◌+◌, ◌*◌, ◌-◌, ◌/◌, ◌%◌, ◌^◌, ◌≤◌, ◌<◌}
use native.Mathlib.Omega.{arith}
use native.Mathlib.Nat.{div-eq_of_lt-le, add-mul, mul-le-mul_right}
use mathlib.Core.Path.{◌≡◌, refl, ap, ◌∙◌}
use mathlib.Core.Logic.{◌⊎◌, ◌≢◌, inl, inr, ⊎_elim}
use mathlib.Core.Bool.{Bool, not, cond}
use mathlib.Core.List.{List, []}
use lib.Dec.{T, T_not, not_T, eqb, eqb→eq, eqb_refl}
use lib.ListN.{length, get_or, set, take, replicate, length-set, length-take, length-replicate, get_or-replicate}
use lib.Pow.{pow_mono}
use lib.Seq.{take_all, get_or-set_same, get_or-set_other}
use Rattle.model.specs.Limits.{most_placements}
use Rattle.model.specs.Count.{count, list_of}
use Rattle.model.specs.Plan.{has}
use Rattle.model.proofs.Tests.{le_or_lt, test, true_T, false_T}
use Rattle.model.proofs.Sets.{has-digit, digit-has}
use Rattle.model.proofs.Lists.{all-at, count_le}
use Rattle.model.proofs.ListOf.{length-list_of, list_of-at, list_is}
use Rattle.placements.specs.Repeated.{total, repeated}
use Rattle.placements.proofs.Repeated.{length-repeated, count-repeated}
use Rattle.placements.proofs.Totals.{total-take_le}
use Rattle.placements.proofs.Loops.{weighted-more}
use Rattle.subset_rules.proofs.Drop.{drop_own, drop_lt}
use Rattle.subset_rules.specs.Exact.{most_named}
use Rattle.subset_table.specs.Counting.{set_counts, added_at, Addable, Block, Summing, CountsRoom}

-- ---- summed by tip t

pub summing_first : (t start : ℕ) (old : List ℕ) → Summing t start old start old
summing_first t start old = record { size = refl; before = λ v l. refl; done = λ v l b. absurd (omega arith); left = λ v l. refl }

module _ {t start u : ℕ} {old new : List ℕ} (a : Summing t start old u new) where
  -- sets without the tip stay as they were
  pub summing_skip : (next : ℕ) → u ≤ next → ((v : ℕ) → u ≤ v → v < next → T (not (has v t))) → Summing t start old next new
  unfolding added_at
  summing_skip next l none = record {
    size = a.size;
    before = a.before;
    done = λ v s b. ⊎_elim (λ p. rw (false_T (has v t) (none v p b)) (a.left v p)) (λ p. a.done v s p) (le_or_lt u v);
    left = λ v b. a.left v (omega arith);
  }

  -- what is read at u without the tip is as it was
  pub summing_read : T (has u t) → start ≤ u - 2 ^ t → get_or new (u - 2 ^ t) 0 ≡ get_or old (u - 2 ^ t) 0
  unfolding added_at
  summing_read h s = a.done (u - 2 ^ t) s (drop_lt u t h) ∙ rw (drop_own u t h)

  pub summing_more : (x : ℕ) → u < length old → T (has u t) → start ≤ u - 2 ^ t
      → x ≡ get_or new u 0 + get_or new (u - 2 ^ t) 0 → Summing t start old (u + 1) (set new u x)
  unfolding added_at
  summing_more x l h s e = record {
    size = rw length-set a.size;
    before = λ v b. get_or-set_other new u v x 0 (λ q. omega arith) ∙ a.before v b;
    done = λ v p b. ⊎_elim (here v b) (λ q. get_or-set_other new u v x 0 (λ z. omega arith) ∙ a.done v p q) (le_or_lt u v);
    left = λ v b. get_or-set_other new u v x 0 (λ q. omega arith) ∙ a.left v (omega arith);
  }
    where
      here : (v : ℕ) → v < u + 1 → u ≤ v → get_or (set new u x) v 0 ≡ added_at t old v
      here v b p =
          let q : v ≡ u = omega arith in
          rw q (get_or-set_same new u x 0 (omega (arith, a.size)) ∙ e ∙ rw (true_T (has u t) h, a.left u (omega arith), summing_read h s))

-- a block more
pub summing_block : {t start next : ℕ} {old new newer : List ℕ} → Summing t 0 old start new → Summing t start new next newer → start ≤ next
    → ((v : ℕ) → start ≤ v → v < next → T (has v t) → start ≤ v - 2 ^ t) → Summing t 0 old next newer
unfolding added_at
summing_block {t} {start} {next} {old} {new} {newer} a b l inside = record {
  size = b.size ∙ a.size;
  before = λ v p. absurd (omega arith);
  done = λ v _ p. ⊎_elim (λ q. b.done v q p ∙ within v q p) (λ q. b.before v q ∙ a.done v (omega arith) q) (le_or_lt start v);
  left = λ v p. b.left v p ∙ a.left v (omega arith);
}
  where
    within : (v : ℕ) → start ≤ v → v < next → added_at t new v ≡ added_at t old v
    within v p q =
        ⊎_elim
        (λ h. rw (true_T (has v t) h, a.left v p, a.left (v - 2 ^ t) (inside v p q h)))
        (λ n. rw (false_T (has v t) n) (a.left v p))
        (test (has v t))

pub summing_all : {t u : ℕ} {old new : List ℕ} → Summing t 0 old u new → length old ≤ u → new ≡ list_of (added_at t old) (length old)
summing_all {t} {u} {old} {new} a l = list_is (added_at t old) (length old) new a.size (λ v b. a.done v (omega arith) (omega arith))

-- ---- the blocks

module _ (t before start : ℕ) (e : start ≡ 2 * before * 2 ^ t) where
  -- the first half lacks the tip
  pub first_half : (v : ℕ) → start ≤ v → v < start + 2 ^ t → T (not (has v t))
  first_half v l b =
      let q : v / 2 ^ t ≡ 2 * before = div-eq_of_lt-le (2 ^ t) (omega arith) (omega (arith, add-mul (2 * before) 1 (2 ^ t))) in
      not_T (has v t) (λ h. omega (arith, has-digit v t h, ap (λ x. x % 2) q))

  -- and the second has it
  pub second_half : (v : ℕ) → start + 2 ^ t ≤ v → v < start + 2 * 2 ^ t → T (has v t)
  second_half v l b =
      let q : v / 2 ^ t ≡ 2 * before + 1 = div-eq_of_lt-le (2 ^ t) (omega (arith, add-mul (2 * before) 1 (2 ^ t)))
      (omega (arith, add-mul (2 * before) 1 (2 ^ t), add-mul (2 * before + 1) 1 (2 ^ t))) in
      digit-has v t (omega (arith, ap (λ x. x % 2) q))

  -- what a set of the block has without the tip is in it
  pub in_block : (v : ℕ) → start ≤ v → v < start + 2 * 2 ^ t → T (has v t) → start ≤ v - 2 ^ t
  in_block v l b h = ⊎_elim (λ p. omega arith) (λ p. absurd (T_not (has v t) (first_half v l p) h)) (le_or_lt (start + 2 ^ t) v)

module _ {t start : ℕ} {old : List ℕ} (r : Block t start old) where
  -- the first half is as it was
  pub half_first : Summing t start old (start + 2 ^ t) old
  half_first = summing_skip (summing_first t start old) (start + 2 ^ t) (omega arith) (first_half t r.before start r.here)

  module _ {u : ℕ} {new : List ℕ} (a : Summing t start old (u + 2 ^ t) new) (l : start ≤ u) (b : u < start + 2 ^ t) where
    with-tip : T (has (u + 2 ^ t) t)
    with-tip = second_half t r.before start r.here (u + 2 ^ t) (omega arith) (omega arith)

    back : u + 2 ^ t - 2 ^ t ≡ u
    back = omega arith

    pub half_few : get_or new (u + 2 ^ t) 0 + get_or new u 0 ≤ 2 * most_placements
    half_few =
        let read : get_or new u 0 ≡ get_or old u 0 = rw back at (summing_read a with-tip (omega (arith, back))) in
        omega (
          arith,
          read,
          a.left (u + 2 ^ t) (omega arith),
          r.few u l (omega (arith, r.room)),
          r.few (u + 2 ^ t) (omega arith) (omega (arith, r.room)),
        )

    pub half_more : Summing t start old (u + 1 + 2 ^ t) (set new (u + 2 ^ t) (get_or new (u + 2 ^ t) 0 + get_or new u 0))
    half_more =
        let x = get_or new (u + 2 ^ t) 0 + get_or new u 0 in
        let more = summing_more a x (omega (arith, r.room)) with-tip (omega (arith, back)) (rw back) in
        let next : u + 2 ^ t + 1 ≡ u + 1 + 2 ^ t = omega arith in
        rw next at more

-- the next block's start, and there is room for a whole block
next_start : (before width : ℕ) → 2 * suc before * width ≡ 2 * before * width + 2 * width
next_start before width =
    let e : 2 * suc before ≡ 2 * before + 2 = omega arith in
    ap (λ x. x * width) e ∙ add-mul (2 * before) 2 width

block_room : (blocks before width : ℕ) → 2 * before * width < 2 * blocks * width → 2 * before * width + 2 * width ≤ 2 * blocks * width
block_room blocks before width l =
    ⊎_elim
    (λ p. absurd (omega (arith, mul-le-mul_right {m = 2 * blocks} {n = 2 * before} width (omega arith))))
    (λ p. omega (arith, mul-le-mul_right {m = 2 * suc before} {n = 2 * blocks} width (omega arith), next_start before width))
    (le_or_lt blocks before)

-- the blocks before the next one are summed
pub record Blocks (t : ℕ) (old : List ℕ) (start : ℕ) (new : List ℕ) : Type 0 where
  pub summed : Summing t 0 old start new
  pub before : ℕ
  pub here : start ≡ 2 * before * 2 ^ t

pub blocks_first : (t : ℕ) (old : List ℕ) → Blocks t old 0 old
blocks_first t old = record { summed = summing_first t 0 old; before = 0; here = omega arith }

module _ {t start : ℕ} {old new : List ℕ} (a : Addable t old) (b : Blocks t old start new) where
  pub blocks_room : start < length new → start + 2 * 2 ^ t ≤ length old
  blocks_room l =
      let e : 2 * b.before * 2 ^ t < 2 * a.blocks * 2 ^ t = omega (arith, b.here, a.whole, b.summed.size) in
      omega (arith, block_room a.blocks b.before (2 ^ t) e, b.here, a.whole)

  pub next_block : start < length new → Block t start new
  next_block l = record {
    tip = a.tip;
    before = b.before;
    here = b.here;
    room = omega (arith, blocks_room l, b.summed.size);
    few = λ u p q. rw (b.summed.left u p) (all-at 0 a.few u (omega (arith, b.summed.size)));
  }

  pub blocks_more : {newer : List ℕ} → Summing t start new (start + 2 * 2 ^ t) newer → Blocks t old (start + 2 * 2 ^ t) newer
  blocks_more s = record {
    summed = summing_block b.summed s (omega arith) (in_block t b.before start b.here);
    before = suc b.before;
    here = omega (arith, b.here, next_start b.before (2 ^ t));
  }

-- ---- each line counted at its set

pub length-sets : (n : ℕ) (lines : List ℕ) → length (set_counts n lines) ≡ n
unfolding set_counts
length-sets n lines = length-list_of _ n

pub sets-none : (n : ℕ) → replicate n 0 ≡ set_counts n []
unfolding set_counts count
sets-none n = list_is _ n _ (length-replicate {A = ℕ} n 0) (λ k h. get_or-replicate n k 0 0 h)

module _ (n : ℕ) (qs lines : List ℕ) (same : length qs ≡ length lines) where
  -- the placements of the first i lines
  abbrev pub placed : ℕ → List ℕ
  placed i = repeated (take i qs) (take i lines)

  abbrev at : ℕ → ℕ → ℕ
  at i k = count (λ s. eqb s k) (placed i)

  -- no place counts more than all placements
  pub sets_few : (i k : ℕ) → k < n → get_or (set_counts n (placed i)) k 0 ≤ total qs
  unfolding set_counts
  sets_few i k h =
      let e : length (take i qs) ≡ length (take i lines) = omega (arith, length-take i qs, length-take i lines) in
      rw (list_of-at (at i) n k h) (omega (
        arith,
        count_le (λ s. eqb s k) (placed i),
        length-repeated (take i qs) (take i lines) e,
        total-take_le qs i,
      ))

  pub placed-all : (i : ℕ) → length lines ≤ i → placed i ≡ repeated qs lines
  placed-all i h = rw (take_all i qs (omega arith), take_all i lines h)

  -- the placements of the first i lines, and the quantity of the next at its own set
  at_more : (i k : ℕ) → i < length lines → at (i + 1) k ≡ at i k + cond (eqb (get_or lines i 0) k) (get_or qs i 0) 0
  at_more i k h =
      let f : ℕ → Bool = λ s. eqb s k in
      omega (
        arith,
        count-repeated f (take (i + 1) qs) (take (i + 1) lines),
        count-repeated f (take i qs) (take i lines),
        weighted-more f qs lines same i h,
      )

  pub sets_more : (i : ℕ) → i < length lines → get_or lines i 0 < n
      → set (set_counts n (placed i)) (get_or lines i 0) (get_or (set_counts n (placed i)) (get_or lines i 0) 0 + get_or qs i 0)
      ≡ set_counts n (placed (i + 1))
  unfolding set_counts
  sets_more i h g = list_is _ n _ (rw length-set (length-list_of _ n)) (λ k l. go k l (test (eqb p k)))
    where
      p : ℕ
      p = get_or lines i 0

      xs : List ℕ
      xs = list_of (at i) n

      go : (k : ℕ) → k < n → T (eqb p k) ⊎ T (not (eqb p k)) → get_or (set xs p (get_or xs p 0 + get_or qs i 0)) k 0 ≡ at (i + 1) k
      go k l (inl t) =
          let e : p ≡ k = eqb→eq p k t in
          let b : k < length xs = rw (length-list_of (at i) n) l in
          rw (e, get_or-set_same, list_of-at, at_more i k h, true_T (eqb (get_or lines i 0) k) t)
      go k l (inr t) =
          let d : k ≢ p = λ e. T_not (eqb p k) t (rw e (eqb_refl p)) in
          rw (get_or-set_other, list_of-at, at_more i k h, false_T (eqb (get_or lines i 0) k) t) (omega arith)

-- the set of a line is a small number, and one of the places
pub own_place : {m : ℕ} {qs lines counts : List ℕ} → CountsRoom m qs lines counts → (i : ℕ) → i < length lines
    → (get_or lines i 0 < 2 ^ most_named) × (get_or lines i 0 < length counts)
own_place {m} r i h =
    let d = all-at 0 r.lines.domains i h in
    let few : 2 ^ m ≤ 2 ^ most_named = pow_mono {j = most_named} r.lines.narrow in
    (omega (arith, d.below), omega (arith, d.below, r.size))
