-- What is read from the planes: the largest count of the tips in the rack, the tips that have it, and the lowest of them.
use Prim.Native.Nat.{ℕ, zero, suc, ◌+◌, ◌*◌, ◌-◌, ◌^◌, ◌≤◌, ◌<◌}
use native.Mathlib.Omega.{arith}
use native.Mathlib.Nat.{lt_of_lt_of_le, lt_of_le_of_lt, pos_of_ne-zero}
use mathlib.Core.Path.{◌≡◌, refl, ap, sym, ◌∙◌}
use mathlib.Core.Logic.{⊎_elim}
use mathlib.Core.Bool.{Bool, true, false, ◌&&◌, and_assoc}
use mathlib.Core.List.{◌++◌, List, [], ◌∷◌}
use lib.Bits.{bit_and, and_comm, and_le_l}
use lib.Dec.{T, T_not, ltb, eqb, eqb→eq, eqb_refl, lt→ltb}
use lib.Seq.{take_all, take-take, take-append_seam}
use lib.ListN.{take, length-append, length, get_or, drop, length-drop, drop_of_length-le}
use lib.Pow.{pow_mono, pow_pos}
use lib.Seq.{drop-cons}
use borrow.Author.Tests.{lt-ltb, le-ltb, ne_eqb}
use Rattle.std.proofs.lemmas.Grind.{common_steps}
use Rattle.model.specs.Count.{largest, lowest_at}
use Rattle.model.specs.Plan.{has}
use Rattle.model.specs.CommonTip.{set_of, top, W}
use Rattle.model.proofs.Tests.{test, le_or_lt, same_test, and_left, and_right, and_in}
use Rattle.model.proofs.Largest.{largest_cong, largest_ge, lowest_lt, lowest_attains}
use Rattle.model.proofs.Sets.{has_some, some_tip, set_of_lt, set_of_cong, has-set_of, has_and, covers_or}
use Rattle.counts.specs.Counts.{plane_count, digit, count_at, Counts, busy_tips}
use Rattle.counts.proofs.Planes.{count_at_lt}
use Rattle.counts.proofs.Digits.{digit_le, lacks_digit, has-one-digit, one-digit-has}

eqb_T : (a b : ℕ) → a ≡ b → T (eqb a b)
eqb_T a b e = rw e (eqb_refl b)

-- ---- sets by a test

-- all tips, and none
pub set_of-all : (m : ℕ) → set_of (λ t. true) m ≡ 2 ^ m - 1
unfolding set_of
set_of-all zero = refl
set_of-all (suc m) = omega (arith, set_of-all m, pow_pos m)

set_of-none : (m : ℕ) → set_of (λ t. false) m ≡ 0
unfolding set_of
set_of-none zero = refl
set_of-none (suc m) = omega (arith, set_of-none m)

-- sets with the same tips are equal
same_tips : (k a b : ℕ) → a < 2 ^ k → b < 2 ^ k → ((t : ℕ) → has a t ≡ has b t) → a ≡ b
same_tips k a b ha hb e = sym (holds b a ha (λ t h. rw (← (e t)) h)) ∙ and_comm b a ∙ holds a b hb (λ t h. rw (e t) h)
  where
    holds : (s w : ℕ) → w < 2 ^ k → ((t : ℕ) → T (has w t) → T (has s t)) → bit_and s w ≡ w
    holds s w h f = ⊎_elim (λ q. q) (λ (t, y, n). absurd (T_not (has s t) n (f t y))) (covers_or k s w h)

pub and_set_of : (f : ℕ → Bool) (m p : ℕ) → bit_and (set_of f m) p ≡ set_of (λ t. f t && has p t) m
and_set_of f m p =
    same_tips m (bit_and (set_of f m) p) (set_of (λ t. f t && has p t) m)
    (lt_of_le_of_lt (and_le_l (set_of f m) p) (set_of_lt f m))
    (set_of_lt _ m)
    (λ t. rw (has_and, has-set_of, has-set_of) (and_assoc (ltb t m) (f t) (has p t)))

-- a tip of a set by a test
tip_of : (f : ℕ → Bool) (m : ℕ) → (set_of f m ≡ 0 → ⊥) → (t : ℕ) × T (f t) × (t < m)
tip_of f m n =
    let (t, h, l) = some_tip {m = m} {s = set_of f m} (record { some = pos_of_ne-zero n; below = set_of_lt f m }) in
    (t, and_right (ltb t m) (f t) (rw (has-set_of f m t) at h), l)

no_tip_of : (f : ℕ → Bool) (m : ℕ) → set_of f m ≡ 0 → (t : ℕ) → t < m → T (f t) → ⊥
no_tip_of f m z t l y = omega (arith, has_some (set_of f m) t (rw (has-set_of f m t) (and_in (ltb t m) (f t) (lt→ltb t m l) y)))

-- ---- one plane more below the counts f: the counts g

-- the tips below m with the count n
abbrev tips_at : (ℕ → ℕ) → ℕ → ℕ → ℕ
tips_at f n m = set_of (λ t. eqb (f t) n) m

largest_attained : (f : ℕ → ℕ) (m : ℕ) → 0 < m → f (lowest_at f m) ≡ largest f m
largest_attained f m h = omega (arith, lowest_attains f m, largest_ge f m (lowest_at f m) (lowest_lt f m h))

module _ (f g : ℕ → ℕ) (p m : ℕ) (e : (t : ℕ) → g t ≡ digit p t + 2 * f t) where
  higher : bit_and (tips_at f (largest f m) m) p ≡ set_of (λ t. eqb (f t) (largest f m) && has p t) m
  higher = and_set_of (λ t. eqb (f t) (largest f m)) m p

  -- some of the tips with the largest count have the digit: they alone have the largest count
  module _ (some : bit_and (tips_at f (largest f m) m) p ≡ 0 → ⊥) where
    pub largest_odd : largest g m ≡ 2 * largest f m + 1
    largest_odd =
        let n = largest f m in
        let (t, y, l) = tip_of (λ t. eqb (f t) n && has p t) m (λ z. some (higher ∙ z)) in
        let same = eqb→eq (f t) n (and_left (eqb (f t) n) (has p t) y) in
        let one = has-one-digit p t (and_right (eqb (f t) n) (has p t) y) in
        let u = lowest_at g m in
        let most = largest_ge f m u (lowest_lt g m (omega arith)) in
        omega (arith, e t, same, one, largest_ge g m t l, largest_attained g m (omega arith), e u, digit_le p u, most)

    pub tips_odd : bit_and (tips_at f (largest f m) m) p ≡ tips_at g (2 * largest f m + 1) m
    tips_odd =
        let n = largest f m in
        higher
        ∙ set_of_cong _ _ m (λ t l.
        same_test (eqb (f t) n && has p t) (eqb (g t) (2 * n + 1))
        (λ y.
        let same = eqb→eq (f t) n (and_left (eqb (f t) n) (has p t) y) in
        let one = has-one-digit p t (and_right (eqb (f t) n) (has p t) y) in
        eqb_T (g t) (2 * n + 1) (omega (arith, e t, same, one)))
        (λ y.
        let q = eqb→eq (g t) (2 * n + 1) y in
        let same = eqb_T (f t) n (omega (arith, e t, q, digit_le p t)) in
        and_in (eqb (f t) n) (has p t) same (one-digit-has p t (omega (arith, e t, q, digit_le p t)))))

  -- none has it: the same tips
  module _ (none : bit_and (tips_at f (largest f m) m) p ≡ 0) where
    digit-none : (t : ℕ) → t < m → f t ≡ largest f m → digit p t ≡ 0
    digit-none t l q =
        let n = largest f m in
        ⊎_elim
        (λ y. absurd (no_tip_of (λ t. eqb (f t) n && has p t) m (sym higher ∙ none) t l (and_in (eqb (f t) n) (has p t) (eqb_T (f t) n q) y)))
        (lacks_digit p t)
        (test (has p t))

    pub largest_even : largest g m ≡ 2 * largest f m
    unfolding largest
    largest_even = by m refl
      where
        by : (k : ℕ) → m ≡ k → largest g m ≡ 2 * largest f m
        by zero z = rw z
        by (suc k) z =
            let u = lowest_at g m in
            let v = lowest_at f m in
            let l = lowest_lt g m (omega arith) in
            let at = largest_ge g m v (lowest_lt f m (omega arith)) in
            let ge : 2 * largest f m ≤ largest g m = omega (arith, e v, largest_attained f m (omega arith), at) in
            ⊎_elim
            (λ h. omega (arith, largest_attained g m (omega arith), e u, digit-none u l (omega (arith, largest_ge f m u l)), largest_ge f m u l))
            (λ h. omega (arith, largest_attained g m (omega arith), e u, digit_le p u))
            (le_or_lt (largest f m) (f u))

    pub tips_even : tips_at f (largest f m) m ≡ tips_at g (2 * largest f m) m
    tips_even =
        let n = largest f m in
        set_of_cong _ _ m (λ t l.
        same_test (eqb (f t) n) (eqb (g t) (2 * n))
        (λ y. let q = eqb→eq (f t) n y in eqb_T (g t) (2 * n) (omega (arith, e t, q, digit-none t l q)))
        (λ y. eqb_T (f t) n (omega (arith, e t, eqb→eq (g t) (2 * n) y, digit_le p t))))

-- ---- the planes from j on

-- the largest count that they hold for a tip below m, and the tips that have it
-- the planes that are left to read, from the lowest on
pub record Unread (planes left : List ℕ) : Type 0 where
  pub front : left ≡ take (length left) planes
  pub within : length left ≤ length planes

pub all_unread : (planes : List ℕ) → Unread planes planes
all_unread planes = record { front = sym (take_all (length planes) planes (omega arith)); within = omega arith }

pub record TopFrom (planes : List ℕ) (m j tips top : ℕ) : Type 0 where
  pub top-is : top ≡ largest (count_at (drop j planes)) m
  pub tips_are : tips ≡ tips_at (count_at (drop j planes)) top m

largest_lt : (f : ℕ → ℕ) (m n : ℕ) → 0 < n → ((t : ℕ) → f t < n) → largest f m < n
unfolding largest
largest_lt f zero n p h = p
largest_lt f (suc m) n p h = omega (arith, largest_lt f m n p h, h m)

largest_zero : (m : ℕ) → largest (λ t. 0) m ≡ 0
unfolding largest
largest_zero zero = refl
largest_zero (suc m) = omega (arith, largest_zero m)

pub count_at-drop : (planes : List ℕ) (k t : ℕ) → k < length planes
    → count_at (drop k planes) t ≡ digit (get_or planes k 0) t + 2 * count_at (drop (suc k) planes) t
unfolding count_at
count_at-drop planes k t h = ap (λ l. count_at l t) (drop-cons planes k 0 h)

module _ (planes : List ℕ) (m : ℕ) where
  -- no plane is read yet
  pub top_start : TopFrom planes m (length planes) (2 ^ m - 1) 0
  unfolding count_at
  top_start =
      let none = drop_of_length-le planes {i = length planes} (omega arith) in
      record {
        top-is = sym (ap (λ l. largest (count_at l) m) none ∙ largest_zero m);
        tips_are = sym (ap (λ l. tips_at (count_at l) 0 m) none ∙ set_of-all m);
      }

  module _ {j tips top : ℕ} (h : j < length planes) (r : TopFrom planes m (suc j) tips top) where
    f : ℕ → ℕ
    f = count_at (drop (suc j) planes)

    g : ℕ → ℕ
    g = count_at (drop j planes)

    twice : (t : ℕ) → g t ≡ digit (get_or planes j 0) t + 2 * f t
    unfolding f g
    twice t = count_at-drop planes j t h

    tips-from : tips ≡ tips_at f (largest f m) m
    unfolding f
    tips-from = r.tips_are ∙ ap (λ n. tips_at f n m) r.top-is

    doubled : 2 * largest f m ≡ top + top
    unfolding f
    doubled = omega (arith, r.top-is)

    -- some of the tips are in plane j, or none is
    pub top_odd : (bit_and tips (get_or planes j 0) ≡ 0 → ⊥) → TopFrom planes m j (bit_and tips (get_or planes j 0)) (top + top + 1)
    unfolding f g
    top_odd some =
        let p = get_or planes j 0 in
        let n : bit_and (tips_at f (largest f m) m) p ≡ 0 → ⊥ = λ z. some (ap (λ s. bit_and s p) tips-from ∙ z) in
        record {
          top-is = ap (λ k. k + 1) (sym doubled) ∙ sym (largest_odd f g p m twice n);
          tips_are = ap (λ s. bit_and s p) tips-from ∙ tips_odd f g p m twice n ∙ ap (λ k. tips_at g (k + 1) m) doubled;
        }

    pub top_even : bit_and tips (get_or planes j 0) ≡ 0 → TopFrom planes m j tips (top + top)
    unfolding f g
    top_even none =
        let p = get_or planes j 0 in
        let z = ap (λ s. bit_and s p) (sym tips-from) ∙ none in
        record {
          top-is = sym doubled ∙ sym (largest_even f g p m twice z);
          tips_are = tips-from ∙ tips_even f g p m twice z ∙ ap (λ k. tips_at g k m) doubled;
        }

  -- the planes that are left to read, one less: the last is read
  module _ {left : List ℕ} (left' : List ℕ) (p : ℕ) {tips top : ℕ} (u : Unread planes left) (e : left ≡ left' ++ p ∷ [])
      (r : TopFrom planes m (length left) tips top) where
    fewer : length left ≡ suc (length left')
    fewer = rw e (simp length-append (omega arith))

    is : get_or planes (length left') 0 ≡ p
    is = grind (arith, common_steps)

    front_less : left' ≡ take (length left') planes
    front_less =
        sym (take-append_seam left' (p ∷ [])) ∙ ap (take (length left')) (sym e ∙ u.front)
        ∙ take-take (length left') (length left) planes (omega (arith, fewer))

    pub unread_less : Unread planes left'
    unread_less = record { front = front_less; within = omega (arith, fewer, u.within) }

    pub last_odd : (bit_and tips p ≡ 0 → ⊥) → TopFrom planes m (length left') (bit_and tips p) (top + top + 1)
    last_odd some = rw is at (top_odd (omega (arith, fewer, u.within)) (rw fewer at r) (rw is some))

    pub last_even : bit_and tips p ≡ 0 → TopFrom planes m (length left') tips (top + top)
    last_even none = top_even (omega (arith, fewer, u.within)) (rw fewer at r) (rw is none)

  -- no count is above twelve digits
  pub top_lt : {j tips top : ℕ} → length planes ≡ plane_count → TopFrom planes m j tips top → top < 2 ^ plane_count
  top_lt {j} {tips} {top} size r =
      let few : length (drop j planes) ≤ plane_count = rw length-drop (omega arith) in
      rw r.top-is (
      largest_lt (count_at (drop j planes)) m (2 ^ plane_count) (pow_pos plane_count)
      (λ t. lt_of_lt_of_le (count_at_lt (drop j planes) t) (pow_mono few)))

-- ---- all planes

module _ (f : ℕ → ℕ) (m n : ℕ) where
  -- the tips with the count n, and none where it is 0
  busy : ℕ → Bool
  busy t = ltb 0 (f t) && eqb (f t) n

  pub busy_none : n ≡ 0 → busy_tips f n m ≡ 0
  unfolding busy
  busy_none z =
      set_of_cong busy (λ t. false) m (λ t l.
      ⊎_elim (λ h. rw (le-ltb 0 (f t) h)) (λ h. rw (lt-ltb 0 (f t) h, ne_eqb (f t) n (λ q. omega arith))) (le_or_lt (f t) 0))
      ∙ set_of-none m

  pub busy_some : (n ≡ 0 → ⊥) → busy_tips f n m ≡ tips_at f n m
  unfolding busy
  busy_some s =
      set_of_cong busy (λ t. eqb (f t) n) m (λ t l.
      ⊎_elim (λ h. rw (le-ltb 0 (f t) h, ne_eqb (f t) n (λ q. s (omega arith)))) (λ h. rw (lt-ltb 0 (f t) h)) (le_or_lt (f t) 0))

lowest_le : (f : ℕ → ℕ) (m : ℕ) → lowest_at f m < suc m
unfolding lowest_at
lowest_le f zero = omega arith
lowest_le f (suc m) = omega (arith, lowest_lt f (suc m) (omega arith))

lowest_cong : (f g : ℕ → ℕ) (m : ℕ) → ((t : ℕ) → t < suc m → f t ≡ g t) → lowest_at f m ≡ lowest_at g m
unfolding lowest_at
lowest_cong f g zero h = refl
lowest_cong f g (suc m) h = rw (lowest_cong f g m (λ t l. h t (omega arith)), h (lowest_at g m) (omega (arith, lowest_le g m)), h m (omega arith))

-- the counts of lines
module _ {lines planes : List ℕ} (c : Counts lines planes) (m : ℕ) where
  pub largest-top : largest (count_at planes) m ≡ top m lines
  unfolding top
  largest-top = largest_cong _ _ m (λ t _. c.counted t)

  pub tips-W : {n : ℕ} → n ≡ top m lines → busy_tips (count_at planes) n m ≡ W m lines
  unfolding W
  tips-W q = set_of_cong _ _ m (λ t _. rw (c.counted t, q))
