-- Two counts side by side: a pair of planes stored, sixteen lines added to both, and a carry that goes up the planes.
use Prim.Native.Nat.{ℕ, zero, suc, ◌+◌, ◌-◌, ◌*◌, ◌^◌, ◌≤◌, ◌<◌}
use native.Mathlib.Omega.{arith}
use native.Mathlib.Nat.{pow-suc}
use native.Mathlib.Numerals.{add-one}
use mathlib.Core.Path.{◌≡◌, refl, ap, sym, ◌∙◌}
use mathlib.Core.List.{List, [], ◌∷◌, ◌++◌}
use borrow.Rule.Slice.PartMut.{put_mid}
use Rattle.std.proofs.lemmas.List.{get_or-append_right, get_or_append_left, set-append_right, set-append_left}
use lib.ListN.{length, get_or, drop, take, set, replicate, length-drop, length-set, drop_of_length-le}
use lib.Seq.{take_all, length-take-le, take-suc-set, drop-cons, drop-drop, drop-set-lt, get_or-drop}
use Rattle.model.specs.Count.{count}
use Rattle.model.specs.Plan.{has, occ}
use Rattle.model.proofs.Loops.{count-rest}
use Rattle.counts.specs.declared.adders.Pair.{Pair}
use Rattle.counts.specs.Counts.{plane_count, digit, count_at, AddsThree}
use Rattle.counts.specs.Sums.{differing, met}
use Rattle.counts.specs.Sums.{pair_at, both_at, eight_at, AddsEight, Raisable, Raised, Empty, Fits, Added, Doublable, Doubled, Joinable, Joined}
use Rattle.counts.proofs.Digits.{has_one, half_adder, empty_digit}

-- the occurrences among the lines from i on: line i, and those after it
occ-rest : (lines : List ℕ) (i t : ℕ) → i < length lines → occ (drop i lines) t ≡ digit (get_or lines i 0) t + occ (drop (i + 1) lines) t
unfolding occ
occ-rest lines i t h = omega (arith, count-rest (λ s. has s t) lines i h, has_one (get_or lines i 0) t)

-- ---- sixteen lines: eight for each count

sixteen : (lines : List ℕ) (t : ℕ) → 16 ≤ length lines → occ lines t ≡ eight_at lines t + eight_at (drop 1 lines) t + occ (drop 16 lines) t
unfolding eight_at
sixteen lines t h =
    simp get_or-drop (
    omega (
      arith,
      occ-rest lines 0 t (omega arith),
      occ-rest lines 1 t (omega arith),
      occ-rest lines 2 t (omega arith),
      occ-rest lines 3 t (omega arith),
      occ-rest lines 4 t (omega arith),
      occ-rest lines 5 t (omega arith),
      occ-rest lines 6 t (omega arith),
      occ-rest lines 7 t (omega arith),
      occ-rest lines 8 t (omega arith),
      occ-rest lines 9 t (omega arith),
      occ-rest lines 10 t (omega arith),
      occ-rest lines 11 t (omega arith),
      occ-rest lines 12 t (omega arith),
      occ-rest lines 13 t (omega arith),
      occ-rest lines 14 t (omega arith),
      occ-rest lines 15 t (omega arith),
    ))

-- seven sums of three make the sum of eight lines
pub seven_adders : {lines : List ℕ} {ones twos fours a₁ a₂ b₁ b₂ c₁ c₂ d₁ d₂ e₁ e₂ f₁ f₂ g₁ g₂ : ℕ}
    → AddsThree ones (get_or lines 0 0) (get_or lines 2 0) a₁ a₂
    → AddsThree a₁ (get_or lines 4 0) (get_or lines 6 0) b₁ b₂
    → AddsThree twos a₂ b₂ c₁ c₂
    → AddsThree b₁ (get_or lines 8 0) (get_or lines 10 0) d₁ d₂
    → AddsThree d₁ (get_or lines 12 0) (get_or lines 14 0) e₁ e₂
    → AddsThree c₁ d₂ e₂ f₁ f₂
    → AddsThree fours c₂ f₂ g₁ g₂
    → AddsEight ones twos fours lines e₁ f₁ g₁ g₂
unfolding eight_at
seven_adders a b c d e f g = record { sum = λ t. omega (arith, a.sum t, b.sum t, c.sum t, d.sum t, e.sum t, f.sum t, g.sum t) }

-- ---- planes stored

abbrev pub pair : ℕ → ℕ → Pair
pair p q = record { even = p; odd = q }

abbrev pub no_pair : Pair
no_pair = pair 0 0

-- pair j
both-set : (sums : List Pair) (j : ℕ) (p : Pair) (t : ℕ) → j < length sums
    → both_at (set sums j p) t + 2 ^ j * pair_at (get_or sums j no_pair) t ≡ both_at sums t + 2 ^ j * pair_at p t
unfolding both_at
both-set [] j p t h = absurd (omega arith)
both-set (a ∷ sums) zero p t h = omega arith
both-set (a ∷ sums) (suc j) p t h = rw pow-suc (omega (arith, both-set sums j p t (omega arith)))

-- the four lowest pairs
both-four : (sums : List Pair) (p q r s : Pair) (t : ℕ) → 4 ≤ length sums
    → both_at (set (set (set (set sums 0 p) 1 q) 2 r) 3 s) t
    + pair_at (get_or sums 0 no_pair) t + 2 * pair_at (get_or sums 1 no_pair) t
    + 4 * pair_at (get_or sums 2 no_pair) t + 8 * pair_at (get_or sums 3 no_pair) t
    ≡ both_at sums t + pair_at p t + 2 * pair_at q t + 4 * pair_at r t + 8 * pair_at s t
unfolding both_at
both-four [] p q r s t l = absurd (omega arith)
both-four (_ ∷ []) p q r s t l = absurd (omega arith)
both-four (_ ∷ _ ∷ []) p q r s t l = absurd (omega arith)
both-four (_ ∷ _ ∷ _ ∷ []) p q r s t l = absurd (omega arith)
both-four (_ ∷ _ ∷ _ ∷ _ ∷ sums) p q r s t l = omega arith

-- ---- a part of the pairs in their place: its pair j is pair a + j of all

module _ (a k j : ℕ) (old items : List Pair) (h : a ≤ length old) (l : j < length items) where
  put_get : get_or (put_mid a k old items) (a + j) no_pair ≡ get_or items j no_pair
  put_get =
      let e : a + j - a ≡ j = omega arith in
      get_or-append_right (take a old) _ a (a + j) no_pair (length-take-le a old h) (omega arith)
      ∙ rw e (get_or_append_left items _ no_pair j l)

  put_set : (p : Pair) → set (put_mid a k old items) (a + j) p ≡ put_mid a k old (set items j p)
  put_set p =
      let e : a + j - a ≡ j = omega arith in
      set-append_right (take a old) _ a (a + j) p (length-take-le a old h) (omega arith)
      ∙ rw e (ap (λ x. take a old ++ x) (set-append_left items _ j p l))

-- ---- a carry of each count is at plane j

pub record Rising (carry : Pair) (old sums : List Pair) (j : ℕ) (left : Pair) : Type 0 where
  pub within : j ≤ plane_count
  pub size : length sums ≡ plane_count
  pub sum : (t : ℕ) → both_at sums t + 2 ^ j * pair_at left t ≡ both_at old t + 16 * pair_at carry t

pub rising_start : {carry : Pair} {sums : List Pair} → Raisable carry sums → Rising carry sums sums 4 carry
rising_start r = record { within = omega arith; size = r.size; sum = λ t. refl }

module _ {carry : Pair} {j : ℕ} {left : Pair} {old sums : List Pair} (r : Rising carry old sums j left) where
  rising_more : j < plane_count
      → let p = get_or sums j no_pair in
      Rising carry old (set sums j (differing p left)) (j + 1) (met p left)
  unfolding differing met
  rising_more h = record {
    within = omega arith;
    size = simp length-set r.size;
    sum = λ t.
        let p = get_or sums j no_pair in
        let first = ap (λ x. 2 ^ j * x) (half_adder p.even left.even t) in
        let second = ap (λ x. 2 ^ j * x) (half_adder p.odd left.odd t) in
        let stored = both-set sums j (differing p left) t (omega (arith, r.size)) in
        rw (add-one j, pow-suc) (omega (arith, r.sum t, stored, first, second));
  }

  pub rising_end : Raisable carry old → plane_count ≤ j → Raised carry old sums
  rising_end a h = record {
    size = r.size;
    sum = λ t. let e : j ≡ plane_count = omega (arith, r.within) in omega (arith, rw e at (r.sum t), a.fits t);
  }

-- plane j of all is the next of the part from plane a on
pub rising_part : {carry : Pair} {a j : ℕ} {left : Pair} {old : List Pair} (k : ℕ) (items : List Pair)
    → Rising carry old (put_mid a k old items) (a + j) left → a ≤ length old → j < length items → a + j < plane_count
    → let p = get_or items j no_pair in
    Rising carry old (put_mid a k old (set items j (differing p left))) (a + (j + 1)) (met p left)
rising_part {a = a} {j = j} {old = old} k items r h l more =
    let e : a + j + 1 ≡ a + (j + 1) = omega arith in
    rw (e, put_get a k j old items h l, put_set a k j old items h l) at (rising_more r more)

-- ---- the pairs from pair j on

both_rest : (sums : List Pair) (j t : ℕ) → j < length sums
    → both_at (drop j sums) t ≡ pair_at (get_or sums j no_pair) t + 2 * both_at (drop (j + 1) sums) t
unfolding both_at
both_rest sums j t h = rw (add-one j, drop-cons sums j no_pair h)

both_end : (sums : List Pair) (j t : ℕ) → length sums ≤ j → both_at (drop j sums) t ≡ 0
unfolding both_at
both_end sums j t h = ap (λ l. both_at l t) (drop_of_length-le sums {i = j} h)

both-zeros : (n t : ℕ) → both_at (replicate n no_pair) t ≡ 0
unfolding both_at
both-zeros zero t = refl
both-zeros (suc n) t = omega (arith, empty_digit t, both-zeros n t)

pub no_sums : Empty (replicate 12 no_pair)
no_sums = record { size = refl; none = both-zeros 12 }

-- each pair below pair j has moved up by one, and the one before pair j is on its way
pub record Moving (old sums : List Pair) (j : ℕ) (lower : Pair) : Type 0 where
  pub within : j ≤ plane_count
  pub size : length sums ≡ plane_count
  pub rest : drop j sums ≡ drop j old
  pub sum : (t : ℕ) → both_at sums t + 2 ^ j * pair_at lower t + 2 ^ j * both_at (drop j old) t ≡ 2 * both_at old t

pub moving_start : {sums : List Pair} → Doublable sums → Moving sums sums 0 no_pair
moving_start d = record { within = omega arith; size = d.size; rest = refl; sum = λ t. omega (arith, empty_digit t) }

module _ {old sums : List Pair} {j : ℕ} {lower : Pair} (m : Moving old sums j lower) where
  pub moving_more : j < plane_count → Moving old (set sums j lower) (j + 1) (get_or sums j no_pair)
  moving_more h =
      let more = sym (drop-drop 1 j sums) ∙ ap (drop 1) m.rest ∙ drop-drop 1 j old in
      record {
        within = omega arith;
        size = simp length-set m.size;
        rest = drop-set-lt (j + 1) sums j lower (omega arith) ∙ more;
        sum = λ t.
            let stored = both-set sums j lower t (omega (arith, m.size)) in
            let planes = ap (λ x. 2 ^ j * x) (rw (m.rest, more) at (both_rest sums j t (omega (arith, m.size)))) in
            rw (add-one j, pow-suc) (omega (arith, m.sum t, stored, rw (add-one j) at planes));
      }

  pub moving_end : Doublable old → plane_count ≤ j → Doubled old sums
  moving_end d h = record {
    size = m.size;
    sum = λ t.
        let e : j ≡ plane_count = omega (arith, m.within) in
        let none = both_end old plane_count t (omega (arith, d.size)) in
        omega (arith, rw e at (m.sum t), none, d.fits t);
  }

-- ---- both counts joined, up to plane j

pub record Joining (sums : List Pair) (planes : List ℕ) (j carry : ℕ) : Type 0 where
  pub within : j ≤ plane_count
  pub size : length planes ≡ plane_count
  pub sum : (t : ℕ) → count_at (take j planes) t + 2 ^ j * (digit carry t + both_at (drop j sums) t) ≡ both_at sums t

pub joining_start : (sums : List Pair) {planes : List ℕ} → length planes ≡ plane_count → Joining sums planes 0 0
unfolding count_at
joining_start sums n = record { within = omega arith; size = n; sum = λ t. omega (arith, empty_digit t) }

count_at-more : (planes : List ℕ) (p t : ℕ) → count_at (planes ++ p ∷ []) t ≡ count_at planes t + 2 ^ length planes * digit p t
unfolding count_at
count_at-more [] p t = omega arith
count_at-more (q ∷ planes) p t = rw pow-suc (omega (arith, count_at-more planes p t))

module _ {sums : List Pair} {planes : List ℕ} {j carry : ℕ} (k : Joining sums planes j carry) (s : Joinable sums) where
  pub joining_more : j < plane_count → {ones twos : ℕ}
      → let p = get_or sums j no_pair in
      AddsThree p.even p.odd carry ones twos → Joining sums (set planes j ones) (j + 1) twos
  joining_more h {ones} {twos} a = record {
    within = omega arith;
    size = simp length-set k.size;
    sum = λ t.
        let l : j < length planes = omega (arith, k.size) in
        let stored = ap (λ x. count_at x t) (take-suc-set planes j ones l) ∙ count_at-more (take j planes) ones t in
        let n : length (take j planes) ≡ j = length-take-le j planes (omega arith) in
        let both = ap (λ x. 2 ^ j * x) (both_rest sums j t (omega (arith, s.size))) in
        let three = ap (λ x. 2 ^ j * x) (a.sum t) in
        rw (add-one j, pow-suc) (omega (arith, k.sum t, rw n at stored, rw (add-one j) at both, three));
  }

  pub joining_end : plane_count ≤ j → Joined sums planes
  joining_end h = record {
    size = k.size;
    sum = λ t.
        let e : j ≡ plane_count = omega (arith, k.within) in
        let none = both_end sums plane_count t (omega (arith, s.size)) in
        let all = ap (λ x. count_at x t) (take_all plane_count planes (omega (arith, k.size))) in
        omega (arith, rw e at (k.sum t), none, all, s.fits t);
  }

-- ---- thirty-two lines

module _ {lines : List ℕ} {sums : List Pair} (k : Fits lines sums) (n : length lines ≡ 32)
    {a₁ a₂ a₄ a₈ b₁ b₂ b₄ b₈ c₁ c₂ c₄ c₈ d₁ d₂ d₄ d₈ e₁ e₂ f₁ f₂ : ℕ}
    (a : AddsEight (get_or sums 0 no_pair).even (get_or sums 1 no_pair).even (get_or sums 2 no_pair).even lines a₁ a₂ a₄ a₈)
    (b : AddsEight (get_or sums 0 no_pair).odd (get_or sums 1 no_pair).odd (get_or sums 2 no_pair).odd (take 31 (drop 1 lines)) b₁ b₂ b₄ b₈)
    (c : AddsEight a₁ a₂ a₄ (take 16 (drop 16 lines)) c₁ c₂ c₄ c₈)
    (d : AddsEight b₁ b₂ b₄ (take 15 (drop 17 lines)) d₁ d₂ d₄ d₈)
    (e : AddsThree (get_or sums 3 no_pair).even a₈ c₈ e₁ e₂)
    (f : AddsThree (get_or sums 3 no_pair).odd b₈ d₈ f₁ f₂) where
  abbrev pub stored : List Pair
  stored = set (set (set (set sums 0 (pair c₁ d₁)) 1 (pair c₂ d₂)) 2 (pair c₄ d₄)) 3 (pair e₁ f₁)

  block-sum : (t : ℕ) → both_at stored t + 16 * (digit e₂ t + digit f₂ t) ≡ both_at sums t + occ lines t
  unfolding occ count
  block-sum t =
      let low = sixteen lines t (omega arith) in
      let high = rw (drop-drop, drop-drop) at (sixteen (drop 16 lines) t (rw length-drop (omega arith))) in
      let none = ap (λ l. occ l t) (drop_of_length-le lines {i = 32} (omega arith)) in
      omega (
        arith,
        low,
        high,
        none,
        a.sum t,
        rw (take_all 31 (drop 1 lines) (rw length-drop (omega arith))) at (b.sum t),
        rw (take_all 16 (drop 16 lines) (rw length-drop (omega arith))) at (c.sum t),
        rw (take_all 15 (drop 17 lines) (rw length-drop (omega arith))) at (d.sum t),
        e.sum t,
        f.sum t,
        both-four sums (pair c₁ d₁) (pair c₂ d₂) (pair c₄ d₄) (pair e₁ f₁) t (omega (arith, k.size)),
      )

  pub block-fits : Raisable (pair e₂ f₂) stored
  block-fits = record { size = simp length-set k.size; fits = λ t. omega (arith, block-sum t, k.fits t) }

  pub block_added : {sums' : List Pair} → Raised (pair e₂ f₂) stored sums' → Added lines sums sums'
  block_added r = record { size = r.size; sum = λ t. omega (arith, r.sum t, block-sum t) }
