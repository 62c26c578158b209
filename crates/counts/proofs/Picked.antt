-- The lines whose quantities have a binary digit: parts of them, and what all digits make of the placements.
use Prim.Native.Nat.{ℕ, zero, suc, ◌+◌, ◌*◌, ◌/◌, ◌%◌, ◌^◌, ◌≤◌, ◌<◌}
use native.Mathlib.Omega.{arith}
use native.Mathlib.Nat.{div-eq_of_lt}
use native.Mathlib.Numerals.{add-one}
use mathlib.Core.Path.{◌≡◌, refl, ap, sym, ◌∙◌}
use mathlib.Core.Logic.{⊎_elim}
use mathlib.Core.Bool.{Bool, true, false, cond}
use mathlib.Core.List.{List, [], ◌∷◌, ◌++◌, append-nil, map, zip_with}
use lib.ListN.{length, get_or, set, take, drop, length-take, length-drop, drop_of_length-le}
use lib.Pow.{shr-shr}
use Rattle.model.specs.Count.{count, All, none, more}
use Rattle.model.specs.Plan.{has, occ}
use Rattle.model.specs.Limits.{most_placements}
use Rattle.model.proofs.Tests.{test, true_T, false_T}
use Rattle.model.proofs.Lists.{count_le}
use Rattle.placements.specs.Repeated.{repeated, weighted}
use Rattle.placements.proofs.Repeated.{length-repeated, occ-repeated, repeated_ones, length-zip}
use Rattle.counts.specs.Counts.{plane_count, digit, share, Counts, Countable}
use Rattle.counts.specs.declared.adders.Pair.{Pair}
use Rattle.counts.specs.Sums.{both_at, Empty, Fits, Added, Doublable, Doubled, Joinable, Joined, Whole}
use Rattle.counts.specs.Picked.{pick_by, picked}
use Rattle.counts.proofs.Digits.{has_one, has-one-digit, lacks_digit, empty_digit, share-digit}

-- ---- a list made of two

module _ (f : ℕ → ℕ → ℕ) where
  zip-drop : (i : ℕ) (qs xs : List ℕ) → length qs ≡ length xs → zip_with f (drop i qs) (drop i xs) ≡ drop i (zip_with f qs xs)
  unfolding zip_with
  zip-drop zero qs xs e = refl
  zip-drop (suc i) [] xs e = refl
  zip-drop (suc i) (q ∷ qs) [] e = absurd (omega arith)
  zip-drop (suc i) (q ∷ qs) (x ∷ xs) e = zip-drop i qs xs (omega arith)

  zip-take : (i : ℕ) (qs xs : List ℕ) → length qs ≡ length xs → zip_with f (take i qs) (take i xs) ≡ take i (zip_with f qs xs)
  unfolding zip_with
  zip-take zero qs xs e = refl
  zip-take (suc i) [] xs e = refl
  zip-take (suc i) (q ∷ qs) [] e = absurd (omega arith)
  zip-take (suc i) (q ∷ qs) (x ∷ xs) e = ap (λ l. f q x ∷ l) (zip-take i qs xs (omega arith))

  -- one element more in the place of one of ys
  pub zip_more : (qs xs ys : List ℕ) (i : ℕ) → length qs ≡ length xs → i < length xs → length xs ≤ length ys
      → set (zip_with f (take i qs) (take i xs) ++ drop i ys) i (f (get_or qs i 0) (get_or xs i 0))
      ≡ zip_with f (take (i + 1) qs) (take (i + 1) xs) ++ drop (i + 1) ys
  unfolding zip_with
  zip_more qs xs ys i e h g = rw add-one (go qs xs ys i e h g)
    where
      go : (qs xs ys : List ℕ) (i : ℕ) → length qs ≡ length xs → i < length xs → length xs ≤ length ys
          → set (zip_with f (take i qs) (take i xs) ++ drop i ys) i (f (get_or qs i 0) (get_or xs i 0))
          ≡ zip_with f (take (suc i) qs) (take (suc i) xs) ++ drop (suc i) ys
      go qs [] ys i e h g = absurd (omega arith)
      go [] (x ∷ xs) ys i e h g = absurd (omega arith)
      go (q ∷ qs) (x ∷ xs) [] i e h g = absurd (omega arith)
      go (q ∷ qs) (x ∷ xs) (y ∷ ys) zero e h g = refl
      go (q ∷ qs) (x ∷ xs) (y ∷ ys) (suc i) e h g = ap (λ l. f q x ∷ l) (go qs xs ys i (omega arith) (omega arith) (omega arith))

-- ---- the digits of the quantities

-- the placements without those of the digits below j, as a count of 2 ^ j
unfoldable pub over_at : ℕ → List ℕ → List ℕ → ℕ → ℕ
over_at j qs lines t = weighted (λ s. has s t) (map (λ q. q / 2 ^ j) qs) lines

picked-digit : (j q s t : ℕ) → cond (has (pick_by j q s) t) 1 0 ≡ share (digit q j) s t
unfolding pick_by
picked-digit j q s t =
    has_one (pick_by j q s) t
    ∙ ⊎_elim
    (λ y. rw (true_T (has q j) y, share-digit (digit q j) s t, has-one-digit q j y) (omega arith))
    (λ n. rw (false_T (has q j) n, share-digit (digit q j) s t, lacks_digit q j n) (omega (arith, empty_digit t)))
    (test (has q j))

-- one digit more
module _ (j t : ℕ) where
  over-more : (qs lines : List ℕ) → length qs ≡ length lines
      → over_at j qs lines t ≡ 2 * over_at (suc j) qs lines t + occ (picked j qs lines) t
  unfolding over_at weighted occ count zip_with share digit
  over-more [] [] e = refl
  over-more [] (s ∷ lines) e = absurd (omega arith)
  over-more (q ∷ qs) [] e = absurd (omega arith)
  over-more (q ∷ qs) (s ∷ lines) e =
      let half : q / 2 ^ j / 2 ≡ q / 2 ^ suc j = shr-shr q j 1 ∙ ap (λ n. q / 2 ^ n) (add-one j) in
      omega (arith, over-more qs lines (omega arith), by (has s t), picked-digit j q s t, ap (λ n. cond (has s t) n 0) half)
    where
      by : (y : Bool) → cond y (q / 2 ^ j) 0 ≡ 2 * cond y (q / 2 ^ j / 2) 0 + cond y (q / 2 ^ j % 2) 0
      by true = omega arith
      by false = refl

module _ (t : ℕ) where
  -- no digit is counted yet
  over_none : (n most : ℕ) → most < 2 ^ n → (lines : List ℕ) {qs : List ℕ} → All (λ q. q ≤ most) qs → over_at n qs lines t ≡ 0
  unfolding over_at weighted
  over_none n most l lines none = refl
  over_none n most l [] (more h hs) = refl
  over_none n most l (s ∷ lines) (more {x = q} h hs) =
      let b : q < 2 ^ n = omega arith in
      rw (div-eq_of_lt b, over_none n most l lines hs) (by (has s t))
    where
      by : (y : Bool) → cond y 0 0 + 0 ≡ 0
      by true = refl
      by false = refl

  -- all are
  over-all : (qs lines : List ℕ) → over_at 0 qs lines t ≡ occ (repeated qs lines) t
  unfolding over_at weighted
  over-all qs lines = go qs lines ∙ sym (occ-repeated qs lines t)
    where
      go : (qs lines : List ℕ) → weighted (λ s. has s t) (map (λ q. q / 2 ^ 0) qs) lines ≡ weighted (λ s. has s t) qs lines
      go [] lines = refl
      go (q ∷ qs) [] = refl
      go (q ∷ qs) (s ∷ lines) =
          let e : q / 2 ^ 0 ≡ q = omega arith in
          rw e (ap (λ n. cond (has s t) q 0 + n) (go qs lines))

-- ---- parts of the lines that have a digit

module _ (j : ℕ) (qs lines : List ℕ) (same : length qs ≡ length lines) where
  pub picked-length : length (picked j qs lines) ≡ length lines
  picked-length = length-zip (pick_by j) qs lines same

  -- a block of them in place of as many
  pub picked-block : (i : ℕ) → 32 * i + 32 ≤ length lines → (chosen : List ℕ) → length chosen ≡ 32
      → picked j (take 32 (drop (32 * i) qs)) (take 32 (drop (32 * i) lines)) ++ drop (length (take 32 (drop (32 * i) lines))) chosen
      ≡ take 32 (drop (32 * i) (picked j qs lines))
  picked-block i h chosen full =
      let size : 32 ≤ length (take 32 (drop (32 * i) lines)) = simp (length-take, length-drop) (omega arith) in
      let all = drop_of_length-le chosen {i = length (take 32 (drop (32 * i) lines))} (omega arith) in
      let parts = zip-take (pick_by j) 32 (drop (32 * i) qs) (drop (32 * i) lines) (simp length-drop (omega arith)) in
      rw (all, append-nil, parts, zip-drop (pick_by j) (32 * i) qs lines same)

  -- those from line i on
  pub picked-rest : (i : ℕ) → picked j (drop i qs) (drop i lines) ≡ drop i (picked j qs lines)
  picked-rest i = zip-drop (pick_by j) i qs lines same

-- ---- all placements

-- no more placements allow a tip than there are
occ_few : {qs lines : List ℕ} → Countable qs lines → (t : ℕ) → occ (repeated qs lines) t ≤ most_placements
unfolding occ
occ_few {qs} {lines} n t = omega (arith, count_le (λ s. has s t) (repeated qs lines), length-repeated qs lines n.same, n.few)

-- the digits from j on are counted
pub record CountedFrom (j : ℕ) (qs lines : List ℕ) (sums : List Pair) : Type 0 where
  pub within : j ≤ 8
  pub size : length sums ≡ plane_count
  pub sum : (t : ℕ) → both_at sums t ≡ over_at j qs lines t

-- no quantity is below 1, and none is above
pub ones_between : {low high : ℕ} {qs : List ℕ} → low ≡ 1 → high ≡ 1 → All (λ q. low ≤ q) qs → All (λ q. q ≤ high) qs → All (λ q. q ≡ 1) qs
ones_between l h none none = none
ones_between l h (more {x} p ps) (more q qs) = more {x = x} (omega arith) (ones_between l h ps qs)

module _ {qs lines : List ℕ} (n : Countable qs lines) where
  over_few : (j t : ℕ) → over_at j qs lines t ≤ most_placements
  over_few zero t = omega (arith, over-all t qs lines, occ_few n t)
  over_few (suc j) t = omega (arith, over-more j t qs lines n.same, over_few j t)

  pub none-counted : {j most : ℕ} {sums : List Pair} → Empty sums → All (λ q. q ≤ most) qs → most < 2 ^ j → j ≤ 8 → CountedFrom j qs lines sums
  none-counted {j} {most} e h l w = record { within = w; size = e.size; sum = λ t. omega (arith, e.none t, over_none t j most l lines h) }

  pub all-counted : {sums : List Pair} → CountedFrom 0 qs lines sums → Whole qs lines sums
  all-counted c = record { size = c.size; sum = λ t. omega (arith, c.sum t, over-all t qs lines) }

  -- one digit more
  module _ {j : ℕ} {sums : List Pair} (c : CountedFrom (suc j) qs lines sums) where
    pub room_twice : Doublable sums
    room_twice = record { size = c.size; fits = λ t. omega (arith, c.sum t, over-more j t qs lines n.same, over_few j t) }

    module _ {twice : List Pair} (d : Doubled sums twice) where
      pub digit-fits : Fits (picked j qs lines) twice
      digit-fits = record {
        size = d.size;
        fits = λ t. omega (arith, c.sum t, d.sum t, over-more j t qs lines n.same, over_few j t);
      }

      pub digit-counted : {sums' : List Pair} → Added (picked j qs lines) twice sums' → CountedFrom j qs lines sums'
      digit-counted a = record {
        within = omega (arith, c.within);
        size = a.size;
        sum = λ t. omega (arith, c.sum t, d.sum t, a.sum t, over-more j t qs lines n.same);
      }

  -- each quantity is 1
  module _ (o : All (λ q. q ≡ 1) qs) where
    once : repeated qs lines ≡ lines
    once = repeated_ones o lines n.same

    module _ {sums : List Pair} (e : Empty sums) where
      pub ones_fit : Fits lines sums
      ones_fit = record { size = e.size; fits = λ t. omega (arith, rw once at (occ_few n t), e.none t) }

      pub ones_whole : {sums' : List Pair} → Added lines sums sums' → Whole qs lines sums'
      ones_whole a = record { size = a.size; sum = λ t. rw once (omega (arith, a.sum t, e.none t)) }

-- both counts of all placements joined
module _ {qs lines : List ℕ} {sums : List Pair} (n : Countable qs lines) (w : Whole qs lines sums) where
  pub joinable : Joinable sums
  joinable = record { size = w.size; fits = λ t. omega (arith, w.sum t, occ_few n t) }

  pub joined : {planes : List ℕ} → Joined sums planes → Counts (repeated qs lines) planes
  joined j = record { size = j.size; counted = λ t. omega (arith, j.sum t, w.sum t) }
