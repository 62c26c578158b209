-- Lines added to two counts part by part.
use Prim.Native.Nat.{ℕ, zero, suc, ◌+◌, ◌*◌, ◌≤◌, ◌<◌}
use native.Mathlib.Omega.{arith}
use mathlib.Core.Path.{◌≡◌, refl, ap, ◌∙◌}
use mathlib.Core.List.{List, [], ◌∷◌, ◌++◌}
use lib.ListN.{length, get_or, take, drop, replicate, length-append, length-drop}
use lib.Seq.{drop-drop}
use Rattle.model.specs.Count.{count}
use Rattle.model.specs.Plan.{has, occ}
use Rattle.model.proofs.Lists.{count_le}
use Rattle.std.specs.Simd.{first_chunks}
use Rattle.counts.specs.declared.adders.Pair.{Pair}
use Rattle.counts.specs.Sums.{NoTip, Fits, Added, AddedTo}
use Rattle.counts.proofs.Digits.{has_one, empty_digit}

occ-split : (n : ℕ) (lines : List ℕ) (t : ℕ) → occ (take n lines) t + occ (drop n lines) t ≡ occ lines t
unfolding occ count
occ-split zero lines t = omega arith
occ-split (suc n) [] t = refl
occ-split (suc n) (s ∷ lines) t = omega (arith, occ-split n lines t)

occ-append : (xs ys : List ℕ) (t : ℕ) → occ (xs ++ ys) t ≡ occ xs t + occ ys t
unfolding occ count
occ-append [] ys t = omega arith
occ-append (x ∷ xs) ys t = omega (arith, occ-append xs ys t)

pub occ-zeros : (n t : ℕ) → occ (replicate n 0) t ≡ 0
unfolding occ count
occ-zeros zero t = refl
occ-zeros (suc n) t = omega (arith, has_one 0 t, empty_digit t, occ-zeros n t)

-- block i of the whole blocks
pub get_or-chunks : (k i : ℕ) (xs : List ℕ) → i < k → get_or (first_chunks 32 k xs) i [] ≡ take 32 (drop (32 * i) xs)
get_or-chunks zero i xs h = absurd (omega arith)
get_or-chunks (suc k) zero xs h = refl
get_or-chunks (suc k) (suc i) xs h =
    let e : 32 * suc i ≡ 32 + 32 * i = omega arith in
    rw e (get_or-chunks k i (drop 32 xs) (omega arith) ∙ ap (take 32) (drop-drop (32 * i) 32 xs))

-- its lines, and those after it
pub block-occ : (lines : List ℕ) (i t : ℕ) → occ (take 32 (drop (32 * i) lines)) t + occ (drop (32 * (i + 1)) lines) t ≡ occ (drop (32 * i) lines) t
block-occ lines i t =
    let e : 32 * i + 32 ≡ 32 * (i + 1) = omega arith in
    rw (drop-drop, e) at (occ-split 32 (drop (32 * i) lines) t)

pub none_added : {lines : List ℕ} {sums : List Pair} → Fits lines sums → AddedTo 0 lines sums sums
none_added f = record { size = f.size; within = omega arith; sum = λ t. refl }

module _ {i : ℕ} {lines : List ℕ} {old sums : List Pair} (f : Fits lines old) (a : AddedTo i lines old sums) where
  -- some of the lines from line i on, up to line k
  module _ {part : List ℕ} (k : ℕ) (p : (t : ℕ) → occ part t + occ (drop k lines) t ≡ occ (drop i lines) t) where
    pub part-fits : Fits part sums
    part-fits = record { size = a.size; fits = λ t. omega (arith, f.fits t, a.sum t, p t) }

    pub part_added : k ≤ length lines → {sums' : List Pair} → Added part sums sums' → AddedTo k lines old sums'
    part_added h b = record { size = b.size; within = h; sum = λ t. omega (arith, a.sum t, b.sum t, p t) }

  -- all of them
  pub rest-fits : Fits (drop i lines) sums
  rest-fits = record { size = a.size; fits = λ t. omega (arith, f.fits t, a.sum t) }

  pub rest_added : {sums' : List Pair} → Added (drop i lines) sums sums' → Added lines old sums'
  rest_added b = record { size = b.size; sum = λ t. omega (arith, a.sum t, b.sum t) }

pub no_tip : NoTip (replicate 32 0)
no_tip = record { size = refl; none = occ-zeros 32 }

-- lines followed by some that allow no tip
module _ (lines : List ℕ) (n : ℕ) {chosen none : List ℕ} (z : NoTip none) (e : chosen ≡ lines ++ drop n none) where
  padded_occ : (t : ℕ) → occ chosen t ≡ occ lines t
  padded_occ t = rw e (omega (arith, occ-append lines (drop n none) t, occ-split n none t, z.none t))

  pub padded_size : length lines ≡ n → n ≤ 32 → length chosen ≡ 32
  padded_size q h = rw e (simp (length-append, length-drop) (omega (arith, z.size)))

  pub padded_fits : {sums : List Pair} → Fits lines sums → Fits chosen sums
  padded_fits f = record { size = f.size; fits = λ t. omega (arith, f.fits t, padded_occ t) }

  pub padded_added : {sums sums' : List Pair} → Added chosen sums sums' → Added lines sums sums'
  padded_added a = record { size = a.size; sum = λ t. omega (arith, a.sum t, padded_occ t) }

pub nothing_added : {lines : List ℕ} {sums : List Pair} → length lines ≡ 0 → Fits lines sums → Added lines sums sums
unfolding occ
nothing_added {lines} z f = record { size = f.size; sum = λ t. omega (arith, count_le (λ s. has s t) lines) }
