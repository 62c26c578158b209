-- A plan filled place by place, and segment by segment; a segment found line by line.
use Prim.Native.Nat.{ℕ, suc, ◌+◌, ◌-◌, ◌≤◌, ◌<◌}
use native.Mathlib.Omega.{arith}
use native.Mathlib.Numerals.{add-one}
use native.Mathlib.Nat.{zero-add}
use mathlib.Core.Path.{◌≡◌, ap, sym, ◌∙◌}
use mathlib.Core.Bool.{not}
use mathlib.Core.List.{List, [], ◌∷◌, ◌++◌, append_assoc, append-nil}
use lib.Bits.{bit_and}
use lib.Dec.{T, not_T, eqb→eq}
use lib.ListN.{length, take, drop, get_or, set, replicate}
use lib.ListN.{take-append-drop, length-append, length-take, length-drop, length-replicate, replicate-append-replicate, drop_of_length-le}
use lib.Seq.{drop-cons, drop-drop, take_at, take_all, set_at}
use Rattle.model.specs.Count.{All}
use Rattle.model.specs.Interval.{low}
use Rattle.model.proofs.Tests.{true_T, false_T, eqb_T}
use Rattle.model.proofs.Lists.{all-at}
use Rattle.along.specs.Along.{parted, fewest_from, final, reach, plan_from}
use Rattle.along.specs.Segment.{segment_at, filled, laid}
use Rattle.along.proofs.Along.{Tips}
use Rattle.along.proofs.Segments.{reach_le, plan_segment, fewest_segment, plan_new, fewest-new, reach-new}

-- ---- a segment, line by line

module _ (k s : ℕ) where
  parted_if : bit_and k s ≡ 0 → T (parted k s)
  unfolding parted
  parted_if e = eqb_T (bit_and k s) 0 e

  parted_not : (bit_and k s ≡ 0 → ⊥) → T (not (parted k s))
  unfolding parted
  parted_not n = not_T (parted k s) (λ y. n (eqb→eq (bit_and k s) 0 y))

module _ (sets : List ℕ) (i k : ℕ) where
  pub segment_end : length sets ≤ i → segment_at sets i k ≡ record { end = i; common = k }
  unfolding segment_at reach final
  segment_end h = let e : i + 0 ≡ i = omega arith in rw (drop_of_length-le sets h, e)

  module _ (l : i < length sets) where
    pub segment_stop : bit_and k (get_or sets i 0) ≡ 0 → segment_at sets i k ≡ record { end = i; common = k }
    unfolding segment_at reach final
    segment_stop e =
        let z : i + 0 ≡ i = omega arith in
        rw (drop-cons sets i 0 l, true_T (parted k (get_or sets i 0)) (parted_if k (get_or sets i 0) e), z)

    pub segment_more : (bit_and k (get_or sets i 0) ≡ 0 → ⊥) → segment_at sets i k ≡ segment_at sets (i + 1) (bit_and k (get_or sets i 0))
    unfolding segment_at reach final
    segment_more n =
        let s = get_or sets i 0 in
        let z : (m : ℕ) → i + suc m ≡ suc i + m = λ m. omega arith in
        rw (add-one i, drop-cons sets i 0 l, false_T (parted k s) (parted_not k s n), z)

-- ---- a plan, place by place

module _ (plan : List ℕ) (from t : ℕ) where
  pub filled_none : plan ≡ filled from from t plan
  unfolding filled
  filled_none = let e : from - from ≡ 0 = omega arith in rw e (sym (take-append-drop from plan))

  filled_head : (i : ℕ) → from ≤ i → i ≤ length plan → length (take from plan ++ replicate (i - from) t) ≡ i
  filled_head i h l = simp (length-append, length-take, length-replicate) (omega arith)

  pub filled_more : (i : ℕ) → from ≤ i → i < length plan → set (filled from i t plan) i t ≡ filled from (i + 1) t plan
  unfolding filled
  filled_more i h l =
      let p = take from plan in
      let r = replicate (i - from) t in
      let rest = drop (suc i) plan in
      let e : i + 1 - from ≡ i - from + 1 = omega arith in
      rw (e, add-one i, drop-cons plan i 0 l, ← append_assoc p r (get_or plan i 0 ∷ rest), ← replicate-append-replicate (i - from) 1 t)
      (set_at (p ++ r) (get_or plan i 0) rest t i (filled_head i h (omega arith)) ∙ append_assoc p r (t ∷ rest)
      ∙ ap (λ x. p ++ x) (sym (append_assoc r (t ∷ []) rest)))

  filled_taken : (i : ℕ) → from ≤ i → i ≤ length plan → take i (filled from i t plan) ≡ take from plan ++ replicate (i - from) t
  unfolding filled
  filled_taken i h l =
      rw (← append_assoc (take from plan) (replicate (i - from) t) (drop i plan))
      (take_at (take from plan ++ replicate (i - from) t) (drop i plan) i (filled_head i h l))

-- ---- a plan, segment by segment

module _ (sets plan : List ℕ) (from k : ℕ) (place : from ≤ length sets) (room : length plan ≡ length sets) where
  -- the end of a segment is a place of the lists, or their end
  pub segment_in : (from ≤ (segment_at sets from k).end) × ((segment_at sets from k).end ≤ length sets)
  unfolding segment_at
  segment_in = (omega arith, omega (arith, reach_le k (drop from sets), length-drop from sets))

  -- a plan made up to the segment is made up to its end
  pub laid_more : take from plan ++ plan_from k (drop from sets)
      ≡ take (segment_at sets from k).end (laid sets from k plan) ++ plan_from 0 (drop (segment_at sets from k).end sets)
  unfolding laid segment_at
  laid_more =
      let d = drop from sets in
      let r = reach k d in
      let t = low (final k d) in
      let e : from + r - from ≡ r = omega arith in
      let fits = segment_in in
      let taken = filled_taken plan from t (from + r) (omega arith) (omega (arith, reach_le k d, length-drop from sets)) in
      ap (λ l. take from plan ++ l) (plan_segment k d)
      ∙ sym (append_assoc (take from plan) (replicate r t) (plan_from 0 (drop r d)))
      ∙ rw (taken, e, drop-drop r from sets)

-- the first segment, of the start set
pub first_plan : (sets plan : List ℕ) (k : ℕ) → length plan ≡ length sets
    → plan_from k sets ≡ take (segment_at sets 0 k).end (laid sets 0 k plan) ++ plan_from 0 (drop (segment_at sets 0 k).end sets)
first_plan sets plan k room = laid_more sets plan 0 k (omega arith) room

pub first-fewest : (sets : List ℕ) (k : ℕ) → fewest_from k sets ≡ fewest_from 0 (drop (segment_at sets 0 k).end sets)
unfolding segment_at
first-fewest sets k = rw zero-add (fewest_segment k sets)

-- a segment more, which begins with a change
module _ (sets plan : List ℕ) (at : ℕ) (l : at < length sets) (room : length plan ≡ length sets) (good : All Tips sets) where
  abbrev next : ℕ
  next = get_or sets at 0

  abbrev rest : List ℕ
  rest = drop (suc at) sets

  tips : Tips next
  tips = all-at 0 good at l

  pub more_plan : take at plan ++ plan_from 0 (drop at sets)
      ≡ take (segment_at sets at next).end (laid sets at next plan) ++ plan_from 0 (drop (segment_at sets at next).end sets)
  more_plan =
      let d : drop at sets ≡ next ∷ rest = drop-cons sets at 0 l in
      let e : plan_from 0 (drop at sets) ≡ plan_from next (drop at sets) = rw d (plan_new next tips rest) in
      ap (λ p. take at plan ++ p) e ∙ laid_more sets plan at next (omega arith) room

  pub more_fewest : fewest_from 0 (drop at sets) ≡ 1 + fewest_from 0 (drop (segment_at sets at next).end sets)
  unfolding segment_at
  more_fewest =
      let d : drop at sets ≡ next ∷ rest = drop-cons sets at 0 l in
      let e : fewest_from 0 (drop at sets) ≡ 1 + fewest_from next (drop at sets) = rw d (fewest-new next tips rest) in
      let f = fewest_segment next (drop at sets) in
      let g = ap (λ x. fewest_from 0 x) (drop-drop (reach next (drop at sets)) at sets) in
      omega arith

  pub more_past : at < (segment_at sets at next).end
  unfolding segment_at
  more_past =
      let d : drop at sets ≡ next ∷ rest = drop-cons sets at 0 l in
      let h : 0 < reach next (drop at sets) = rw d (reach-new next tips rest) in
      omega arith

-- all lines have their tips
module _ (sets plan : List ℕ) (at : ℕ) (l : length sets ≤ at) where
  pub done_plan : length plan ≡ length sets → take at plan ++ plan_from 0 (drop at sets) ≡ plan
  unfolding plan_from
  done_plan room = rw (drop_of_length-le sets l, take_all at plan (omega arith)) (append-nil plan)

  pub done_fewest : fewest_from 0 (drop at sets) ≡ 0
  unfolding fewest_from
  done_fewest = rw (drop_of_length-le sets l)
