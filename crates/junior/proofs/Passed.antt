-- One choice of tips: given up where some line has neither, else the counts and the score.
use Prim.Native.Nat.{ℕ, zero, suc, ◌+◌, ◌-◌, ◌*◌, ◌≤◌, ◌<◌, max}
use native.Mathlib.Omega.{arith}
use mathlib.Core.Path.{◌≡◌, refl, sym, ap, ◌∙◌}
use mathlib.Core.Logic.{inl}
use mathlib.Core.Bool.{Bool, true, false, not, ◌&&◌, ◌||◌, and_assoc}
use mathlib.Core.List.{List, [], ◌∷◌, ◌++◌}
use Rattle.std.specs.Prelude.{Some, None}
use lib.Dec.{T, leb, ltb, eqb}
use Rattle.std.proofs.Math.Bool.{and-true}
use lib.Seq.{drop-drop, drop-append_seam}
use lib.ListN.{length, get_or, take, drop, replicate, drop_of_length-le, length-append}
use Rattle.model.specs.Count.{All, none, more, each, every}
use Rattle.model.specs.Plan.{has, occ}
use Rattle.model.proofs.Tests.{T_true, true_T, every_iff}
use Rattle.model.proofs.Lists.{all_map, all_drop}
use Rattle.model.proofs.Loops.{each-rest}
use Rattle.placements.specs.Repeated.{repeated, total, weighted}
use Rattle.placements.proofs.Repeated.{length-repeated, occ-repeated, all-repeated, all_once}
use Rattle.holder_rules.specs.Holders.{serves, to_first, score, side_pairs, score_by}
use Rattle.holder_rules.proofs.Two.{Served, serves_iff}
use Rattle.holder_rules.proofs.Counts.{first_by, score-served, score_unserved}
use Rattle.junior.specs.Found.{Padded, tips_on}
use Rattle.junior.proofs.Choice.{tips_with, none_on, some_on}
use Rattle.junior.proofs.Sides.{score_none, score_some}

-- the lines of a part and those behind it
pub serves-parts : (n : ℕ) (lines : List ℕ) (u v : ℕ) → serves lines u v ≡ (serves (take n lines) u v && serves (drop n lines) u v)
unfolding serves each
serves-parts zero lines u v = refl
serves-parts (suc n) [] u v = refl
serves-parts (suc n) (s ∷ lines) u v =
    ap (λ b. (has s u || has s v) && b) (serves-parts n lines u v) ∙ sym (and_assoc (has s u || has s v) _ _)

-- one line more is asked
pub missed-more : (lines : List ℕ) (u v i : ℕ) → i < length lines → (missed : Bool)
    → not (serves lines u v) ≡ (missed || not (serves (drop i lines) u v))
    → not (serves lines u v) ≡ ((missed || not (has (get_or lines i 0) u || has (get_or lines i 0) v)) || not (serves (drop (i + 1) lines) u v))
unfolding serves
missed-more lines u v i l missed e =
    e ∙ ap (λ b. missed || not b) (each-rest (λ s. has s u || has s v) lines i l)
    ∙ apart missed (has (get_or lines i 0) u || has (get_or lines i 0) v) (each (λ s. has s u || has s v) (drop (i + 1) lines))
  where
    apart : (a b c : Bool) → (a || not (b && c)) ≡ ((a || not b) || not c)
    apart true b c = refl
    apart false true c = refl
    apart false false c = refl

pub missed-all : (lines : List ℕ) (u v i : ℕ) → length lines ≤ i → (missed : Bool)
    → not (serves lines u v) ≡ (missed || not (serves (drop i lines) u v))
    → missed ≡ not (serves lines u v)
unfolding serves each
missed-all lines u v i l missed e = sym (e ∙ rw (drop_of_length-le lines {i = i} l) (alone missed))
  where
    alone : (a : Bool) → (a || not true) ≡ a
    alone true = refl
    alone false = refl

-- the slice of block i has its 16 places
pub block-is : (sets : List ℕ) (i : ℕ) → take (16 * i + 16 - 16 * i) (drop (16 * i) sets) ≡ take 16 (drop (16 * i) sets)
block-is sets i =
    let size : 16 * i + 16 - 16 * i ≡ 16 = omega arith in
    ap (λ k. take k (drop (16 * i) sets)) size

-- a block of the lines that are left: if one of its lines has neither, some line of all has neither
module _ (lines : List ℕ) (u v i : ℕ) {block : List ℕ} (is : block ≡ take 16 (drop (16 * i) lines))
    (left : serves lines u v ≡ serves (drop (16 * i) lines) u v) where
  block-parts : serves lines u v ≡ (serves block u v && serves (drop (16 * (i + 1)) lines) u v)
  block-parts =
      let next : drop 16 (drop (16 * i) lines) ≡ drop (16 * (i + 1)) lines = drop-drop 16 (16 * i) lines ∙ ap (λ k. drop k lines) (omega arith) in
      left ∙ serves-parts 16 (drop (16 * i) lines) u v ∙ rw (is, next)

  pub served-stop : true ≡ not (serves block u v) → false ≡ serves lines u v
  served-stop e = sym (block-parts ∙ by (serves block u v) e)
    where
      by : (b : Bool) → true ≡ not b → (b && serves (drop (16 * (i + 1)) lines) u v) ≡ false
      by true e = absurd (cc)
      by false e = refl

  pub served-more : false ≡ not (serves block u v) → serves lines u v ≡ serves (drop (16 * (i + 1)) lines) u v
  served-more e = block-parts ∙ by (serves block u v) e
    where
      by : (b : Bool) → false ≡ not b → (b && serves (drop (16 * (i + 1)) lines) u v) ≡ serves (drop (16 * (i + 1)) lines) u v
      by true e = refl
      by false e = absurd (cc)

pub served-all : (lines : List ℕ) (u v k : ℕ) → length lines ≤ k → serves lines u v ≡ serves (drop k lines) u v → true ≡ serves lines u v
unfolding serves each
served-all lines u v k l e = sym (e ∙ rw (drop_of_length-le lines {i = k} l))

-- each of eight tips is in the padding
has_255 : (t : ℕ) → t < 8 → T (has 255 t)
unfolding every has
has_255 = (every_iff (λ t. has 255 t) 8).0 tt

all-replicate : (n a : ℕ) → All (λ s. s ≡ a) (replicate n a)
all-replicate zero a = none
all-replicate (suc n) a = more refl (all-replicate n a)

-- sets with the padding behind them
pub padded_with : (sets : List ℕ) → length sets ≤ 64 → Padded (length sets) (sets ++ drop (length sets) (replicate 64 255))
padded_with sets l = (
  omega (arith, length-append sets (drop (length sets) (replicate 64 255))),
  rw (drop-append_seam sets (drop (length sets) (replicate 64 255))) (all_drop (length sets) (all-replicate 64 255)),
)

-- padding is served by any of eight tips
padding-served : (rest : List ℕ) (u v : ℕ) → u < 8 → All (λ s. s ≡ 255) rest → serves rest u v ≡ true
padding-served rest u v l p = true_T (serves rest u v) ((serves_iff rest u v).1 (all_map (λ s e. inl (rw e (has_255 u l))) p))

-- so are the places behind the lines
pub serves_padded : (n : ℕ) (sets : List ℕ) (u v : ℕ) → u < 8 → All (λ s. s ≡ 255) (drop n sets) → serves sets u v ≡ serves (take n sets) u v
serves_padded n sets u v l p =
    serves-parts n sets u v ∙ ap (λ b. serves (take n sets) u v && b) (padding-served (drop n sets) u v l p) ∙ and-true (serves (take n sets) u v)

-- and those from some place behind the lines on
pub served-past : (n : ℕ) (sets : List ℕ) (u v k : ℕ) → u < 8 → All (λ s. s ≡ 255) (drop n sets) → n ≤ k
    → serves sets u v ≡ serves (drop k sets) u v → true ≡ serves sets u v
served-past n sets u v k l p past e =
    let from : drop (k - n) (drop n sets) ≡ drop k sets = drop-drop (k - n) n sets ∙ ap (λ j. drop j sets) (omega arith) in
    sym (e ∙ padding-served (drop k sets) u v l (rw from at (all_drop (k - n) p)))

module _ (qs lines : List ℕ) (same : length qs ≡ length lines) (u v : ℕ) where
  -- some line has neither: these tips are no choice
  pub given_up : All (λ q. 1 ≤ q) qs → serves lines u v ≡ false → None ≡ tips_on (repeated qs lines) u v
  given_up placed unserved =
      none_on (repeated qs lines) u v {m = v + 1} (omega arith)
      (score_unserved (repeated qs lines) u v (omega arith) (λ s. rw unserved at ((serves_iff lines u v).1 (all_once placed lines same s))))

  -- each has one
  module _ (served : serves lines u v ≡ true) where
    each-served : Served (repeated qs lines) u v
    each-served = all-repeated qs ((serves_iff lines u v).0 (T_true served))

    counted-all : (t : ℕ) → weighted (λ s. has s t) qs lines ≡ occ (repeated qs lines) t
    counted-all t = sym (occ-repeated qs lines t)

    module _ {n x y : ℕ} (e : n ≡ total qs) (p : x ≡ weighted (λ s. has s u) qs lines) (q : y ≡ weighted (λ s. has s v) qs lines) where
      passed_score : u ≤ v → score_by (eqb u v) n x y ≡ score (v + 1) (repeated qs lines) (u * (v + 1) + v)
      passed_score l =
          let f : n ≡ length (repeated qs lines) = e ∙ sym (length-repeated qs lines same) in
          rw (f, p ∙ counted-all u, q ∙ counted-all v) (sym (score-served (repeated qs lines) u v each-served (omega arith) l))

      passed_side : leb (side_pairs n y) (side_pairs n x) ≡ to_first (repeated qs lines) u v
      passed_side =
          let f : n ≡ length (repeated qs lines) = e ∙ sym (length-repeated qs lines same) in
          rw (f, p ∙ counted-all u, q ∙ counted-all v) (sym (first_by (repeated qs lines) u v each-served))

      -- two different tips of which one has all placements
      pub passed_none : u ≤ v → (eqb u v || (ltb x n && ltb y n)) ≡ false → None ≡ tips_on (repeated qs lines) u v
      passed_none l unused =
          none_on (repeated qs lines) u v {m = v + 1} (omega arith) (sym (passed_score l) ∙ score_none n x y (eqb u v) unused)

      -- one tip, or two that each get a line
      pub passed_some : u ≤ v → (eqb u v || (ltb x n && ltb y n)) ≡ true
          → Some (tips_with (max (side_pairs n x) (side_pairs n y)) u v (leb (side_pairs n y) (side_pairs n x)))
          ≡ tips_on (repeated qs lines) u v
      passed_some l some =
          some_on (repeated qs lines) u v {m = v + 1} (omega arith) (sym (passed_score l) ∙ score_some n x y (eqb u v) some) passed_side
