-- Open, add and close leave a sound board where they are given one.
use Prim.Native.Nat.{ℕ, suc, ◌+◌, ◌<◌}
use native.Mathlib.Omega.{arith}
use mathlib.Core.Path.{◌≡◌, refl, sym, ap, subst, ◌∙◌}
use mathlib.Core.Bool.{Bool, true, false}
use mathlib.Core.List.{List, [], ◌∷◌, ◌++◌}
use borrow.Author.Tests.{eqb-true}
use lib.Arith.{lt_of_le-ne}
use lib.Dec.{T}
use lib.ListN.{length, take, drop, set, length-set}
use lib.Seq.{length-take-le, take-suc-set, drop-set-lt, drop-drop}
use Rattle.model.specs.Count.{none, more, each}
use Rattle.model.specs.Plan.{is_empty, rack_ok}
use Rattle.model.specs.Limits.{most_lines}
use Rattle.model.proofs.Tests.{and_in, and_right}
use Rattle.placements.specs.Good.{GoodLines}
use Rattle.placements.specs.Repeated.{total}
use Rattle.refusal.specs.Told.{Refusal}
use Rattle.refusal.specs.Refusal.{accepts}
use Rattle.sound.specs.Sound.{count_ok, sound_board}
use Rattle.sound.proofs.Laws.{sound_iff}
use Rattle.call_refusals.specs.declared.Stage.TheVariants.{Open}
use Rattle.call_refusals.proofs.Calls.{Addable, add_none}
use Rattle.panel.proofs.Panel.{good_append}
use Rattle.board.specs.declared.Board.{Board}
use Rattle.board.specs.Board.{lines_of, quantities_of, sound, no_sets, no_quantities, empty_board}
use Rattle.board.specs.Board.{state_refusal, add_refusal, with_line, answer, add_of}
use Rattle.board.proofs.Sets.{Full, same_size}

-- an open board without lines, in a rack that can be
pub empty_sound : (m : ℕ) → T (rack_ok m) → T (sound (empty_board m))
unfolding sound_board count_ok each total no_sets no_quantities
empty_sound m h = and_in (rack_ok m) true h tt

later : (xs : List ℕ) → T (each is_empty xs) → T (each is_empty (drop 1 xs))
unfolding each
later [] t = t
later (x ∷ xs) t = and_right (is_empty x) (each is_empty xs) t

-- nothing is behind one more place, where nothing was behind the place before
behind : (n : ℕ) (xs : List ℕ) (x : ℕ) → T (each is_empty (drop n xs)) → T (each is_empty (drop (n + 1) (set xs n x)))
behind n xs x t = rw (drop-set-lt (n + 1) xs n x (omega arith), ← (drop-drop 1 n xs)) (later (drop n xs) t)

module _ (b : Board) (full : Full b) (s q : ℕ) where
  -- a line that can be added
  line_sound : Addable (state_refusal Open b) b.rack b.count (total (quantities_of b)) s q → T (sound b) → T (sound (with_line b s q))
  unfolding total
  line_sound a t =
      let was = (sound_iff b.rack b.count b.quantities b.sets (same_size b full)).0 t in
      let place : b.count < most_lines = lt_of_le-ne was.count_most a.not_full in
      let now = with_line b s q in
      let next : b.count + 1 ≡ suc b.count = omega arith in
      let sets : take (b.count + 1) now.sets ≡ lines_of b ++ (s ∷ []) =
      ap (λ n. take n now.sets) next ∙ take-suc-set b.sets b.count s (omega (arith, full.sets_full)) in
      let quantities : take (b.count + 1) now.quantities ≡ quantities_of b ++ (q ∷ []) =
      ap (λ n. take n now.quantities) next ∙ take-suc-set b.quantities b.count q (omega (arith, full.quantities_full)) in
      let size : length (lines_of b) ≡ b.count = length-take-le b.count b.sets (omega (arith, full.sets_full, place)) in
      let one : GoodLines b.rack (q ∷ []) (s ∷ []) = record {
        some = was.good.some;
        most = was.good.most;
        few-lines = omega arith;
        same = refl;
        placed = more a.placed none;
        few = omega (arith, a.few);
        domains = more a.domain none;
      } in
      (sound_iff b.rack (b.count + 1) now.quantities now.sets
      (length-set b.quantities b.count q ∙ same_size b full ∙ sym (length-set b.sets b.count s))).1 (record {
        good = rw (sets, quantities) (good_append was.good one (omega (arith, size)) (omega (arith, a.few)));
        count_most = omega arith;
        rest = behind b.count b.sets s was.rest;
        quantities_rest = behind b.count b.quantities q was.quantities_rest;
      })

  add_sound : T (sound b) → T (sound (add_of b s q).board)
  unfolding add_of
  add_sound t = by (accepts (add_refusal b s q)) refl
    where
      r : ℕ
      r = (add_refusal b s q).number

      by : (c : Bool) → accepts (add_refusal b s q) ≡ c → T (sound (add_of b s q).board)
      by true e = rw e (line_sound (add_none (state_refusal Open b) b.rack b.count (total (quantities_of b)) s q (eqb-true r 0 e)) t)
      by false e = rw e t

  pub add_stays : {after : Board} {r : Refusal} → answer after r ≡ add_of b s q → T (sound b) → T (sound after)
  add_stays e t = subst (λ x. T (sound x)) (sym (ap (λ a. a.board) e)) (add_sound t)
