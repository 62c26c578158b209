-- A board whose lines have other sets, which a call leaves where it refuses nothing: they are its lines, and it stays sound.
use Prim.Native.Nat.{ℕ}
use mathlib.Core.Path.{◌≡◌, refl, sym, ap, ◌∙◌}
use mathlib.Core.List.{List, ◌++◌}
use native.Mathlib.Omega.{arith}
use lib.Dec.{T}
use lib.ListN.{length, drop, length-append, length-drop}
use lib.Seq.{take_at, drop_at}
use Rattle.placements.specs.Good.{GoodLines}
use Rattle.refusal.specs.Told.{Refusal}
use Rattle.refusal.specs.Refusal.{lent_by}
use Rattle.refusal.proofs.Laws.{lent_refused, accepted}
use Rattle.sound.proofs.Laws.{sound_iff}
use Rattle.call_refusals.specs.declared.Stage.TheVariants.{Closed}
use Rattle.board.specs.declared.Board.{Board}
use Rattle.board.specs.Board.{lines_of, quantities_of, sound, state_refusal, with_sets}
use Rattle.board.proofs.Sets.{Full, ReadyBoard, same_size, ready, lines-count}

-- the board with other lines, where nothing is refused
abbrev pub replaced : Board → Refusal → List ℕ → Board
replaced b d lines = with_sets b (lent_by d (length (lines_of b)) lines b.sets)

module _ (b : Board) (full : Full b) (d : Refusal) (lines : List ℕ) where
  -- after a refusal it is the board as it was
  pub replaced-refused : (d.number ≡ 0 → ⊥) → replaced b d lines ≡ b
  replaced-refused n = ap (with_sets b) (sym (lent_refused {d = d} refl (length (lines_of b)) lines b.sets n))

  module _ (free : d.number ≡ 0 → (state_refusal Closed b).number ≡ 0)
      (good : d.number ≡ 0 → GoodLines b.rack (quantities_of b) lines) (z : d.number ≡ 0) where
    was : ReadyBoard Closed b
    was = ready Closed b full refl (free z)

    count : length (lines_of b) ≡ b.count
    count = lines-count Closed b full was

    size : length lines ≡ b.count
    size = omega (arith, (good z).same, was.sound.good.same, count)

    its_sets : (replaced b d lines).sets ≡ lines ++ drop b.count b.sets
    its_sets = accepted _ _ {d = d} refl z ∙ ap (λ n. lines ++ drop n b.sets) count

    -- its lines are these, and the sets after them are as they were
    pub replaced-lines : lines_of (replaced b d lines) ≡ lines
    replaced-lines = rw its_sets (take_at lines (drop b.count b.sets) b.count size)

    its_rest : drop b.count (replaced b d lines).sets ≡ drop b.count b.sets
    its_rest = rw its_sets (drop_at lines (drop b.count b.sets) b.count size)

    -- so it is as full as it was, and sound
    pub replaced_full : Full (replaced b d lines)
    replaced_full = record {
      sets_full = rw its_sets (
          length-append lines (drop b.count b.sets)
          ∙ omega (arith, size, length-drop b.count b.sets, full.sets_full, was.sound.count_most)
          );
      quantities_full = full.quantities_full;
    }

    pub replaced-sound : T (sound (replaced b d lines))
    replaced-sound =
        let s = was.sound in
        let now = replaced b d lines in
        (sound_iff b.rack b.count now.quantities now.sets (same_size now replaced_full)).1 (record {
          good = rw replaced-lines (good z);
          count_most = s.count_most;
          rest = rw its_rest s.rest;
          quantities_rest = s.quantities_rest;
        })
