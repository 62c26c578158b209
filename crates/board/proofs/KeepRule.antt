-- What keep within k means for a board.
use Prim.Native.Nat.{ℕ, ◌≤◌}
use mathlib.Core.Path.{◌≡◌, refl, ap}
use mathlib.Core.Logic.{◌↔◌}
use mathlib.Core.List.{List, ◌++◌}
use lib.Dec.{T}
use native.Mathlib.Omega.{arith}
use lib.ListN.{length, drop}
use Rattle.model.specs.CommonTip.{margin}
use Rattle.placements.specs.Repeated.{repeated}
use Rattle.placements.specs.Good.{GoodLines}
use Rattle.placements.specs.Keep.{prune_q}
use Rattle.refusal.specs.Told.{Refusal}
use Rattle.refusal.proofs.Laws.{lent_front}
use Rattle.call_refusals.specs.declared.Stage.TheVariants.{Closed}
use Rattle.call_refusals.specs.Calls.{keep_refusal}
use Rattle.call_refusals.proofs.Calls.{keep-none}
use Rattle.line_calls.specs.Answers.{KeepAnswer}
use Rattle.line_calls.specs.Lines
use Rattle.line_calls.specs.Rules.{NoneWithin}
use Rattle.line_calls.proofs.KeepWithin.{keep_exact, keep-refuses, keep_good}
use Rattle.board.specs.declared.Board.{Board}
use Rattle.board.specs.Answers.{Kept}
use Rattle.board.specs.Board.{lines_of, quantities_of, sound, state_refusal, with_sets}
use Rattle.board.specs.Common.{kept_board, keep_of, KeepRule}
use Rattle.board.proofs.Sets.{Full, ready, state-free, lines-count}
use Rattle.board.proofs.Replaced.{replaced-refused, replaced-lines, replaced_full, replaced-sound}

module _ (b : Board) (k : ℕ) (full : Full b) where
  abbrev state : Refusal
  state = state_refusal Closed b

  abbrev keep : Refusal
  keep = keep_refusal state (margin b.rack (repeated (quantities_of b) (lines_of b)) k)

  abbrev pruned : List ℕ
  pruned = prune_q b.rack (quantities_of b) (lines_of b) k

  good : state.number ≡ 0 → GoodLines b.rack (quantities_of b) (lines_of b)
  good z = (ready Closed b full refl z).sound.good

  free : keep.number ≡ 0 → state.number ≡ 0
  free z = (keep-none state (margin b.rack (repeated (quantities_of b) (lines_of b)) k) z).0

  module _ (z : keep.number ≡ 0) where
    -- the lines of the kept board are the pruned lines, and it is as full as it was
    pub kept-lines : lines_of (kept_board b k) ≡ pruned
    unfolding Lines.sets_kept
    kept-lines = replaced-lines b full keep pruned free (keep_good state k good) z

    pub kept_full : Full (kept_board b k)
    unfolding Lines.sets_kept
    kept_full = replaced_full b full keep pruned free (keep_good state k good) z

  -- on a sound and closed board 26 exactly when no valid plan is within k
  refuses : T (sound b) → b.stage ≡ Closed → (keep.number ≡ 26) ↔ NoneWithin b.rack (quantities_of b) (lines_of b) k
  refuses s e = keep-refuses state k good (ap (λ r. r.number) (state-free Closed b full s e))

  pub keep-rule : KeepRule b k (keep_of b k)
  unfolding keep_of Lines.keep_of Lines.sets_kept
  keep-rule = record {
    exact = λ z. rw (kept-lines z) (keep_exact state k good z);
    refuses = refuses;
    refused_same = replaced-refused b full keep pruned;
    stays_sound = replaced-sound b full keep pruned free (keep_good state k good);
    stays_closed = λ z. (ready Closed b full refl (free z)).stage_is;
    same_rack = refl;
    same_count = refl;
    same_quantities = refl;
  }

-- an answer that the definition gives has the rule
pub keep_ruled : (b : Board) (k : ℕ) → Full b → {r : Kept} → r ≡ keep_of b k → KeepRule b k r
keep_ruled b k full same = rw same (keep-rule b k full)

-- what the code answers, from the answer and the sets for the board's lines
pub kept-answer : (b : Board) (k : ℕ) → Full b → {d : Refusal} → d ≡ state_refusal Closed b → d.number ≡ 0
    → {r : KeepAnswer} {lines : List ℕ} → r ≡ Lines.keep_of d b.rack (quantities_of b) (lines_of b) k
    → lines ≡ Lines.sets_kept d b.rack (quantities_of b) (lines_of b) k (lines_of b)
    → ◌≡◌ {A = Kept} (record {
      board = with_sets b (lines ++ drop b.count b.sets);
      number = r.refusal.number;
      place = r.refusal.place;
      margin = r.margin;
    }) (keep_of b k)
unfolding keep_of Lines.sets_kept
kept-answer b k full {d} e z f g =
    let r = ready Closed b full e z in
    let inside : b.count ≤ length b.sets = omega (arith, full.sets_full, r.sound.count_most) in
    let asked = keep_refusal d (margin b.rack (repeated (quantities_of b) (lines_of b)) k) in
    rw (f, g, lines-count Closed b full r, lent_front asked b.count (prune_q b.rack (quantities_of b) (lines_of b) k) b.sets inside, e) refl
