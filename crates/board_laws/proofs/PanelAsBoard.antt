-- Two files that reading accepts: merging them and planning each alone answer what the boards' calls answer on the boards that reading gives.
use Prim.Native.Nat.{ℕ}
use mathlib.Core.Path.{◌≡◌, refl, sym, ap, ap₂, ◌∙◌}
use mathlib.Core.List.{List, ◌++◌}
use lib.ListN.{length}
use Rattle.file_calls.specs.Calls.{file_outcome}
use Rattle.refusal.specs.Told.{Refusal}
use Rattle.refusal.specs.Refusal.{none, or_else}
use Rattle.refusal.proofs.Laws.{refused, accepted}
use Rattle.call_refusals.specs.declared.Stage.TheVariants.{Closed}
use Rattle.line_calls.specs.Lines
use Rattle.line_calls.proofs.JobFile.{write_stopped}
use Rattle.panel.specs.Panel
use Rattle.panel.proofs.Merged.{merge_whole}
use Rattle.board.specs.declared.Board.{Board}
use Rattle.board.specs.Answers.{Alone}
use Rattle.board.specs.Answers.{Merged}
use Rattle.board.specs.Answers.{Written}
use Rattle.board.specs.Board.{lines_of, quantities_of, state_refusal, answer, empty_board}
use Rattle.board.specs.JobFile.{read_of, write_of, write_buffer}
use Rattle.board.specs.Panel.{merge_refusal, panel_of, merged, merge_of, alone_of, alone_buffer}
use Rattle.board.proofs.Sets.{Full}
use Rattle.board.proofs.PanelRule.{merge_rule, merge_free, panel-state}
use Rattle.job.specs.Job.{rack_in, sets_in, quantities_in, read_refusal}
use Rattle.file_calls.specs.Outcomes.{Outcome}
use Rattle.file_calls.specs.Panel.{merge_of_files, merge_file_in, alone_outcome, alone_in, alone_plan_in}
use Rattle.board_laws.proofs.AsBoard.{on_board, full as full-of}

abbrev pub of_alone : Alone → Outcome
of_alone a =
    record { refusal = record { number = a.number; place = a.place }; first = a.first_pairs; second = a.second_pairs; third = 0 }

abbrev pub of_file : Written → Outcome
of_file w = record { refusal = record { number = w.number; place = w.place }; first = w.bytes; second = 0; third = 0 }

-- a merge that is refused writes nothing
abbrev pub of_merged : Merged → Outcome
of_merged r = record { refusal = record { number = r.number; place = r.place }; first = 0; second = 0; third = 0 }

module _ (first second : List ℕ) (a b : Board) (given : read_of first ≡ answer a none) (second-given : read_of second ≡ answer b none) where
  -- what is asked of the files is what is asked of the boards
  on_boards : {A : Type 0} (f : Refusal → ℕ → List ℕ → List ℕ → ℕ → List ℕ → List ℕ → A)
      → f (or_else (read_refusal first) (read_refusal second)) (rack_in first) (quantities_in first) (sets_in first)
      (rack_in second) (quantities_in second) (sets_in second)
      ≡ f (or_else (state_refusal Closed a) (state_refusal Closed b)) a.rack (quantities_of a) (lines_of a) b.rack (quantities_of b) (lines_of b)
  on_boards f =
      on_board first a given (λ r m q l. f (or_else r (read_refusal second)) m q l (rack_in second) (quantities_in second) (sets_in second))
      ∙ on_board second b second-given (λ r m q l. f (or_else (state_refusal Closed a) r) a.rack (quantities_of a) (lines_of a) m q l)

  pub alone_as_board : (room : ℕ) → alone_in first second room ≡ of_alone (alone_of a b room)
  unfolding alone_in alone_of
  alone_as_board room = on_boards (λ r m q l o s k. alone_outcome (Panel.alone_of r m q l o s k room))

  pub alone_plan_as_board : (plan : List ℕ) → alone_plan_in first second plan ≡ alone_buffer a b plan
  unfolding alone_plan_in alone_buffer
  alone_plan_as_board plan = on_boards (λ r m q l o s k. Panel.alone_buffer r m q l o s k plan)

  abbrev qs : List ℕ
  qs = quantities_of a ++ quantities_of b

  abbrev lines : List ℕ
  lines = lines_of a ++ lines_of b

  merge_boards : (room : ℕ) → merge_of_files first second room ≡ file_outcome (Lines.write_of (merge_refusal a b) qs lines room)
  unfolding merge_of_files
  merge_boards room = on_boards (λ r m q l o s k. file_outcome (Lines.write_of (Panel.merge_of r m q l o s k) (q ++ s) (l ++ k) room))

  merge_files : (out : List ℕ) → merge_file_in first second out ≡ Lines.write_buffer (merge_refusal a b) a.rack qs lines out
  unfolding merge_file_in
  merge_files out = on_boards (λ r m q l o s k. Lines.write_buffer (Panel.merge_of r m q l o s k) m (q ++ s) (l ++ k) out)

  -- a merge that is accepted, then write
  module _ (z : (merge_of a b).number ≡ 0) where
    full : Full a
    full = full-of first a given

    other : Full b
    other = full-of second b second-given

    decided : merge_refusal a b ≡ state_refusal Closed (merge_of a b).panel
    unfolding Panel.merge_of
    decided = merge_whole _ _ _ _ _ (merge_free a b full other z) ∙ sym (panel-state a b full other z)

    lines_are : lines ≡ lines_of (merge_of a b).panel
    lines_are = sym ((merge_rule a b full other).rule z).lines_are

    quantities_are : qs ≡ quantities_of (merge_of a b).panel
    quantities_are = sym ((merge_rule a b full other).rule z).quantities_are

    pub merge_as_board : (room : ℕ) → merge_of_files first second room ≡ of_file (write_of (merge_of a b).panel room)
    unfolding write_of
    merge_as_board room =
        merge_boards room
        ∙ ap (λ r. file_outcome (Lines.write_of r qs lines room)) decided
        ∙ ap₂ (λ q l. file_outcome (Lines.write_of (state_refusal Closed (merge_of a b).panel) q l room)) quantities_are lines_are

    pub merge_file_as_board : (out : List ℕ) → merge_file_in first second out ≡ write_buffer (merge_of a b).panel out
    unfolding write_buffer
    merge_file_as_board out =
        merge_files out
        ∙ ap (λ r. Lines.write_buffer r a.rack qs lines out) decided
        ∙ ap₂ (λ q l. Lines.write_buffer (state_refusal Closed (merge_of a b).panel) a.rack q l out) quantities_are lines_are
        ∙ ap (λ m. Lines.write_buffer (state_refusal Closed (merge_of a b).panel) m
        (quantities_of (merge_of a b).panel) (lines_of (merge_of a b).panel) out) (sym ((merge_rule a b full other).same_rack z))

  -- a merge that is refused writes nothing
  module _ (h : (merge_of a b).number ≡ 0 → ⊥) where
    abbrev through : Merged
    through = merged a b (panel_of a b) none

    abbrev stopped : Merged
    stopped = merged a b (empty_board 1) (merge_refusal a b)

    refused_merge : ((merge_refusal a b).number ≡ 0 → ⊥)
    unfolding merge_of
    refused_merge z = h (ap (λ x. x.number) (accepted through stopped {d = merge_refusal a b} refl z))

    pub merge_refused_as_board : (out : List ℕ) → (merge_of_files first second (length out) ≡ of_merged (merge_of a b)) ×
        (merge_file_in first second out ≡ out)
    unfolding merge_of
    merge_refused_as_board out =
        let writes = write_stopped (merge_refusal a b) a.rack qs lines out refused_merge in (
          merge_boards (length out) ∙ ap file_outcome (sym writes.0)
              ∙ ap of_merged (sym (refused through stopped {d = merge_refusal a b} refl refused_merge)),
          merge_files out ∙ sym writes.1,
        )
