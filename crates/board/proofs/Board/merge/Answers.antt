use Rattle.std.specs.Prelude.{Ok}
use Rattle.std.proofs.Common.{rules}
use mathlib.Core.Path.{refl, ap, ◌∙◌}
use Rattle.refusal.specs.Refusal.{none}
use Rattle.refusal.proofs.Laws.{err_of, reason_not_0, or_err, or_ok}
use Rattle.board.specs.Told.{merged_answered}
use Rattle.board.proofs.Sets.{Full, no-sets, no-quantities}
use Rattle.board.proofs.PanelRule.{merge_refused, merge_accepted}
use Rattle.board.proofs.Stopped.{merge_stopped}
use Rattle.board.proofs.Board.merge.Goals.{In_ok-lines, In_ok-others}
use Rattle.board.proofs.CasesTold.{merge_told}
use Rattle.board.proofs.Board.merge.Goals as goal

full : (c : In_ok-lines) → Full c.args.self.now
full c = record { sets_full = search rules; quantities_full = search rules }

other-full : (c : In_ok-others) → Full c.args.other.now
other-full c = record { sets_full = search rules; quantities_full = search rules }

pub returns-in_err-lines-clause-answer : goal.returns-in_err-lines-clause-answer
returns-in_err-lines-clause-answer c =
    let x = c.in_err-lines.field-0.0 in
    let e = err_of _ x c.from_residual.ensures in
    ap (merged_answered c.args.self.now c.args.other.now) e
    ∙ merge_stopped x c.args.self.now c.args.other.now (or_err _ x c.in_err-lines.ensures.refusal)

pub returns-in_err-others-clause-answer : goal.returns-in_err-others-clause-answer
returns-in_err-others-clause-answer c =
    let x = c.in_err-others.field-0.0 in
    let e = err_of _ x c.from_residual-in_err-others.ensures in
    ap (merged_answered c.args.self.now c.args.other.now) e
    ∙ merge_stopped x c.args.self.now c.args.other.now (or_ok _ c.in_ok-lines.ensures.refusal c.in_err-others.ensures.refusal)

pub returns-in_err-merge-clause-answer : goal.returns-in_err-merge-clause-answer
returns-in_err-merge-clause-answer c =
    let x = c.in_err-merge.field-0.0 in
    let e = err_of _ x c.from_residual-in_err-merge.ensures in
    let all = full (goal.at.returns-in_err-merge-clause-answer c).In_ok-lines in
    let other = other-full (goal.at.returns-in_err-merge-clause-answer c).In_ok-others in
    let l = c.in_ok-lines.ensures in
    let o = c.in_ok-others.ensures in
    ap (merged_answered c.args.self.now c.args.other.now) e
    ∙ merge_refused _ _ all other c.in_ok-lines.ensures.refusal c.in_ok-others.ensures.refusal (or_ok none refl refl)
    (rw (l.rack, l.quantities, l.sets, o.rack, o.quantities, o.sets) at c.in_err-merge.ensures.answer) (reason_not_0 x.reason)

pub returns-clause-answer : goal.returns-clause-answer
returns-clause-answer c =
    let all = full (goal.at.returns-clause-answer c).In_ok-lines in
    let other = other-full (goal.at.returns-clause-answer c).In_ok-others in
    let l = c.in_ok-lines.ensures in
    let o = c.in_ok-others.ensures in
    let sets = no-sets in
    let quantities = no-quantities in
    (merge_accepted _ _ all other c.in_ok-lines.ensures.refusal c.in_ok-others.ensures.refusal (or_ok none refl refl)
    (rw (l.rack, l.quantities, l.sets, o.rack, o.quantities, o.sets) at c.in_ok-merge.ensures.answer) refl
    (rw (sets, l.sets, o.sets) at c.in_ok-merge.ensures.sets) (rw (quantities, l.quantities, o.quantities) at c.in_ok-merge.ensures.quantities)).0

pub returns-clause-rule : goal.returns-clause-rule
returns-clause-rule c =
    let all = full (goal.at.returns-clause-rule c).In_ok-lines in
    let other = other-full (goal.at.returns-clause-rule c).In_ok-others in
    let l = c.in_ok-lines.ensures in
    let o = c.in_ok-others.ensures in
    let sets = no-sets in
    let quantities = no-quantities in
    (merge_accepted _ _ all other c.in_ok-lines.ensures.refusal c.in_ok-others.ensures.refusal (or_ok none refl refl)
    (rw (l.rack, l.quantities, l.sets, o.rack, o.quantities, o.sets) at c.in_ok-merge.ensures.answer) refl
    (rw (sets, l.sets, o.sets) at c.in_ok-merge.ensures.sets) (rw (quantities, l.quantities, o.quantities) at c.in_ok-merge.ensures.quantities)).1

pub returns-in_err-lines-clause-cases : goal.returns-in_err-lines-clause-cases
returns-in_err-lines-clause-cases c =
    let first : Full c.args.self.now = record { sets_full = search rules; quantities_full = search rules } in
    let second : Full c.args.other.now = record { sets_full = search rules; quantities_full = search rules } in
    merge_told _ _ first second _ (returns-in_err-lines-clause-answer c)

pub returns-in_err-others-clause-cases : goal.returns-in_err-others-clause-cases
returns-in_err-others-clause-cases c =
    let all = full (goal.at.returns-in_err-others-clause-cases c).In_ok-lines in
    let other : Full c.args.other.now = record { sets_full = search rules; quantities_full = search rules } in
    merge_told _ _ all other _ (returns-in_err-others-clause-answer c)

pub returns-in_err-merge-clause-cases : goal.returns-in_err-merge-clause-cases
returns-in_err-merge-clause-cases c =
    let all = full (goal.at.returns-in_err-merge-clause-cases c).In_ok-lines in
    let other = other-full (goal.at.returns-in_err-merge-clause-cases c).In_ok-others in
    merge_told _ _ all other _ (returns-in_err-merge-clause-answer c)

pub returns-clause-cases : goal.returns-clause-cases
returns-clause-cases c =
    let all = full (goal.at.returns-clause-cases c).In_ok-lines in
    let other = other-full (goal.at.returns-clause-cases c).In_ok-others in
    merge_told _ _ all other (Ok _) (returns-clause-answer c)
