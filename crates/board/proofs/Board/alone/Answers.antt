use Rattle.std.proofs.Common.{rules}
use mathlib.Core.Path.{refl, ap, ◌∙◌}
use Rattle.refusal.specs.Refusal.{none}
use Rattle.refusal.proofs.Laws.{err_of, or_err, or_ok}
use Rattle.board.specs.Told.{alone_answered}
use Rattle.board.proofs.Sets.{Full}
use Rattle.board.proofs.Left.{alone_few}
use Rattle.board.proofs.PanelRule.{alone_answer}
use Rattle.board.proofs.Stopped.{alone_stopped, alone_same}
use Rattle.board.proofs.Board.alone.Goals.{In_ok-lines, In_ok-others}
use Rattle.board.proofs.CasesTold.{alone_told}
use Rattle.board.proofs.Board.alone.Goals as goal

full : (c : In_ok-lines) → Full c.args.self.now
full c = record { sets_full = search rules; quantities_full = search rules }

other-full : (c : In_ok-others) → Full c.args.other.now
other-full c = record { sets_full = search rules; quantities_full = search rules }

pub returns-in_err-lines-clause-answer : goal.returns-in_err-lines-clause-answer
returns-in_err-lines-clause-answer c =
    let x = c.in_err-lines.field-0.0 in
    let e = err_of _ x c.from_residual.ensures in
    ap (alone_answered c.args.self.now c.args.other.now) e
    ∙ alone_stopped x c.args.self.now c.args.other.now (or_err _ x c.in_err-lines.ensures.refusal) _

pub returns-in_err-lines-clause-plan : goal.returns-in_err-lines-clause-plan
returns-in_err-lines-clause-plan c =
    let x = c.in_err-lines.field-0.0 in
    alone_same x c.args.self.now c.args.other.now (or_err _ x c.in_err-lines.ensures.refusal) _

pub returns-in_err-others-clause-answer : goal.returns-in_err-others-clause-answer
returns-in_err-others-clause-answer c =
    let x = c.in_err-others.field-0.0 in
    let e = err_of _ x c.from_residual-in_err-others.ensures in
    ap (alone_answered c.args.self.now c.args.other.now) e
    ∙ alone_stopped x c.args.self.now c.args.other.now (or_ok _ c.in_ok-lines.ensures.refusal c.in_err-others.ensures.refusal) _

pub returns-in_err-others-clause-plan : goal.returns-in_err-others-clause-plan
returns-in_err-others-clause-plan c =
    alone_same c.in_err-others.field-0.0 c.args.self.now c.args.other.now (or_ok _ c.in_ok-lines.ensures.refusal c.in_err-others.ensures.refusal) _

pub returns-clause-answer : goal.returns-clause-answer
returns-clause-answer c =
    let all = full (goal.at.returns-clause-answer c).In_ok-lines in
    let other = other-full (goal.at.returns-clause-answer c).In_ok-others in
    let l = c.in_ok-lines.ensures in
    let o = c.in_ok-others.ensures in
    (alone_answer _ _ all other c.in_ok-lines.ensures.refusal c.in_ok-others.ensures.refusal (or_ok none refl refl) _
    (rw (l.rack, l.quantities, l.sets, o.rack, o.quantities, o.sets) at c.alone.ensures.answer)
    (rw (l.rack, l.quantities, l.sets, o.rack, o.quantities, o.sets) at c.alone.ensures.plan)).0

pub returns-clause-plan : goal.returns-clause-plan
returns-clause-plan c =
    let all = full (goal.at.returns-clause-plan c).In_ok-lines in
    let other = other-full (goal.at.returns-clause-plan c).In_ok-others in
    let l = c.in_ok-lines.ensures in
    let o = c.in_ok-others.ensures in
    (alone_answer _ _ all other c.in_ok-lines.ensures.refusal c.in_ok-others.ensures.refusal (or_ok none refl refl) _
    (rw (l.rack, l.quantities, l.sets, o.rack, o.quantities, o.sets) at c.alone.ensures.answer)
    (rw (l.rack, l.quantities, l.sets, o.rack, o.quantities, o.sets) at c.alone.ensures.plan)).1

pub returns-in_err-lines-clause-cases : goal.returns-in_err-lines-clause-cases
returns-in_err-lines-clause-cases c =
    let first : Full c.args.self.now = record { sets_full = search rules; quantities_full = search rules } in
    let second : Full c.args.other.now = record { sets_full = search rules; quantities_full = search rules } in
    alone_told _ _ first second _ _ (returns-in_err-lines-clause-answer c)

pub returns-in_err-others-clause-cases : goal.returns-in_err-others-clause-cases
returns-in_err-others-clause-cases c =
    let all = full (goal.at.returns-in_err-others-clause-cases c).In_ok-lines in
    let other : Full c.args.other.now = record { sets_full = search rules; quantities_full = search rules } in
    alone_told _ _ all other _ _ (returns-in_err-others-clause-answer c)

pub returns-clause-cases : goal.returns-clause-cases
returns-clause-cases c =
    let all = full (goal.at.returns-clause-cases c).In_ok-lines in
    let other = other-full (goal.at.returns-clause-cases c).In_ok-others in
    alone_told _ _ all other _ _ (returns-clause-answer c)

pub returns-clause-first_few : goal.returns-clause-first_few
returns-clause-first_few c =
    let all = full (goal.at.returns-clause-first_few c).In_ok-lines in
    let other = other-full (goal.at.returns-clause-first_few c).In_ok-others in
    (alone_few c.args.self.now c.args.other.now all other _ (returns-clause-answer c)).0

pub returns-clause-second_few : goal.returns-clause-second_few
returns-clause-second_few c =
    let all = full (goal.at.returns-clause-second_few c).In_ok-lines in
    let other = other-full (goal.at.returns-clause-second_few c).In_ok-others in
    (alone_few c.args.self.now c.args.other.now all other _ (returns-clause-answer c)).1
