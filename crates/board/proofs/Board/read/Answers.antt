use Rattle.std.specs.Prelude.{Ok}
use mathlib.Core.Path.{refl, ap, ◌∙◌}
use Rattle.model.proofs.Lists.{all_get_d}
use Rattle.refusal.proofs.Laws.{err_of, reason_not_0}
use Rattle.job.specs.Job.{Bytes}
use Rattle.board.specs.Told.{given}
use Rattle.board.proofs.Sets.{no-sets, no-quantities}
use Rattle.board.proofs.JobFileRule.{read_rule, read_stopped, read_through}
use Rattle.board.proofs.Board.read.Goals.{In_ok-read}
use Rattle.board.proofs.CasesTold.{read_told}
use Rattle.board.proofs.Board.read.Goals as goal

bytes : (c : In_ok-read) → Bytes c.args.file.now
bytes c = all_get_d 0 c.args.file.now (λ i l. (c.type_inv.file i).fits)

pub returns-in_err-read-clause-answer : goal.returns-in_err-read-clause-answer
returns-in_err-read-clause-answer c =
    let x = c.in_err-read.field-0.0 in
    let e = err_of _ x c.from_residual.ensures in
    ap given e ∙ read_stopped c.args.file.now c.in_err-read.ensures.refusal (reason_not_0 x.reason)

pub returns-clause-answer : goal.returns-clause-answer
returns-clause-answer c =
    let sets = no-sets in
    let qs = no-quantities in
    read_through c.args.file.now c.in_ok-read.ensures.refusal refl sets qs c.in_ok-read.ensures.lines

pub returns-clause-rule : goal.returns-clause-rule
returns-clause-rule c = rw (returns-clause-answer c) (read_rule c.args.file.now (bytes (goal.at.returns-clause-rule c).In_ok-read))

pub returns-in_err-read-clause-cases : goal.returns-in_err-read-clause-cases
returns-in_err-read-clause-cases c =
    read_told c.args.file.now _ (returns-in_err-read-clause-answer c)

pub returns-clause-cases : goal.returns-clause-cases
returns-clause-cases c =
    read_told c.args.file.now (Ok _) (returns-clause-answer c)
