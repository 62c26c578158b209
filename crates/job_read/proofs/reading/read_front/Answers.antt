use mathlib.Core.Path.{sym, ap, ◌∙◌}
use lib.ListN.{length}
use lib.Seq.{length-take-le}
use Rattle.std.proofs.Common.{rules}
use Rattle.refusal.specs.Refusal.{refuse}
use Rattle.refusal.proofs.Laws.{told_reason, reason_not_0}
use Rattle.job.specs.Job.{good_lines}
use Rattle.job.proofs.Reading.{read_refused}
use Rattle.job.proofs.Good.{good_accepted}
use Rattle.job_read.proofs.ReadLines.{count_room}
use Rattle.job_read.proofs.reading.read_front.Goals as goal

pub returns-in_err-opened : goal.returns-in_err-opened
returns-in_err-opened c =
    let reason = c.in_err-opened.field-0.0 in
    let number = c.in_err-opened.ensures.refusal in
    record {
      refusal = told_reason _ _ c.from_residual.ensures ∙ ap refuse number ∙ sym (read_refused _ (λ z. reason_not_0 reason (number ∙ z)));
      lines = search rules;
    }

pub slice_bounds-read_lines-end : goal.slice_bounds-read_lines-end
slice_bounds-read_lines-end c =
    let opened = c.in_ok-opened in
    count_room opened.ensures.same opened.opened.header_is (sym opened.ensures.refusal) (length c.args.sets.now) c.requires.for_sets

pub slice_bounds-read_lines-end-2 : goal.slice_bounds-read_lines-end-2
slice_bounds-read_lines-end-2 c =
    let opened = c.in_ok-opened in
    let room =
    count_room opened.ensures.same opened.opened.header_is (sym opened.ensures.refusal) (length c.args.sets.now) c.requires.for_sets in
    sym (length-take-le _ _ room)

pub slice_bounds-read_lines-end-3 : goal.slice_bounds-read_lines-end-3
slice_bounds-read_lines-end-3 c =
    let opened = c.in_ok-opened in
    count_room opened.ensures.same opened.opened.header_is (sym opened.ensures.refusal) (length c.args.quantities.now) c.requires.for_quantities

pub slice_bounds-read_lines-end-4 : goal.slice_bounds-read_lines-end-4
slice_bounds-read_lines-end-4 c =
    let opened = c.in_ok-opened in
    let room =
    count_room opened.ensures.same opened.opened.header_is (sym opened.ensures.refusal) (length c.args.quantities.now) c.requires.for_quantities in
    sym (length-take-le _ _ room)

pub read_lines-requires-clause-sets_len : goal.read_lines-requires-clause-sets_len
read_lines-requires-clause-sets_len c =
    let opened = c.in_ok-opened in
    let room =
    count_room opened.ensures.same opened.opened.header_is (sym opened.ensures.refusal) (length c.args.sets.now) c.requires.for_sets in
    length-take-le _ _ room

pub read_lines-requires-clause-quantities_len : goal.read_lines-requires-clause-quantities_len
read_lines-requires-clause-quantities_len c =
    let opened = c.in_ok-opened in
    let room =
    count_room opened.ensures.same opened.opened.header_is (sym opened.ensures.refusal) (length c.args.quantities.now) c.requires.for_quantities in
    length-take-le _ _ room

pub returns-then-read_lines-clause-refusal : goal.returns-then-read_lines-clause-refusal
returns-then-read_lines-clause-refusal c =
    let opened = c.in_ok-opened.ensures in
    sym (good_accepted _ (sym opened.refusal) (ap good_lines (sym opened.same) ∙ sym c.read_lines.ensures.good ∙ c.if-read_lines.true))
