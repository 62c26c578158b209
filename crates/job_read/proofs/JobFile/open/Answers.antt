use mathlib.Core.Path.{◌≡◌, refl, sym, ap, ap₂, ◌∙◌}
use native.Mathlib.Omega.{arith}
use borrow.Author.Tests.{lt-ltb, le-ltb, eq-eqb, ne_eqb}
use Rattle.refusal.specs.Reasons.{reason_number, number_in}
use Rattle.refusal.proofs.Laws.{err_of, reason_not_0}
use Rattle.job.specs.Job.{file_length, start_number, size_number, header_number}
use Rattle.job.specs.Header.{version_number}
use Rattle.job.proofs.Lines.{file_few}
use Rattle.job_read.proofs.JobFile.open.Goals as goal

pub returns-in_err-header-clause-refusal : goal.returns-in_err-header-clause-refusal
unfolding header_number
returns-in_err-header-clause-refusal c =
    let reason = c.in_err-header.field-0.0 in
    let same = ap number_in (err_of _ reason c.from_residual.ensures) in
    let first : reason_number reason ≡ start_number c.args.file.now = c.in_err-header.ensures.refusal in
    rw (ne_eqb (start_number c.args.file.now) 0 (λ z. reason_not_0 reason (first ∙ z))) (same ∙ first)

pub returns-then-header-gt-MOST_LINES-clause-refusal : goal.returns-then-header-gt-MOST_LINES-clause-refusal
unfolding header_number size_number
returns-then-header-gt-MOST_LINES-clause-refusal c =
    let started = c.in_ok-header.ensures in
    rw (
      eq-eqb (start_number c.args.file.now) 0 (sym started.refusal),
      lt-ltb _ _ (rw started.header.count-is at c.if-header-gt-MOST_LINES.true),
    ) refl

pub file_length-requires : goal.file_length-requires
file_length-requires c =
    let header = c.in_ok-header.header in
    omega (arith, file_few (version_number header.version) header.count c.if-header-gt-MOST_LINES.false)

pub returns-then-file-file_length-clause-refusal : goal.returns-then-file-file_length-clause-refusal
unfolding header_number size_number
returns-then-file-file_length-clause-refusal c =
    let started = c.in_ok-header.ensures in
    let whole = c.file_length.ensures ∙ ap₂ file_length started.header.version-is started.header.count-is in
    rw (
      eq-eqb (start_number c.args.file.now) 0 (sym started.refusal),
      le-ltb _ _ (rw started.header.count-is at c.if-header-gt-MOST_LINES.false),
      ne_eqb _ _ (λ e. c.if-file-file_length.true (e ∙ sym whole)),
    ) refl

pub invariant_of-result : goal.invariant_of-result
unfolding header_number size_number
invariant_of-result c =
    let started = c.in_ok-header.ensures in
    let whole = c.file_length.ensures ∙ ap₂ file_length started.header.version-is started.header.count-is in
    record {
      good = rw (
        eq-eqb (start_number c.args.file.now) 0 (sym started.refusal),
        le-ltb _ _ (rw started.header.count-is at c.if-header-gt-MOST_LINES.false),
        eq-eqb _ _ (c.if-file-file_length.false ∙ whole),
      ) refl;
      header_is = started.header;
      few_lines = c.if-header-gt-MOST_LINES.false;
    }
