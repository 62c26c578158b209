use Rattle.std.proofs.Common.{◌+◌, cond, length, refl, sym, ap, ap₂, ◌∙◌, arith}
use Rattle.job.specs.Job.{rack_in}
use Rattle.mend_rules.specs.Mending.{kept, changes}
use Rattle.mend_rules.proofs.Files.{read_few}
use Rattle.mend.proofs.Pass.{pass_start, pass_end, pass_next, kept_next, changes_next}
use Rattle.mend.proofs.One.{one_or_none}
use Rattle.mend.proofs.measure.measure.Goals as goal

pub loop-i-init : goal.loop-i-init
unfolding kept changes
loop-i-init c =
    let running = c.new-running in
    let file = c.args.file in
    record {
      passed = pass_start file.bytes.now running.result.rack file.count running.result.total
          (running.ensures.rack ∙ file.header_is.rack-is) file.count_is running.ensures.total;
      kept = refl;
      kept_few = omega arith;
      changes = refl;
      changes_few = omega arith;
    }

pub overflow_add-kept : goal.overflow_add-kept
overflow_add-kept c =
    omega (arith, c.args.file.count_is, read_few c.args.file.bytes.now, c.from-kept.ensures, (one_or_none c.step-step.result.kept).1)

pub overflow_add-changes : goal.overflow_add-changes
overflow_add-changes c = omega (arith, c.args.file.count_is, read_few c.args.file.bytes.now)

pub loop-i-preserved : goal.loop-i-preserved
loop-i-preserved c =
    let file = c.args.file.bytes.now in
    let at = c.loop-i in
    let line = c.line in
    let next = c.step-step in
    record {
      passed = pass_next file _ _ at.i at.running.total line.result.set line.result.quantity at.invariant.passed (omega arith)
          line.ensures.set line.ensures.quantity next.result.next.rack next.result.next.total next.ensures.rack next.ensures.total;
      kept = ap₂ ◌+◌ at.invariant.kept (c.from-kept.ensures ∙ (one_or_none next.result.kept).0 ∙ ap (λ b. cond b 1 0) next.ensures.kept)
          ∙ sym (kept_next file _ _ at.i at.running.total line.result.set line.result.quantity at.invariant.passed (omega arith)
          line.ensures.set line.ensures.quantity);
      kept_few = omega (arith, c.from-kept.ensures, (one_or_none next.result.kept).1);
      changes = ap₂ ◌+◌ at.invariant.changes next.ensures.changes
          ∙ sym (changes_next file _ _ at.i at.running.total line.result.set line.result.quantity at.invariant.passed (omega arith)
          line.ensures.set line.ensures.quantity);
      changes_few = omega (arith, next.ensures.changes_few);
    }

pub invariant_of-result : goal.invariant_of-result
invariant_of-result c =
    let file = c.args.file.bytes.now in
    let at = c.loop-i in
    let all = pass_end file _ _ at.i at.running.total at.invariant.passed (omega arith) in
    record {
      kept_is = at.invariant.kept ∙ ap (λ l. length (kept (rack_in file) 0 l)) all;
      kept_few = omega (arith, c.args.file.count_is, read_few file);
      changes_are = at.invariant.changes ∙ ap (λ l. length (changes (rack_in file) 0 0 l)) all;
      changes_few = omega (arith, c.args.file.count_is, read_few file);
    }
