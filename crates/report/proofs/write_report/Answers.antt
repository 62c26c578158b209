use Rattle.std.proofs.Common.{arith, is_some}
use Rattle.text.proofs.Buffer.{both, printed}
use Rattle.report.specs.Report.{report_of}
use Rattle.report.proofs.Lengths.{parts_short}
use Rattle.report.proofs.write_report.Goals as goal

pub put_head-at-requires : goal.put_head-at-requires
put_head-at-requires c =
    omega (
      arith,
      parts_short c.args.tips (is_some c.args.best_pairs) c.args.quick.now c.args.best.now c.ranges.rack.fits c.ranges.off.fits
          c.requires.few-lines (λ i. (c.type_inv.quick i).fits) (λ i. (c.type_inv.best i).fits),
    )

pub put_off-at-requires : goal.put_off-at-requires
put_off-at-requires c =
    omega (
      arith,
      parts_short c.args.tips (is_some c.args.best_pairs) c.args.quick.now c.args.best.now c.ranges.rack.fits c.ranges.off.fits
          c.requires.few-lines (λ i. (c.type_inv.quick i).fits) (λ i. (c.type_inv.best i).fits),
    )

pub put_pairs-at-requires : goal.put_pairs-at-requires
put_pairs-at-requires c =
    omega (
      arith,
      parts_short c.args.tips (is_some c.args.best_pairs) c.args.quick.now c.args.best.now c.ranges.rack.fits c.ranges.off.fits
          c.requires.few-lines (λ i. (c.type_inv.quick i).fits) (λ i. (c.type_inv.best i).fits),
    )

pub put_lines-requires-clause-room : goal.put_lines-requires-clause-room
put_lines-requires-clause-room c =
    rw c.is_some.ensures (omega (
      arith,
      parts_short c.args.tips (is_some c.args.best_pairs) c.args.quick.now c.args.best.now c.ranges.rack.fits c.ranges.off.fits
          c.requires.few-lines (λ i. (c.type_inv.quick i).fits) (λ i. (c.type_inv.best i).fits),
    ))

pub returns : goal.returns
unfolding report_of
returns c =
    let first = both (omega arith) c.put_head-at.ensures c.put_off-at.ensures in
    let lines = rw c.is_some.ensures at c.put_lines.ensures in
    printed (both (omega arith) (both (omega arith) first c.put_pairs-at.ensures.put) lines)
