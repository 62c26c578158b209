use Rattle.std.proofs.Common.{◌≡◌, ◌+◌, ◌*◌, ◌-◌, ◌∙◌, ap, get_or, arith}
use Rattle.spread.proofs.copy_row.Goals as goal

pub returns : goal.returns
returns c =
    let row = c.args.a * c.args.m in
    let next = row + c.args.m in
    let (copied, early, late) = c.copy_within.ensures.by_index in
    record {
      size = c.copy_within.ensures.len;
      done = λ e l.
          let place : next + (row + e - row) ≡ next + e = omega arith in
          copied (row + e) 0 (omega arith) (omega arith) ∙ ap (λ k. get_or c.args.table.now k 0) place;
      early = λ k l. early k 0 l;
      late = λ k l. late k 0 (omega arith);
    }
