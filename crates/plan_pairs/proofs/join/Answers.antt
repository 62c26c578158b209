use Rattle.std.proofs.Common.{◌+◌, get_or, arith}
use Rattle.model.proofs.Pairs.{choose2_mono}
use Rattle.plan_pairs.proofs.join.Goals as goal

pub overflow_sub-result : goal.overflow_sub-result
overflow_sub-result c =
    let before = get_or c.args.on.now c.args.tip 0 in
    omega (arith, c.pairs_among.ensures, c.pairs_among-2.ensures, choose2_mono {p = before} {q = before + c.from.result} (omega arith))
