use Rattle.std.proofs.Common.{arith}
use Rattle.subset_table.proofs.Scores.{ready_tip, ready_places}
use Rattle.subset_table.proofs.scoring.score_with.Goals as goal

pub without-left-requires-clause-small : goal.without-left-requires-clause-small
without-left-requires-clause-small c = ready_tip c.requires.ready c.args.t c.requires.own

pub overflow_add-result : goal.overflow_add-result
overflow_add-result c =
    let p = ready_places c.requires.ready c.args.t c.requires.own c.without-left.result c.without-left.ensures in
    record { fits = omega (arith, p.gains, p.small, c.gain_of.ensures) }
