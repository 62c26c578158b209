use Rattle.std.proofs.Common.{◌^◌, ◌<◌, arith}
use Rattle.subset_table.proofs.Scores.{filling_ready, filling_more}
use Rattle.subset_table.proofs.scoring.fill_scores.Goals as goal

pub best_score-requires : goal.best_score-requires
best_score-requires c =
    let f = c.loop-u.invariant in
    (c.args.m, filling_ready c.requires.counted c.requires.price f (omega (arith, c.loop-u-test.true, c.set_count-u-end.ensures)))

pub loop-u-preserved : goal.loop-u-preserved
loop-u-preserved c =
    let f = c.loop-u.invariant in
    let inside : c.loop-u.u < 2 ^ c.args.m = omega (arith, c.loop-u-test.true, c.set_count-u-end.ensures) in
    filling_more c.requires.counted c.requires.price f c.best_score.result inside (c.best_score.ensures c.args.m inside)
