use Rattle.exact.proofs.Picks.{scored_ready}
use Rattle.exact.proofs.picking.Tables.is_tied.Goals as goal

pub score_with-requires-clause-ready : goal.score_with-requires-clause-ready
score_with-requires-clause-ready c =
    let tables = c.args.self.now in
    (tables.m, scored_ready tables.scored c.args.u c.requires.inside)
