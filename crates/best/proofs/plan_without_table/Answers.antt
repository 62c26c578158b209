use Rattle.best.proofs.Ranks.{most_places}
use Rattle.best.proofs.Room.{few_places}
use Rattle.best.proofs.plan_without_table.Goals as goal

pub pairs_in-requires-clause-room : goal.pairs_in-requires-clause-room
pairs_in-requires-clause-room c = few_places c.names_of-names.result c.args.m c.if-names-le-SMALL_RACK.true

pub pairs_in-requires-else-names-le-SMALL_RACK-clause-room : goal.pairs_in-requires-else-names-le-SMALL_RACK-clause-room
pairs_in-requires-else-names-le-SMALL_RACK-clause-room c = most_places c.requires.runs c.names_of-names.result
