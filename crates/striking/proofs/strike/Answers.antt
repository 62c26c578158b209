use Rattle.std.proofs.Common.{◌∙◌}
use Rattle.ranks.proofs.Runs.{all_full}
use Rattle.striking.proofs.strike.Goals as goal

pub strike_full-requires-clause-full : goal.strike_full-requires-clause-full
strike_full-requires-clause-full c =
    let named = c.requires.named in
    all_full (record { good = c.args.lines.good; runs = named.runs }) named.all (c.if-names-between.true ∙ c.between.ensures)
