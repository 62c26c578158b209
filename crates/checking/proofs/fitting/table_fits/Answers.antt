use Rattle.std.proofs.Common.{sym}
use Rattle.ranks.specs.Runs.{NamedRuns}
use Rattle.checking.proofs.ByRanks.{ok-none}
use Rattle.checking.proofs.fitting.table_fits.Goals as goal

pub returns-then-count-eq0 : goal.returns-then-count-eq0
returns-then-count-eq0 c =
    let l = c.args.lines in
    let runs : NamedRuns l.rack l.quantities.now l.sets.now = record { good = l.good; runs = c.requires.named.runs } in
    let asked = ok-none runs c.requires.named.all c.list_tips-count.ensures.size c.if-count-eq0.true c.args.claim c.args.table.now in
    rw (c.entry_at.ensures.entry, c.from.ensures) (sym asked)
