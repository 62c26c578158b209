use Rattle.std.proofs.Common.{◌∙◌}
use Rattle.ranks.specs.Runs.{NamedRuns}
use Rattle.checking.specs.Checking.{table_ok}
use Rattle.checking.proofs.Bounds.{held, bounds_same}
use Rattle.checking.proofs.fitting.fits_in.Goals as goal

pub invariant_of-foreign : goal.invariant_of-foreign
invariant_of-foreign g c =
    let l = c.args.lines in
    let r : NamedRuns l.rack l.quantities.now l.sets.now = record { good = l.good; runs = c.requires.named.runs } in
    record { ready = rw c.sum_spans.ensures (held r c.requires.named.all c.args.table.now c.requires.cells) }

pub returns : goal.returns
unfolding table_ok
returns g c =
    let l = c.args.lines in
    let r : NamedRuns l.rack l.quantities.now l.sets.now = record { good = l.good; runs = c.requires.named.runs } in
    c.fits.ensures ∙ rw (c.sum_spans.ensures, bounds_same r c.requires.named.all c.args.table.now)
