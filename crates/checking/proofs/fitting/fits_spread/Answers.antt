use Rattle.std.proofs.Common.{◌∙◌, ap, map}
use Rattle.model.proofs.Tests.{T_true}
use Rattle.ranks.specs.Listed.{run_by}
use Rattle.ranks.specs.Runs.{NamedRuns}
use Rattle.ranks.proofs.Runs.{listable}
use Rattle.checking.proofs.ByRanks.{full-out, runs-out, ok-out}
use Rattle.checking.proofs.fitting.fits_spread.Goals as goal

pub renumber_lines-requires : goal.renumber_lines-requires
renumber_lines-requires c =
    let l = c.args.lines in
    let w = c.args.wide.now in
    let p = c.requires in
    let runs : NamedRuns w.m l.quantities.now l.sets.now = rw p.rack (record { good = l.good; runs = p.named.runs }) in
    rw c.copy_sets.ensures (listable runs p.named.all p.ranked)

pub invariant_of-ranked : goal.invariant_of-ranked
invariant_of-ranked c =
    let l = c.args.lines in
    let w = c.args.wide.now in
    let p = c.requires in
    let runs : NamedRuns w.m l.quantities.now l.sets.now = rw p.rack (record { good = l.good; runs = p.named.runs }) in
    let out = c.renumber_lines.ensures ∙ ap (map (run_by c.args.rank_list.now)) c.copy_sets.ensures in
    record { good = (full-out runs p.named.all w.counted p.ranked out p.some).good }

pub fits_in-requires-clause-named : goal.fits_in-requires-clause-named
fits_in-requires-clause-named c =
    let l = c.args.lines in
    let w = c.args.wide.now in
    let p = c.requires in
    let runs : NamedRuns w.m l.quantities.now l.sets.now = rw p.rack (record { good = l.good; runs = p.named.runs }) in
    let out = c.renumber_lines.ensures ∙ ap (map (run_by c.args.rank_list.now)) c.copy_sets.ensures in
    rw c.names_of-names.ensures (runs-out runs p.named.all w.counted p.ranked out p.some)

pub returns : goal.returns
returns c =
    let l = c.args.lines in
    let w = c.args.wide.now in
    let p = c.requires in
    let runs : NamedRuns w.m l.quantities.now l.sets.now = rw p.rack (record { good = l.good; runs = p.named.runs }) in
    let out = c.renumber_lines.ensures ∙ ap (map (run_by c.args.rank_list.now)) c.copy_sets.ensures in
    let same = ok-out runs p.named.all w.counted p.ranked out (T_true p.spread) c.gather.ensures c.args.claim in
    c.fits_in.ensures ∙ (rw p.rack at same)
