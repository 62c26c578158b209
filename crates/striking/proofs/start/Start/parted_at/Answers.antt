use Rattle.std.proofs.Common.{◌-◌, ap, arith}
use Rattle.model.specs.Plan.{choose2}
use Rattle.striking.specs.Early.{parted_by}
use Rattle.striking.proofs.Early.{tip_in}
use Rattle.striking.proofs.start.Start.parted_at.Goals as goal

pub overflow_add-next : goal.overflow_add-next
overflow_add-next c =
    let line = c.args.self.now.line in
    let within = tip_in line.lines.ready.rack line.domain c.args.c c.requires.whole c.requires.own in
    record { fits = omega (arith, within, c.requires.whole.ends, line.lines.ready.rack) }

pub inside_at-requires : goal.inside_at-requires
inside_at-requires c =
    let line = c.args.self.now.line in
    let within = tip_in line.lines.ready.rack line.domain c.args.c c.requires.whole c.requires.own in
    line.lines.ready.summed c.args.of.first c.args.of.width c.args.c c.requires.whole.ends within.0 within.1

pub overflow_sub-others : goal.overflow_sub-others
overflow_sub-others c = omega (
  arith,
  c.inside_at.ensures,
  c.args.self.now.leaving.covers c.args.of.first c.args.of.width c.args.c c.requires.whole c.requires.own,
)

pub overflow_sub-c : goal.overflow_sub-c
overflow_sub-c c =
    let line = c.args.self.now.line in
    (tip_in line.lines.ready.rack line.domain c.args.c c.requires.whole c.requires.own).0

pub entry_at-before-requires-clause-inside : goal.entry_at-before-requires-clause-inside
entry_at-before-requires-clause-inside c =
    let line = c.args.self.now.line in
    omega (arith, tip_in line.lines.ready.rack line.domain c.args.c c.requires.whole c.requires.own, c.requires.whole.ends)

pub overflow_sub-of : goal.overflow_sub-of
overflow_sub-of c =
    let line = c.args.self.now.line in
    omega (arith, tip_in line.lines.ready.rack line.domain c.args.c c.requires.whole c.requires.own)

pub entry_at-behind-requires-clause-inside : goal.entry_at-behind-requires-clause-inside
entry_at-behind-requires-clause-inside c =
    let line = c.args.self.now.line in
    omega (arith, tip_in line.lines.ready.rack line.domain c.args.c c.requires.whole c.requires.own, c.requires.whole.ends)

pub pairs_among-requires-2 : goal.pairs_among-requires-2
pairs_among-requires-2 c =
    let line = c.args.self.now.line in
    let within = tip_in line.lines.ready.rack line.domain c.args.c c.requires.whole c.requires.own in
    let few = line.lines.ready.few c.args.of.first c.args.of.width c.args.c c.requires.whole.ends within.0 within.1 in
    omega (arith, c.inside_at.ensures, few)

pub returns-clause-parted : goal.returns-clause-parted
unfolding parted_by
returns-clause-parted c = omega (
  arith,
  c.from.ensures,
  c.pairs_among-2.ensures,
  ap (λ n. choose2 (n - c.args.self.now.quantity)) c.inside_at.ensures,
  c.entry_at-before.ensures.entry,
  c.entry_at-behind.ensures.entry,
  c.from-own.ensures,
  c.pairs_among.ensures,
)
