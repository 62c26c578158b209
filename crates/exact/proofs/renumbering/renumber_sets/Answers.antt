use Rattle.std.proofs.Common.{get_or, ap, sym, ◌∙◌, arith}
use mathlib.Core.Path.{subst}
use Rattle.model.specs.Plan.{has}
use Rattle.model.specs.Renumber.{ranks, renumbered}
use Rattle.model.proofs.Lists.{all-at}
use Rattle.model.proofs.Loops.{mapped_next, mapped-more, mapped-all}
use Rattle.exact.specs.Leaf.{Renumbering}
use Rattle.exact.proofs.renumbering.renumber_sets.Goals as goal

pub renumber_set-requires : goal.renumber_set-requires
renumber_set-requires c =
    let (names, all) = c.requires in
    let l = c.loop-set in
    let same = ap (λ x. get_or x l.set-index 0) (l.invariant names all) ∙ mapped_next (ranks (has names) c.args.m) c.args.sets.now l.set-index in
    (names, subst (Renumbering names c.args.m c.args.list.now) (sym same) (all-at 0 all l.set-index (omega arith)))

pub loop-set-preserved : goal.loop-set-preserved
loop-set-preserved c = λ names all.
    let l = c.loop-set in
    let f = ranks (has names) c.args.m in
    let same = ap (λ x. get_or x l.set-index 0) (l.invariant names all) ∙ mapped_next f c.args.sets.now l.set-index in
    let own = subst (Renumbering names c.args.m c.args.list.now) (sym same) (all-at 0 all l.set-index (omega arith)) in
    rw (c.renumber_set.ensures names own, l.invariant names all, mapped-more f c.args.sets.now l.set-index (omega arith))

pub returns : goal.returns
unfolding renumbered
returns c = λ names all.
    let l = c.loop-set in
    l.invariant names all ∙ mapped-all (ranks (has names) c.args.m) c.args.sets.now l.set-index (omega arith)
