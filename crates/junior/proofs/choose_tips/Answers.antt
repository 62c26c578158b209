use Rattle.std.proofs.Common.{sym, ◌∙◌, arith, ◌≡◌, ◌+◌, ◌*◌, length, take, ap}
use Rattle.junior.proofs.Passed.{block-is, served-more, served-stop, served-past, serves_padded, given_up}
use Rattle.junior.proofs.Search.{sought_none, sought_same, sought_next, sought_skip, sought_all}
use Rattle.junior.proofs.choose_tips.Goals as goal
use Rattle.junior.proofs.choose_tips.Goals.{in-Some, in_default}

pub loop-u-init : goal.loop-u-init
loop-u-init c =
    let e : 0 * c.args.m ≡ 0 = omega arith in
    rw e (sought_none c.args.m c.args.quantities.now (take (length c.args.quantities.now) c.args.sets.now))

pub tips-init : goal.tips-init
tips-init c =
    let qs = c.args.quantities.now in
    sought_skip c.args.m qs (take (length qs) c.args.sets.now) c.loop-u.u c.loop-u.u (omega arith) (omega arith) c.loop-u.invariant

-- a line of the block has neither: this pair of tips is no choice
pub tips-preserved-then-misses : goal.tips-preserved-then-misses
tips-preserved-then-misses c =
    let m = c.args.m in
    let qs = c.args.quantities.now in
    let sets = c.args.sets.now in
    let lines = take (length qs) sets in
    let u = c.loop-u.u in
    let v = c.tips.v in
    let i = c.loop-i.i in
    let p = c.requires in
    let missed = served-stop sets u v i (block-is sets i) c.loop-i.invariant (sym c.if-misses.true ∙ c.misses.ensures) in
    let unserved = sym (serves_padded (length qs) sets u v (omega arith) p.padded.1) ∙ sym missed in
    let e : u * m + (v + 1) ≡ u * m + v + 1 = omega arith in
    rw e (sought_same m qs lines u v (omega arith) c.tips.invariant (given_up qs lines p.good.same u v p.good.placed unserved))

pub loop-i-preserved : goal.loop-i-preserved
loop-i-preserved c =
    let i = c.loop-i.i in
    let sets = c.args.sets.now in
    served-more sets c.loop-u.u c.tips.v i (block-is sets i) c.loop-i.invariant (sym c.if-misses.false ∙ c.misses.ensures)

pub on_tips-requires-clause-served : goal.on_tips-requires-clause-served
on_tips-requires-clause-served c =
    let n = length c.args.quantities.now in
    let sets = c.args.sets.now in
    served-past n sets c.loop-u.u c.tips.v (16 * c.loop-i.i) (omega arith) c.requires.padded.1 (omega arith) c.loop-i.invariant

pub tips-preserved : goal.tips-preserved
tips-preserved c =
    let m = c.args.m in
    let qs = c.args.quantities.now in
    let lines = take (length qs) c.args.sets.now in
    let u = c.loop-u.u in
    let v = c.tips.v in
    let e : u * m + (v + 1) ≡ u * m + v + 1 = omega arith in
    rw e (elim c.match-on_tips.branch [
      | in-Some w ↦ rw w.best-is
          (sought_next m qs lines u v (omega arith) c.tips.invariant (sym w.in-Some.is ∙ c.on_tips.ensures)
          w.better-best.ensures.stays w.better-best.ensures.moves)
      | in_default w ↦ rw w.best-is
          (sought_same m qs lines u v (omega arith) c.tips.invariant (sym w.in_default.is ∙ c.on_tips.ensures))
    ])

pub loop-u-preserved : goal.loop-u-preserved
loop-u-preserved c =
    let u = c.loop-u.u in
    let last : c.tips.v ≡ c.args.m = omega arith in
    let e : (u + 1) * c.args.m ≡ u * c.args.m + c.tips.v = omega (arith, ap (λ x. u * c.args.m + x) last) in
    rw e c.tips.invariant

pub returns : goal.returns
returns c =
    let e : c.loop-u.u ≡ c.args.m = omega arith in
    sought_all c.args.m c.args.quantities.now (take (length c.args.quantities.now) c.args.sets.now) c.requires.good.some (rw e at c.loop-u.invariant)
