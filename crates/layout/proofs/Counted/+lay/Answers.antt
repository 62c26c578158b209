use Rattle.std.proofs.Common.{◌≡◌, arith}
use Rattle.head.specs.OnHead.{on_head}
use Rattle.layout.specs.Picks.{pick_by}
use Rattle.layout.proofs.Picks.{pick_lt}
use Rattle.layout.proofs.Owners.{laid_none, laid_step}
use Rattle.layout.proofs.Counted.+lay.Goals as goal

pub lay-returns-else-w-gt0 : goal.lay-returns-else-w-gt0
lay-returns-else-w-gt0 t c =
    let a = c.args in
    let s = a.self.now in
    let e : a.w ≡ 0 = omega arith in
    rw e (laid_none s.m (pick_by (on_head s.mounted) s.m s.sums.now s.table.now) a.a a.owner.now s.searchable.some)

pub lay_tip-returns : goal.lay_tip-returns
lay_tip-returns t c =
    let a = c.args in
    let s = a.self.now in
    let pick = pick_by (on_head s.mounted) s.m s.sums.now s.table.now in
    let under = pick_lt (on_head s.mounted) s.m s.sums.now s.table.now in
    rw (c.lay-2.ensures, c.lay.ensures, c.own_runs.ensures, c.requires.picked)
    (laid_step s.m s.searchable.some pick under a.a a.w a.owner.now (omega arith))
