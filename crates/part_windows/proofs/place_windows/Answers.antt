use Rattle.std.proofs.Common.{◌<◌, length, arith}
use Rattle.order_rules.proofs.Refused.{over}
use Rattle.part_windows.specs.Call.{room}
use Rattle.part_windows.proofs.Ruling.{given_answer}
use Rattle.part_windows.proofs.place_windows.Goals as goal

pub returns-then-n-gt-MOST_PARTS : goal.returns-then-n-gt-MOST_PARTS
returns-then-n-gt-MOST_PARTS g c =
    λ parts p rules r.
    let a = c.args in
    let many : 128 < length parts = omega (arith, p.size, c.if-n-gt-MOST_PARTS.true) in
    rw c.at.ensures (given_answer parts rules a.first.now a.last.now (over parts rules (room a.first.now a.last.now) many)
    (λ z. omega (arith, z)))
