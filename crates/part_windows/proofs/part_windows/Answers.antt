use Rattle.std.proofs.Common.{rules}
use Rattle.refusal.specs.Reasons.{refusal_of}
use Rattle.placing.proofs.CasesTold.{parts_told}
use Rattle.part_windows.specs.Call.{room, WindowsAnswer}
use Rattle.part_windows.proofs.Ruling.{windows_rule}
use Rattle.part_windows.proofs.part_windows.Goals as goal

pub returns-clause-rule : goal.returns-clause-rule
returns-clause-rule c =
    let a = c.args in
    let new = c.place_windows.new in
    let x : WindowsAnswer a.parts.now a.rules.now a.first.now a.last.now new.first new.last (refusal_of c.place_windows.result) = search rules in
    windows_rule x

pub returns-clause-cases : goal.returns-clause-cases
returns-clause-cases c =
    let a = c.args in
    let new = c.place_windows.new in
    let x : WindowsAnswer a.parts.now a.rules.now a.first.now a.last.now new.first new.last (refusal_of c.place_windows.result) = search rules in
    parts_told a.parts.now a.rules.now (room a.first.now a.last.now) x.refusal
