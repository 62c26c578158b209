use Rattle.std.proofs.Common.{ap, sym}
use Rattle.refusal.proofs.Laws.{reason_not_0, told_err}
use Rattle.order_rules.proofs.Parts.{last-below}
use Rattle.order_rules.proofs.Ruling.{windows_passed}
use Rattle.placing.proofs.Windows.{parts_agree, below}
use Rattle.windows.proofs.Agree.{found_agree}
use Rattle.part_windows.proofs.Ruling.{given_answer, none_answer, found_answer}
use Rattle.part_windows.proofs.place_windows_in.Goals as goal

pub returns-in_err-flat_parts : goal.returns-in_err-flat_parts
returns-in_err-flat_parts g c =
    λ parts p rules r.
    let a = c.args in
    let e = told_err c.from_residual.result c.in_err-flat_parts.field-0.0 c.from_residual.ensures in
    rw e (given_answer parts rules a.first.now a.last.now (rw c.min-room.ensures at (c.in_err-flat_parts.ensures.refusal parts p rules r))
    (reason_not_0 _))

pub returns-then-not-find_bounds : goal.returns-then-not-find_bounds
returns-then-not-find_bounds g c =
    λ parts p rules r.
    let a = c.args in
    let f = c.in_ok-flat_parts.ensures in
    let flat = f.flat parts p rules r in
    let passed = rw c.min-room.ensures at (f.refusal parts p rules r) in
    let windows = windows_passed parts rules _ (sym (ap (λ q. q.number) passed)) in
    let found = found_agree (parts_agree parts windows rules _ _ _ flat) (below parts windows rules _ _ _ flat) (last-below parts windows)
    c.if-not-find_bounds.ensures.found in
    rw (c.at.ensures, sym p.size) (none_answer parts rules a.first.now a.last.now passed _ _ (rw (sym p.size) at found))

pub returns : goal.returns
returns g c =
    λ parts p rules r.
    let a = c.args in
    let f = c.in_ok-flat_parts.ensures in
    let flat = f.flat parts p rules r in
    let passed = rw c.min-room.ensures at (f.refusal parts p rules r) in
    let windows = windows_passed parts rules _ (sym (ap (λ q. q.number) passed)) in
    let found = found_agree (parts_agree parts windows rules _ _ _ flat) (below parts windows rules _ _ _ flat) (last-below parts windows)
    c.if-not-find_bounds.ensures.found in
    rw (sym p.size) (found_answer parts rules a.first.now a.last.now passed _ _ (rw (sym p.size) at found))
