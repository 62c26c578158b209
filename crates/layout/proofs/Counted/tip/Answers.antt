use Rattle.std.proofs.Common.{◌≡◌, ◌-◌, arith}
use Rattle.head.specs.OnHead.{on_head}
use Rattle.layout.specs.Picks.{pick_by}
use Rattle.layout.proofs.Picks.{wins, loses, pick_bare, lowest-by_lt}
use Rattle.layout.proofs.Counted.tip.Goals as goal
use Rattle.layout.proofs.Counted.tip.Goals.{in_default-via-in-Some+then-a-t+then-t-a+else-entry_at-split, in_default-via-in-Some+then-a-t+else-t-a}
use Rattle.layout.proofs.Counted.tip.Goals.{in_default-via-in-Some+else-a-t, in_default-via-in_default}

pub returns-in-Some : goal.returns-in-Some
returns-in-Some c =
    let a = c.args in
    let s = a.self.now in
    let is : c.in-Some.t - a.a ≡ pick_by (on_head s.mounted) s.m s.sums.now s.table.now a.a a.w =
    rw c.in-Some.is
    (wins s.searchable c.in-Some.t a.a a.w c.requires.inside c.if-a-t.true c.if-t-a.true
    (omega (arith, c.entry_at.ensures, c.split.ensures, c.if-entry_at-split.true))) in
    record { inside = c.if-t-a.true; is = is }

pub returns-in_default : goal.returns-in_default
returns-in_default c =
    let a = c.args in
    let s = a.self.now in
    let h = c.requires.inside in
    let found = c.lowest.ensures in
    let is : c.lowest.result ≡ pick_by (on_head s.mounted) s.m s.sums.now s.table.now a.a a.w =
    elim c.in_default.branch [
      | in_default-via-in-Some+then-a-t+then-t-a+else-entry_at-split w ↦
          rw w.in-Some.is (loses s.searchable w.in-Some.t a.a a.w h found
          (λ p l. omega (arith, w.entry_at.ensures, w.split.ensures, w.if-entry_at-split.false)))
      | in_default-via-in-Some+then-a-t+else-t-a w ↦
          rw w.in-Some.is (loses s.searchable w.in-Some.t a.a a.w h found (λ p l. absurd (omega (arith, w.if-t-a.false))))
      | in_default-via-in-Some+else-a-t w ↦
          rw w.in-Some.is (loses s.searchable w.in-Some.t a.a a.w h found (λ p l. absurd (omega (arith, w.if-a-t.false))))
      | in_default-via-in_default w ↦ rw w.in_default.is (pick_bare s.m s.sums.now s.table.now a.a a.w found)
    ] in
    record { inside = omega (arith, found, lowest-by_lt s.m s.sums.now s.table.now a.a a.w c.requires.wide); is = is }
