use Rattle.std.proofs.Common.{◌≡◌, ℕ, ◌+◌, ◌≤◌, List, ◌++◌, length, ap, arith}
use lib.ListN.{length-append}
use Rattle.text.proofs.Buffer.{both}
use Rattle.job.specs.Job.{JobLine}
use Rattle.mend_rules.specs.Mending.{is_cleared, is_emptied, is_raised, is_dropped}
use Rattle.mend.specs.declared.change.Changed.{Changed}
use Rattle.mend.specs.Mend.{line_report, change}
use Rattle.mend.proofs.Codes.{codes-told}
use Rattle.mend.proofs.report.put_changed.Goals as goal

-- the changes of a line, one after the other
told : ℕ → Changed → List ℕ
told i d = change d.cleared i 1 ++ change d.emptied i 2 ++ change d.raised i 3 ++ change d.dropped i 4

all : (m t i : ℕ) (l : JobLine) (d : Changed) → d.cleared ≡ is_cleared m t l.tips → d.emptied ≡ is_emptied m t l → d.raised ≡ is_raised m t l
    → d.dropped ≡ is_dropped m t l → line_report i m t l ≡ told i d
unfolding told
all m t i l d e f g h = codes-told m t i l e f g h

-- and the room for them
room : (at i : ℕ) (d : Changed) (report whole : List ℕ) → whole ≡ told i d → at + length whole ≤ length report
    → at + (length (change d.cleared i 1) + length (change d.emptied i 2) + length (change d.raised i 3) + length (change d.dropped i 4))
    ≤ length report
unfolding told
room at i d report whole e h =
    let one = change d.cleared i 1 in
    let two = change d.emptied i 2 in
    let three = change d.raised i 3 in
    let four = change d.dropped i 4 in
    omega (arith, h, ap length e, length-append (one ++ two ++ three) four, length-append (one ++ two) three, length-append one two)

pub put_change-at-requires : goal.put_change-at-requires
put_change-at-requires c =
    let e = c.changed-changed.ensures in
    omega (arith, room _ _ _ _ _ (all _ _ _ _ _ e.cleared e.emptied e.raised e.dropped) c.requires)

pub put_change-at-requires-2 : goal.put_change-at-requires-2
put_change-at-requires-2 c =
    let e = c.changed-changed.ensures in
    omega (arith, room _ _ _ _ _ (all _ _ _ _ _ e.cleared e.emptied e.raised e.dropped) c.requires)

pub put_change-at-requires-3 : goal.put_change-at-requires-3
put_change-at-requires-3 c =
    let e = c.changed-changed.ensures in
    omega (arith, room _ _ _ _ _ (all _ _ _ _ _ e.cleared e.emptied e.raised e.dropped) c.requires)

pub put_change-requires : goal.put_change-requires
put_change-requires c =
    let e = c.changed-changed.ensures in
    omega (arith, room _ _ _ _ _ (all _ _ _ _ _ e.cleared e.emptied e.raised e.dropped) c.requires)

pub returns : goal.returns
unfolding told
returns c =
    let e = c.changed-changed.ensures in
    let fits : c.args.at ≤ length c.args.report.now = omega arith in
    rw (all _ _ _ _ _ e.cleared e.emptied e.raised e.dropped)
    (both fits (both fits (both fits c.put_change-at.ensures c.put_change-at-2.ensures) c.put_change-at-3.ensures) c.put_change.ensures)
