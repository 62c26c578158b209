use Rattle.std.proofs.Common.{length, length-append, arith, rules, refl, ◌≡◌}
use Rattle.text.specs.Text.{joined}
use Rattle.text.proofs.Buffer.{start, both}
use Rattle.text.proofs.Joined.{joined-more, joined-within}
use Rattle.report.specs.Report.{line_at, line_text}
use Rattle.report.proofs.Shown.{line_shown}
use Rattle.report.proofs.Turn.{Over, At, turn}
use Rattle.std.specs.Option.{is_some, unwrap_or}
use Rattle.report.proofs.put_lines.Goals.{In-Some, After-from-in-loop-i}
use Rattle.report.proofs.put_lines.Goals as goal

-- the line and its two tips of this turn
here : (c : In-Some) → At c.args.quick.now c.args.best.now (length c.loop-i.yielded) (c.in-Some.i, (c.in-Some.tip, c.in-Some.shared))
here c =
    let o : Over c.args.quick.now c.args.best.now c.into_iter-i-iterator.result
    = record { first = search rules; second = search rules; from_0 = search rules; same = c.requires.best_len } in
    turn o c.loop-i.yielded c.loop-i.i-iterator c.next.new.self c.next.result c.loop-i.yielded_by c.next.ensures.steps _ c.in-Some.is

-- and the text of that line
text : (c : After-from-in-loop-i)
    → At c.args.quick.now c.args.best.now (length c.loop-i.yielded) (c.in-Some.i, (c.in-Some.tip, c.in-Some.shared))
    → line_text c.in-Some.i c.from-in-loop-i.result (is_some c.then_some-shared.result) (unwrap_or c.then_some-shared.result 0)
    ≡ line_at c.args.quick.now c.args.runs c.args.best.now (length c.loop-i.yielded)
unfolding line_at
text c h =
    rw (
      line_shown c.in-Some.i c.from-in-loop-i.result c.args.runs c.from.result c.then_some-shared.ensures,
      c.from.ensures,
      c.from-in-loop-i.ensures,
      h.place,
      h.first,
      h.second,
    ) refl

pub loop-i-init : goal.loop-i-init
unfolding joined
loop-i-init c = start

pub put_line-next-requires : goal.put_line-next-requires
put_line-next-requires c =
    let at = goal.at.put_line-next-requires c in
    let h = here at.In-Some in
    rw (text at.After-from-in-loop-i h)
    (omega (arith, joined-within (line_at c.args.quick.now c.args.runs c.args.best.now) (length c.loop-i.yielded) (length c.args.quick.now) h.below))

pub loop-i-preserved : goal.loop-i-preserved
loop-i-preserved c =
    let at = goal.at.loop-i-preserved c in
    let line = rw (text at.After-from-in-loop-i (here at.In-Some)) at c.put_line-next.ensures in
    let lines = line_at c.args.quick.now c.args.runs c.args.best.now in
    let more = joined-more lines (length c.loop-i.yielded) in
    rw (length-append, more) (both (omega arith) c.loop-i.invariant line)
