use mathlib.Core.Path.{◌∙◌}
use mir.Syntax.{w32}
use mir.Val.{to_z, of_z}
use mir.ValLaws.{to_z-of_z}
use Rattle.common_tip.proofs.Laws.{margin_small}
use Rattle.line_calls.proofs.KeepWithin.{keep-all, keep-rule}
use Rattle.line_calls.proofs.keep.Goals as goal

pub returns : goal.returns
returns c =
    let a = c.args in
    let margin = c.keep_lines-margin.result in
    let is = c.keep_lines-margin.ensures.margin in
    let small = margin_small a.rack a.k (record { same = c.requires.same; few = c.requires.few }) c.ranges.k.fits in
    let read = to_z-of_z w32 margin (rw is small) ∙ is in
    let kept =
    keep-all a.rack a.quantities.now a.lines.now a.k {y = to_z w32 (of_z w32 margin)} read c.keep_refusal.ensures.refusal
    c.keep_refusal.ensures.margin c.keep_lines-margin.ensures.lines in
    record { answer = kept.0; sets = kept.1; rule = keep-rule a.rack a.quantities.now a.lines.now a.k c.requires kept }
