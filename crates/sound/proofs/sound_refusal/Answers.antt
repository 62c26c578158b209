use mathlib.Core.Path.{◌≡◌, refl, sym, ◌∙◌}
use Rattle.std.proofs.Common.{rules}
use borrow.Author.Tests.{lt-leb, le-leb}
use Rattle.refusal.specs.Refusal.{or_else}
use Rattle.refusal.specs.Reasons.{refusal_of, told_of}
use Rattle.refusal.proofs.Laws.{told_err, or_err, or_ok}
use Rattle.sound.specs.Sound.{count_ok, sound_refusal}
use Rattle.sound.proofs.sound_refusal.Goals.{then-not-rack_ok-via-then-not-rack_ok, then-not-rack_ok-via-else-not-rack_ok+then-count-gt-MOST_LINES}
use Rattle.sound.proofs.sound_refusal.Goals as goal

pub returns-then-not-rack_ok : goal.returns-then-not-rack_ok
unfolding sound_refusal or_else count_ok
returns-then-not-rack_ok c = rw c.at.ensures (elim c.then-not-rack_ok.branch [
  | then-not-rack_ok-via-then-not-rack_ok b ↦ rw (sym c.rack_ok.ensures ∙ b.if-not-rack_ok.true) refl
  | then-not-rack_ok-via-else-not-rack_ok+then-count-gt-MOST_LINES b ↦
      rw (sym c.rack_ok.ensures ∙ b.if-not-rack_ok.false, lt-leb _ 512 b.if-count-gt-MOST_LINES.true) refl
])

pub returns-in_err-line_refusal : goal.returns-in_err-line_refusal
unfolding sound_refusal count_ok
returns-in_err-line_refusal c =
    told_err _ _ c.from_residual.ensures
    ∙ or_ok _ (rw (sym c.rack_ok.ensures ∙ c.if-not-rack_ok.false, le-leb _ 512 c.if-count-gt-MOST_LINES.false) refl)
    (or_err _ _ c.in_err-line_refusal.ensures)

pub returns : goal.returns
unfolding sound_refusal count_ok
returns c = or_ok _ (rw (sym c.rack_ok.ensures ∙ c.if-not-rack_ok.false, le-leb _ 512 c.if-count-gt-MOST_LINES.false) refl)
    (or_ok _ (c.in_ok-line_refusal.ensures) c.rest_refusal.ensures)
