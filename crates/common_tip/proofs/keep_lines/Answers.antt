use Rattle.std.proofs.Common.{◌≡◌, ap, sym, ◌∙◌}
use mathlib.Core.Path.{ap₂}
use mathlib.Core.List.{List, zip_with}
use Prim.Native.Nat.{ℕ, ◌^◌, ◌<◌}
use lib.IntN.{ℤ, pos}
use lib.Signed.{lt_z}
use mir.Syntax.{w32}
use mir.Val.{to_z, of_z}
use mir.ValLaws.{to_z-of_z}
use Rattle.counts.specs.Counts.{Countable}
use Rattle.model.specs.CommonTip.{margin}
use Rattle.placements.specs.Repeated.{repeated}
use Rattle.common_tip.specs.Common.{kept_by, kept_lines}
use Rattle.common_tip.proofs.Laws.{margin_small, prune-by}
use Rattle.common_tip.proofs.keep_lines.Goals as goal

-- the margin as the code holds it, in 32 bits
held : (rack k : ℕ) {qs lines : List ℕ} {z : ℤ} → Countable qs lines → k < 2 ^ 16 → z ≡ margin rack (repeated qs lines) k
    → to_z w32 (of_z w32 z) ≡ margin rack (repeated qs lines) k
held rack k {z = z} n h e = to_z-of_z w32 z (rw e (margin_small rack k n h)) ∙ e

pub returns-then-margin-lt0 : goal.returns-then-margin-lt0
unfolding kept_lines
returns-then-margin-lt0 c =
    let e = held c.args.rack c.args.k c.requires.countable c.ranges.k.fits c.within-bound.ensures.margin in
    record { margin = e; lines = rw (ap (λ z. lt_z z (pos 0)) (sym e) ∙ c.if-margin-lt0.true) }

pub returns : goal.returns
unfolding kept_lines
returns c =
    let e = held c.args.rack c.args.k c.requires.countable c.ranges.k.fits c.within-bound.ensures.margin in
    let qs = c.args.quantities.now in
    let lines = c.args.lines.now in
    record {
      margin = e;
      lines =
          rw (ap (λ z. lt_z z (pos 0)) (sym e) ∙ c.if-margin-lt0.false)
          (c.prune.ensures ∙ ap₂ (λ v z. zip_with (kept_by v z) qs lines) c.within-bound.ensures.tips e ∙ prune-by c.args.rack qs lines c.args.k);
    }
