use Prim.Native.Nat.{◌+◌}
use mathlib.Core.Path.{sym, ap, ap₂, ◌∙◌}
use native.Mathlib.Omega.{arith}
use Rattle.refusal.specs.Refusal.{none}
use Rattle.refusal.proofs.Laws.{told_err}
use Rattle.job.proofs.Reading.{read_good}
use Rattle.panel.proofs.Merged.{merge_none}
use Rattle.panel.proofs.BothFiles.{by_headers, version_of_both}
use Rattle.panel.proofs.files.merged_header.Goals as goal

pub overflow_add-placements : goal.overflow_add-placements
overflow_add-placements c =
    let a = c.args in
    let few = (read_good a.first.file.bytes.now a.first.accepted).few in
    let other = (read_good a.second.file.bytes.now a.second.accepted).few in
    record { fits = omega (arith, a.first.placements_are, a.second.placements_are, few, other) }

pub returns-in_err-merge_refusal-clause-refusal : goal.returns-in_err-merge_refusal-clause-refusal
returns-in_err-merge_refusal-clause-refusal c =
    let x = c.args.first in
    let y = c.args.second in
    told_err _ _ c.from_residual.ensures
    ∙ c.in_err-merge_refusal.ensures
    ∙ by_headers x.file.bytes.now y.file.bytes.now x.file.header_is.rack-is y.file.header_is.rack-is
    (ap₂ ◌+◌ x.file.header_is.count-is y.file.header_is.count-is) (ap₂ ◌+◌ x.placements_are y.placements_are)

pub returns-clause-refusal : goal.returns-clause-refusal
returns-clause-refusal c =
    let x = c.args.first in
    let y = c.args.second in
    c.in_ok-merge_refusal.ensures
    ∙ by_headers x.file.bytes.now y.file.bytes.now x.file.header_is.rack-is y.file.header_is.rack-is
    (ap₂ ◌+◌ x.file.header_is.count-is y.file.header_is.count-is) (ap₂ ◌+◌ x.placements_are y.placements_are)

pub returns-clause-header : goal.returns-clause-header
returns-clause-header c =
    let x = c.args.first in
    let y = c.args.second in
    let first = x.file.bytes.now in
    let second = y.file.bytes.now in
    let count = ap₂ ◌+◌ x.file.header_is.count-is y.file.header_is.count-is in
    let placements = ap₂ ◌+◌ x.placements_are y.placements_are in
    record {
      version-is = c.version_of.ensures ∙ version_of_both first second x.accepted y.accepted count placements;
      rack-is = x.file.header_is.rack-is;
      count-is = count;
      few-lines = (merge_none none _ _ _ _ (ap (λ r. r.number) (sym c.in_ok-merge_refusal.ensures))).lines_few;
    }
