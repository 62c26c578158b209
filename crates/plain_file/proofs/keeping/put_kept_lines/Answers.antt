use Rattle.std.proofs.Common.{sym, ap, ◌∙◌, pos}
use lib.Signed.{lt_z}
use mir.Syntax.{w32}
use mir.ValLaws.{to_z-of_z}
use Rattle.job.specs.Job.{counted, sets_in, quantities_in, paired, bytes_of_lines}
use Rattle.job.proofs.Reading.{length-sets_in, length-quantities_in, plain-total}
use Rattle.common_tip.proofs.Laws.{prune-each, prune-none}
use Rattle.plain_file.proofs.Narrowed.{placed}
use Rattle.plain_file.proofs.keeping.put_kept_lines.Goals as goal

pub returns-then-margin-lt1 : goal.returns-then-margin-lt1
returns-then-margin-lt1 c =
    let a = c.args in
    let file = a.file.bytes.now in
    let below = ap (λ z. lt_z z (pos 1)) (sym (to_z-of_z w32 a.margin c.ranges.margin)) ∙ c.if-margin-lt1.true in
    let same = length-quantities_in file ∙ sym (length-sets_in file) in
    c.put_narrowed.ensures
    ∙ ap (λ l. bytes_of_lines 1 (paired l (quantities_in file))) (prune-each a.v a.margin (placed file c.requires.plain) (sets_in file) same below)

pub returns-else-margin-lt1 : goal.returns-else-margin-lt1
returns-else-margin-lt1 c =
    let a = c.args in
    let file = a.file.bytes.now in
    let above = ap (λ z. lt_z z (pos 1)) (sym (to_z-of_z w32 a.margin c.ranges.margin)) ∙ c.if-margin-lt1.false in
    let same = length-quantities_in file ∙ sym (length-sets_in file) in
    let total = plain-total file (ap counted c.requires.plain) ∙ sym (length-quantities_in file) in
    c.put_file_lines.ensures
    ∙ ap (λ l. bytes_of_lines 1 (paired l (quantities_in file)))
    (prune-none a.v a.margin (placed file c.requires.plain) (sets_in file) same above total)
