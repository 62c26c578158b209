use Rattle.std.proofs.Common.{◌+◌, ◌≤◌, ◌++◌, length, take, drop, sym, ap, ◌∙◌, arith}
use Rattle.text.specs.Buffer.{put}
use Rattle.job.specs.Job.{line_length, line_of}
use Rattle.job.specs.Header.{version_number}
use Rattle.job.proofs.Lines.{line_long, length-line_of}
use Rattle.job_write.proofs.Laws.{line-put}
use Rattle.mend.specs.Parts.{read_as}
use Rattle.mend.proofs.write.put_line.Goals as goal

pub put_quantity-requires : goal.put_quantity-requires
put_quantity-requires c = omega (arith, c.requires, length-line_of (version_number c.args.version) (read_as c.args.line))

pub put_set-requires : goal.put_set-requires
put_set-requires c =
    let v = version_number c.args.version in
    omega (arith, c.requires, length-line_of v (read_as c.args.line), line_long v, c.put_quantity.auto.out)

pub overflow_add-result : goal.overflow_add-result
overflow_add-result c = omega (arith, c.requires, length-line_of (version_number c.args.version) (read_as c.args.line), c.line_length.ensures)

pub returns : goal.returns
unfolding put
returns c =
    let a = c.args in
    let v = version_number a.version in
    let out = a.out.now in
    let whole = read_as a.line in
    let long = length-line_of v whole in
    let room : a.at + line_length v ≤ length out = omega (arith, c.requires, long) in
    record {
      place = ap (λ k. a.at + k) (c.line_length.ensures ∙ sym long);
      bytes = line-put v a.line.set a.line.quantity a.at out (omega arith) room c.put_quantity.ensures c.put_set.ensures
          ∙ ap (λ k. take a.at out ++ line_of v whole ++ drop (a.at + k) out) (sym long);
    }
