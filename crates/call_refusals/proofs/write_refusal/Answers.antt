use native.Mathlib.Omega.{arith}
use Rattle.refusal.specs.Refusal.{or_else}
use Rattle.job.specs.Header.{version_number}
use Rattle.job.proofs.Lines.{file_few}
use Rattle.call_refusals.specs.Calls.{write_refusal}
use Rattle.call_refusals.proofs.write_refusal.Goals as goal

pub file_length-requires : goal.file_length-requires
file_length-requires c = omega (arith, file_few (version_number c.args.version) c.args.count c.requires)

pub returns : goal.returns
unfolding write_refusal or_else
returns c = rw c.file_length.ensures at c.refuse_when.ensures
