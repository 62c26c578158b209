use Rattle.std.proofs.Common.{◌≡◌, List, length}
use Rattle.order_rules.specs.declared.Part.{Part}
use Rattle.placing.specs.Given.{KindsOf}
use Rattle.placing.proofs.Flagged.{Rowed}
use Rattle.placing.proofs.flags.start_rows.Given as goal

abbrev pub invariant-loop-b : goal.invariant-loop-b
invariant-loop-b l = record {
  size : length l.rows ≡ length l.initial.rows;
  rowed : (parts : List Part) → length parts ≡ length l.initial.rows → KindsOf parts (length parts) l.kinds → Rowed parts l.b l.rows;
}
