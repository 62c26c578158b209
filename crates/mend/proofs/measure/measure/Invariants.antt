use Rattle.std.proofs.Common.{◌≡◌, ◌*◌, ◌≤◌, length}
use Rattle.mend.proofs.Pass.{Passed, kept_to, changes_to}
use Rattle.mend.proofs.measure.measure.Given as goal

abbrev pub invariant-loop-i : goal.invariant-loop-i
invariant-loop-i l = record {
  passed : Passed l.file.bytes.now l.running.rack l.file.count l.i l.running.total;
  kept : l.kept ≡ length (kept_to l.file.bytes.now l.i);
  kept_few : l.kept ≤ l.i;
  changes : l.changes ≡ length (changes_to l.file.bytes.now l.i);
  changes_few : l.changes ≤ 4 * l.i;
}
