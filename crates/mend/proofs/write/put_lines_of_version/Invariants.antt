use Rattle.std.proofs.Common.{◌≡◌, ◌≤◌, length}
use Rattle.job.specs.Job.{header_length, bytes_of_lines}
use Rattle.job.specs.Header.{version_number}
use Rattle.mend_rules.specs.Mending.{bytes_of_changes}
use Rattle.mend.proofs.Filled.{Filled}
use Rattle.mend.proofs.Pass.{Passed, kept_to, changes_to}
use Rattle.mend.proofs.write.put_lines_of_version.Given as goal

abbrev pub invariant-loop-i : goal.invariant-loop-i
invariant-loop-i l = record {
  passed : Passed l.file.bytes.now l.running.rack l.file.count l.i l.running.total;
  out : Filled header_length l.at (bytes_of_lines (version_number l.file.header.version) (kept_to l.file.bytes.now l.i)) l.fn.out l.out;
  report : Filled 0 l.told (bytes_of_changes (changes_to l.file.bytes.now l.i)) l.fn.report l.report;
  kept : l.kept ≡ length (kept_to l.file.bytes.now l.i);
  kept_few : l.kept ≤ l.i;
}
