-- What mending promises, all of it.
use Prim.Native.Nat.{ℕ}
use native.Mathlib.Omega.{arith}
use mathlib.Core.Path.{◌≡◌}
use mathlib.Core.List.{List}
use Rattle.job.specs.Job.{Bytes, rack_in, start_number}
use Rattle.job.proofs.HeaderLaws.{start_good}
use Rattle.mend_rules.specs.Mending.{mended_file, mended_report}
use Rattle.mend_rules.specs.Rules.{MendRule}
use Rattle.mend_rules.proofs.Kept.{mended_has}
use Rattle.mend_rules.proofs.Files.{read_few, mended-lines, mended_version, mended_count, accepted_same, mended_again}
use Rattle.mend_rules.proofs.Report.{report_exact, report_told}
use Rattle.mend_rules.proofs.Lengths.{report_bound, mended_shorter, mended_bound}

-- it holds for a file of bytes whose first 8 are not refused
pub mend_rule : (file : List ℕ) → Bytes file → start_number file ≡ 0 → MendRule file (mended_file file) (mended_report file)
mend_rule file h s =
    let g = start_good file s in
    record {
      is_read = mended-lines file g h;
      same_version = mended_version file g h;
      tips = mended_has (rack_in file);
      exact = rw (mended_count file g h, report_told file) (report_exact file);
      same = λ e. accepted_same file e h;
      again = mended_again file g h;
      shorter = mended_shorter file g;
      out_bound = mended_bound file;
      report_bound = omega (arith, report_bound file, read_few file);
    }
