-- The lines read are in the file.
use Prim.Native.Nat.{ℕ, ◌+◌, ◌≤◌, ◌<◌}
use native.Mathlib.Omega.{arith}
use native.Mathlib.Nat.{mul-le-mul_left}
use mathlib.Core.Path.{◌≡◌}
use mathlib.Core.List.{List}
use lib.ListN.{length}
use Rattle.job.specs.Job.{header_length, line_length, file_length, version_in, start_number}
use Rattle.job.proofs.HeaderLaws.{start_good}
use Rattle.mend_rules.specs.Mending.{read_count}
use Rattle.mend_rules.proofs.Lengths.{read_whole}

module _ (file : List ℕ) (s : start_number file ≡ 0) where
  pub start_long : header_length ≤ length file
  start_long = (start_good file s).long

  pub line_there : (v i : ℕ) → v ≡ version_in file → i < read_count file → file_length v (i + 1) ≤ length file
  line_there v i e h =
      let k : i + 1 ≤ read_count file = omega arith in
      rw e (omega (arith, mul-le-mul_left (line_length (version_in file)) k, read_whole file (start_good file s)))

  -- all lines read
  pub lines_there : (v n : ℕ) → v ≡ version_in file → n ≡ read_count file → file_length v n ≤ length file
  lines_there v n e f = rw (e, f) (read_whole file (start_good file s))
