use Rattle.std.proofs.Common.{◌≡◌, ℕ, ◌+◌, ◌≤◌, Bool, ◌++◌, not, eqb, List, length, refl, ap, ◌∙◌, arith}
use lib.ListN.{length-append}
use Rattle.text.proofs.Buffer.{both}
use Rattle.job.specs.Job.{count_in}
use Rattle.mend_rules.specs.Mending.{whole_file, recounted, has_more_bytes}
use Rattle.mend.specs.Mend.{whole_report, change}
use Rattle.mend.proofs.report.put_whole.Goals as goal

module _ (file : List ℕ) {a b : Bool} (e : a ≡ recounted file) (f : b ≡ has_more_bytes file) where
  parts : whole_report file ≡ change a whole_file 5 ++ change b whole_file 6
  parts = rw (e, f) refl

  room : (at space : ℕ) → at + length (whole_report file) ≤ space
      → at + length (change a whole_file 5) + length (change b whole_file 6) ≤ space
  room at space h = omega (arith, h, ap length parts, length-append (change a whole_file 5) (change b whole_file 6))

pub returns : goal.returns
returns c =
    let a = c.args in
    let file = a.file.bytes.now in
    let e = c.is_recounted.ensures ∙ ap (λ n. not (eqb n (count_in file))) c.requires.kept_is in
    rw (parts file e c.has_more.ensures) (both (omega (arith, c.requires.room)) c.put_change-at.ensures c.put_change.ensures)
