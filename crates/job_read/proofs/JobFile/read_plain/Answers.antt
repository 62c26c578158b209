use Rattle.std.proofs.Common.{◌≡◌, ◌∙◌, sym, ap, refl, arith}
use Rattle.model.specs.Count.{list_of}
use Rattle.model.proofs.ListOf.{filled_more}
use Rattle.job.specs.Header.{version_number}
use Rattle.job.specs.Job.{version_in, set_in, quantity_in, sets_in, set_from}
use Rattle.job.proofs.Good.{read_start, read_next}
use Rattle.job_read.proofs.There.{line_there, all_filled, all_read}
use Rattle.job_read.proofs.JobFile.read_plain.Goals as goal

pub loop-i-init : goal.loop-i-init
unfolding list_of
loop-i-init c = record { sets = refl; read = read_start c.args.self.bytes.now }

pub set_bytes-requires : goal.set_bytes-requires
set_bytes-requires c =
    let self = c.args.self in
    let version : 1 ≡ version_in self.bytes.now = ap version_number (sym c.requires.plain) ∙ self.header_is.version-is in
    line_there self.bytes.now self.good 1 c.loop-i.i version (omega arith)

pub loop-i-preserved : goal.loop-i-preserved
loop-i-preserved c =
    let file = c.args.self.bytes.now in
    let at = c.loop-i in
    let set = c.set_by_bytes.result in
    let version : 1 ≡ version_in file = ap version_number (sym c.requires.plain) ∙ c.args.self.header_is.version-is in
    let s = c.set_by_bytes.ensures ∙ c.set_bytes.ensures.number ∙ ap (λ v. set_from v file at.i) version in
    let q : 1 ≡ quantity_in file at.i = rw (sym version) refl in
    record {
      sets = filled_more (set_in file) at.sets at.i set (omega arith) at.invariant.sets s;
      read = rw (c.with-gathered.ensures.union, c.with-gathered.ensures.zeros, c.with-gathered.ensures.total)
          (read_next file at.i at.gathered.union at.gathered.zeros at.gathered.total set 1 (omega arith) (omega arith) s q at.invariant.read);
    }

pub returns-clause-good : goal.returns-clause-good
returns-clause-good c =
    let self = c.args.self in
    all_read self.bytes.now c.loop-i.i _ _ _ self.header_is.rack-is (omega arith) c.loop-i.invariant.read c.is_good.ensures

pub returns-clause-sets : goal.returns-clause-sets
unfolding sets_in
returns-clause-sets c = all_filled (set_in c.args.self.bytes.now) _ c.loop-i.i (omega arith) (omega arith) c.loop-i.invariant.sets
