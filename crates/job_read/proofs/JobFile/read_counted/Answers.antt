use Rattle.std.proofs.Common.{◌≡◌, ◌∙◌, sym, ap, refl, arith}
use Rattle.model.specs.Count.{list_of}
use Rattle.model.proofs.ListOf.{filled_more}
use Rattle.job.specs.Job.{version_in, set_in, quantity_in, sets_in, quantities_in, set_from, quantity_from}
use Rattle.job.specs.Header.{version_number}
use Rattle.job.proofs.Good.{read_start, read_next}
use Rattle.job_read.proofs.There.{all_filled, all_read}
use Rattle.job_read.proofs.JobFile.read_counted.Goals as goal

pub loop-i-init : goal.loop-i-init
unfolding list_of
loop-i-init c = record { sets = refl; quantities = refl; read = read_start c.args.self.bytes.now }

pub loop-i-preserved : goal.loop-i-preserved
loop-i-preserved c =
    let file = c.args.self.bytes.now in
    let at = c.loop-i in
    let line = c.line_of-set in
    let set = line.result.0 in
    let quantity = line.result.1 in
    let version : 2 ≡ version_in file = ap version_number (sym c.requires.counted) ∙ c.args.self.header_is.version-is in
    let s = line.ensures.set ∙ ap (λ v. set_from v file at.i) version in
    let q = line.ensures.quantity ∙ ap (λ v. quantity_from v file at.i) version in
    record {
      sets = filled_more (set_in file) at.sets at.i set (omega arith) at.invariant.sets s;
      quantities = filled_more (quantity_in file) at.quantities at.i quantity (omega arith) at.invariant.quantities q;
      read = rw (c.with-gathered.ensures.union, c.with-gathered.ensures.zeros, c.with-gathered.ensures.total)
          (read_next file at.i at.gathered.union at.gathered.zeros at.gathered.total set quantity (omega arith) (omega arith) s q at.invariant.read);
    }

pub returns-clause-good : goal.returns-clause-good
returns-clause-good c =
    let self = c.args.self in
    all_read self.bytes.now c.loop-i.i _ _ _ self.header_is.rack-is (omega arith) c.loop-i.invariant.read c.is_good.ensures

pub returns-clause-sets : goal.returns-clause-sets
unfolding sets_in
returns-clause-sets c = all_filled (set_in c.args.self.bytes.now) _ c.loop-i.i (omega arith) (omega arith) c.loop-i.invariant.sets

pub returns-clause-quantities : goal.returns-clause-quantities
unfolding quantities_in
returns-clause-quantities c =
    all_filled (quantity_in c.args.self.bytes.now) _ c.loop-i.i (omega arith) (omega arith) c.loop-i.invariant.quantities
