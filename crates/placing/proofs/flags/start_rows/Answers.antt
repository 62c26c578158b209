use Rattle.std.proofs.Common.{refl, sym, ◌∙◌, arith}
use lib.ListN.{length-set}
use Rattle.placing.proofs.Flagged.{rowed_none, rowed_more}
use Rattle.placing.proofs.flags.start_rows.Goals as goal

pub loop-b-init : goal.loop-b-init
loop-b-init c = record { size = refl; rowed = λ parts e k. rowed_none parts c.args.rows.now (sym e) }

pub loop-b-preserved : goal.loop-b-preserved
loop-b-preserved c =
    let l = c.loop-b in
    let i = l.invariant in
    record {
      size = length-set l.rows l.b _ ∙ i.size;
      rowed = λ parts e k. rw c.row_of.ensures
          (rowed_more parts l.b l.rows c.args.kinds (omega (arith, e, i.size)) (i.rowed parts e k) k);
    }

pub returns-clause-rows : goal.returns-clause-rows
returns-clause-rows c =
    λ parts e k.
    let l = c.loop-b in
    let r = l.invariant.rowed parts e k in
    record { size = r.size; flags = λ a b m h. r.flags a b m (omega (arith, e, l.invariant.size)) }
