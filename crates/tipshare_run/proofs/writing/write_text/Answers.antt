use Rattle.std.proofs.KnownBytes.{Appends-kept}
use Rattle.tipshare_run.proofs.Begun.{begun_to, grown, grown_within}
use Rattle.tipshare_run.proofs.writing.write_text.Goals.{in-Ok, in-Err+else-ne}
use Rattle.tipshare_run.proofs.writing.write_text.Goals as goal

pub returns-in-Ok-eq0-clause-part : goal.returns-in-Ok-eq0-clause-part
returns-in-Ok-eq0-clause-part g c =
    begun_to _ _ _ _ (grown _ _ _ c.args.text.now c.loop.done c.in-Ok-eq0.field-0 c.loop.invariant.written c.in-Ok-eq0.ensures.bytes)

pub returns-then-ne-clause-part : goal.returns-then-ne-clause-part
returns-then-ne-clause-part g c = begun_to _ _ _ c.loop.done (Appends-kept _ _ _ _ c.loop.invariant.written c.in-Err.ensures.bytes)

pub loop-preserved : goal.loop-preserved
loop-preserved g c = elim c.match-write.branch [
  | in-Ok w ↦ rw w.done-is (record {
    within = grown_within c.args.text.now c.loop.done w.in-Ok.count c.loop.invariant.within w.in-Ok.ensures.bound;
    written = grown _ _ _ c.args.text.now c.loop.done w.in-Ok.count c.loop.invariant.written w.in-Ok.ensures.bytes;
  })
  | in-Err+else-ne w ↦ rw w.done-is (record {
    within = c.loop.invariant.within;
    written = Appends-kept _ _ _ _ c.loop.invariant.written w.in-Err.ensures.bytes;
  })
]

pub returns-clause-part : goal.returns-clause-part
returns-clause-part g c = begun_to _ _ _ c.loop.done c.loop.invariant.written
