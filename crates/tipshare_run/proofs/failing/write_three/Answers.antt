use Rattle.std.specs.Prelude.{◌++◌}
use Rattle.std.proofs.KnownBytes.{Appends-trans}
use Rattle.tipshare_run.proofs.Begun.{begun_first, begun_second}
use Rattle.tipshare_run.proofs.failing.write_three.Goals as goal

pub returns-in_err-write_text-2 : goal.returns-in_err-write_text-2
returns-in_err-write_text-2 g c =
    begun_first _ _ (c.args.first.now ++ c.args.second.now) c.args.third.now
    (begun_second _ _ _ c.args.first.now c.args.second.now c.in_ok-write_text.ensures.whole c.in_err-write_text-2.ensures.part)

pub returns : goal.returns
returns g c =
    begun_second _ _ _ (c.args.first.now ++ c.args.second.now) c.args.third.now
    (Appends-trans _ _ _ c.args.first.now c.args.second.now c.in_ok-write_text.ensures.whole c.in_ok-write_text-2.ensures.whole)
    c.write_text-3.ensures.part
