use Rattle.std.proofs.Common.{refl, length, drop, replicate}
use lib.Seq.{take_at}
use Rattle.junior.proofs.Passed.{padded_with}
use Rattle.junior.proofs.pad_sets.Goals as goal

pub returns : goal.returns
returns c =
    let sets = c.args.sets.now in
    rw c.narrow_sets.ensures (record {
      front = take_at sets (drop (length sets) (replicate 64 255)) (length sets) refl;
      padded = padded_with sets c.requires.short;
    })
