use Rattle.std.proofs.Common.{◌≡◌, drop}
use mathlib.Core.Bool.{not, ◌||◌}
use Rattle.holder_rules.specs.Holders.{serves}
use Rattle.junior.proofs.misses.Given as goal

abbrev pub invariant-loop-set : goal.invariant-loop-set
invariant-loop-set l = not (serves l.block l.u l.v) ≡ (l.missed || not (serves (drop l.set-index l.block) l.u l.v))
