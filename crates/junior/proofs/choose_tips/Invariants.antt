use Rattle.std.proofs.Common.{◌≡◌, ◌+◌, ◌*◌, length, take, drop}
use Rattle.holder_rules.specs.Holders.{serves}
use Rattle.junior.proofs.Search.{Sought}
use Rattle.junior.proofs.choose_tips.Given as goal

abbrev pub invariant-loop-u : goal.invariant-loop-u
invariant-loop-u l = Sought l.m l.quantities (take (length l.quantities) l.sets) (l.u * l.m) l.best

abbrev pub invariant-tips : goal.invariant-tips
invariant-tips l = Sought l.m l.quantities (take (length l.quantities) l.sets) (l.u * l.m + l.v) l.best

-- the lines before this block have one of the two tips
abbrev pub invariant-loop-i : goal.invariant-loop-i
invariant-loop-i l = serves l.sets l.u l.v ≡ serves (drop (16 * l.i) l.sets) l.u l.v
