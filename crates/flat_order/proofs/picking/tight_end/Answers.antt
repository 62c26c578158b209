use Rattle.std.proofs.Common.{ℕ, refl, Option, Some, None, IsSome, IfNone}
use Rattle.flat_order.proofs.picking.tight_end.Goals as goal

some-of : {P : Type 0} (o : Option ℕ) → IfNone o P → (P → ⊥) → IsSome o
some-of (Some v) h f = refl
some-of None h f = absurd (f h)

pub unwrap-requires : goal.unwrap-requires
unwrap-requires c = some-of c.full_end.result c.full_end.ensures.none c.requires.some

pub returns : goal.returns
returns c = (rw c.unwrap.ensures at c.full_end.ensures.some).1
