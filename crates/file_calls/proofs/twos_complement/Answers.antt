use mathlib.Core.Path.{ap, ◌∙◌}
use mir.Syntax.{w32, w64}
use mir.Val.{of_z}
use mir.ValLaws.{to_z-of_z}
use Rattle.file_calls.proofs.Signed.{bits_of}
use Rattle.file_calls.proofs.twos_complement.Goals as goal

pub returns : goal.returns
returns c =
    c.cast_unsigned.ensures
    ∙ ap (of_z w64) (to_z-of_z w64 c.from.result (record { sfits = c.from.type_inv }))
    ∙ ap (of_z w64) (c.from.ensures ∙ to_z-of_z w32 c.args.x c.ranges.x)
    ∙ bits_of c.args.x
