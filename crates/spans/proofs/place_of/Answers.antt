use Rattle.std.proofs.Common.{arith}
use Rattle.spans.proofs.Fill.{known}
use Rattle.spans.proofs.place_of.Goals as goal

pub overflow_add-result : goal.overflow_add-result
overflow_add-result c = record { fits = omega (arith, known c.requires.narrow c.requires.domain) }

pub overflow_add-result-3 : goal.overflow_add-result-3
overflow_add-result-3 c = record { fits = omega (arith, known c.requires.narrow c.requires.domain) }
