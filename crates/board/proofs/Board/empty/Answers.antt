use mathlib.Core.Path.{refl}
use Rattle.board.specs.Board.{no_sets, no_quantities}
use Rattle.board.proofs.Board.empty.Goals as goal

pub returns : goal.returns
unfolding no_sets no_quantities
returns c = refl
