-- OPEN AND READ AS IN THE BASE: the board without lines, and the board of a file without quantities, as those of version 1 are.
use Prim.Native.Nat.{ℕ}
use mathlib.Core.Path.{◌≡◌, refl, ap, ◌∙◌}
use mathlib.Core.Bool.{false}
use mathlib.Core.List.{List}
use lib.ListN.{replicate}
use Rattle.model.specs.Plan.{rack_ok}
use Rattle.model.proofs.Lists.{all_same}
use Rattle.job.specs.Job.{counted, version_in, count_in, quantities_in}
use Rattle.job.proofs.Reading.{length-quantities_in, plain_quantities}
use Rattle.board.specs.Board.{no_sets, no_quantities, open_of}
use Rattle.board.specs.JobFile.{read_of}
use Rattle.board_laws.specs.Before.{nothing, opened_before, board_read}
use Rattle.board_laws.proofs.Format.{found_is}
use Rattle.board_laws.proofs.FilesBefore.{read_is, sets_are}

no_sets_are : no_sets ≡ nothing
unfolding no_sets nothing
no_sets_are = refl

no_quantities_are : no_quantities ≡ nothing
unfolding no_quantities nothing
no_quantities_are = refl

pub open_as_in_base : (m : ℕ) → open_of m ≡ opened_before m
unfolding open_of rack_ok opened_before
open_as_in_base m = rw (no_sets_are, no_quantities_are) refl

module _ (file : List ℕ) (plain : counted (version_in file) ≡ false) where
  quantities_are : quantities_in file ≡ replicate (count_in file) 1
  quantities_are = all_same 1 (plain_quantities file plain) ∙ ap (λ n. replicate n 1) (length-quantities_in file)

  pub board_as_in_base : read_of file ≡ board_read file
  unfolding read_of
  board_as_in_base =
      rw (
        read_is file plain,
        sets_are file plain,
        quantities_are,
        no_sets_are,
        no_quantities_are,
        found_is 1 file 5,
        found_is 2 file 6,
      ) refl
