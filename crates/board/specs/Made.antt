-- Boards made by hand, of given sets and quantities.
-- For proofs and leaf contracts: no call's contract speaks of these.
use Rattle.std.specs.Prelude.{ℕ, ◌-◌, List, ◌++◌, length, replicate}
use Rattle.model.specs.Limits.{most_lines}
use Rattle.call_refusals.specs.declared.Stage.{Stage}
use Rattle.call_refusals.specs.declared.Stage.TheVariants.{Closed}
use Rattle.board.specs.declared.Board.{Board}

-- a board's array: the given numbers, then 0 in the other places
abbrev pub filled : List ℕ → List ℕ
filled given = given ++ replicate (most_lines - length given) 0

-- a record made by hand, sound or not: the first of its quantities and of its sets are given
abbrev pub record_of : ℕ → Stage → ℕ → List ℕ → List ℕ → Board
record_of m stage n qs sets = record { rack = m; stage = stage; count = n; sets = filled sets; quantities = filled qs }

-- each of the given sets with quantity 1
abbrev pub made_board : ℕ → Stage → ℕ → List ℕ → Board
made_board m stage n sets = record_of m stage n (replicate (length sets) 1) sets

-- a closed board of the rack and the lines, of quantity 1 or of the quantities given
abbrev pub closed_board : ℕ → List ℕ → Board
closed_board m lines = made_board m Closed (length lines) lines

abbrev pub counted_board : ℕ → List ℕ → List ℕ → Board
counted_board m qs lines = record_of m Closed (length lines) qs lines
