-- What a call on a board gives, in the documents' words: the board, a refusal's number or 0, its place or 0, and counts, 0 where it refuses.
use Rattle.std.specs.Prelude.{ℕ, ℤ}
use Rattle.board.specs.declared.Board.{Board}

-- besides counts
pub record Answer : Type 0 where
  pub board : Board
  pub number : ℕ
  pub place : ℕ

-- the most placements that allow one tip, the least number of placements off the common tip, and the set W of the tips that reach top
pub record Common : Type 0 where
  pub board : Board
  pub number : ℕ
  pub place : ℕ
  pub top : ℕ
  pub off : ℕ
  pub tips : ℕ

-- the margin is top - n + k, of n placements
pub record Kept : Type 0 where
  pub board : Board
  pub number : ℕ
  pub place : ℕ
  pub margin : ℤ

-- the number of pairs of placements on one tip in the plan that is handed out
pub record Shared : Type 0 where
  pub board : Board
  pub number : ℕ
  pub place : ℕ
  pub pairs : ℕ

-- the number of pairs of placements on one tip in the Junior's plan, and the tips u and v that it is on
pub record Junior : Type 0 where
  pub board : Board
  pub number : ℕ
  pub place : ℕ
  pub pairs : ℕ
  pub u : ℕ
  pub v : ℕ

-- the tip changes of the plan that is handed out, the lines placed in the order of the list, and the number of pairs of placements on one tip in it
pub record Along : Type 0 where
  pub board : Board
  pub number : ℕ
  pub place : ℕ
  pub changes : ℕ
  pub pairs : ℕ

-- the number of pairs of placements on one tip in the plan that is handed out, and how many different tips it uses
pub record Exact : Type 0 where
  pub board : Board
  pub number : ℕ
  pub place : ℕ
  pub pairs : ℕ
  pub tips : ℕ

-- the bytes of the job file that is written
pub record Written : Type 0 where
  pub board : Board
  pub number : ℕ
  pub place : ℕ
  pub bytes : ℕ

-- both boards as they were, and the panel that has the lines of the first and then those of the second
pub record Merged : Type 0 where
  pub first : Board
  pub second : Board
  pub panel : Board
  pub number : ℕ
  pub place : ℕ

-- both boards as they were, and the number of pairs of placements on one tip in the plan of each
pub record Alone : Type 0 where
  pub first : Board
  pub second : Board
  pub number : ℕ
  pub place : ℕ
  pub first_pairs : ℕ
  pub second_pairs : ℕ
