-- What a call tells of its refusal.
use Rattle.std.specs.Prelude.{ℕ}

-- its number in the rule book, 0 for none, and the place told with it
pub record Refusal : Type 0 where
  pub number : ℕ
  pub place : ℕ
