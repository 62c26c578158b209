-- What a caller in C is told of a call on parts and rules as plain numbers.
use Prim.Native.Nat.{ℕ, ◌/◌}
use mathlib.Core.Path.{◌≡◌, refl}
use mathlib.Core.List.{List}
use lib.ListN.{length}
use borrow.Author.Tests.{ne_eqb}
use Rattle.refusal.specs.Refusal.{none}
use Rattle.refusal.specs.declared.Refused.{Refused}
use Rattle.refusal.specs.Reasons.{reason_number, told_of}
use Rattle.refusal.proofs.Laws.{reason_not_0}
use Rattle.number_calls.specs.Numbers.{order_in}
use Rattle.file_calls.specs.Outcomes.{Outcome, refused_outcome}
use Rattle.tipshare_c.specs.Order.{order_outcome, ordered_in}

module _ (parts rules : List ℕ) (room : ℕ) where
  -- a refusal tells no parts
  pub ordered_refused : (e : Refused) → told_of e ≡ order_in parts rules room → refused_outcome e 0 ≡ ordered_in parts rules room
  unfolding ordered_in order_outcome
  ordered_refused e h = rw (← h, ne_eqb (reason_number e.reason) 0 (reason_not_0 e.reason)) refl

  -- and no refusal all
  pub ordered_accepted : none ≡ order_in parts rules room
      → ◌≡◌ {A = Outcome} (record { refusal = none; first = length parts / 4; second = 0; third = 0 }) (ordered_in parts rules room)
  unfolding ordered_in order_outcome
  ordered_accepted h = rw (← h) refl
