-- The Junior's answer for a board, from that for its lines.
use Prim.Native.Nat.{ℕ}
use mathlib.Core.Path.{◌≡◌, refl}
use mathlib.Core.List.{List}
use lib.ListN.{length}
use Rattle.std.specs.Prelude.{Result, Ok, Err}
use Rattle.junior.specs.declared.Found.{Found}
use Rattle.refusal.specs.Told.{Refusal}
use Rattle.refusal.specs.declared.Refused.{Refused}
use Rattle.refusal.specs.Reasons.{refusal_of}
use Rattle.call_refusals.specs.declared.Stage.TheVariants.{Closed}
use Rattle.call_refusals.specs.Junior as Asked
use Rattle.line_calls.specs.Answers.{junior_told}
use Rattle.line_calls.specs.Junior as Lines
use Rattle.board.specs.declared.Board.{Board}
use Rattle.board.specs.Board.{lines_of, quantities_of, state_refusal}
use Rattle.board.specs.Junior.{junior_of, junior_buffer, JuniorRule}
use Rattle.board.specs.Told.{junior_answered}

-- the refusal is that of the result
same_refusal : (r : Result Found Refused) → refusal_of r ≡ (junior_told r).refusal
same_refusal (Ok x) = refl
same_refusal (Err e) = refl

module _ (b : Board) {d : Refusal} (e : d ≡ state_refusal Closed b) where
  pub junior_answer : (old : List ℕ) (r : Result Found Refused) {plan : List ℕ}
      → junior_told r ≡ Lines.junior_of d b.rack (quantities_of b) (lines_of b) (length old)
      → plan ≡ Lines.junior_buffer d b.rack (quantities_of b) (lines_of b) old
      → Lines.JuniorRule (Asked.junior_refusal d b.rack (length (lines_of b)) (length old)).number (quantities_of b) (lines_of b) plan
      (refusal_of r).number (junior_told r).pairs (junior_told r).u (junior_told r).v
      → (junior_answered b r ≡ junior_of b (length old))
      × ((plan ≡ junior_buffer b old) × JuniorRule b (length old) plan (junior_answered b r))
  unfolding junior_of junior_buffer
  junior_answer old r p q rule = (rw (p, e) refl, (rw (q, e) refl, rw (e, same_refusal r) at rule))
