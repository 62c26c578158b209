-- The refusals because of a board's state, which every call on a board asks first.
use Rattle.std.specs.Prelude.{ℕ, List}
use Rattle.refusal.specs.Told.{Refusal}
use Rattle.refusal.specs.Refusal.{none, refuse, or_else}
use Rattle.sound.specs.Sound.{sound_refusal}
use Rattle.call_refusals.specs.declared.Stage.{Stage}
use Rattle.call_refusals.specs.declared.Stage.TheVariants.{Open, Closed}

-- the stage that the call asks for, and the stage of the board
unfoldable pub stage_refusal : Stage → Stage → Refusal
stage_refusal Open Open = none
stage_refusal Open Closed = refuse 22
stage_refusal Closed Open = refuse 23
stage_refusal Closed Closed = none

-- rack m, count n, quantities and sets are not sound, or the stage is not the one that the call asks for
unfoldable pub state_refusal : Stage → ℕ → Stage → ℕ → List ℕ → List ℕ → Refusal
state_refusal asked m stage n qs sets = or_else (sound_refusal m n qs sets) (stage_refusal asked stage)
