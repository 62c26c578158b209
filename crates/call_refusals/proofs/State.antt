-- What is known of a board whose state does not refuse the call.
use Prim.Native.Nat.{ℕ}
use mathlib.Core.Path.{◌≡◌, refl, sym, ◌∙◌}
use mathlib.Core.List.{List}
use native.Mathlib.Omega.{arith}
use lib.Dec.{T}
use lib.ListN.{length}
use Rattle.model.specs.Limits.{most_lines}
use Rattle.refusal.specs.Told.{Refusal}
use Rattle.refusal.specs.Refusal.{none, or_else, Given}
use Rattle.refusal.proofs.Laws.{number_of, or_none}
use Rattle.sound.specs.Sound.{sound_board, sound_refusal}
use Rattle.sound.proofs.Laws.{Sound, sound_none, sound_holds}
use Rattle.call_refusals.specs.declared.Stage.{Stage}
use Rattle.call_refusals.specs.declared.Stage.TheVariants.{Open, Closed}
use Rattle.call_refusals.specs.State.{stage_refusal, state_refusal}

stage_none : (asked held : Stage) → (stage_refusal asked held).number ≡ 0 → held ≡ asked
unfolding stage_refusal
stage_none Open Open e = refl
stage_none Open Closed e = absurd (omega (arith, e))
stage_none Closed Open e = absurd (omega (arith, e))
stage_none Closed Closed e = refl

-- it is sound, and of the stage that the call asks for
pub record Ready (asked : Stage) (m : ℕ) (stage : Stage) (n : ℕ) (qs sets : List ℕ) : Type 0 where
  pub sound : Sound m n qs sets
  pub stage_is : stage ≡ asked

module _ (asked : Stage) (m : ℕ) (stage : Stage) (n : ℕ) (qs sets : List ℕ) where
  module _ {d : Refusal} (e : d ≡ state_refusal asked m stage n qs sets) where
    pub state_ready : length qs ≡ length sets → d.number ≡ 0 → Ready asked m stage n qs sets
    unfolding state_refusal
    state_ready same z =
        let (s, t) = or_none (sound_refusal m n qs sets) (stage_refusal asked stage) (number_of e z) in
        record { sound = sound_none m n qs sets same s; stage_is = stage_none asked stage t }

    -- so its lines are given to a call
    pub state-given : length qs ≡ most_lines → length sets ≡ most_lines → Given d m n qs sets
    state-given all full =
        let ready = state_ready (all ∙ sym full) in
        record {
          room = λ z. omega (arith, full, (ready z).sound.count_most);
          quantity_room = λ z. omega (arith, all, (ready z).sound.count_most);
          good = λ z. (ready z).sound.good;
        }

  -- and where it is so, the state does not refuse
  pub state_holds : length qs ≡ length sets → T (sound_board m n qs sets) → stage ≡ asked → state_refusal asked m stage n qs sets ≡ none
  unfolding state_refusal or_else stage_refusal
  state_holds same s e = rw (sound_holds m n qs sets same s, e) (own asked)
    where
      own : (g : Stage) → stage_refusal g g ≡ none
      own Open = refl
      own Closed = refl
