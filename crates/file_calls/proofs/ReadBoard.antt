-- The numbers of an accepted read are those of a sound board.
use Prim.Native.Nat.{ℕ}
use mathlib.Core.Path.{◌≡◌, refl}
use mathlib.Core.List.{List}
use native.Mathlib.Omega.{arith}
use lib.Dec.{T}
use lib.ListN.{length, drop, drop_of_length-le}
use lib.Seq.{take_all}
use Rattle.model.specs.Count.{each}
use Rattle.model.specs.Plan.{is_empty}
use Rattle.refusal.proofs.Laws.{accepted}
use Rattle.sound.specs.Sound.{sound_board}
use Rattle.sound.proofs.Laws.{sound_iff}
use Rattle.job.specs.Job.{rack_in, count_in, sets_in, quantities_in, read_refusal}
use Rattle.job.proofs.Reading.{length-sets_in, length-quantities_in, read_good}
use Rattle.file_calls.specs.Outcomes.{Outcome}
use Rattle.file_calls.specs.Calls.{read_in}
use Rattle.file_calls.specs.Rules.{ReadRuleOf}

module _ (file : List ℕ) where
  -- nothing is behind all
  behind : (xs : List ℕ) (n : ℕ) → length xs ≡ n → T (each is_empty (drop n xs))
  unfolding each
  behind xs n e = rw (drop_of_length-le xs {i = n} (omega (arith, e))) tt

  board-sound : (read_refusal file).number ≡ 0 → T (sound_board (rack_in file) (count_in file) (quantities_in file) (sets_in file))
  board-sound z =
      let good = read_good file z in
      (sound_iff (rack_in file) (count_in file) (quantities_in file) (sets_in file) good.same).1 (record {
        good = rw (
          take_all (count_in file) (sets_in file) (omega (arith, length-sets_in file)),
          take_all (count_in file) (quantities_in file) (omega (arith, length-quantities_in file)),
        ) good;
        count_most = omega (arith, length-sets_in file, good.few-lines);
        rest = behind (sets_in file) (count_in file) (length-sets_in file);
        quantities_rest = behind (quantities_in file) (count_in file) (length-quantities_in file);
      })

  pub read_rule : {o : Outcome} → o ≡ read_in file → ReadRuleOf file o
  unfolding read_in
  read_rule e =
      let r = read_refusal file in
      rw e (record {
        sound = λ z. rw (accepted (rack_in file) 0 {d = r} refl z, accepted (count_in file) 0 {d = r} refl z) (board-sound z);
        count = λ z. rw (accepted (count_in file) 0 {d = r} refl z) (length-sets_in file);
      })
