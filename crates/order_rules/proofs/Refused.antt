-- The answer of the call in each of its cases.
use Prim.Native.Nat.{ℕ, ◌≤◌, ◌<◌}
use native.Mathlib.Omega.{arith}
use mathlib.Core.Path.{◌≡◌, refl, ap, sym, ◌∙◌}
use mathlib.Core.Logic.{⊎_elim}
use mathlib.Core.List.{List, ◌++◌}
use mathlib.Core.Option.{none, some}
use lib.Dec.{ltb}
use lib.ListN.{length, drop}
use borrow.Author.Tests.{lt-ltb, le-ltb}
use Rattle.model.specs.Count.{first_fail}
use Rattle.model.proofs.Tests.{le_or_lt}
use Rattle.refusal.specs.Told.{Refusal}
use Rattle.refusal.specs.Refusal as R
use Rattle.refusal.proofs.Laws.{or_first, or_next, lent_refused, lent_accepted}
use Rattle.order_rules.specs.declared.Part.{Part}
use Rattle.order_rules.specs.declared.Rule.{Rule}
use Rattle.order_rules.specs.Parts.{rule_ok, placing_order}
use Rattle.order_rules.specs.Call.{first_bad, ordered, given_refusal, order_refusal, order_after}

module _ (parts : List Part) (rules : List Rule) where
  abbrev n : ℕ
  n = length parts

  -- the first bad window, and the first bad rule
  abbrev w : ℕ
  w = first_bad parts

  abbrev q : ℕ
  q = first_fail (rule_ok n) rules

  module _ (room : ℕ) where
    -- 12 for over 128 parts, told before the windows are looked at
    pub over_told : {r : Refusal} → r ≡ R.when (ltb 128 n) 12 → (r.number ≡ 0 → ⊥) → r ≡ given_refusal parts rules room
    unfolding given_refusal
    over_told e z = or_first (or_first e _ z) _ z

    pub over : 128 < n → R.refuse 12 ≡ given_refusal parts rules room
    over h = over_told (rw (lt-ltb 128 n h)) (λ z. omega (arith, z))

    module _ (few : n ≤ 128) where
      pub bad_window : w < n → record { number = 12; place = w } ≡ given_refusal parts rules room
      unfolding given_refusal R.or_else R.scan
      bad_window h = rw (le-ltb 128 n few, lt-ltb w n h)

      module _ (windows : n ≤ w) where
        pub bad_rule : q < length rules → record { number = 13; place = q } ≡ given_refusal parts rules room
        unfolding given_refusal R.or_else R.scan
        bad_rule h = rw (le-ltb 128 n few, le-ltb w n windows, lt-ltb q (length rules) h)

        module _ (good : length rules ≤ q) where
          pub short : room < n → R.refuse 14 ≡ given_refusal parts rules room
          unfolding given_refusal R.or_else R.scan
          short h = rw (le-ltb 128 n few, le-ltb w n windows, le-ltb q (length rules) good, lt-ltb room n h)

          pub all_given : n ≤ room → R.none ≡ given_refusal parts rules room
          unfolding given_refusal R.or_else R.scan
          all_given h = rw (le-ltb 128 n few, le-ltb w n windows, le-ltb q (length rules) good, le-ltb room n h)

    -- what is refused before a search is refused
    pub given_refused : {r : Refusal} → r ≡ given_refusal parts rules room → (r.number ≡ 0 → ⊥) → r ≡ order_refusal parts rules room
    unfolding order_refusal
    given_refused e n = or_first e _ n

    module _ (passed : R.none ≡ given_refusal parts rules room) where
      pub no_order : none ≡ placing_order parts rules → R.refuse 29 ≡ order_refusal parts rules room
      unfolding order_refusal
      no_order h = or_next passed _ refl (rw (← h))

      pub one_order : (order : List ℕ) → some order ≡ placing_order parts rules → R.none ≡ order_refusal parts rules room
      unfolding order_refusal
      one_order order h = or_next passed _ refl (rw (← h))

  module _ (buffer : List ℕ) where
    -- after a refusal the buffer is as it was
    pub refused_buffer : {r : Refusal} → r ≡ order_refusal parts rules (length buffer) → (r.number ≡ 0 → ⊥)
        → buffer ≡ order_after parts rules buffer
    unfolding order_after
    refused_buffer e z = lent_refused e n (ordered (placing_order parts rules)) buffer z

    pub accepted_buffer : (order : List ℕ) → (order_refusal parts rules (length buffer)).number ≡ 0 → some order ≡ placing_order parts rules
        → order ++ drop n buffer ≡ order_after parts rules buffer
    unfolding order_after
    accepted_buffer order z h =
        lent_accepted {d = order_refusal parts rules (length buffer)} refl n (ordered (placing_order parts rules)) buffer z (ap ordered h)

-- over 128 parts the answer is the same whatever they are
module _ (a b : List Part) (size : length a ≡ length b) (same : length a ≤ 128 → a ≡ b) (rules : List Rule) where
  -- 12 for over 128 parts
  refused_12 : (parts : List Part) (room : ℕ) → 128 < length parts → R.refuse 12 ≡ order_refusal parts rules room
  refused_12 parts room l = given_refused parts rules room (over parts rules room l) (λ z. omega (arith, z))

  pub refusal_same : (room : ℕ) → order_refusal a rules room ≡ order_refusal b rules room
  refusal_same room =
      ⊎_elim
      (λ few. ap (λ parts. order_refusal parts rules room) (same few))
      (λ l. sym (refused_12 a room l) ∙ refused_12 b room (omega (arith, size)))
      (le_or_lt (length a) 128)

  pub buffer_same : (buffer : List ℕ) → order_after a rules buffer ≡ order_after b rules buffer
  buffer_same buffer =
      ⊎_elim
      (λ few. ap (λ parts. order_after parts rules buffer) (same few))
      (λ l. sym (refused_buffer a rules buffer (refused_12 a (length buffer) l) (λ z. omega (arith, z)))
      ∙ refused_buffer b rules buffer (refused_12 b (length buffer) (omega (arith, size))) (λ z. omega (arith, z)))
      (le_or_lt (length a) 128)
