-- A refusal: its number in the rule book, 0 for none, and the place told with it. A call's refusals are one ordered decision.
use Rattle.std.specs.Prelude.{ℕ, ◌≤◌, ◌≡◌, Bool, cond, List, ◌++◌, eqb, ltb, length, take, drop}
use Rattle.model.specs.Count.{first_fail}
use Rattle.placements.specs.Good.{GoodLines}
use Rattle.refusal.specs.Told.{Refusal}

-- nothing is refused: number 0 and place 0
abbrev pub none : Refusal
none = record { number = 0; place = 0 }

-- the number, at place 0
abbrev pub refuse : ℕ → Refusal
refuse n = record { number = n; place = 0 }

abbrev pub accepts : Refusal → Bool
accepts r = eqb r.number 0

-- where several refusals apply, the first in the rule book's order
unfoldable pub or_else : Refusal → Refusal → Refusal
or_else first next = cond (accepts first) next first

-- the number in the case that the test says
abbrev pub when : Bool → ℕ → Refusal
when test n = cond test (refuse n) none

-- the number at place i of n places, and none where i is past them
abbrev pub refuse_at : ℕ → ℕ → ℕ → Refusal
refuse_at number i n = cond (ltb i n) (record { number = number; place = i }) none

-- the number at the place of the first element that fails the test; none where each passes
unfoldable pub scan : {A : Type 0} → (A → Bool) → (ℕ → ℕ) → List A → Refusal
scan test number xs = refuse_at (number (first_fail test xs)) (first_fail test xs) (length xs)

-- what a call tells besides its refusal: 0 where it refuses
abbrev pub told : Refusal → ℕ → ℕ
told r x = cond (accepts r) x 0

-- a lent buffer whose first n places are new and the others as they were; after a refusal it is as it was
abbrev pub lent_by : Refusal → ℕ → List ℕ → List ℕ → List ℕ
lent_by r n new old = cond (accepts r) (new ++ drop n old) old

-- where nothing is refused earlier, the lines are the first n of the sets, each with its quantity, and good
pub record Given (earlier : Refusal) (m n : ℕ) (qs sets : List ℕ) : Type 0 where
  pub room : earlier.number ≡ 0 → n ≤ length sets
  pub quantity_room : earlier.number ≡ 0 → n ≤ length qs
  pub good : earlier.number ≡ 0 → GoodLines m (take n qs) (take n sets)
