-- The cases of a call in the rule book's order, each a reason with a sentence, and the refusal that they tell.
use Rattle.std.specs.Prelude.{ℕ, ◌<◌, ◌≡◌, ◌⊎◌, List, [], ◌∷◌}
use Rattle.refusal.specs.Told.{Refusal}
use Rattle.refusal.specs.Refusal.{none}
use Rattle.refusal.specs.declared.Reason.{Reason}
use Rattle.refusal.specs.Reasons.{reason_number}

-- a case of refusal: its reason, and the sentence that holds of a place
pub record Case : Type 1 where
  pub reason : Reason
  pub holds : ℕ → Type 0

-- a case that names no place: the refusal has place 0
abbrev pub plain : Reason → Type 0 → Case
plain reason P = record { reason = reason; holds = λ i. (i ≡ 0) × P }

-- a case that names a place
abbrev pub placed : Reason → (ℕ → Type 0) → Case
placed reason P = record { reason = reason; holds = P }

-- the case holds of no place
abbrev pub Nowhere : Case → Type 0
Nowhere c = (i : ℕ) → c.holds i → ⊥

-- the refusal of the case: the number of its reason, and the first place of which it holds
pub record First (c : Case) (r : Refusal) : Type 0 where
  pub number_is : r.number ≡ reason_number c.reason
  pub here : c.holds r.place
  pub first : (i : ℕ) → i < r.place → c.holds i → ⊥

-- THE REFUSAL TOLD by cases in order: that of the first case that holds of some place; none where no case does
unfoldable pub Told : List Case → Refusal → Type 0
Told [] r = r ≡ none
Told (c ∷ cs) r = First c r ⊎ (Nowhere c × Told cs r)

-- and so of an answer that has the number and the place
abbrev pub Tells : List Case → ℕ → ℕ → Type 0
Tells cs number place = Told cs (record { number = number; place = place })

-- no case holds of any place
unfoldable pub NoCase : List Case → Type 0
NoCase [] = Unit
NoCase (c ∷ cs) = Nowhere c × NoCase cs
