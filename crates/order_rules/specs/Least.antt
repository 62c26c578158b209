-- The best order by a preference, position by position, without a search. The least order is the best where the lower number is preferred.
use Rattle.std.specs.Prelude.{ℕ, zero, suc, ◌+◌, ◌-◌, min, Bool, true, not, cond, ◌&&◌, List, [], ◌∷◌, ltb, leb, eqb, get_or}
use Rattle.std.proofs.Math.Option.{Option, none, some}
use Rattle.model.specs.Count.{every, list_of, lowest_at}
use Rattle.order_rules.specs.Number.{number, lowest, without}
use Rattle.order_rules.specs.Order.{Task}
use Rattle.order_rules.specs.Prefer.{Choice}

-- how many parts left have to stand at position v or earlier
unfoldable pub due : Task → (ℕ → Bool) → ℕ → ℕ
due t left v = number (λ i. left i && leb (t.last i) v) t.size

-- the least d such that the positions p to p + d are all taken by the parts left that are due there
unfoldable pub tight : Task → ℕ → (ℕ → Bool) → ℕ
tight t p left = lowest (λ d. eqb (due t left (p + d)) (suc d)) (t.size - p)

-- no other part left is to be placed earlier than x
unfoldable pub is_free_part : Task → (ℕ → Bool) → ℕ → Bool
is_free_part t left x = every (λ y. not (without x left y && t.before y x)) t.size

-- part x can stand at position p, and has to stand at v or earlier
unfoldable pub fits : Task → ℕ → (ℕ → Bool) → ℕ → ℕ → Bool
fits t p left v x = left x && leb (t.first x) p && leb p (t.last x) && leb (t.last x) v && is_free_part t left x

-- the part for position p: in state s, the one chosen of those that fit; the size where none does
unfoldable pub pick_by : {S : Type 0} → Choice S → Task → ℕ → S → (ℕ → Bool) → ℕ
pick_by choose t p s left =
    let v = p + tight t p left in
    choose s (fits t p left v) t.size

-- part x in front of an order, if there is one
unfoldable pub prepend : ℕ → Option (List ℕ) → Option (List ℕ)
prepend x none = none
prepend x (some order) = some (x ∷ order)

-- the pick for position p, then for those after it, k of them; none where a position has no pick. Part x leaves the state after x
unfoldable pub greedy_by : {S : Type 0} → Choice S → (ℕ → S) → Task → ℕ → ℕ → S → (ℕ → Bool) → Option (List ℕ)
greedy_by choose after t zero p s left = some []
greedy_by choose after t (suc k) p s left =
    let x = pick_by choose t p s left in
    cond (ltb x t.size) (prepend x (greedy_by choose after t k (suc p) (after x) (without x left))) none

-- the part left whose last position is least
unfoldable pub earliest : Task → (ℕ → Bool) → List ℕ → ℕ
earliest t left lasts = lowest_at (λ i. cond (left i) (t.size - get_or lasts i 0) 0) t.size

-- the last positions, where each part to be placed earlier than b has to stand no later than b
unfoldable pub relax : Task → ℕ → List ℕ → List ℕ
relax t b lasts = list_of (λ a. cond (t.before a b) (min (get_or lasts a 0) (get_or lasts b 0)) (get_or lasts a 0)) t.size

-- and so for k parts left, by rising last position
unfoldable pub settle : Task → ℕ → (ℕ → Bool) → List ℕ → List ℕ
settle t zero left lasts = lasts
settle t (suc k) left lasts =
    let b = earliest t left lasts in
    settle t k (without b left) (relax t b lasts)

-- the last positions, such that no part's is after that of one that it is to precede
unfoldable pub lasts_of : Task → List ℕ
lasts_of t = settle t t.size (λ _. true) (list_of t.last t.size)

-- the task with other last positions
abbrev pub ending : Task → List ℕ → Task
ending t lasts = record { size = t.size; first = t.first; last = λ i. get_or lasts i 0; before = t.before }

-- the best order that obeys, from state s on; none where none obeys
unfoldable pub best_order : {S : Type 0} → Choice S → (ℕ → S) → S → Task → Option (List ℕ)
best_order choose after s t =
    let lasts = lasts_of t in
    greedy_by choose after (ending t lasts) t.size 0 s (λ _. true)

-- by number alone, whatever the part before: there is one state
abbrev pub choose_lowest : Choice (Unit {0})
choose_lowest s = lowest

abbrev pub no_state : ℕ → Unit {0}
no_state x = tt

-- the lexicographically least order that obeys; none where none obeys
unfoldable pub least_order : Task → Option (List ℕ)
least_order t = best_order choose_lowest no_state tt t
