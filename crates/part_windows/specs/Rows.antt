-- The starred windows of RULES 9, as one list of rows: parts, rules and two buffers, and all that is to come back.
use Rattle.std.specs.Prelude.{ℕ, ◌≡◌, List, [], ◌∷◌, length, replicate}
use Rattle.refusal.specs.Told.{Refusal}
use Rattle.order_rules.specs.declared.Part.{Part}
use Rattle.order_rules.specs.declared.Rule.{Rule}
use Rattle.order_rules.specs.Call.{order_refusal}
use Rattle.order_rules.specs.Rows.{plain, fine, tall, rule, junk}
use Rattle.part_windows.specs.Call.{room, first_after, last_after}

-- what comes back: number, place, and both buffers
pub record Result : Type 0 where
  pub refusal : Refusal
  pub first : List ℕ
  pub last : List ℕ

pub record Row : Type 0 where
  pub parts : List Part
  pub rules : List Rule
  pub first : List ℕ
  pub last : List ℕ
  pub result : Result

unfoldable pub run : Row → Result
run row = record {
  refusal = order_refusal row.parts row.rules (room row.first row.last);
  first = first_after row.parts row.rules row.first row.last;
  last = last_after row.parts row.rules row.first row.last;
}

-- the definitions give the row's result
abbrev pub Gives : Row → Type 0
Gives row = run row ≡ row.result

-- the positions, in buffers of the same lengths
abbrev bounds : List Part → List Rule → List ℕ → List ℕ → Row
bounds parts rules first last =
    let r : Refusal = record { number = 0; place = 0 } in
    record {
      parts = parts;
      rules = rules;
      first = junk (length first);
      last = junk (length last);
      result = record { refusal = r; first = first; last = last };
    }

-- a refusal, which leaves buffers of a and b bytes as they were
abbrev refused : List Part → List Rule → ℕ → ℕ → ℕ → ℕ → Row
refused parts rules a b number place =
    let r : Refusal = record { number = number; place = place } in
    record { parts = parts; rules = rules; first = junk a; last = junk b; result = record { refusal = r; first = junk a; last = junk b } }

-- no part: nothing is written
abbrev pub B130 : Row
B130 = bounds [] [] (9 ∷ []) []

-- one rule; the bytes past the positions stay
abbrev pub B131 : Row
B131 = bounds (plain 0 2 ∷ plain 0 2 ∷ plain 0 2 ∷ []) (rule 0 1 ∷ []) (0 ∷ 1 ∷ 0 ∷ 9 ∷ []) (1 ∷ 2 ∷ 2 ∷ 9 ∷ 9 ∷ [])

-- two parts take positions 1 and 2, so that part 3 is last
abbrev pub B132 : Row
B132 = bounds (plain 0 3 ∷ plain 1 2 ∷ plain 1 2 ∷ plain 1 3 ∷ []) [] (0 ∷ 1 ∷ 1 ∷ 3 ∷ []) (0 ∷ 2 ∷ 2 ∷ 3 ∷ [])

-- here it may also be first, and so may part 0; neither is ever at 1 or 2
abbrev pub B132_between : Row
B132_between = bounds (plain 0 3 ∷ plain 1 2 ∷ plain 1 2 ∷ plain 0 3 ∷ []) [] (0 ∷ 1 ∷ 1 ∷ 0 ∷ []) (3 ∷ 2 ∷ 2 ∷ 3 ∷ [])

-- two parts before a third, which is thus not at position 1
abbrev pub B133 : Row
B133 =
    bounds (plain 0 3 ∷ plain 0 3 ∷ plain 0 3 ∷ plain 0 3 ∷ []) (rule 0 2 ∷ rule 1 2 ∷ []) (0 ∷ 0 ∷ 2 ∷ 0 ∷ []) (2 ∷ 2 ∷ 3 ∷ 3 ∷ [])

-- fine first, tall last, a rule between: each part has one position
abbrev pub B134 : Row
B134 = bounds (tall 0 3 ∷ plain 0 3 ∷ fine 0 3 ∷ plain 0 3 ∷ []) (rule 3 1 ∷ []) (3 ∷ 2 ∷ 0 ∷ 1 ∷ []) (3 ∷ 2 ∷ 0 ∷ 1 ∷ [])

-- no order: rules in a circle
abbrev pub B135 : Row
B135 = refused (plain 0 2 ∷ plain 0 2 ∷ plain 0 2 ∷ []) (rule 0 1 ∷ rule 1 2 ∷ rule 2 0 ∷ []) 3 3 29 0

-- either buffer short, before rules in a circle
abbrev pub B136_first : Row
B136_first = refused (plain 0 1 ∷ plain 0 1 ∷ []) (rule 0 1 ∷ rule 1 0 ∷ []) 1 2 14 0

abbrev pub B136_last : Row
B136_last = refused (plain 0 1 ∷ plain 0 1 ∷ []) (rule 0 1 ∷ rule 1 0 ∷ []) 2 1 14 0

-- a bad rule, and a bad position before it
abbrev pub B137_rule : Row
B137_rule = refused (plain 0 1 ∷ plain 0 1 ∷ []) (rule 0 1 ∷ rule 1 1 ∷ []) 0 0 13 1

abbrev pub B137_window : Row
B137_window = refused (plain 0 1 ∷ plain 0 2 ∷ []) (rule 1 1 ∷ []) 0 0 12 1

-- over 128 parts
abbrev pub B138 : Row
B138 = refused (replicate 129 (plain 0 0)) [] 0 0 12 0

abbrev pub rows : List Row
rows = B130 ∷ B131 ∷ B132 ∷ B132_between ∷ B133 ∷ B134 ∷ B135 ∷ B136_first ∷ B136_last ∷ B137_rule ∷ B137_window ∷ B138 ∷ []
