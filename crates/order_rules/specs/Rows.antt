-- The starred placing orders of RULES 9, as one list of rows: parts, rules and an order buffer, and all that is to come back.
use Rattle.std.specs.Prelude.{ℕ, ◌≡◌, true, false, List, [], ◌∷◌, length, replicate}
use Rattle.refusal.specs.Told.{Refusal}
use Rattle.order_rules.specs.declared.Part.{Part}
use Rattle.order_rules.specs.declared.Rule.{Rule}
use Rattle.order_rules.specs.Call.{order_refusal, order_after}

-- what comes back: number, place, and the order buffer
pub record Result : Type 0 where
  pub refusal : Refusal
  pub buffer : List ℕ

pub record Row : Type 0 where
  pub parts : List Part
  pub rules : List Rule
  pub buffer : List ℕ
  pub result : Result

unfoldable pub run : Row → Result
run row =
    record { refusal = order_refusal row.parts row.rules (length row.buffer); buffer = order_after row.parts row.rules row.buffer }

-- the definitions give the row's result
abbrev pub Gives : Row → Type 0
Gives row = run row ≡ row.result

-- a part that may stand from one position to another: plain, fine, tall, or both
abbrev pub plain : ℕ → ℕ → Part
plain a b = record { first = a; last = b; fine = false; tall = false }

abbrev pub fine : ℕ → ℕ → Part
fine a b = record { first = a; last = b; fine = true; tall = false }

abbrev pub tall : ℕ → ℕ → Part
tall a b = record { first = a; last = b; fine = false; tall = true }

abbrev pub both : ℕ → ℕ → Part
both a b = record { first = a; last = b; fine = true; tall = true }

abbrev pub rule : ℕ → ℕ → Rule
rule a b = record { earlier = a; later = b }

-- a buffer that holds junk
abbrev pub junk : ℕ → List ℕ
junk n = replicate n 9

-- the order, in a buffer of the same length
abbrev ordered : List Part → List Rule → List ℕ → Row
ordered parts rules order =
    let r : Refusal = record { number = 0; place = 0 } in
    record { parts = parts; rules = rules; buffer = junk (length order); result = record { refusal = r; buffer = order } }

-- a refusal, which leaves the buffer as it was
abbrev refused : List Part → List Rule → ℕ → ℕ → ℕ → Row
refused parts rules room number place =
    let r : Refusal = record { number = number; place = place } in
    record { parts = parts; rules = rules; buffer = junk room; result = record { refusal = r; buffer = junk room } }

-- no part: nothing is written
abbrev pub B90_junk : Row
B90_junk = ordered [] [] (9 ∷ [])

abbrev pub B90_none : Row
B90_none = ordered [] [] []

-- the byte past the order stays
abbrev pub B91 : Row
B91 = ordered (both 0 0 ∷ []) [] (0 ∷ 9 ∷ [])

-- over 128 parts, before every other refusal
abbrev pub B93 : Row
B93 = refused (replicate 129 (plain 1 0)) (rule 0 0 ∷ []) 0 12 0

-- a window whose first position is after its last; one whose last is no position, the first of two bad ones
abbrev pub B94 : Row
B94 = refused (plain 0 1 ∷ plain 1 0 ∷ []) [] 2 12 1

abbrev pub B95 : Row
B95 = refused (plain 0 3 ∷ plain 0 2 ∷ plain 2 1 ∷ []) (rule 5 5 ∷ []) 0 12 0

-- a rule that names an absent part, and one that names a part twice
abbrev pub B96_later : Row
B96_later = refused (plain 0 1 ∷ plain 0 1 ∷ []) (rule 0 1 ∷ rule 1 2 ∷ []) 0 13 1

abbrev pub B96_earlier : Row
B96_earlier = refused (plain 0 1 ∷ plain 0 1 ∷ []) (rule 0 1 ∷ rule 2 1 ∷ []) 0 13 1

abbrev pub B97 : Row
B97 = refused (plain 0 1 ∷ plain 0 1 ∷ []) (rule 1 1 ∷ rule 0 2 ∷ []) 0 13 0

-- a short buffer, before rules in a circle
abbrev pub B98 : Row
B98 = refused (plain 0 1 ∷ plain 0 1 ∷ []) (rule 0 1 ∷ rule 1 0 ∷ []) 1 14 0

-- no order: rules in a circle, two parts for one position
abbrev pub B99 : Row
B99 = refused (plain 0 2 ∷ plain 0 2 ∷ plain 0 2 ∷ []) (rule 0 1 ∷ rule 1 2 ∷ rule 2 0 ∷ []) 3 29 0

abbrev pub B101 : Row
B101 = refused (plain 1 1 ∷ plain 0 2 ∷ plain 1 1 ∷ []) [] 3 29 0

-- the lowest part at position 0 would leave another part none
abbrev pub B102 : Row
B102 = ordered (plain 0 1 ∷ plain 0 0 ∷ []) [] (1 ∷ 0 ∷ 9 ∷ [])

-- equal windows: the part numbers rise
abbrev pub B103 : Row
B103 = ordered (plain 0 2 ∷ plain 0 2 ∷ plain 0 2 ∷ []) [] (0 ∷ 1 ∷ 2 ∷ [])

-- fine first, tall last, a rule between; the rule given twice
abbrev pub B104 : Row
B104 = ordered (tall 0 3 ∷ plain 0 3 ∷ fine 0 3 ∷ plain 0 3 ∷ []) (rule 3 1 ∷ []) (2 ∷ 3 ∷ 1 ∷ 0 ∷ [])

abbrev pub B104_twice : Row
B104_twice = ordered (tall 0 3 ∷ plain 0 3 ∷ fine 0 3 ∷ plain 0 3 ∷ []) (rule 3 1 ∷ rule 3 1 ∷ []) (2 ∷ 3 ∷ 1 ∷ 0 ∷ [])

-- a tall fine part comes last: beside a plain one, a tall one of lower number, and a fine one that is not tall
abbrev pub B100 : Row
B100 = ordered (both 0 1 ∷ plain 0 1 ∷ []) [] (1 ∷ 0 ∷ [])

abbrev pub B105 : Row
B105 = ordered (tall 0 1 ∷ both 0 1 ∷ []) [] (0 ∷ 1 ∷ [])

abbrev pub B106 : Row
B106 = ordered (both 0 2 ∷ plain 0 2 ∷ fine 0 2 ∷ []) [] (2 ∷ 1 ∷ 0 ∷ [])

abbrev pub rows : List Row
rows =
    B90_junk ∷ B90_none ∷ B91 ∷ B93 ∷ B94 ∷ B95 ∷ B96_later ∷ B96_earlier ∷ B97 ∷ B98 ∷ B99 ∷ B100 ∷ B101 ∷ B102 ∷ B103 ∷ B104
    ∷ B104_twice ∷ B105 ∷ B106 ∷ []
