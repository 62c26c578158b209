-- The starred placing orders by tips of RULES 9, as one list of rows: parts, rules, a plan, a mounted tip and an order buffer, and all that is
-- to come back.
use Rattle.std.specs.Prelude.{ℕ, ◌≡◌, List, [], ◌∷◌, length}
use Rattle.model.specs.Choice.{Mounted, bare, tip}
use Rattle.refusal.specs.Told.{Refusal}
use Rattle.order_rules.specs.declared.Part.{Part}
use Rattle.order_rules.specs.declared.Rule.{Rule}
use Rattle.order_rules.specs.TipCall.{refusal_by_tips, buffer_by_tips, changes_by_tips}
use Rattle.order_rules.specs.Rows.{plain, fine, tall, rule, junk}

-- what comes back: number, place, the order buffer and the changes
pub record Result : Type 0 where
  pub refusal : Refusal
  pub buffer : List ℕ
  pub changes : ℕ

pub record Row : Type 0 where
  pub parts : List Part
  pub rules : List Rule
  pub plan : List ℕ
  pub mounted : Mounted
  pub buffer : List ℕ
  pub result : Result

unfoldable pub run : Row → Result
run row = record {
  refusal = refusal_by_tips row.parts row.rules row.plan row.mounted (length row.buffer);
  buffer = buffer_by_tips row.parts row.rules row.plan row.mounted row.buffer;
  changes = changes_by_tips row.parts row.rules row.plan row.mounted (length row.buffer);
}

-- the definitions give the row's result
abbrev pub Gives : Row → Type 0
Gives row = run row ≡ row.result

-- the order and its changes, in a buffer of the same length
abbrev ordered : List Part → List Rule → List ℕ → Mounted → List ℕ → ℕ → Row
ordered parts rules plan mounted order changes =
    let r : Refusal = record { number = 0; place = 0 } in
    let result : Result = record { refusal = r; buffer = order; changes = changes } in
    record { parts = parts; rules = rules; plan = plan; mounted = mounted; buffer = junk (length order); result = result }

-- a refusal, which leaves the buffer as it was
abbrev refused : List Part → List Rule → List ℕ → Mounted → ℕ → ℕ → ℕ → Row
refused parts rules plan mounted room number place =
    let r : Refusal = record { number = number; place = place } in
    let result : Result = record { refusal = r; buffer = junk room; changes = 0 } in
    record { parts = parts; rules = rules; plan = plan; mounted = mounted; buffer = junk room; result = result }

-- four parts that may stand anywhere, the first and the third on tip 1, the others on tip 2
abbrev four : List Part
four = plain 0 3 ∷ plain 0 3 ∷ plain 0 3 ∷ plain 0 3 ∷ []

abbrev tips : List ℕ
tips = 1 ∷ 2 ∷ 1 ∷ 2 ∷ []

abbrev circle : List Rule
circle = rule 1 2 ∷ rule 2 1 ∷ []

-- no tip is mounted: the lowest part begins, and those on its tip follow; the bytes past the plan and past the order do not count
abbrev pub B140 : Row
B140 = ordered four [] (1 ∷ 2 ∷ 1 ∷ 2 ∷ 200 ∷ []) bare (0 ∷ 2 ∷ 1 ∷ 3 ∷ 9 ∷ []) 1

-- the parts on the mounted tip begin; where no part is on it, the first is a change
abbrev pub B141 : Row
B141 = ordered four [] tips (tip 2) (1 ∷ 3 ∷ 0 ∷ 2 ∷ []) 1

abbrev pub B142 : Row
B142 = ordered four [] tips (tip 7) (0 ∷ 2 ∷ 1 ∷ 3 ∷ []) 2

-- a part due at position 1 changes the tip there, and so does a rule; the next part is on the new tip
abbrev pub B143 : Row
B143 = ordered (plain 0 3 ∷ plain 1 1 ∷ plain 0 3 ∷ plain 0 3 ∷ []) [] tips bare (0 ∷ 1 ∷ 3 ∷ 2 ∷ []) 2

abbrev pub B144 : Row
B144 = ordered four (rule 1 2 ∷ []) tips bare (0 ∷ 1 ∷ 3 ∷ 2 ∷ []) 2

-- the flags come before the tips
abbrev pub B145 : Row
B145 = ordered (plain 0 1 ∷ fine 0 1 ∷ []) [] (1 ∷ 2 ∷ []) (tip 1) (1 ∷ 0 ∷ []) 2

-- all parts on one tip: the order is that of B104, whatever is mounted
abbrev pub B146 : Row
B146 = ordered (tall 0 3 ∷ plain 0 3 ∷ fine 0 3 ∷ plain 0 3 ∷ []) (rule 3 1 ∷ []) (5 ∷ 5 ∷ 5 ∷ 5 ∷ []) (tip 9) (2 ∷ 3 ∷ 1 ∷ 0 ∷ []) 1

-- no part: nothing is written, and nothing changed
abbrev pub B147 : Row
B147 = ordered [] [] [] (tip 63) (9 ∷ []) 0

-- each refusal comes before those after it: a short order buffer, a short plan, a tip of 64, a mounted tip of 64, rules in a circle
abbrev pub B148_14 : Row
B148_14 = refused four circle (1 ∷ 64 ∷ []) (tip 64) 3 14 0

abbrev pub B148_4 : Row
B148_4 = refused four circle (1 ∷ 64 ∷ 64 ∷ []) (tip 64) 4 4 0

abbrev pub B148_3 : Row
B148_3 = refused four circle (1 ∷ 2 ∷ 64 ∷ 255 ∷ []) (tip 64) 4 3 2

abbrev pub B148_16 : Row
B148_16 = refused four circle tips (tip 64) 4 16 0

abbrev pub B148_29 : Row
B148_29 = refused four circle tips (tip 63) 4 29 0

abbrev pub rows : List Row
rows =
    B140 ∷ B141 ∷ B142 ∷ B143 ∷ B144 ∷ B145 ∷ B146 ∷ B147 ∷ B148_14 ∷ B148_4 ∷ B148_3 ∷ B148_16 ∷ B148_29 ∷ []
