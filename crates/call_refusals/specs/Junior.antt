-- What the Junior asks after an earlier refusal, before its tips are sought.
use Rattle.std.specs.Prelude.{ℕ, ltb}
use Rattle.refusal.specs.Told.{Refusal}
use Rattle.refusal.specs.Refusal.{or_else, when}

-- the most lines that the Junior plans
abbrev pub junior_lines : ℕ
junior_lines = 64

-- and the most tips of its rack
abbrev pub junior_tips : ℕ
junior_tips = 8

-- of n lines in a rack of m tips: too many lines, then too large a rack, then a plan buffer of room bytes that is shorter than the lines
unfoldable pub junior_refusal : Refusal → ℕ → ℕ → ℕ → Refusal
junior_refusal earlier m n room =
    or_else earlier (or_else (when (ltb junior_lines n) 24) (or_else (when (ltb junior_tips m) 1) (when (ltb room n) 4)))
