-- Sets of parts, in two words.
use Rattle.std.specs.Prelude.{ℕ, ◌-◌, ◌^◌, ◌≤◌, ◌<◌, Bool, cond, ◌&&◌, T, ltb, eqb}
use Rattle.std.specs.Int.Bits.{bit_and, bit_or, bit_xor}
use Rattle.model.specs.Plan.{has}
use Rattle.flat_order.specs.declared.sets.PartSet.{PartSet}

-- part x is in the set
unfoldable pub has_part : PartSet → ℕ → Bool
has_part s x = cond (ltb x 64) (has s.low x) (has s.high (x - 64))

-- the set of one part
unfoldable pub single : ℕ → PartSet
single x = record { low = cond (ltb x 64) (2 ^ x) 0; high = cond (ltb x 64) 0 (2 ^ (x - 64)) }

-- the parts of both sets
unfoldable pub joined : PartSet → PartSet → PartSet
joined s t = record { low = bit_or s.low t.low; high = bit_or s.high t.high }

-- the parts of s that are not in t
unfoldable pub removed : PartSet → PartSet → PartSet
removed s t = record { low = bit_xor s.low (bit_and s.low t.low); high = bit_xor s.high (bit_and s.high t.high) }

-- the parts that are in both sets
unfoldable pub met : PartSet → PartSet → PartSet
met s t = record { low = bit_and s.low t.low; high = bit_and s.high t.high }

-- no part is in both
unfoldable pub apart : PartSet → PartSet → Bool
apart s t = eqb (bit_and s.low t.low) 0 && eqb (bit_and s.high t.high) 0

-- no part
abbrev pub no_parts : PartSet
no_parts = record { low = 0; high = 0 }

-- the lowest part of the set; a set without a part has none below 128
pub record IsLowest (s : PartSet) (r : ℕ) : Type 0 where
  pub found : r < 128 → T (has_part s r)
  pub least : (x : ℕ) → T (has_part s x) → r ≤ x
