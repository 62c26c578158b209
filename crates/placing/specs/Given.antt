-- The rows that the flags of the parts ask for.
use Rattle.std.specs.Prelude.{ℕ, ◌<◌, ◌≡◌, not, cond, ◌&&◌, List, ltb, length}
use Rattle.order_rules.specs.declared.Part.{Part}
use Rattle.order_rules.specs.Parts.{part_at, fine_pitch, by_flags}
use Rattle.flat_order.specs.declared.sets.PartSet.{PartSet}
use Rattle.placing.specs.declared.flags.Kinds.{Kinds}
use Rattle.flat_order.specs.Sets.{has_part, no_parts, joined}
use Rattle.flat_order.specs.Flat.{row_at}

-- the parts that are to precede part b by the flags: the fine-pitch parts if it is none of them, and those that are not tall if it is tall
unfoldable pub flag_row : Kinds → ℕ → PartSet
flag_row kinds b = joined (cond (not (has_part kinds.fine b)) kinds.fine no_parts) (cond (not (has_part kinds.short b)) kinds.short no_parts)

-- the fine-pitch parts of the first n, and those that are not tall
pub record KindsOf (parts : List Part) (n : ℕ) (kinds : Kinds) : Type 0 where
  pub fine : (x : ℕ) → has_part kinds.fine x ≡ (ltb x n && fine_pitch (part_at parts x))
  pub short : (x : ℕ) → has_part kinds.short x ≡ (ltb x n && not (part_at parts x).tall)

-- the rows by the flags, before any rule
pub record Started (parts : List Part) (rows : List PartSet) : Type 0 where
  pub size : length rows ≡ length parts
  pub flags : (a b : ℕ) → a < length parts → b < length parts
      → has_part (row_at rows b) a ≡ by_flags (part_at parts a) (part_at parts b)
