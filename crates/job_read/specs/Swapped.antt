-- A number with its bytes the other way round.
use Rattle.std.specs.Prelude.{ℕ, zero, suc, ◌+◌, ◌*◌, ◌/◌, ◌%◌, ◌^◌}

-- the w lowest bytes of x as a number, the lowest byte first
unfoldable pub swapped : ℕ → ℕ → ℕ
swapped zero x = 0
swapped (suc w) x = x % 256 * 256 ^ w + swapped w (x / 256)
