-- The digits of a number of eight bytes with its bytes the other way round.
use Rattle.std.specs.Prelude.{ℕ, ◌+◌, ◌*◌, ◌-◌, ◌/◌, ◌%◌, cond, ltb}

-- where digit t goes: to the same place in the facing byte, which is digit t xor 56; a digit past the eight bytes stays
unfoldable pub facing : ℕ → ℕ
facing t = cond (ltb t 64) (8 * (7 - t / 8) + t % 8) t
