-- The carries of a plain sum, added in: round by round, and all.
use Rattle.std.specs.Prelude.{ℕ, ◌+◌, ◌-◌, ◌*◌, ◌/◌, ◌%◌}

-- a round of carries: what stands above 16 bits is added in at the bottom
unfoldable pub fold : ℕ → ℕ
fold s = s % 65536 + s / 65536

-- s with every carry out of 16 bits added in: 1 to 65,535, less than s by a multiple of 65,535; 0 of 0
unfoldable pub reduced : ℕ → ℕ
reduced s = s - (s - 1) / 65535 * 65535
