-- The arithmetic of the stages, over the integers: sums that wrap, products rounded down, narrowing with clipping.
-- Cited by src/lib.rt. Assumes nothing.
use Rattle.std.specs.Prelude.{if◌then◌else◌, ℕ, ◌-◌, ◌^◌, ℤ, pos, negsuc, ◌+ℤ◌, ◌-ℤ◌, ◌*ℤ◌}
use Rattle.std.specs.Int.Signed.{shr_z, lt_z}

-- floor (z / 2^n)
abbrev pub shifted : ℤ → ℕ → ℤ
shifted z n = shr_z z (2 ^ n)

-- what an i32 holds of z: the one number from -2^31 to 2^31 - 1 that differs from z by a multiple of 2^32
unfoldable pub wrapped : ℤ → ℤ
wrapped z = z -ℤ pos 4294967296 *ℤ shifted (z +ℤ pos 2147483648) 32

-- "c times y": floor (c y / 65536), downwards for a negative product too
unfoldable pub times : ℤ → ℤ → ℤ
times c y = shifted (c *ℤ y) 16

-- held to -32768 .. 32767
unfoldable pub clipped : ℤ → ℤ
clipped z = if lt_z z (negsuc 32767) then negsuc 32767 else if lt_z (pos 32767) z then pos 32767 else z

-- floor ((x + 2^(n-1)) / 2^n): to the nearest, halves upwards
unfoldable pub rounded : ℕ → ℤ → ℤ
rounded n x = shifted (x +ℤ pos (2 ^ (n - 1))) n

-- narrowing by n bits
unfoldable pub narrowed : ℕ → ℤ → ℤ
narrowed n x = clipped (rounded n x)
