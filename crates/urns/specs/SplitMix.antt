-- SplitMix64, as it is published: numbers of 64 bits, so that each sum and each product is taken modulo 2 ^ 64.
-- Assumes nothing.
use Rattle.std.specs.Prelude.{ℕ, ◌+◌, ◌*◌, ◌/◌, ◌%◌, ◌^◌, bit_xor}

-- s becomes s + 0x9E3779B97F4A7C15
abbrev pub stepped : ℕ → ℕ
stepped s = (s + 0x9E37_79B9_7F4A_7C15) % 2 ^ 64

-- z becomes (z xor (z >> shift)) × factor
abbrev pub scrambled : ℕ → ℕ → ℕ → ℕ
scrambled shift factor z = (bit_xor z (z / 2 ^ shift) * factor) % 2 ^ 64

-- z becomes z xor (z >> 31)
abbrev pub finished : ℕ → ℕ
finished z = bit_xor z (z / 2 ^ 31)

-- z is s, and becomes (z xor (z >> 30)) × 0xBF58476D1CE4E5B9, then (z xor (z >> 27)) × 0x94D049BB133111EB, then
-- z xor (z >> 31)
abbrev pub mixed : ℕ → ℕ
mixed s = finished (scrambled 27 0x94D0_49BB_1331_11EB (scrambled 30 0xBF58_476D_1CE4_E5B9 s))
