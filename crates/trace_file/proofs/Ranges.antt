-- The ranges of numbers of 32 bits, told by their ends.
use Rattle.std.proofs.Common.{◌≡◌, ℤ, pos, negsuc, ◌≤ℤ◌, arith}
use Rattle.std.specs.Prelude.{FitsSigned}
use Rattle.std.specs.Int.{FitsUnsigned, w32}
use Rattle.std.proofs.lemmas.Int.{ints}

pub signed_from_ends : (z : ℤ) → (negsuc 2147483647 ≤ℤ z) × (z ≤ℤ pos 2147483647) → FitsSigned w32 z
signed_from_ends (pos n) within = record { sfits = omega (arith, ints, within.1) }
signed_from_ends (negsuc n) within = record { sfits = omega (arith, ints, within.0) }

pub ends_from_signed : (z : ℤ) → FitsSigned w32 z → (negsuc 2147483647 ≤ℤ z) × (z ≤ℤ pos 2147483647)
ends_from_signed (pos n) fits = (omega (arith, ints), omega (arith, ints, fits.sfits))
ends_from_signed (negsuc n) fits = (omega (arith, ints, fits.sfits), omega (arith, ints))

pub unsigned_from_ends : (z : ℤ) → (pos 0 ≤ℤ z) × (z ≤ℤ pos 4294967295) → FitsUnsigned w32 z
unsigned_from_ends z within = (within.0, omega (arith, ints, within.1))

pub ends_from_unsigned : (z : ℤ) → FitsUnsigned w32 z → (pos 0 ≤ℤ z) × (z ≤ℤ pos 4294967295)
ends_from_unsigned z fits = (fits.0, omega (arith, ints, fits.1))

pub zero_from_ends : (z : ℤ) → (pos 0 ≤ℤ z) × (z ≤ℤ pos 0) → z ≡ pos 0
zero_from_ends z within = omega (arith, ints, within.0, within.1)

pub ends_from_zero : (z : ℤ) → z ≡ pos 0 → (pos 0 ≤ℤ z) × (z ≤ℤ pos 0)
ends_from_zero z is = (omega (arith, ints, is), omega (arith, ints, is))
