-- The number of each major type (RFC 8949, 3.1).
use Rattle.std.specs.Prelude.{ℕ}
use Rattle.cbor.specs.declared.major.Major.{Major}
use Rattle.cbor.specs.declared.major.Major.TheVariants.{Unsigned, Negative, Bytes, Array, Map, Simple}

-- the number of a major type
abbrev pub major_number : Major → ℕ
major_number Unsigned = 0
major_number Negative = 1
major_number Bytes = 2
major_number Array = 4
major_number Map = 5
major_number Simple = 7
