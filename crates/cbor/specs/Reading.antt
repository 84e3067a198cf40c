-- Reading the parts of deterministic CBOR (RFC 8949, 3 and 4.2.1) from left to right: a reading gives the
-- value that stands first and the bytes after it, or None where no such part stands there.
use Rattle.std.specs.Prelude.{ℕ, Bool, true, false, ◌/◌, ◌%◌, ◌-◌, List, [], ◌∷◌, length, take, drop, Option, Some}
use Rattle.std.specs.Prelude.{None, nat_lt, ◌==◌, if◌then◌else◌}
use Rattle.std.specs.Int.{Width, w8, w16, w32, w64, byte_len, from_be_bytes}

infixl 10 ◌>>=◌
-- what follows a reading, where it found something
abbrev pub ◌>>=◌ : {A B : Type 0} → Option A → (A → Option B) → Option B
None >>= f = None
(Some x) >>= f = f x

-- a step of a `do` block that finds nothing where its test fails
abbrev pub guard : Bool → Option (Unit {0})
guard true = Some tt
guard false = None

-- the bytes that were read, where these are left
abbrev pub front : List ℕ → List ℕ → List ℕ
front bytes rest = take (length bytes - length rest) bytes

-- the number in as many bytes as its width has, the highest first
abbrev pub number_at : Width → List ℕ → Option (ℕ × List ℕ)
number_at w bytes =
    if nat_lt (length bytes) (byte_len w) then None
    else Some (from_be_bytes w (take (byte_len w) bytes), drop (byte_len w) bytes)

-- an argument in bytes of its own: below `least` a shorter form holds it
abbrev pub long_at : Width → ℕ → List ℕ → Option (ℕ × List ℕ)
long_at w least bytes = do
  n ← number_at w bytes
  if nat_lt n.0 least then None else Some (n.0, n.1)

-- the argument that the low five bits of a first byte announce, in its shortest form
unfoldable pub argument_at : ℕ → List ℕ → Option (ℕ × List ℕ)
argument_at information bytes =
    if nat_lt information 24 then Some (information, bytes)
    else if information == 24 then long_at w8 24 bytes
    else if information == 25 then long_at w16 256 bytes
    else if information == 26 then long_at w32 65536 bytes
    else if information == 27 then long_at w64 4294967296 bytes
    else None

-- the argument of a head of this major type
unfoldable pub head_at : ℕ → List ℕ → Option (ℕ × List ℕ)
head_at major [] = None
head_at major (first ∷ rest) = if (first / 32) == major then argument_at (first % 32) rest else None

-- the first bytes, this many
abbrev pub taken_at : ℕ → List ℕ → Option (List ℕ × List ℕ)
taken_at count bytes = if nat_lt (length bytes) count then None else Some (take count bytes, drop count bytes)

-- a byte string
unfoldable pub bytes_at : List ℕ → Option (List ℕ × List ℕ)
bytes_at bytes = do
  count ← head_at 2 bytes
  taken_at count.0 count.1

-- a byte string of exactly `count` bytes
unfoldable pub fixed_at : ℕ → List ℕ → Option (List ℕ × List ℕ)
fixed_at count bytes = do
  text ← bytes_at bytes
  of_length ← guard (length text.0 == count)
  Some (text.0, text.1)

-- null, the simple value 22; the bytes after it
unfoldable pub null_at : List ℕ → Option (List ℕ)
null_at bytes = do
  value ← head_at 7 bytes
  is_null ← guard (value.0 == 22)
  Some value.1
