-- Readings of shapes, of which typed readers are made (RFC 8949, 3 and 4.2.1). Each gives what stands first,
-- an item of the shape or several, as plain data, and the bytes after it; or None where no such item stands there.
use Rattle.std.specs.Prelude.{ℕ, zero, suc, Bool, not, nat_lt, nat_le, ◌==◌, List, [], ◌∷◌, length, Option, Some}
use Rattle.std.specs.Prelude.{None}
use Rattle.std.specs.Ordering.{nat_cmp, is_lt}
use Rattle.std.specs.Cmp.Lexicographic.{slice_cmp}
use Rattle.cbor.specs.Reading.{◌>>=◌, guard, front, head_at, bytes_at, null_at}

-- a reading of plain data of a type
abbrev pub Reading : Type 0 → Type 0
Reading A = List ℕ → Option (A × List ℕ)

-- ---- one item

-- what another reading gives, where it passes a test
unfoldable pub such_at : {A : Type 0} → (A → Bool) → Reading A → Reading A
such_at test read bytes = do
  x ← read bytes
  passes ← guard (test x.0)
  Some (x.0, x.1)

-- what another reading gives, as data of another type
unfoldable pub as_at : {A B : Type 0} → (A → B) → Reading A → Reading B
as_at to read bytes = do
  x ← read bytes
  Some (to x.0, x.1)

-- what another reading gives, as the data that is made of it, where there is such data
unfoldable pub made_at : {A B : Type 0} → (A → Option B) → Reading A → Reading B
made_at make read bytes = do
  x ← read bytes
  y ← make x.0
  Some (y, x.1)

-- an unsigned number below a limit
unfoldable pub bounded_at : ℕ → Reading ℕ
bounded_at limit bytes = such_at (λ n. nat_lt n limit) (head_at 0) bytes

-- a byte string of at most `most` bytes
unfoldable pub short_at : ℕ → Reading (List ℕ)
short_at most bytes = such_at (λ text. nat_le (length text) most) bytes_at bytes

-- the first of two answers that gives something
abbrev pub or_else : {A : Type 0} → Option A → Option A → Option A
or_else (Some x) second = Some x
or_else None second = second

-- what the first of two readings gives, or else what the second one gives
unfoldable pub either_at : {A : Type 0} → Reading A → Reading A → Reading A
either_at first second bytes = or_else (first bytes) (second bytes)

-- where null stands first nothing, or else what another reading gives
abbrev pub unless_null : {A : Type 0} → Reading A → Option (List ℕ) → Reading (Option A)
unless_null read (Some rest) bytes = Some (None, rest)
unless_null read None bytes = do
  x ← read bytes
  Some (Some x.0, x.1)

-- null, or an item
unfoldable pub optional_at : {A : Type 0} → Reading A → Reading (Option A)
optional_at read bytes = unless_null read (null_at bytes) bytes

-- ---- arrays

-- no item
abbrev pub nothing_at : Reading (Unit {0})
nothing_at bytes = Some (tt, bytes)

-- one reading, and another of what stands after it
unfoldable pub both_at : {A B : Type 0} → Reading A → Reading B → Reading (A × B)
both_at first second bytes = do
  a ← first bytes
  b ← second a.1
  Some ((a.0, b.0), b.1)

-- the head of an array of exactly `count` members: the bytes from its first member on
unfoldable pub members_at : ℕ → List ℕ → Option (List ℕ)
members_at count bytes = do
  n ← head_at 4 bytes
  of_count ← guard (n.0 == count)
  Some n.1

-- an array of exactly `count` members, which are read so
unfoldable pub array_at : {A : Type 0} → ℕ → Reading A → Reading A
array_at count read bytes = do
  members ← members_at count bytes
  read members

-- `count` like items, one after the other
unfoldable pub list_at : {A : Type 0} → Reading A → ℕ → Reading (List A)
list_at read zero bytes = Some ([], bytes)
list_at read (suc count) bytes = do
  first ← read bytes
  others ← list_at read count first.1
  Some (first.0 ∷ others.0, others.1)

-- an array of any number of like items
unfoldable pub list_array_at : {A : Type 0} → Reading A → Reading (List A)
list_array_at read bytes = do
  count ← head_at 4 bytes
  list_at read count.0 count.1

-- a list that is not empty
unfoldable pub nonempty_at : {A : Type 0} → Reading (List A) → Reading (List A)
nonempty_at read bytes = such_at (λ xs. not (length xs == 0)) read bytes

-- ---- maps

-- A reading of a map's entry whose key's text stands after this one: the entry as plain data, the text of
-- its key, and the bytes after the entry.
abbrev pub EntryReading : Type 0 → Type 0
EntryReading E = List ℕ → List ℕ → Option (E × List ℕ × List ℕ)

-- the text in front of bytes, of which these are left, where it stands after another text
unfoldable pub rising_at : (before bytes rest : List ℕ) → Option (List ℕ)
rising_at before bytes rest = do
  rises ← guard (is_lt (slice_cmp nat_cmp before (front bytes rest)))
  Some (front bytes rest)

-- an entry that is made of a key and a value
unfoldable pub entry_at : {K V E : Type 0} → (K → V → E) → Reading K → Reading V → EntryReading E
entry_at made key value before bytes = do
  k ← key bytes
  text ← rising_at before bytes k.1
  v ← value k.1
  Some (made k.0 v.0, text, v.1)

-- `count` entries, one after the other, whose keys' texts rise strictly from this one on
unfoldable pub entries_at : {E : Type 0} → EntryReading E → List ℕ → ℕ → Reading (List E)
entries_at entry before zero bytes = Some ([], bytes)
entries_at entry before (suc count) bytes = do
  first ← entry before bytes
  others ← entries_at entry first.1 count first.2
  Some (first.0 ∷ others.0, others.1)

-- a map of any number of entries; no text stands before the first key's
unfoldable pub map_at : {E : Type 0} → EntryReading E → Reading (List E)
map_at entry bytes = do
  count ← head_at 5 bytes
  entries_at entry [] count.0 count.1

-- ---- maps of fields

-- A reading of a map's entries whose keys are known, of which this many are left: the entries as plain data, how
-- many are left after them, and the bytes after them.
abbrev pub FieldsReading : Type 0 → Type 0
FieldsReading A = ℕ → List ℕ → Option (A × ℕ × List ℕ)

-- no entry
abbrev pub no_fields_at : FieldsReading (Unit {0})
no_fields_at left bytes = Some (tt, left, bytes)

-- the key of the entry of this unsigned number: how many entries are left after it, and the bytes of its value on
unfoldable pub key_at : ℕ → ℕ → List ℕ → Option (ℕ × List ℕ)
key_at key zero bytes = None
key_at key (suc left) bytes = do
  k ← head_at 0 bytes
  of_key ← guard (k.0 == key)
  Some (left, k.1)

-- the entry of this unsigned number
unfoldable pub field_at : {A : Type 0} → ℕ → Reading A → FieldsReading A
field_at key read left bytes = do
  entry ← key_at key left bytes
  value ← read entry.1
  Some (value.0, entry.0, value.1)

-- an entry where its key was read, or none
abbrev pub if_there : {A : Type 0} → Option (ℕ × List ℕ) → Reading A → FieldsReading (Option A)
if_there None read left bytes = Some (None, left, bytes)
if_there (Some entry) read left bytes = do
  value ← read entry.1
  Some (Some value.0, entry.0, value.1)

-- the entry of this unsigned number, where it stands there
unfoldable pub optional_field_at : {A : Type 0} → ℕ → Reading A → FieldsReading (Option A)
optional_field_at key read left bytes = if_there (key_at key left bytes) read left bytes

-- entries, and others after them
unfoldable pub fields_at : {A B : Type 0} → FieldsReading A → FieldsReading B → FieldsReading (A × B)
fields_at first second left bytes = do
  a ← first left bytes
  b ← second a.1 a.2
  Some ((a.0, b.0), b.1, b.2)

-- entries as data of another type
unfoldable pub as_fields_at : {A B : Type 0} → (A → B) → FieldsReading A → FieldsReading B
as_fields_at to fields left bytes = do
  x ← fields left bytes
  Some (to x.0, x.1, x.2)

-- a map of such entries and no others
unfoldable pub record_at : {A : Type 0} → FieldsReading A → Reading A
record_at fields bytes = do
  count ← head_at 5 bytes
  x ← fields count.0 count.1
  all ← guard (x.1 == 0)
  Some (x.0, x.2)
