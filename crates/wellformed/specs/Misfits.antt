-- Where bytes stop being the text of an item of deterministic CBOR (RFC 8949, 3 and 4.2.1). Places count bytes from 0.
use Rattle.std.specs.Prelude.{◌≡◌, ℕ, suc, ◌+◌, ◌<◌, ◌≤◌, List, [], ◌∷◌, ◌++◌, length, take, Option, Some, None}
use Rattle.std.specs.Prelude.{option_map, if◌then◌else◌}
use Rattle.std.specs.Option.{option_or}
use Rattle.std.specs.Ordering.{nat_cmp, is_ge}
use Rattle.std.specs.Cmp.Lexicographic.{slice_cmp}
use Rattle.model.specs.Cbor.{Item, Items, Pairs, Unsigned, Negative, Bytes, Array, Map, Null, NoItems, NextItem}
use Rattle.model.specs.Cbor.{NoPairs, NextPair, items_count, pairs_count, head, text_of, nesting, IsInRange}
use Rattle.model.specs.Limits.{nesting_limit}
use Rattle.wellformed.specs.declared.misfit.Misfit.{Misfit}
use Rattle.wellformed.specs.declared.misfit.Misfit.TheVariants.{Ends, Initial, Argument, Trailing, Order}

-- ---- loose texts and their beginnings

-- An item that nests at most `depth` deep and has a text, except that the keys of its maps may stand in any order, and
-- twice. A loose text is that of such an item: the order of keys is looked at last.
pub record IsFormed (depth : ℕ) (item : Item) : Type 0 where
  pub in_range : IsInRange item
  pub nests : nesting item ≤ depth

-- the bytes are a loose text
pub record IsWhole (bytes : List ℕ) : Type 0 where
  pub item : Item
  pub formed : IsFormed nesting_limit item
  pub spelled : bytes ≡ text_of item

-- the bytes begin a loose text, of an item that nests at most `depth` deep: with a rest behind them, which may be
-- empty, they are it
pub record IsBeginningWithin (depth : ℕ) (bytes : List ℕ) : Type 0 where
  pub item : Item
  pub formed : IsFormed depth item
  pub rest : List ℕ
  pub parts : text_of item ≡ bytes ++ rest

-- the same, as deep as any text nests
abbrev pub IsBeginning : List ℕ → Type 0
IsBeginning bytes = IsBeginningWithin nesting_limit bytes

-- The first `place` bytes begin a loose text, and with one more they don't, or there are no more. So the byte at the
-- place, if there is one, can't stand there.
pub record IsPlace (bytes : List ℕ) (place : ℕ) : Type 0 where
  pub within : place ≤ length bytes
  pub begins : IsBeginning (take place bytes)
  pub longest : place < length bytes → IsBeginning (take (suc place) bytes) → ⊥

-- ---- the order of keys

-- a place, counted from `n` bytes before
abbrev pub later : ℕ → Option ℕ → Option ℕ
later n place = option_map (λ p. n + p) place

-- the place 0 of a key's text, unless it stands after the text of the key before it (RFC 8949, 4.2.1)
abbrev pub unless_after : List ℕ → List ℕ → Option ℕ
unless_after before text = if is_ge (slice_cmp nat_cmp before text) then Some 0 else None

-- the place, in the text of an item, of the first key that does not stand after the key before it
abbrev mutual
  pub late_key : Item → Option ℕ
  late_key (Unsigned n) = None
  late_key (Negative n) = None
  late_key (Bytes bs) = None
  late_key (Array is) = later (length (head 4 (items_count is))) (items_late_key is)
  late_key (Map ps) = later (length (head 5 (pairs_count ps))) (pairs_late_key [] ps)
  late_key Null = None

  -- the same in the texts of members, one after the other: in the first one, or else in the others
  pub items_late_key : Items → Option ℕ
  items_late_key NoItems = None
  items_late_key (NextItem i is) = option_or (late_key i) (later (length (text_of i)) (items_late_key is))

  -- The same in the texts of entries, one after the other, behind a key with the text `before`: the first key itself,
  -- or else in it, or else in its value, or else in the others. No text stands before the first key's.
  pub pairs_late_key : List ℕ → Pairs → Option ℕ
  pairs_late_key before NoPairs = None
  pairs_late_key before (NextPair k v ps) =
      option_or
      (option_or (option_or (unless_after before (text_of k)) (late_key k)) (later (length (text_of k)) (late_key v)))
      (later (length (text_of k ++ text_of v)) (pairs_late_key (text_of k) ps))

-- ---- what is wrong

-- the bytes begin a loose text, and end before it does
pub record EndsEarly (bytes : List ℕ) : Type 0 where
  pub place : IsPlace bytes (length bytes)
  pub not_whole : IsWhole bytes → ⊥

-- An item is to begin at the place, and none that may stand there begins with the byte: a byte 0 may stand there, which
-- is the number 0, and a byte 255 may not, with which no item begins.
pub record BeginsNoItem (bytes : List ℕ) (place : ℕ) : Type 0 where
  pub place_is : IsPlace bytes place
  pub inside : place < length bytes
  pub zero_may : IsBeginning (take place bytes ++ 0 ∷ [])
  pub top_may_not : IsBeginning (take place bytes ++ 255 ∷ []) → ⊥

-- The number or the count of a head goes on at the place, and with the byte there it has a shorter form: it is too
-- small, since a byte 255 may stand there.
pub record HasShorterForm (bytes : List ℕ) (place : ℕ) : Type 0 where
  pub place_is : IsPlace bytes place
  pub inside : place < length bytes
  pub top_may : IsBeginning (take place bytes ++ 255 ∷ [])

-- a loose text ends at the place, and more bytes stand behind it
pub record GoesOnBehind (bytes : List ℕ) (place : ℕ) : Type 0 where
  pub place_is : IsPlace bytes place
  pub inside : place < length bytes
  pub whole : IsWhole (take place bytes)

-- the bytes are a loose text, in which the first key that does not stand after the key before it begins at the place
pub record HasLateKey (bytes : List ℕ) (place : ℕ) : Type 0 where
  pub item : Item
  pub formed : IsFormed nesting_limit item
  pub spelled : bytes ≡ text_of item
  pub late : late_key item ≡ Some place

-- this is what is wrong with the bytes
abbrev pub IsMisfitOf : List ℕ → Misfit → Type 0
IsMisfitOf bytes Ends = EndsEarly bytes
IsMisfitOf bytes (Initial place) = BeginsNoItem bytes place
IsMisfitOf bytes (Argument place) = HasShorterForm bytes place
IsMisfitOf bytes (Trailing place) = GoesOnBehind bytes place
IsMisfitOf bytes (Order place) = HasLateKey bytes place
