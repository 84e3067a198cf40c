-- What a walk over texts finds: what they are the texts of, the bytes behind them, and how many bytes are left from the
-- first key on that does not stand after the key before it.
use Rattle.std.specs.Prelude.{◌≡◌, ℕ, ◌-◌, List, ◌++◌, length, Option, None, option_map}
use Rattle.model.specs.Cbor.{Item, Items, Pairs, items_count, pairs_count, text_of, items_text, pairs_text}
use Rattle.std.specs.Option.{option_or}
use Rattle.wellformed.specs.Misfits.{IsFormed, later, unless_after, late_key, items_late_key, pairs_late_key}
use Rattle.wellformed.specs.Parts.{HasBytes, AreFormed, EntriesAreFormed}

-- how many bytes are left from a place on
abbrev pub left_from : List ℕ → Option ℕ → Option ℕ
left_from bytes place = option_map (λ p. length bytes - p) place

-- an item stands first
pub record FindsItem (depth : ℕ) (bytes rest : List ℕ) (late : Option ℕ) : Type 0 where
  pub item : Item
  pub formed : IsFormed depth item
  pub parts : bytes ≡ text_of item ++ rest
  pub late_is : late ≡ left_from bytes (late_key item)

-- so many bytes stand first
pub record FindsBytes (count : ℕ) (bytes rest : List ℕ) (late : Option ℕ) : Type 0 where
  pub text : List ℕ
  pub has : HasBytes count text
  pub parts : bytes ≡ text ++ rest
  pub late_is : late ≡ None

-- so many members stand first
pub record FindsMembers (depth count : ℕ) (bytes rest : List ℕ) (late : Option ℕ) : Type 0 where
  pub members : Items
  pub formed : AreFormed depth members
  pub counted : items_count members ≡ count
  pub parts : bytes ≡ items_text members ++ rest
  pub late_is : late ≡ left_from bytes (items_late_key members)

-- the place, in an entry behind a key with this text, of the first key that does not stand after the key before it
abbrev pub entry_late_key : List ℕ → Item → Item → Option ℕ
entry_late_key before k v =
    option_or (option_or (unless_after before (text_of k)) (late_key k)) (later (length (text_of k)) (late_key v))

-- An entry stands first, behind a key with the text `before`; `text` is the text of its own key.
pub record FindsEntry (depth : ℕ) (before bytes text rest : List ℕ) (late : Option ℕ) : Type 0 where
  pub key : Item
  pub value : Item
  pub key_formed : IsFormed depth key
  pub value_formed : IsFormed depth value
  pub text_is : text ≡ text_of key
  pub parts : bytes ≡ (text_of key ++ text_of value) ++ rest
  pub late_is : late ≡ left_from bytes (entry_late_key before key value)

-- so many entries stand first, behind a key with the text `before`
pub record FindsEntries (depth : ℕ) (before : List ℕ) (count : ℕ) (bytes rest : List ℕ) (late : Option ℕ) : Type 0 where
  pub entries : Pairs
  pub formed : EntriesAreFormed depth entries
  pub counted : pairs_count entries ≡ count
  pub parts : bytes ≡ pairs_text entries ++ rest
  pub late_is : late ≡ left_from bytes (pairs_late_key before entries)
