-- How long the text of an item is, part by part.
use Rattle.std.proofs.Common.{◌≡◌, ℕ, ◌+◌, ◌++◌, length, refl, ap₂, ◌∙◌, ap}
use Rattle.std.proofs.lemmas.List.{length-append}
use Rattle.model.specs.Cbor.{Item, Items, Pairs, Unsigned, Negative, Bytes, Array, Map, Null, NoItems, NextItem, NoPairs, NextPair, items_count, pairs_count, head, text_of, items_text, pairs_text}

-- the bytes of an item's text
abbrev mutual
  pub item_length : Item → ℕ
  item_length (Unsigned n) = length (head 0 n)
  item_length (Negative n) = length (head 1 n)
  item_length (Bytes bs) = length (head 2 (length bs)) + length bs
  item_length (Array is) = length (head 4 (items_count is)) + items_length is
  item_length (Map ps) = length (head 5 (pairs_count ps)) + pairs_length ps
  item_length Null = length (head 7 22)

  pub items_length : Items → ℕ
  items_length NoItems = 0
  items_length (NextItem i is) = item_length i + items_length is

  pub pairs_length : Pairs → ℕ
  pairs_length NoPairs = 0
  pairs_length (NextPair k v ps) = item_length k + (item_length v + pairs_length ps)

mutual
  pub length_of_text : (i : Item) → length (text_of i) ≡ item_length i
  length_of_text (Unsigned n) = refl
  length_of_text (Negative n) = refl
  length_of_text (Bytes bs) = length-append (head 2 (length bs)) bs
  length_of_text (Array is) = length-append (head 4 (items_count is)) (items_text is) ∙ ap (λ (n : ℕ). length (head 4 (items_count is)) + n) (length_of_items is)
  length_of_text (Map ps) = length-append (head 5 (pairs_count ps)) (pairs_text ps) ∙ ap (λ (n : ℕ). length (head 5 (pairs_count ps)) + n) (length_of_pairs ps)
  length_of_text Null = refl

  length_of_items : (is : Items) → length (items_text is) ≡ items_length is
  length_of_items NoItems = refl
  length_of_items (NextItem i is) = length-append (text_of i) (items_text is) ∙ ap₂ (λ (m n : ℕ). m + n) (length_of_text i) (length_of_items is)

  length_of_pairs : (ps : Pairs) → length (pairs_text ps) ≡ pairs_length ps
  length_of_pairs NoPairs = refl
  length_of_pairs (NextPair k v ps) =
      length-append (text_of k) (text_of v ++ pairs_text ps)
      ∙ ap₂ (λ (m n : ℕ). m + n) (length_of_text k) (length-append (text_of v) (pairs_text ps) ∙ ap₂ (λ (m n : ℕ). m + n) (length_of_text v) (length_of_pairs ps))
