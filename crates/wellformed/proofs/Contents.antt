-- What stands behind the heads of items: bytes, members and entries, each of which stops where its parts do.
use Rattle.std.proofs.Common.{◌≡◌, ℕ, suc, ◌-◌, ◌^◌, ◌<◌, List, [], ◌∷◌, ◌++◌, length, refl, sym, ap, ap₂, ◌∙◌, append_assoc, append-nil, arith}
use Rattle.std.proofs.lemmas.List.{length-append}
use Rattle.std.specs.List.{AllByRecursion}
use Rattle.model.specs.Cbor.{Item, Items, Pairs, Bytes, Array, Map, NoItems, NextItem, NoPairs, NextPair, items_count, pairs_count, head, text_of, items_text, pairs_text, IsInRange}
use Rattle.model.proofs.HeadLemmas.{SameHeads, same_heads}
use Rattle.model.proofs.ItemTexts.{major_of, argument_of, contents_of, same_item}
use Rattle.wellformed.specs.Misfits.{IsFormed}
use Rattle.wellformed.specs.Stops.{BeginsLonger}
use Rattle.wellformed.specs.Parts.{HasBytes, IsItemText, AreFormed, AreMembers, IsEntryText, EntriesAreFormed, AreEntries}
use Rattle.wellformed.proofs.Stopping.{BeginsWith, StandsIn}
use Rattle.wellformed.proofs.Firsts.{in_parts, argument_fits, zero_text, zero_bytes, length-zero_bytes, zero_are_bytes, zero_items, zero_items_counted, zero_items_formed, zero_pairs, zero_pairs_counted, zero_pairs_formed}

-- ---- behind the head of an item

-- a text that begins with a head is that of an item with this head
headed : (item : Item) (m n : ℕ) (text x y : List ℕ) → IsInRange item → n < 2 ^ 64 → text ≡ text_of item → text ++ x ≡ head m n ++ y → SameHeads (major_of item) m (argument_of item) n (contents_of item ++ x) y
headed item m n text x y p fits is e =
    let h = head (major_of item) (argument_of item) in
    let parts : text ++ x ≡ h ++ (contents_of item ++ x) = ap (λ (t : List ℕ). t ++ x) (is ∙ in_parts item) ∙ append_assoc h (contents_of item) x in
    same_heads (major_of item) m (argument_of item) n (contents_of item ++ x) y (argument_fits item p) fits (sym parts ∙ e)

bytes_opened : (n : ℕ) (item : Item) (x y : List ℕ) → IsInRange item → SameHeads (major_of item) 2 (argument_of item) n (contents_of item ++ x) y → BeginsWith (HasBytes n) y
bytes_opened n (Bytes bs) x y p s = record { text = bs; rest = x; is_text = record { counted = s.argument; are_bytes = p.1 }; parts = s.rest }
bytes_opened n item x y p s = absurd (omega (arith, s.major))

-- behind the head of a byte string stand as many bytes
pub bytes_stand : (depth n : ℕ) → 0 < depth → n < 2 ^ 64 → StandsIn (IsItemText depth) (HasBytes n) (head 2 n)
bytes_stand depth n deep fits = record {
  completed = λ text is. record {
    rest = [];
    is_text = record {
      item = Bytes text;
      formed = record { in_range = (omega (arith, is.counted), is.are_bytes); nests = omega (arith, deep) };
      is = ap₂ (λ (k : ℕ) (t : List ℕ). head 2 k ++ t) (sym is.counted) (append-nil text);
    };
  };
  opened = λ text x y is e. let formed = is.formed in bytes_opened n is.item x y formed.in_range (headed is.item 2 n text x y formed.in_range fits is.is e);
}

members_opened : (depth n : ℕ) (item : Item) (x y : List ℕ) → IsFormed (suc depth) item → SameHeads (major_of item) 4 (argument_of item) n (contents_of item ++ x) y → BeginsWith (AreMembers depth n) y
members_opened depth n (Array is) x y f s =
    let p = f.in_range in
    record {
      text = items_text is;
      rest = x;
      is_text = record { members = is; formed = record { in_range = p.1; nest = omega (arith, f.nests) }; counted = s.argument; is = refl };
      parts = s.rest;
    }
members_opened depth n item x y f s = absurd (omega (arith, s.major))

-- behind the head of an array stand as many members
pub members_stand : (depth n : ℕ) → n < 2 ^ 64 → StandsIn (IsItemText (suc depth)) (AreMembers depth n) (head 4 n)
members_stand depth n fits = record {
  completed = λ text is. record {
    rest = [];
    is_text = let f = is.formed in record {
      item = Array is.members;
      formed = record { in_range = (omega (arith, is.counted, fits), f.in_range); nests = omega (arith, f.nest) };
      is = ap₂ (λ (k : ℕ) (t : List ℕ). head 4 k ++ t) (sym is.counted) (append-nil text ∙ is.is);
    };
  };
  opened = λ text x y is e. let formed = is.formed in members_opened depth n is.item x y formed (headed is.item 4 n text x y formed.in_range fits is.is e);
}

entries_opened : (depth n : ℕ) (item : Item) (x y : List ℕ) → IsFormed (suc depth) item → SameHeads (major_of item) 5 (argument_of item) n (contents_of item ++ x) y → BeginsWith (AreEntries depth n) y
entries_opened depth n (Map ps) x y f s =
    let p = f.in_range in
    record {
      text = pairs_text ps;
      rest = x;
      is_text = record { entries = ps; formed = record { in_range = p.1; nest = omega (arith, f.nests) }; counted = s.argument; is = refl };
      parts = s.rest;
    }
entries_opened depth n item x y f s = absurd (omega (arith, s.major))

-- behind the head of a map stand as many entries
pub entries_stand : (depth n : ℕ) → n < 2 ^ 64 → StandsIn (IsItemText (suc depth)) (AreEntries depth n) (head 5 n)
entries_stand depth n fits = record {
  completed = λ text is. record {
    rest = [];
    is_text = let f = is.formed in record {
      item = Map is.entries;
      formed = record { in_range = (omega (arith, is.counted, fits), f.in_range); nests = omega (arith, f.nest) };
      is = ap₂ (λ (k : ℕ) (t : List ℕ). head 5 k ++ t) (sym is.counted) (append-nil text ∙ is.is);
    };
  };
  opened = λ text x y is e. let formed = is.formed in entries_opened depth n is.item x y formed (headed is.item 5 n text x y formed.in_range fits is.is e);
}

-- fewer bytes stand there than were announced
pub bytes_short : (n : ℕ) (bytes : List ℕ) → AllByRecursion (λ b. b < 256) bytes → length bytes < n → BeginsLonger (HasBytes n) bytes
bytes_short n bytes fits short =
    let more = zero_bytes (n - length bytes - 1) in
    record {
      next = 0;
      rest = more;
      is_text = record {
        counted = omega (arith, length-append bytes (0 ∷ more), length-zero_bytes (n - length bytes - 1), short);
        are_bytes = all_then bytes (0 ∷ more) fits (omega arith, zero_are_bytes (n - length bytes - 1));
      };
    }
  where
    all_then : (xs ys : List ℕ) → AllByRecursion (λ b. b < 256) xs → AllByRecursion (λ b. b < 256) ys → AllByRecursion (λ b. b < 256) (xs ++ ys)
    all_then [] ys p q = q
    all_then (x ∷ xs) ys p q = (p.0, all_then xs ys p.1 q)

-- ---- members

-- the first member of several
pub first_member : (depth n : ℕ) → 0 < depth → StandsIn (AreMembers depth (suc n)) (IsItemText depth) []
first_member depth n deep = record {
  completed = λ text is. record {
    rest = items_text (zero_items n);
    is_text = let p = is.formed in let q = zero_items_formed depth n (λ h. deep) in record {
      members = NextItem is.item (zero_items n);
      formed = record { in_range = (p.in_range, q.in_range); nest = omega (arith, p.nests, q.nest) };
      counted = ap suc (zero_items_counted n);
      is = ap (λ (t : List ℕ). t ++ items_text (zero_items n)) is.is;
    };
  };
  opened = λ text x y is e. opened is.members text x y is.formed is.counted is.is e;
}
  where
    opened : (members : Items) (text x y : List ℕ) → AreFormed depth members → items_count members ≡ suc n → text ≡ items_text members → text ++ x ≡ y → BeginsWith (IsItemText depth) y
    opened NoItems text x y f counted is e = absurd (omega (arith, counted))
    opened (NextItem i is) text x y f counted text_is e =
        let p = f.in_range in
        record {
          text = text_of i;
          rest = items_text is ++ x;
          is_text = record { item = i; formed = record { in_range = p.0; nests = omega (arith, f.nest) }; is = refl };
          parts = sym (append_assoc (text_of i) (items_text is) x) ∙ ap (λ (t : List ℕ). t ++ x) (sym text_is) ∙ e;
        }

-- those behind the first one
pub other_members : (depth n : ℕ) (first : Item) → IsFormed depth first → StandsIn (AreMembers depth (suc n)) (AreMembers depth n) (text_of first)
other_members depth n first formed = record {
  completed = λ text is. record {
    rest = [];
    is_text = let q = is.formed in record {
      members = NextItem first is.members;
      formed = record { in_range = (formed.in_range, q.in_range); nest = omega (arith, formed.nests, q.nest) };
      counted = ap suc is.counted;
      is = ap (λ (t : List ℕ). text_of first ++ t) (append-nil text ∙ is.is);
    };
  };
  opened = λ text x y is e. opened is.members text x y is.formed is.counted is.is e;
}
  where
    opened : (members : Items) (text x y : List ℕ) → AreFormed depth members → items_count members ≡ suc n → text ≡ items_text members → text ++ x ≡ text_of first ++ y → BeginsWith (AreMembers depth n) y
    opened NoItems text x y f counted is e = absurd (omega (arith, counted))
    opened (NextItem i is) text x y f counted text_is e =
        let p = f.in_range in
        let texts : text_of i ++ (items_text is ++ x) ≡ text_of first ++ y = sym (append_assoc (text_of i) (items_text is) x) ∙ ap (λ (t : List ℕ). t ++ x) (sym text_is) ∙ e in
        let s = same_item i first (items_text is ++ x) y p.0 formed.in_range texts in
        record {
          text = items_text is;
          rest = x;
          is_text = record { members = is; formed = record { in_range = p.1; nest = omega (arith, f.nest) }; counted = omega (arith, counted); is = refl };
          parts = s.rest;
        }

-- ---- entries

-- the key of an entry
pub key_stands : (depth : ℕ) → 0 < depth → StandsIn (IsEntryText depth) (IsItemText depth) []
key_stands depth deep = record {
  completed = λ text is. record {
    rest = 0 ∷ [];
    is_text = let z = zero_text depth deep in record {
      key = is.item;
      value = z.item;
      key_formed = is.formed;
      value_formed = z.formed;
      is = ap₂ (λ (s t : List ℕ). s ++ t) is.is z.is;
    };
  };
  opened = λ text x y is e. record {
    text = text_of is.key;
    rest = text_of is.value ++ x;
    is_text = record { item = is.key; formed = is.key_formed; is = refl };
    parts = sym (append_assoc (text_of is.key) (text_of is.value) x) ∙ ap (λ (t : List ℕ). t ++ x) (sym is.is) ∙ e;
  };
}

-- its value, behind the key
pub value_stands : (depth : ℕ) (key : Item) → IsFormed depth key → StandsIn (IsEntryText depth) (IsItemText depth) (text_of key)
value_stands depth key formed = record {
  completed = λ text is. record {
    rest = [];
    is_text = record { key = key; value = is.item; key_formed = formed; value_formed = is.formed; is = ap (λ (t : List ℕ). text_of key ++ t) (append-nil text ∙ is.is) };
  };
  opened = λ text x y is e.
      let p = is.key_formed in
      let texts : text_of is.key ++ (text_of is.value ++ x) ≡ text_of key ++ y = sym (append_assoc (text_of is.key) (text_of is.value) x) ∙ ap (λ (t : List ℕ). t ++ x) (sym is.is) ∙ e in
      let s = same_item is.key key (text_of is.value ++ x) y p.in_range formed.in_range texts in
      record { text = text_of is.value; rest = x; is_text = record { item = is.value; formed = is.value_formed; is = refl }; parts = s.rest };
}

-- the first entry of several
pub first_entry : (depth n : ℕ) → 0 < depth → StandsIn (AreEntries depth (suc n)) (IsEntryText depth) []
first_entry depth n deep = record {
  completed = λ text is. record {
    rest = pairs_text (zero_pairs n);
    is_text = let p = is.key_formed in let v = is.value_formed in let q = zero_pairs_formed depth n (λ h. deep) in record {
      entries = NextPair is.key is.value (zero_pairs n);
      formed = record { in_range = (p.in_range, v.in_range, q.in_range); nest = omega (arith, p.nests, v.nests, q.nest) };
      counted = ap suc (zero_pairs_counted n);
      is = ap (λ (t : List ℕ). t ++ pairs_text (zero_pairs n)) is.is ∙ append_assoc (text_of is.key) (text_of is.value) (pairs_text (zero_pairs n));
    };
  };
  opened = λ text x y is e. opened is.entries text x y is.formed is.counted is.is e;
}
  where
    opened : (entries : Pairs) (text x y : List ℕ) → EntriesAreFormed depth entries → pairs_count entries ≡ suc n → text ≡ pairs_text entries → text ++ x ≡ y → BeginsWith (IsEntryText depth) y
    opened NoPairs text x y f counted is e = absurd (omega (arith, counted))
    opened (NextPair k v ps) text x y f counted text_is e =
        let p = f.in_range in
        record {
          text = text_of k ++ text_of v;
          rest = pairs_text ps ++ x;
          is_text = record { key = k; value = v; key_formed = record { in_range = p.0; nests = omega (arith, f.nest) }; value_formed = record { in_range = p.1; nests = omega (arith, f.nest) }; is = refl };
          parts = sym (append_assoc (text_of k ++ text_of v) (pairs_text ps) x) ∙ ap (λ (t : List ℕ). t ++ x) (append_assoc (text_of k) (text_of v) (pairs_text ps) ∙ sym text_is) ∙ e;
        }

-- those behind the first one
pub other_entries : (depth n : ℕ) (key value : Item) → IsFormed depth key → IsFormed depth value → StandsIn (AreEntries depth (suc n)) (AreEntries depth n) (text_of key ++ text_of value)
other_entries depth n key value key_formed value_formed = record {
  completed = λ text is. record {
    rest = [];
    is_text = let q = is.formed in record {
      entries = NextPair key value is.entries;
      formed = record { in_range = (key_formed.in_range, value_formed.in_range, q.in_range); nest = omega (arith, key_formed.nests, value_formed.nests, q.nest) };
      counted = ap suc is.counted;
      is = ap (λ (t : List ℕ). (text_of key ++ text_of value) ++ t) (append-nil text ∙ is.is) ∙ append_assoc (text_of key) (text_of value) (pairs_text is.entries);
    };
  };
  opened = λ text x y is e. opened is.entries text x y is.formed is.counted is.is e;
}
  where
    opened : (entries : Pairs) (text x y : List ℕ) → EntriesAreFormed depth entries → pairs_count entries ≡ suc n → text ≡ pairs_text entries → text ++ x ≡ (text_of key ++ text_of value) ++ y → BeginsWith (AreEntries depth n) y
    opened NoPairs text x y f counted is e = absurd (omega (arith, counted))
    opened (NextPair k v ps) text x y f counted text_is e =
        let p = f.in_range in
        let after = pairs_text ps ++ x in
        let start : text ++ x ≡ text_of k ++ (text_of v ++ after) = ap (λ (t : List ℕ). t ++ x) text_is ∙ append_assoc (text_of k) (text_of v ++ pairs_text ps) x ∙ ap (λ (t : List ℕ). text_of k ++ t) (append_assoc (text_of v) (pairs_text ps) x) in
        let keys = same_item k key (text_of v ++ after) (text_of value ++ y) p.0 key_formed.in_range (sym start ∙ e ∙ append_assoc (text_of key) (text_of value) y) in
        let values = same_item v value after y p.1 value_formed.in_range keys.rest in
        record {
          text = pairs_text ps;
          rest = x;
          is_text = record { entries = ps; formed = record { in_range = p.2; nest = omega (arith, f.nest) }; counted = omega (arith, counted); is = refl };
          parts = values.rest;
        }
