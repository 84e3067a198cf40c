-- Reading like items and entries one after the other, as a loop does.
use Rattle.std.proofs.Common.{◌≡◌, ◌≢◌, ℕ, zero, suc, ◌-◌, ◌+◌, ◌≤◌, ◌<◌, List, [], ◌∷◌, ◌++◌, length, map, Option, Some, None, refl, sym, ap, ◌∙◌, append-nil, append_assoc, arith}
use Rattle.std.proofs.lemmas.List.{map-append, length-map}
use Rattle.cbor.specs.declared.fault.CborFault.{CborFault}
use Rattle.cbor.specs.declared.fault.CborFault.TheVariants as faults
use Rattle.cbor.specs.Reading.{◌>>=◌, head_at}
use Rattle.cbor.specs.Gives.{Refuses}
use Rattle.cbor.specs.Shapes.{Reading, list_at, list_array_at, EntryReading, entries_at}
use Rattle.cbor.proofs.Steps.{bind_some, some_is}

-- one more at the end
pub map_push : {A E : Type 0} (plain : A → E) (old new : List A) (x : A) → new ≡ old ++ x ∷ [] → map plain new ≡ map plain old ++ plain x ∷ []
map_push plain old new x e = ap (map plain) e ∙ map-append plain old (x ∷ [])

-- as many as there are
pub none_plain : {A E : Type 0} (plain : A → E) (xs : List A) → length (map plain xs) ≡ length xs
none_plain plain xs = length-map xs plain

module _ {E : Type 0} where
  -- these before what was read
  abbrev pub with_front : List E → Option (List E × List ℕ) → Option (List E × List ℕ)
  with_front front read = read >>= λ x. Some (front ++ x.0, x.1)

  regroup : (front : List E) (e : E) (read : Option (List E × List ℕ)) → with_front front (read >>= λ x. Some (e ∷ x.0, x.1)) ≡ with_front (front ++ e ∷ []) read
  regroup front e None = refl
  regroup front e (Some x) = ap (λ (es : List E). Some (es, x.1)) (sym (append_assoc front (e ∷ []) x.0))

  -- one item was read
  pub list_goes_on : (read : Reading E) (front : List E) (count i : ℕ) (bytes : List ℕ) (e : E) (after : List ℕ) (total : Option (List E × List ℕ)) → i < count → read bytes ≡ Some (e, after)
      → with_front front (list_at read (count - i) bytes) ≡ total → with_front (front ++ e ∷ []) (list_at read (count - (i + 1)) after) ≡ total
  unfolding list_at
  list_goes_on read front count i bytes e after total lt h so_far =
      let c : count - i ≡ suc (count - (i + 1)) = omega arith in
      let one : with_front front (list_at read (count - i) bytes) ≡ with_front (front ++ e ∷ []) (list_at read (count - (i + 1)) after) = rw (c, h) (regroup front e (list_at read (count - (i + 1)) after)) in
      sym one ∙ so_far

  -- one item was refused
  pub list_ends : (read : Reading E) (fault : CborFault) (front : List E) (count i : ℕ) (bytes : List ℕ) (total : Option (List E × List ℕ)) → i < count → Refuses fault (read bytes)
      → with_front front (list_at read (count - i) bytes) ≡ total → Refuses fault total
  unfolding list_at
  list_ends read faults.OutOfMemory front count i bytes total lt h so_far = tt
  list_ends read faults.Malformed front count i bytes total lt h so_far =
      let c : count - i ≡ suc (count - (i + 1)) = omega arith in
      let one : with_front front (list_at read (count - i) bytes) ≡ None = rw (c, h) refl in
      sym so_far ∙ one

  -- all items were read
  pub list_done : (read : Reading E) (front : List E) (count i : ℕ) (bytes : List ℕ) (total : Option (List E × List ℕ)) → count ≤ i → with_front front (list_at read (count - i) bytes) ≡ total → total ≡ Some (front, bytes)
  unfolding list_at
  list_done read front count i bytes total le so_far =
      let c : count - i ≡ 0 = omega arith in
      let one : with_front front (list_at read (count - i) bytes) ≡ Some (front, bytes) = rw c (ap (λ (es : List E). Some (es, bytes)) (append-nil front)) in
      sym so_far ∙ one

  -- one entry was read
  pub entries_go_on : (entry : EntryReading E) (front : List E) (before : List ℕ) (count i : ℕ) (bytes : List ℕ) (e : E) (text after : List ℕ) (total : Option (List E × List ℕ)) → i < count → entry before bytes ≡ Some (e, text, after)
      → with_front front (entries_at entry before (count - i) bytes) ≡ total → with_front (front ++ e ∷ []) (entries_at entry text (count - (i + 1)) after) ≡ total
  unfolding entries_at
  entries_go_on entry front before count i bytes e text after total lt h so_far =
      let c : count - i ≡ suc (count - (i + 1)) = omega arith in
      let one : with_front front (entries_at entry before (count - i) bytes) ≡ with_front (front ++ e ∷ []) (entries_at entry text (count - (i + 1)) after) = rw (c, h) (regroup front e (entries_at entry text (count - (i + 1)) after)) in
      sym one ∙ so_far

  -- one entry was refused
  pub entries_end : (entry : EntryReading E) (fault : CborFault) (front : List E) (before : List ℕ) (count i : ℕ) (bytes : List ℕ) (total : Option (List E × List ℕ)) → i < count → Refuses fault (entry before bytes)
      → with_front front (entries_at entry before (count - i) bytes) ≡ total → Refuses fault total
  unfolding entries_at
  entries_end entry faults.OutOfMemory front before count i bytes total lt h so_far = tt
  entries_end entry faults.Malformed front before count i bytes total lt h so_far =
      let c : count - i ≡ suc (count - (i + 1)) = omega arith in
      let one : with_front front (entries_at entry before (count - i) bytes) ≡ None = rw (c, h) refl in
      sym so_far ∙ one

  -- all entries were read
  pub entries_done : (entry : EntryReading E) (front : List E) (before : List ℕ) (count i : ℕ) (bytes : List ℕ) (total : Option (List E × List ℕ)) → count ≤ i → with_front front (entries_at entry before (count - i) bytes) ≡ total → total ≡ Some (front, bytes)
  unfolding entries_at
  entries_done entry front before count i bytes total le so_far =
      let c : count - i ≡ 0 = omega arith in
      let one : with_front front (entries_at entry before (count - i) bytes) ≡ Some (front, bytes) = rw c (ap (λ (es : List E). Some (es, bytes)) (append-nil front)) in
      sym so_far ∙ one

-- ---- arrays that count none, and arrays that count some

-- a list of some items is not empty
listed : {A : Type 0} (read : Reading A) (count : ℕ) (bytes rest : List ℕ) → count ≢ 0 → list_at read count bytes ≡ Some ([], rest) → ⊥
unfolding list_at
listed read zero bytes rest some e = some refl
listed {A} read (suc count) bytes rest some e =
    let a = bind_some (read bytes) _ ([], rest) e in
    let b = bind_some (list_at read count a.0.1) _ ([], rest) a.2 in
    let same = ap (λ (x : List A × List ℕ). x.0) (some_is (a.0.0 ∷ b.0.0, b.0.1) ([], rest) b.2) in
    absurd cc

module _ {A : Type 0} (read : Reading A) (bytes : List ℕ) (count : ℕ) (first : List ℕ) (counts : head_at 4 bytes ≡ Some (count, first)) where
  -- an array that counts some has some
  pub some_in_array : (rest : List ℕ) → count ≢ 0 → list_array_at read bytes ≡ Some ([], rest) → ⊥
  unfolding list_array_at
  some_in_array rest some e = listed read count first rest some (sym (rw counts refl) ∙ e)

  -- an array that counts none has none
  pub none_in_array : count ≡ 0 → list_array_at read bytes ≡ Some ([], first)
  unfolding list_array_at list_at
  none_in_array none = rw (counts, none) refl
