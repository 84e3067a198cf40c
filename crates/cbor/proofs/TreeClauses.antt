-- What reading and decoding promise, from the reading that they compute.
use Rattle.std.proofs.Common.{◌≡◌, ℕ, ◌≤◌, List, [], ◌++◌, length, take, drop, Some, None, sym, ap, subst, ◌∙◌, append-nil, arith}
use Rattle.std.proofs.lemmas.List.{take-append-drop, length-drop, take_all}
use Rattle.model.specs.Cbor.{Item, text_of, HasText, Spells}
use Rattle.model.proofs.ItemTexts.{items_apart}
use Rattle.cbor.specs.declared.fault.CborFault.{CborFault}
use Rattle.cbor.specs.declared.fault.CborFault.TheVariants as faults
use Rattle.cbor.specs.ItemReading.{item_at}
use Rattle.cbor.specs.Gives.{Refuses, IfMalformed}
use Rattle.cbor.specs.Reading.{front}
use Rattle.cbor.proofs.Steps.{IsBytes}
use Rattle.cbor.proofs.ItemLaws.{IsItem, front_is, item_reads}

has_text_is : (item : Item) → HasText item → IsItem 64 item
has_text_is item p = record { in_range = p.in_range; rising = p.rising; nests = p.nests }

-- what was read is an item's text
pub front_spells : (bytes : List ℕ) (item : Item) (rest : List ℕ) → IsBytes bytes → item_at 64 bytes ≡ Some (item, rest) → Spells item (front bytes rest)
front_spells bytes item rest fits e =
    let t = (item_reads 64).takes bytes item rest fits e in
    let p = t.1 in
    record { has_text = record { in_range = p.in_range; rising = p.rising; nests = p.nests }; spelled = front_is bytes (text_of item) rest t.0 }

-- where nothing is read the bytes begin with no item's text
no_item : (bytes : List ℕ) → item_at 64 bytes ≡ None → (item : Item) (n : ℕ) → Spells item (take n bytes) → ⊥
no_item bytes e item n s =
    let again = (item_reads 64).again item (drop n bytes) (has_text_is item s.has_text) in
    let whole : bytes ≡ text_of item ++ drop n bytes = sym (take-append-drop n bytes) ∙ ap (λ (t : List ℕ). t ++ drop n bytes) s.spelled in
    cc

-- the same of what the program refused
pub refused : (fault : CborFault) (bytes : List ℕ) → Refuses fault (item_at 64 bytes) → IfMalformed fault ((item : Item) (n : ℕ) → Spells item (take n bytes) → ⊥)
refused faults.Malformed bytes e = no_item bytes e
refused faults.OutOfMemory bytes e = tt

-- bytes that begin with no item's text are none
pub refused_whole : (fault : CborFault) (bytes : List ℕ) → IfMalformed fault ((item : Item) (n : ℕ) → Spells item (take n bytes) → ⊥) → IfMalformed fault ((item : Item) → Spells item bytes → ⊥)
refused_whole faults.Malformed bytes h = λ item s. h item (length bytes) (subst (Spells item) (sym (take_all (length bytes) bytes (omega arith))) s)
refused_whole faults.OutOfMemory bytes h = tt

-- bytes of which only the front is an item's text are none
pub more_follows : (bytes : List ℕ) (found : Item) (n : ℕ) → n ≤ length bytes → (n ≡ length bytes → ⊥) → Spells found (take n bytes) → (item : Item) → Spells item bytes → ⊥
more_follows bytes found n le ne s item t =
    let texts : text_of item ++ [] ≡ text_of found ++ drop n bytes = append-nil (text_of item) ∙ sym t.spelled ∙ sym (take-append-drop n bytes) ∙ ap (λ (x : List ℕ). x ++ drop n bytes) s.spelled in
    let nothing = (items_apart item found [] (drop n bytes) t.has_text s.has_text texts).1 in
    ne (omega (arith, ap length nothing, length-drop n bytes))
