-- The digits of an address: a text is read as the address that it spells, and an address spells what it is written as.
use Rattle.std.proofs.Common.{◌≡◌, ℕ, zero, suc, ◌+◌, ◌/◌, ◌%◌, ◌<◌, ◌≤◌, Bool, true, false, cond, eqb, List, [], length, Option, Some, None, Result, Ok, Err, refl, sym, ap, ◌∙◌, arith, inl, inr}
use Rattle.std.specs.Prelude.{◌⊎◌, IfOk, IfErr}
use Rattle.std.specs.Result.{result_unwrap_or}
use Rattle.std.proofs.lemmas.Bool.{eqb-true, eqb-false}
use Rattle.hex.specs.Hex.{IsBytes, decode_of, decode_pairs}
use Rattle.hex.specs.declared.error.FromHexError.{FromHexError}
use Rattle.hex.specs.declared.error.FromHexError.TheVariants as hex
use Rattle.hex.proofs.HexLemmas.{decode_of-even, decode_of-ok, decode_of-encode_lower, decode_pairs-ok}
use Rattle.model.specs.Transaction.{Address, address_bytes, payment_bytes, payment_hash}
use Rattle.ident.specs.Bytes.{seen}
use Rattle.tx.specs.Reading.{address_of_bytes}
use Rattle.tx.specs.AddressText.{address_text, SpellsAddress, from_pairs, bytes_of_text, address_or_fault, address_with, address_of_text}
use Rattle.tx.specs.View.{address_of, credential_of}
use Rattle.tx.specs.declared.address_fault.AddressFault.{AddressFault}
use Rattle.tx.specs.declared.address.Credential.{Credential as CodeCredential}
use Rattle.tx.specs.declared.address.Credential.TheVariants.{Key, Script}
use Rattle.tx.specs.declared.address.Address.{Address as CodeAddress}
use Rattle.tx.proofs.AddressTexts.{address_read, address_again, address_length}

-- which side of an `if` was taken
chosen : {A : Type 0} (b : Bool) (x y z : A) → cond b x y ≡ z → ((b ≡ true) × (x ≡ z)) ⊎ ((b ≡ false) × (y ≡ z))
chosen true x y z e = inl (refl, e)
chosen false x y z e = inr (refl, e)

-- ---- what was read is spelled

abbrev bytes_ok : List ℕ → Result (List ℕ) AddressFault
bytes_ok bytes = Ok bytes

same_bytes : (x y : List ℕ) → bytes_ok x ≡ bytes_ok y → x ≡ y
same_bytes x y e = ap (λ (r : Result (List ℕ) AddressFault). result_unwrap_or r []) e

of_pairs : (pairs : Result (List ℕ) FromHexError) (bytes : List ℕ) → from_pairs pairs ≡ Ok bytes → pairs ≡ Ok bytes
of_pairs (Ok read) bytes e = ap Ok (same_bytes read bytes e)
of_pairs (Err (hex.InvalidHexCharacter character index)) bytes e = cc e
of_pairs (Err hex.OddLength) bytes e = cc e
of_pairs (Err hex.InvalidStringLength) bytes e = cc e
of_pairs (Err hex.OutOfMemory) bytes e = cc e

bytes_read : (text bytes : List ℕ) → bytes_of_text text ≡ Ok bytes → (decode_of text ≡ Ok bytes) × (length bytes ≡ 33)
bytes_read text bytes e =
    elim (chosen (eqb (length text % 2) 1) _ _ _ e) [
      | inl odd ↦ cc odd.1
      | inr even ↦ elim (chosen (eqb (length text / 2) 33) _ _ _ even.1) [
        | inl right ↦
            let pairs : decode_pairs 0 text ≡ Ok bytes = of_pairs (decode_pairs 0 text) bytes right.1 in
            let no_odd = eqb-false _ _ even.0 in
            let is_even : length text % 2 ≡ 0 = omega arith in
            let half : length text / 2 ≡ 33 = eqb-true _ _ right.0 in
            let long = (decode_pairs-ok 0 text bytes pairs).1 in
            (decode_of-even text is_even ∙ pairs, omega (arith, half, long))
        | inr wrong ↦ cc wrong.1
      ]
    ]

made : (found : Option Address) (address : Address) → address_or_fault found ≡ Ok address → found ≡ Some address
made (Some x) address e = cc e
made None address e = cc e

spelled_by : (read : Result (List ℕ) AddressFault) (text : List ℕ) (address : Address) → bytes_of_text text ≡ read → address_with read ≡ Ok address → SpellsAddress address text
spelled_by (Ok bytes) text address is e =
    let found = bytes_read text bytes is in
    let same = address_read bytes address found.1 (made (address_of_bytes bytes) address e) in
    record { is_address = same.1; digits = found.0 ∙ ap Ok (sym same.0) }
spelled_by (Err fault) text address is e = cc e

-- the address that was read is spelled
pub spelled : (text : List ℕ) (address : Address) → address_of_text text ≡ Ok address → SpellsAddress address text
spelled text address e = spelled_by (bytes_of_text text) text address refl e

-- ---- what is spelled is read

bytes_again : (text bytes : List ℕ) → decode_of text ≡ Ok bytes → length bytes ≡ 33 → bytes_of_text text ≡ Ok bytes
bytes_again text bytes e len =
    let ok = decode_of-ok text bytes e in
    let even : length text % 2 ≡ 0 = ok.0 in
    let long = ok.2 in
    let half : length text / 2 ≡ 33 = omega (arith, long, len) in
    let pairs : decode_pairs 0 text ≡ Ok bytes = sym (decode_of-even text even) ∙ e in
    rw (even, half, pairs) refl

-- the address that is spelled is read
pub read_as : (text : List ℕ) (address : Address) → SpellsAddress address text → address_of_text text ≡ Ok address
read_as text address spells =
    ap address_with (bytes_again text (address_bytes address) spells.digits (address_length address spells.is_address))
    ∙ ap address_or_fault (address_again address spells.is_address)

-- what is refused spells nothing
pub spells_none : (text : List ℕ) (fault : AddressFault) → address_of_text text ≡ Err fault → (address : Address) → SpellsAddress address text → ⊥
spells_none text fault e address spells = cc (sym e ∙ read_as text address spells)

-- ---- what an address is written as

-- the bytes of an address of the code are bytes
first_byte : (kind network : ℕ) → kind ≤ 112 → network < 16 → kind + network < 256
first_byte kind network k n = omega arith

bytes_of_payment : (network : ℕ) (payment : CodeCredential) → network < 16 → IsBytes (payment_bytes network (credential_of payment))
bytes_of_payment network (Key hash) lt zero = first_byte 96 network (omega arith) lt
bytes_of_payment network (Key hash) lt (suc i) = hash.fits i
bytes_of_payment network (Script hash) lt zero = first_byte 112 network (omega arith) lt
bytes_of_payment network (Script hash) lt (suc i) = hash.fits i

hash_length : (payment : CodeCredential) → length (payment_hash (credential_of payment)) ≡ 32
hash_length (Key hash) = hash.sized
hash_length (Script hash) = hash.sized

-- an address spells what it is written as
pub spells_itself : (a : CodeAddress) → SpellsAddress (address_of a) (address_text (address_of a))
spells_itself a = record {
  is_address = record { network = a.in_range; hash = hash_length a.payment };
  digits = decode_of-encode_lower (address_bytes (address_of a)) (bytes_of_payment a.network a.payment a.in_range);
}

-- ---- an answer of the code

-- where it is an address, that is spelled
pub spelled_if_ok : (text : List ℕ) (r : Result CodeAddress AddressFault) → seen address_of r ≡ address_of_text text → IfOk r (λ a. SpellsAddress (address_of a) text)
spelled_if_ok text (Ok a) e = spelled text (address_of a) (sym e)
spelled_if_ok text (Err fault) e = tt

-- where it is a fault, none is
pub none_if_err : (text : List ℕ) (r : Result CodeAddress AddressFault) → seen address_of r ≡ address_of_text text → IfErr r (λ _. (address : Address) → SpellsAddress address text → ⊥)
none_if_err text (Ok a) e = tt
none_if_err text (Err fault) e = spells_none text fault (sym e)
