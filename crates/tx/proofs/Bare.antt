-- Where nothing is spent, made, minted or shown the reading of a transaction asks for no memory.
use Rattle.std.proofs.Common.{◌≡◌, ℕ, List, [], Some, Result, IfErr}
use Rattle.cbor.specs.declared.fault.CborFault.{CborFault}
use Rattle.cbor.specs.Gives.{IfWant, GivesNo}
use Rattle.cbor.specs.Shapes.{key_at, optional_field_at}
use Rattle.cbor.proofs.ForCallers.{wants_anyway, no_as_fields, no_optional_field, no_such, no_empty}
use Rattle.value.specs.Reading.{mint_at}
use Rattle.tx.specs.BodyReading.{or_nothing, minted_field_at}
use Rattle.tx.specs.TransactionReading.{or_none, signatures_field_at, scripts_field_at, scripts_at}
use Rattle.tx.specs.Reading.{signatures_at}

-- what is minted is not nothing
pub minted_wants : {T : Type 0} (r : Result T CborFault) (left : ℕ) (bytes : List ℕ) (n : ℕ) (text : List ℕ) → key_at 9 left bytes ≡ Some (n, text) → IfErr r (λ fault. IfWant fault (GivesNo (λ x. x.0 ≡ []) (minted_field_at left bytes)))
unfolding minted_field_at
minted_wants r left bytes n text key =
    wants_anyway r (GivesNo (λ x. x.0 ≡ []) (minted_field_at left bytes))
    (no_as_fields or_nothing (optional_field_at 9 mint_at) (λ x. x.0 ≡ []) left bytes (no_optional_field 9 mint_at (λ mint. or_nothing mint ≡ []) left bytes n text key (no_empty _ text)))

-- nor are signatures and scripts, where their entries are there
pub signatures_want : {T : Type 0} (r : Result T CborFault) (left : ℕ) (bytes : List ℕ) (n : ℕ) (text : List ℕ) → key_at 0 left bytes ≡ Some (n, text) → IfErr r (λ fault. IfWant fault (GivesNo (λ x. x.0 ≡ []) (signatures_field_at left bytes)))
unfolding signatures_field_at signatures_at
signatures_want r left bytes n text key =
    wants_anyway r (GivesNo (λ x. x.0 ≡ []) (signatures_field_at left bytes))
    (no_as_fields or_none (optional_field_at 0 signatures_at) (λ x. x.0 ≡ []) left bytes (no_optional_field 0 signatures_at (λ xs. or_none xs ≡ []) left bytes n text key (no_such _ _ (λ xs. xs ≡ []) text (no_empty _ text))))

pub scripts_want : {T : Type 0} (r : Result T CborFault) (depth left : ℕ) (bytes : List ℕ) (n : ℕ) (text : List ℕ) → key_at 1 left bytes ≡ Some (n, text) → IfErr r (λ fault. IfWant fault (GivesNo (λ x. x.0 ≡ []) (scripts_field_at depth left bytes)))
unfolding scripts_field_at scripts_at
scripts_want r depth left bytes n text key =
    wants_anyway r (GivesNo (λ x. x.0 ≡ []) (scripts_field_at depth left bytes))
    (no_as_fields or_none (optional_field_at 1 (scripts_at depth)) (λ x. x.0 ≡ []) left bytes (no_optional_field 1 (scripts_at depth) (λ xs. or_none xs ≡ []) left bytes n text key (no_such _ _ (λ xs. xs ≡ []) text (no_empty _ text))))
