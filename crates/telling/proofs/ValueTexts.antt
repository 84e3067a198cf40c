-- A value that is all of the bytes.
use Rattle.std.proofs.Common.{◌≡◌, ℕ, List, [], ◌++◌, append-nil, sym, ap, subst, ◌∙◌}
use Rattle.model.specs.Value.{Value, SpellsValue}
use Rattle.model.proofs.ValueItems.{values_apart}
use Rattle.cbor.specs.Gives.{IfMalformed}
use Rattle.cbor.specs.Texts.{BeginsWithText}
use Rattle.cbor.specs.declared.fault.CborFault.{CborFault}
use Rattle.cbor.specs.declared.fault.CborFault.TheVariants as faults

-- bytes that begin with no value's text are none
pub whole_refused : (fault : CborFault) (bytes : List ℕ) → IfMalformed fault ((value : Value) (rest : List ℕ) → BeginsWithText (SpellsValue value) bytes rest → ⊥) → IfMalformed fault ((value : Value) → SpellsValue value bytes → ⊥)
whole_refused faults.Malformed bytes h = λ value p. h value [] (record { text = bytes; spelled = p; parts = sym (append-nil bytes) })
whole_refused faults.OutOfMemory bytes h = tt

-- bytes of which only the front is a value's text are none
pub more_follows : (bytes : List ℕ) (found : Value) (rest : List ℕ) → (rest ≡ [] → ⊥) → BeginsWithText (SpellsValue found) bytes rest → (value : Value) → SpellsValue value bytes → ⊥
more_follows bytes found rest some b value p = some (sym (values_apart value found bytes b.text [] rest p b.spelled (append-nil bytes ∙ b.parts)).1)

-- no bytes after it: the bytes are its text
pub all_of_it : (bytes : List ℕ) (found : Value) (rest : List ℕ) → rest ≡ [] → BeginsWithText (SpellsValue found) bytes rest → SpellsValue found bytes
all_of_it bytes found rest none b = subst (SpellsValue found) (sym (b.parts ∙ ap (λ (r : List ℕ). b.text ++ r) none ∙ append-nil b.text)) b.spelled
