-- A transaction has at least as many bytes as it has inputs, and as it has outputs.
use Rattle.std.proofs.Common.{◌≡◌, ℕ, ◌≤◌, List, [], ◌∷◌, length, map, refl, sym, subst, arith}
use Rattle.model.specs.Cbor.{items_of, head}
use Rattle.model.specs.Transaction.{Input, Output, Transaction, item_of_input, item_of_output, item_of_transaction, size_of}
use Rattle.model.proofs.TextLengths.{item_length, items_length, length_of_text}

-- the head of an input's text, or of an output's, is one byte
one_byte : length (head 4 2) ≡ 1
unfolding head
one_byte = refl

-- so each of these texts has a byte at least
inputs_length : (inputs : List Input) → length inputs ≤ items_length (items_of (map item_of_input inputs))
inputs_length [] = omega arith
inputs_length (i ∷ is) = let rest = inputs_length is in omega (arith, rest, one_byte)

outputs_length : (outputs : List Output) → length outputs ≤ items_length (items_of (map item_of_output outputs))
outputs_length [] = omega arith
outputs_length (o ∷ os) = let rest = outputs_length os in omega (arith, rest, one_byte)

pub inputs_fit : (t : Transaction) → length t.inputs ≤ size_of t
unfolding size_of
inputs_fit t =
    let inputs = inputs_length t.inputs in
    let within : length t.inputs ≤ item_length (item_of_transaction t) = omega (arith, inputs) in
    subst (λ (n : ℕ). length t.inputs ≤ n) (sym (length_of_text (item_of_transaction t))) within

pub outputs_fit : (t : Transaction) → length t.outputs ≤ size_of t
unfolding size_of
outputs_fit t =
    let outputs = outputs_length t.outputs in
    let within : length t.outputs ≤ item_length (item_of_transaction t) = omega (arith, outputs) in
    subst (λ (n : ℕ). length t.outputs ≤ n) (sym (length_of_text (item_of_transaction t))) within
