-- Unspent outputs one after the other, and those of one address.
use Rattle.std.specs.Borrow.{Bor}
use Rattle.std.specs.Prelude.{ℕ, Bool, List, filter, bytes_eq}
use Rattle.model.specs.Transaction.{Input, Output, Address, address_bytes}
use Rattle.tx.specs.View.{input_of, output_of}
use Rattle.tx.specs.declared.input.Input.{Input as CodeInput}
use Rattle.tx.specs.declared.output.Output.{Output as CodeOutput}

-- an input and the output that it would spend
abbrev pub pair_of : CodeInput × Bor CodeOutput → Input × Output
pair_of entry = (input_of entry.0, output_of entry.1.now)

-- the output's address has these bytes
abbrev pub has_address : List ℕ → Input × Output → Bool
has_address bytes pair = bytes_eq (address_bytes pair.1.address) bytes

-- the pairs of which the output's address has these bytes, in their order
abbrev pub pairs_with : List ℕ → List (Input × Output) → List (Input × Output)
pairs_with bytes pairs = filter (has_address bytes) pairs

-- the pairs of which the output has this address, in their order
abbrev pub pairs_of : Address → List (Input × Output) → List (Input × Output)
pairs_of address pairs = pairs_with (address_bytes address) pairs
