-- The lines of a transaction, in the order of its text.
use Rattle.std.specs.Prelude.{ℕ, ◌+◌, Bool, if◌then◌else◌, List, [], ◌∷◌, ◌++◌, Option, Some, None, codes, decimal}
use Rattle.std.specs.Prelude.{flat_map}
use Rattle.hex.specs.Hex.{encode_lower}
use Rattle.model.specs.Signature.{Verifies}
use Rattle.model.specs.Script.{Interval}
use Rattle.model.specs.Transaction.{Credential, KeyHash, ScriptHash, Address, Input, Output, KeyWitness, Transaction}
use Rattle.model.specs.Transaction.{interval_of_transaction, size_of, transaction_id_of}
use Rattle.model.specs.Rules.{scripts_hold}
use Rattle.showing.specs.Lines.{inner_margin, number_line, bytes_line, verdict_line}
use Rattle.showing.specs.Values.{lines_of_assets, lines_of_value}
use Rattle.showing.specs.Scripts.{lines_of_script}

-- ---- what is spent and left

-- an input: the transaction whose output it spends, and the place of that
abbrev pub input_line : (margin : List ℕ) → Input → List ℕ
input_line margin input =
    margin ++ (codes "input " ++ (encode_lower input.transaction ++ (codes "#" ++ (decimal input.index ++ 10 ∷ []))))

-- an address: whether a key or a script unlocks it, its network, and the hash of that key or script
abbrev pub payment_line : (margin : List ℕ) → (network : ℕ) → Credential → List ℕ
payment_line margin network (KeyHash hash) =
    margin ++ (codes "address key " ++ (decimal network ++ (codes " " ++ (encode_lower hash ++ 10 ∷ []))))
payment_line margin network (ScriptHash hash) =
    margin ++ (codes "address script " ++ (decimal network ++ (codes " " ++ (encode_lower hash ++ 10 ∷ []))))

abbrev pub address_line : (margin : List ℕ) → Address → List ℕ
address_line margin address = payment_line margin address.network address.payment

-- an output: its place, and indented under it its address and its value
abbrev pub lines_of_output : (margin : List ℕ) → (place : ℕ) → Output → List ℕ
lines_of_output margin place output =
    number_line margin (codes "output") place
    ++ (address_line (inner_margin margin) output.address ++ lines_of_value (inner_margin margin) output.value)

-- outputs, whose places are counted from this one on
abbrev pub lines_of_outputs : (margin : List ℕ) → (place : ℕ) → List Output → List ℕ
lines_of_outputs margin place [] = []
lines_of_outputs margin place (o ∷ os) = lines_of_output margin place o ++ lines_of_outputs margin (place + 1) os

-- ---- when it holds

-- a slot, where one is given
abbrev pub slot_line : (margin word : List ℕ) → Option ℕ → List ℕ
slot_line margin word None = []
slot_line margin word (Some slot) = number_line margin word slot

-- the slot before which it holds, and the one from which on it does
abbrev pub lines_of_interval : (margin : List ℕ) → Interval → List ℕ
lines_of_interval margin interval =
    slot_line margin (codes "end") interval.end ++ slot_line margin (codes "start") interval.start

-- ---- body and witness set

abbrev pub lines_of_body : (margin : List ℕ) → Transaction → List ℕ
lines_of_body margin t =
    flat_map (input_line margin) t.inputs
    ++ (lines_of_outputs margin 0 t.outputs
    ++ (number_line margin (codes "fee") t.fee
    ++ (lines_of_interval margin (interval_of_transaction t)
    ++ lines_of_assets (λ quantity. quantity) margin (codes "mint") t.mint)))

-- a key that signed, and whether the signature is good
abbrev pub judged_line : (margin key : List ℕ) → Bool → List ℕ
judged_line margin key good =
    margin ++ (codes "signature " ++ (encode_lower key ++ (if good then codes " good\n" else codes " bad\n")))

-- a signature of this message, which is judged by the scheme
abbrev pub signature_line : Verifies → (margin message : List ℕ) → KeyWitness → List ℕ
signature_line verifies margin message witness =
    judged_line margin witness.key (verifies witness.key message witness.signature)

-- the signatures of the identifier, and whether each is good, and the scripts and whether all of them hold
abbrev pub lines_of_witnesses : Verifies → (margin : List ℕ) → Transaction → List ℕ
lines_of_witnesses verifies margin t =
    flat_map (signature_line verifies margin (transaction_id_of t)) t.signatures
    ++ (flat_map (lines_of_script margin) t.scripts
    ++ verdict_line margin (codes "scripts hold") (codes "scripts fail") (scripts_hold t))

-- THE LINES OF A TRANSACTION: its identifier, its size in bytes, its body and its witness set
abbrev pub lines_of_transaction : Verifies → (margin : List ℕ) → Transaction → List ℕ
lines_of_transaction verifies margin t =
    bytes_line margin (codes "transaction") (transaction_id_of t)
    ++ (number_line margin (codes "size") (size_of t)
    ++ (lines_of_body margin t ++ lines_of_witnesses verifies margin t))
