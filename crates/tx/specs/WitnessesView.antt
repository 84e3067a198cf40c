-- What a witness set of the code stands for, and its entries.
use Rattle.std.specs.Prelude.{List, map, ◌++◌}
use Rattle.model.specs.Cbor.{Item, array_of}
use Rattle.model.specs.Script.{Script, item_of_script}
use Rattle.model.specs.Transaction.{KeyWitness, item_of_witness, unless_empty}
use Rattle.tx.specs.View.{witness_of}
use Rattle.tx.specs.declared.witnesses.Witnesses.{Witnesses as CodeWitnesses}

-- signatures and scripts
abbrev pub witnesses_of : CodeWitnesses → List KeyWitness × List Script
witnesses_of w = (map witness_of w.signatures.items, w.scripts.items)

-- the array of the signatures
abbrev pub signatures_item : List KeyWitness → Item
signatures_item signatures = array_of (map item_of_witness signatures)

-- the array of the scripts
abbrev pub scripts_item : List Script → Item
scripts_item scripts = array_of (map item_of_script scripts)

-- the entries of a witness set
abbrev pub witness_entries : List KeyWitness × List Script → List (Item × Item)
witness_entries w = unless_empty 0 signatures_item w.0 ++ unless_empty 1 scripts_item w.1
