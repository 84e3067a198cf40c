-- What outputs that are read stand for, and what they keep.
use Rattle.std.specs.Prelude.{option_map}
use Rattle.std.specs.FinMap as finite
use Rattle.model.specs.Utxo.{Utxo}
use Rattle.tx.specs.View.{input_of}
use Rattle.snapshot.specs.Rising.{IsLast}
use Rattle.snapshot.specs.declared.outputs.Outputs.TheInside.{Inside}

abbrev pub outputs_in : Inside → Utxo
outputs_in o = o.utxo

-- the last input is known
abbrev pub KnowsLast : Inside → Type 0
KnowsLast o = IsLast (option_map input_of o.last) (finite.entries o.utxo)
