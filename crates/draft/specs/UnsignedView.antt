-- Which parts a transaction has whose identifier is to be signed, and which of a draft's they are.
use Rattle.std.specs.Prelude.{◌≡◌, List, [], map, unwrap_or}
use Rattle.model.specs.Script.{Script}
use Rattle.model.specs.Transaction.{KeyWitness, Transaction}
use Rattle.timelock.specs.View.{interval_of}
use Rattle.tx.specs.Parts.{Parts}
use Rattle.tx.specs.View.{input_of, output_of}
use Rattle.value.specs.Parts.{IsMintOf}
use Rattle.value.specs.View.{asset_of}
use Rattle.draft.specs.declared.draft.Draft.{Draft}
use Rattle.draft.specs.declared.unsigned.Unsigned.{Unsigned}

-- those that are there, with signatures and scripts
abbrev pub parts_of_unsigned : Unsigned → List KeyWitness → List Script → Parts
parts_of_unsigned u signatures scripts =
    record {
      inputs = map input_of u.inputs.items;
      outputs = map output_of u.outputs.items;
      fee = u.fee;
      interval = interval_of u.interval;
      mint = u.mint;
      signatures = signatures;
      scripts = scripts;
    }

-- those of the draft of the code, beside who signs and the scripts
pub record AreBesideWitnesses {K : Type 0} (code : Draft K) (u : Unsigned) : Type 0 where
  pub inputs : u.inputs.items ≡ code.inputs.items.items
  pub outputs : map output_of u.outputs.items ≡ map output_of code.outputs.items
  pub fee : u.fee ≡ unwrap_or code.fee 0
  pub interval : interval_of u.interval ≡ record { start = code.start; end = code.end }
  pub mint : IsMintOf u.mint (map asset_of code.mint.items.items)

-- nobody signed the transaction, and no script is supplied
pub record HasNoWitnesses (tx : Transaction) : Type 0 where
  pub signatures : tx.signatures ≡ []
  pub scripts : tx.scripts ≡ []
