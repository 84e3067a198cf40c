-- What making a script promises.
use Rattle.model.specs.Cbor.{HasText}
use Rattle.model.specs.Script.{Script, item_of_script}
use Rattle.timelock.specs.declared.fault.ScriptFault.{ScriptFault}
use Rattle.timelock.specs.declared.fault.ScriptFault.TheVariants as faults

-- no text is refused as too deep where there is one, and memory was asked for only where there is one
abbrev pub IsRefused : ScriptFault → Script → Type 0
IsRefused faults.TooDeep script = HasText (item_of_script script) → ⊥
IsRefused faults.OutOfMemory script = HasText (item_of_script script)
