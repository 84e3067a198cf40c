-- What a script of the program stands for, and what it keeps: that it has a text, and its hash.
use Rattle.std.specs.Prelude.{◌≡◌}
use Rattle.model.specs.Cbor.{HasText}
use Rattle.model.specs.Script.{Script, item_of_script, IsScript, script_hash_of}
use Rattle.timelock.specs.declared.script.Script.TheInside as script
use Rattle.timelock.specs.View.{timelock_of}

-- a script
abbrev pub script_of : script.Inside → Script
script_of s = timelock_of s.timelock

pub record IsHeldScript (s : script.Inside) : Type 0 where
  pub shape : IsScript (script_of s)
  pub has_text : HasText (item_of_script (script_of s))
  pub hash : s.hash.bytes ≡ script_hash_of (script_of s)
