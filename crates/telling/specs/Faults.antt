-- Why nothing is told of bytes.
use Rattle.std.specs.Prelude.{◌≡◌, ◌≢◌, false, List, ℕ}
use Rattle.model.specs.Script as script
use Rattle.model.specs.Script.{SpellsScript}
use Rattle.model.specs.Transaction as transaction
use Rattle.model.specs.Transaction.{SpellsTransaction}
use Rattle.model.specs.Value as value
use Rattle.model.specs.Value.{SpellsValue}
use Rattle.block.specs.Read.{IsBadBytes}
use Rattle.block.specs.declared.fault.BadBytes.TheVariants as bad
use Rattle.telling.specs.declared.kind.Kind.{Kind}
use Rattle.telling.specs.declared.kind.Kind.TheVariants.{Transaction, Block, Script, Value}
use Rattle.telling.specs.Kinds.{has_identifier}
use Rattle.telling.specs.declared.fault.TellFault.{TellFault}
use Rattle.telling.specs.declared.fault.TellFault.TheVariants.{NoTransaction, MisreadBlock, NoBlock, NoScript}
use Rattle.telling.specs.declared.fault.TellFault.TheVariants.{NoValue, NoIdentifier, WriteFailed, OutOfMemory}
use Rattle.telling.specs.Misreadings.{IsMisreading}

-- What was asked for is a transaction, a native script or a value, and the bytes are the text of none, for this reason;
-- or a block, and they are the text of none, for this reason, or this is another reason, the first one, why they are no
-- block; or the identifier of what has none; or the writer failed, or memory ran out.
abbrev pub IsUntold : Kind → List ℕ → TellFault → Type 0
IsUntold kind bytes (NoTransaction why) =
    (kind ≡ Transaction) × ((t : transaction.Transaction) → SpellsTransaction t bytes → ⊥) × IsMisreading bytes why
IsUntold kind bytes (MisreadBlock why) = (kind ≡ Block) × IsBadBytes bytes bad.Malformed × IsMisreading bytes why
IsUntold kind bytes (NoBlock why) = (kind ≡ Block) × (why ≢ bad.Malformed) × IsBadBytes bytes why
IsUntold kind bytes (NoScript why) =
    (kind ≡ Script) × ((s : script.Script) → SpellsScript s bytes → ⊥) × IsMisreading bytes why
IsUntold kind bytes (NoValue why) =
    (kind ≡ Value) × ((v : value.Value) → SpellsValue v bytes → ⊥) × IsMisreading bytes why
IsUntold kind bytes NoIdentifier = has_identifier kind ≡ false
IsUntold kind bytes WriteFailed = Unit {0}
IsUntold kind bytes OutOfMemory = Unit {0}

-- it isn't what the bytes are
abbrev pub IsOutside : TellFault → Type 0
IsOutside fault = (kind : Kind) (bytes : List ℕ) → IsUntold kind bytes fault
