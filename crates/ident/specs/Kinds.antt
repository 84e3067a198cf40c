-- The identifiers of each kind, as definitions and proofs name them.
use Rattle.ident.specs.declared.id.Id.{Id}
use Rattle.ident.specs.declared.id.BlockKind.{BlockKind}
use Rattle.ident.specs.declared.id.BodyKind.{BodyKind}
use Rattle.ident.specs.declared.id.KeyKind.{KeyKind}
use Rattle.ident.specs.declared.id.ScriptKind.{ScriptKind}
use Rattle.ident.specs.declared.id.TxKind.{TxKind}

abbrev pub BlockHash : Type 0
BlockHash = Id BlockKind

abbrev pub BodyHash : Type 0
BodyHash = Id BodyKind

abbrev pub KeyHash : Type 0
KeyHash = Id KeyKind

abbrev pub ScriptHash : Type 0
ScriptHash = Id ScriptKind

abbrev pub TxId : Type 0
TxId = Id TxKind
