-- What a detail of the code stands for, and what is found where a reason is looked into.
use Rattle.std.specs.Prelude.{◌≡◌, ℕ, Bool, true, List, Option, Some, None}
use Rattle.std.specs.List.{list_all}
use Rattle.model.specs.Value.{Asset, Ada, Named}
use Rattle.model.specs.Transaction.{Transaction}
use Rattle.model.specs.Signature.{Verifies}
use Rattle.model.specs.Utxo.{Utxo}
use Rattle.model.specs.Rules.{Params, Reason, passes}
use Rattle.ident.specs.Kinds.{ScriptHash}
use Rattle.tx.specs.View.{input_of}
use Rattle.model.specs.Explaining.{Detail, OutsideInterval, NoInputs, TooBig, FeeTooSmall, MissingInput}
use Rattle.model.specs.Explaining.{OutputTooSmall, WrongNetwork, NotBalanced, OutputExists, BadSignature}
use Rattle.model.specs.Explaining.{MissingKeyWitness, MissingScript, ExtraScript, ScriptFails}
use Rattle.model.specs.Explaining.{reason_of_detail, SaysSo, IsFirstFailing}
use Rattle.utxo_rules.specs.declared.detail.AssetId.{AssetId}
use Rattle.utxo_rules.specs.declared.detail.Detail.{Detail as CodeDetail}
use Rattle.utxo_rules.specs.declared.detail.Detail.TheVariants as code

-- ada, or what a policy has under a name
abbrev pub asset_of : Option AssetId → Asset
asset_of None = Ada
asset_of (Some a) = Named a.policy.bytes a.name.items

-- the 32 bytes of a script's hash
abbrev pub hash_bytes : ScriptHash → List ℕ
hash_bytes hash = hash.bytes

abbrev pub detail_of : CodeDetail → Detail
detail_of (code.OutsideInterval slot start end) = OutsideInterval slot start end
detail_of code.NoInputs = NoInputs
detail_of (code.TooBig size most) = TooBig size most
detail_of (code.FeeTooSmall fee least) = FeeTooSmall fee least
detail_of (code.MissingInput input) = MissingInput (input_of input)
detail_of (code.OutputTooSmall index coin least) = OutputTooSmall index coin least
detail_of (code.WrongNetwork index) = WrongNetwork index
detail_of (code.NotBalanced asset sum_in sum_out) = NotBalanced (asset_of asset) sum_in sum_out
detail_of (code.OutputExists index) = OutputExists index
detail_of (code.BadSignature key) = BadSignature key
detail_of (code.MissingKeyWitness hash) = MissingKeyWitness hash.bytes
detail_of (code.MissingScript hash) = MissingScript hash.bytes
detail_of (code.ExtraScript hash) = ExtraScript hash.bytes
detail_of (code.ScriptFails hash) = ScriptFails hash.bytes

-- the first that fails the test is found, and none only where all pass
abbrev pub FindsFirst : {X : Type 0} → (X → Bool) → List X → Option X → Type 0
FindsFirst test xs None = list_all test xs ≡ true
FindsFirst test xs (Some x) = IsFirstFailing test xs x

-- a detail of this reason is found, and what it names is so; none is found only where the reason's condition holds
abbrev pub FindsDetail : Verifies → Params → Utxo → (slot : ℕ) → Transaction → Reason → Option Detail → Type 0
FindsDetail verifies params utxo slot t reason None = passes verifies params utxo slot t reason ≡ true
FindsDetail verifies params utxo slot t reason (Some detail) =
    (reason_of_detail detail ≡ reason) × SaysSo verifies params utxo slot t detail
