-- The sentences in which a reason against a transaction is told, with what it is about.
use Rattle.std.specs.Prelude.{ℕ, List, ◌++◌, Option, Some, None, decimal, codes}
use Rattle.std.specs.Fmt.{signed_decimal}
use Rattle.hex.specs.Hex.{encode_lower}
use Rattle.model.specs.Value.{Asset, Ada, Named}
use Rattle.model.specs.Explaining.{Detail, OutsideInterval, NoInputs, TooBig, FeeTooSmall, MissingInput}
use Rattle.model.specs.Explaining.{OutputTooSmall, WrongNetwork, NotBalanced, OutputExists, BadSignature}
use Rattle.model.specs.Explaining.{MissingKeyWitness, MissingScript, ExtraScript, ScriptFails}
use Rattle.value.specs.Texts as value

-- the slots in which a transaction holds
abbrev pub interval_text : (start end : Option ℕ) → List ℕ
interval_text None None = codes "all slots"
interval_text None (Some end) = codes "before slot " ++ decimal end
interval_text (Some start) None = codes "from slot " ++ (decimal start ++ codes " on")
interval_text (Some start) (Some end) =
    codes "from slot " ++ (decimal start ++ (codes " on and before slot " ++ decimal end))

-- an asset: ada, or what a policy has under a name
abbrev pub asset_text : Asset → List ℕ
asset_text Ada = codes "ada"
asset_text (Named policy name) = value.asset_text policy name

-- SENTENCE OF A DETAIL (this project's own)
abbrev pub detail_text : Detail → List ℕ
detail_text (OutsideInterval slot start end) =
    codes "slot " ++ (decimal slot ++ (codes " is outside the transaction's interval, " ++ interval_text start end))
detail_text NoInputs = codes "no inputs"
detail_text (TooBig size most) = decimal size ++ (codes " bytes, where there may be " ++ decimal most)
detail_text (FeeTooSmall fee least) =
    codes "the fee is " ++ (decimal fee ++ (codes ", where the least is " ++ decimal least))
detail_text (MissingInput input) =
    codes "output " ++ (decimal input.index ++ (codes " of transaction " ++ (encode_lower input.transaction
    ++ codes " is not unspent")))
detail_text (OutputTooSmall index coin least) =
    codes "output " ++ (decimal index ++ (codes " holds " ++ (decimal coin ++ (codes ", where the least is "
    ++ decimal least))))
detail_text (WrongNetwork index) = codes "output " ++ (decimal index ++ codes " is of another network")
detail_text (NotBalanced asset sum_in sum_out) =
    codes "of " ++ (asset_text asset ++ (codes " " ++ (signed_decimal sum_in ++ (codes " are consumed and "
    ++ (signed_decimal sum_out ++ codes " are produced")))))
detail_text (OutputExists index) = codes "an output stands where output " ++ (decimal index ++ codes " would")
detail_text (BadSignature key) = codes "the signature by key " ++ (encode_lower key ++ codes " is not good")
detail_text (MissingKeyWitness hash) = codes "key " ++ (encode_lower hash ++ codes " has to sign and did not")
detail_text (MissingScript hash) = codes "script " ++ (encode_lower hash ++ codes " is needed and not supplied")
detail_text (ExtraScript hash) = codes "script " ++ (encode_lower hash ++ codes " is supplied and not needed")
detail_text (ScriptFails hash) = codes "script " ++ (encode_lower hash ++ codes " does not hold")
