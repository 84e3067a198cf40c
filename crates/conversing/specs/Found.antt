-- What questions find, byte by byte.
use Rattle.std.specs.Prelude.{List, [], ◌∷◌, ◌++◌, ℕ, map, codes}
use Rattle.conversing.specs.declared.outcome.Reason.{Reason}
use Rattle.conversing.specs.declared.found.ToldAsset.{ToldAsset}
use Rattle.conversing.specs.declared.found.ToldOutput.{ToldOutput}
use Rattle.conversing.specs.declared.found.Standing.{Standing}
use Rattle.conversing.specs.declared.found.Standing.TheVariants as standings
use Rattle.conversing.specs.declared.found.Cause.{Cause}
use Rattle.conversing.specs.declared.found.Cause.TheVariants as causes
use Rattle.conversing.specs.declared.found.Found.{Found}
use Rattle.conversing.specs.declared.found.Found.TheVariants.{Acceptable, Unacceptable, Outputs, Block, NoBlock}
use Rattle.conversing.specs.declared.found.Found.TheVariants.{Transaction, Mempool, Why}
use Rattle.conversing.specs.Numbers.{number_text}
use Rattle.conversing.specs.Parts.{quoted, hex_text, block_text}

-- texts one behind the other, with this before the first and a comma before each other one
abbrev pub led : (first : List ℕ) → List (List ℕ) → List ℕ
led first [] = []
led first (t ∷ ts) = first ++ t ++ led (codes ",") ts

-- a JSON array
abbrev pub list_text : List (List ℕ) → List ℕ
list_text texts = codes "[" ++ led [] texts ++ codes "]"

-- the last members of an object: a reason's number, its name and its sentence
abbrev pub named_text : Reason → List ℕ
named_text reason =
    codes ",\"number\":" ++ number_text reason.number ++ codes ",\"name\":" ++ quoted reason.name.now
    ++ codes ",\"sentence\":" ++ quoted reason.sentence.now ++ codes "}"

-- ---- unspent outputs

abbrev pub asset_text : ToldAsset → List ℕ
asset_text asset =
    codes "{\"policy\":" ++ hex_text asset.policy ++ codes ",\"name\":" ++ hex_text asset.name.now
    ++ codes ",\"quantity\":" ++ number_text asset.quantity ++ codes "}"

abbrev pub assets_text : List ToldAsset → List ℕ
assets_text assets = list_text (map asset_text assets)

abbrev pub output_text : ToldOutput → List ℕ
output_text output =
    codes "{\"transaction\":" ++ hex_text output.transaction ++ codes ",\"index\":" ++ number_text output.index
    ++ codes ",\"address\":" ++ hex_text output.address.now ++ codes ",\"coin\":" ++ number_text output.coin
    ++ codes ",\"assets\":" ++ assets_text output.assets.now ++ codes "}"

abbrev pub outputs_text : List ToldOutput → List ℕ
outputs_text outputs = list_text (map output_text outputs)

-- ---- transactions

abbrev pub standing_text : Standing → List ℕ
standing_text (standings.Waits position) = codes "{\"waits\":" ++ number_text position ++ codes "}"
standing_text (standings.Block number index) =
    codes "{\"block\":" ++ number_text number ++ codes ",\"index\":" ++ number_text index ++ codes "}"
standing_text standings.Unknown = codes "null"

-- identifiers
abbrev pub ids_text : List (List ℕ) → List ℕ
ids_text ids = list_text (map hex_text ids)

-- ---- why a block isn't selected

abbrev pub hash_text : (head hash : List ℕ) → List ℕ
hash_text head hash = head ++ hex_text hash

abbrev pub refused_text : (hash : List ℕ) → (index : ℕ) → Reason → List ℕ
refused_text hash index reason =
    hash_text (codes "{\"why\":\"invalid\",\"hash\":") hash ++ codes ",\"index\":" ++ number_text index ++ named_text reason

abbrev pub cause_text : Cause → List ℕ
cause_text causes.Unknown = codes "{\"why\":\"unknown\"}"
cause_text causes.Selected = codes "{\"why\":\"selected\"}"
cause_text (causes.Waits hash) = hash_text (codes "{\"why\":\"waits\",\"hash\":") hash ++ codes "}"
cause_text (causes.Misfit hash) = hash_text (codes "{\"why\":\"misfit\",\"hash\":") hash ++ codes "}"
cause_text (causes.Invalid hash reason) = hash_text (codes "{\"why\":\"invalid\",\"hash\":") hash ++ named_text reason
cause_text (causes.InvalidTransaction hash index reason) = refused_text hash index reason
cause_text causes.NotLonger = codes "{\"why\":\"not longer\"}"

-- ---- all of them

-- WHAT A QUESTION FINDS
abbrev pub found_text : Found → List ℕ
found_text Acceptable = codes "{\"accepted\":true}"
found_text (Unacceptable reason) = codes "{\"accepted\":false" ++ named_text reason
found_text (Outputs outputs) = outputs_text outputs.now
found_text (Block block) = block_text block
found_text NoBlock = codes "null"
found_text (Transaction standing) = standing_text standing
found_text (Mempool ids) = ids_text ids.now
found_text (Why cause) = cause_text cause
