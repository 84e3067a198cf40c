-- Scripts without scripts of their own, whose reading asks for no memory, and what bytes begin with where it may.
use Rattle.std.specs.Prelude.{◌≡◌, ◌⊎◌, ℕ, List}
use Rattle.model.specs.Script.{Script, RequireSignature, RequireAllOf, RequireAnyOf, RequireMOf, RequireTimeStart}
use Rattle.model.specs.Script.{RequireTimeExpire, NoScripts}
use Rattle.cbor.specs.Bare.{BeginsWithHead}

-- no script stands in the script
abbrev pub IsBareScript : Script → Type 0
IsBareScript (RequireSignature hash) = Unit {0}
IsBareScript (RequireAllOf ss) = ss ≡ NoScripts
IsBareScript (RequireAnyOf ss) = ss ≡ NoScripts
IsBareScript (RequireMOf n ss) = ss ≡ NoScripts
IsBareScript (RequireTimeStart slot) = Unit {0}
IsBareScript (RequireTimeExpire slot) = Unit {0}

-- the bytes begin with the head of an array of two members, or of three, as each script does
abbrev pub BeginsLikeScript : List ℕ → Type 0
BeginsLikeScript bytes = BeginsWithHead 4 2 bytes ⊎ BeginsWithHead 4 3 bytes
