-- What is told of the bytes of a genesis file.
use Rattle.std.specs.Prelude.{◌≡◌, List, ℕ, take, Option, Some, None, Ok, Err, string_bytes}
use Rattle.std.specs.Str.{IsUtf8}
use Rattle.toml.specs.Data.{Members}
use Rattle.toml.specs.Errors.{span_start}
use Rattle.toml.specs.declared.de.error.Error.{Error}
use Rattle.toml.specs.Parse.{parse_document}
use Rattle.model.specs.Genesis.{Genesis}
use Rattle.genesis.specs.declared.genesis_fault.GenesisFault.TheVariants as faults
use Rattle.genesis.specs.Judgement.{genesis_of}
use Rattle.hints.specs.GenesisSpots.{Spot, document_spot, fault_of}
use Rattle.hints.specs.Places.{place_after}
use Rattle.hints.specs.PlaceView.{place_of}
use Rattle.hints.specs.declared.genesis_hint.GenesisHint.{GenesisHint}
use Rattle.hints.specs.declared.genesis_hint.GenesisHint.TheVariants.{NotToml, Key}

-- they are no TOML; or they are a document, whose fault is about this key of this output, or of the document itself
abbrev pub Tells : List ℕ → GenesisHint → Type 0
Tells bytes (NotToml place why) = IsUtf8 bytes → genesis_of bytes ≡ Err faults.NotToml
Tells bytes (Key place output key trouble) =
    (document : Members) × (parse_document bytes ≡ Some document)
    × (document_spot document ≡ Some (record { output = output; key = string_bytes key; trouble = trouble }))
    × (genesis_of bytes ≡ Err (fault_of trouble))

-- it is told that the reader stopped where this error of its is
abbrev pub IsStop : List ℕ → Error → GenesisHint → Type 0
IsStop bytes error (NotToml place why) = place_of place ≡ place_after (take (span_start error) bytes)
IsStop bytes error (Key place output key trouble) = ⊥

-- this spot is told
abbrev pub IsOfSpot : Spot → GenesisHint → Type 0
IsOfSpot spot (NotToml place why) = ⊥
IsOfSpot spot (Key place output key trouble) =
    spot ≡ record { output = output; key = string_bytes key; trouble = trouble }

-- the same, and nothing is told of a genesis alone
abbrev pub TellsOrNot : List ℕ → Option GenesisHint → Type 0
TellsOrNot bytes None = (genesis : Genesis) × (genesis_of bytes ≡ Ok genesis)
TellsOrNot bytes (Some hint) = Tells bytes hint
