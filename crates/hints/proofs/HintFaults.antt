-- What is told of a document is of the fault of its text.
use Rattle.std.proofs.Common.{◌≡◌, ℕ, List, Some, None, refl, sym, ap, ◌∙◌}
use Rattle.std.specs.Prelude.{Result, Ok, Err}
use Rattle.std.specs.Str.{IsUtf8}
use Rattle.toml.specs.Data.{Members}
use Rattle.toml.specs.Parse.{parse_document}
use Rattle.model.specs.Genesis.{Genesis}
use Rattle.genesis.specs.declared.genesis_fault.GenesisFault.{GenesisFault}
use Rattle.genesis.specs.declared.genesis_fault.GenesisFault.TheVariants as faults
use Rattle.genesis.specs.Judgement.{genesis_of}
use Rattle.toml.specs.declared.de.error.Error.{Error}
use Rattle.hints.specs.declared.genesis_hint.GenesisHint.{GenesisHint}
use Rattle.hints.specs.declared.genesis_hint.GenesisHint.TheVariants.{NotToml, Key}
use Rattle.hints.specs.GenesisSpots.{Spot, document_spot, fault_of, fault_or_genesis, TellsOf}
use Rattle.hints.specs.HintView.{IsStop, IsOfSpot, Tells}

of_told : (answer : Result Genesis GenesisFault) (spot : Spot) → TellsOf answer (Some spot) → answer ≡ Err (fault_of spot.trouble)
of_told (Ok genesis) spot tells = absurd tells
of_told (Err fault) spot tells = ap Err (sym tells)

of_untold : (answer : Result Genesis GenesisFault) → TellsOf answer None → (genesis : Genesis) × (answer ≡ Ok genesis)
of_untold (Ok genesis) tells = (genesis, refl)
of_untold (Err fault) tells = absurd tells

module _ (text : List ℕ) where
  of_document : (document : Members) → parse_document text ≡ Some document → genesis_of text ≡ fault_or_genesis document
  unfolding genesis_of
  of_document document parsed = rw parsed refl

  no_toml : parse_document text ≡ None → genesis_of text ≡ Err faults.NotToml
  unfolding genesis_of
  no_toml none = rw none refl

  told_fault : (document : Members) (spot : Spot) → parse_document text ≡ Some document → TellsOf (fault_or_genesis document) (Some spot) → genesis_of text ≡ Err (fault_of spot.trouble)
  told_fault document spot parsed tells = of_document document parsed ∙ of_told (fault_or_genesis document) spot tells

  pub untold_genesis : (document : Members) → parse_document text ≡ Some document → TellsOf (fault_or_genesis document) None → (genesis : Genesis) × (genesis_of text ≡ Ok genesis)
  untold_genesis document parsed tells =
      let (genesis, is) = of_untold (fault_or_genesis document) tells in
      (genesis, of_document document parsed ∙ is)

  -- a hint of a spot, and one of a text that is no TOML
  pub spot_tells : (document : Members) (spot : Spot) (hint : GenesisHint) → parse_document text ≡ Some document → document_spot document ≡ Some spot → TellsOf (fault_or_genesis document) (Some spot) → IsOfSpot spot hint → Tells text hint
  spot_tells document spot (NotToml place why) parsed is tells hinted = absurd hinted
  spot_tells document spot (Key place output key trouble) parsed is tells hinted =
      (document, parsed, is ∙ ap Some hinted, told_fault document spot parsed tells ∙ ap (λ (s : Spot). Err (fault_of s.trouble)) hinted)

  pub stop_tells : (error : Error) (hint : GenesisHint) → (IsUtf8 text → parse_document text ≡ None) → IsStop text error hint → Tells text hint
  stop_tells error (NotToml place why) refused stop = λ utf8. no_toml (refused utf8)
  stop_tells error (Key place output key trouble) refused stop = absurd stop
