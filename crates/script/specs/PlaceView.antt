-- What a place of the code stands for.
use Rattle.script.specs.declared.place_words.NamedPlace.{NamedPlace}
use Rattle.script.specs.declared.place_words.NamedPlace.TheVariants as place
use Rattle.script.specs.Line as spec

abbrev pub place_of : NamedPlace → spec.NamedPlace
place_of place.Genesis = spec.Genesis
place_of (place.Block name) = spec.AtBlock name.text.now
