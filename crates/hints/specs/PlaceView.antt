-- What a place of the code stands for.
use Rattle.hints.specs.declared.place.Place.{Place as CodePlace}
use Rattle.hints.specs.Places.{Place}

abbrev pub place_of : CodePlace → Place
place_of p = record { line = p.line; column = p.column }
