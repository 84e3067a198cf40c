-- What a point of the code stands for.
use Rattle.model.specs.Chain as chain
use Rattle.ident.specs.declared.point.Point.{Point}

abbrev pub point_of : Point → chain.Point
point_of point = record { number = point.number; hash = point.hash.bytes }
