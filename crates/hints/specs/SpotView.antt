-- What a spot and a bounded number of the code stand for.
use Rattle.hints.specs.declared.genesis_spot.Spot.{Spot as CodeSpot}
use Rattle.hints.specs.declared.genesis_spot.Bounded.{Bounded as CodeBounded}
use Rattle.hints.specs.GenesisSpots.{Spot, Bounded}

abbrev pub spot_view : CodeSpot → Spot
spot_view s = record { output = s.output; key = s.key.now; trouble = s.trouble }

abbrev pub bounded_view : CodeBounded → Bounded
bounded_view b = record { key = b.key.now; least = b.least; most = b.most; number = b.number }
