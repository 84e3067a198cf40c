-- What a base of the code stands for.
use Rattle.std.specs.Prelude.{option_map}
use Rattle.script.specs.declared.building.Base as code
use Rattle.script.specs.Meaning.{Base}

abbrev pub base_of : code.Base → Base
base_of base = record { number = base.number; hash = option_map (λ h. h.bytes) base.hash }
