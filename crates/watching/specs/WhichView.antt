-- What the choice of outputs stands for.
use Rattle.std.specs.Prelude.{map}
use Rattle.std.specs.FinSet as set
use Rattle.watching.specs.Which as values
use Rattle.watching.specs.declared.which.Kept.{Kept}
use Rattle.watching.specs.declared.which.Kept.TheVariants.{All, Addresses, Policies}

abbrev pub which_of : Kept → values.Which
which_of All = values.All
which_of (Addresses addresses) = values.Addresses (set.from_list addresses.keys)
which_of (Policies policies) = values.Policies (set.from_list (map (λ p. p.bytes) policies.keys))
