-- What a sum changes by.
use Rattle.std.specs.Prelude.{ℤ, neg_ℤ}
use Rattle.value.specs.declared.side.Side.{Side}
use Rattle.value.specs.declared.side.Side.TheVariants.{Added, Taken}

-- a quantity as it changes a sum to which it is added, or from which it is taken
abbrev pub sided : Side → ℤ → ℤ
sided Added z = z
sided Taken z = neg_ℤ z
