-- Why bytes are no text.
use Rattle.std.specs.Prelude.{ℕ, List}
use Rattle.model.specs.Cbor.{Item, Spells}
use Rattle.wellformed.specs.Misfits.{IsMisfitOf}
use Rattle.telling.specs.declared.misreading.Misreading.{Misreading}
use Rattle.telling.specs.declared.misreading.Misreading.TheVariants.{NoItem, OtherItem}

-- where the bytes stop being the text of an item, or that they are the text of one
abbrev pub IsMisreading : List ℕ → Misreading → Type 0
IsMisreading bytes (NoItem misfit) = IsMisfitOf bytes misfit
IsMisreading bytes OtherItem = (item : Item) × Spells item bytes
