-- What a change of the code stands for.
use Rattle.std.specs.Option.{option_map}
use Rattle.tx.specs.View.{input_of, output_of}
use Rattle.watching.specs.Changes as values
use Rattle.watching.specs.declared.change.Was.{Was}
use Rattle.watching.specs.declared.change.Was.TheVariants.{OutputAt, EntryAt, InclusionOf}

abbrev pub change_of : Was → values.Change
change_of (OutputAt input before) = values.OutputAt (input_of input) (option_map output_of before)
change_of (EntryAt owner inclusion before) = values.EntryAt owner inclusion before
change_of (InclusionOf id before) = values.InclusionOf id before
