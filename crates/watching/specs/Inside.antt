-- What the fields of maps stand for, and what always holds of them.
use Rattle.std.specs.Prelude.{◌≡◌}
use Rattle.std.specs.FinMap as finite
use Rattle.persistent_map.specs.Order.{Rise}
use Rattle.watching.specs.Owned.{AreOwned, owner_cmp}
use Rattle.watching.specs.Histories as values
use Rattle.watching.specs.Histories.{NoneEmpty}
use Rattle.watching.specs.declared.index.Index.TheInside as index
use Rattle.watching.specs.declared.histories.Histories.TheInside as histories

-- each owner's outputs are those of its address, and `nothing` is empty
abbrev pub IsIndexed : index.Inside → Type 0
IsIndexed i = AreOwned i.owners i.all × (i.nothing ≡ finite.empty)

-- the history of each owner that has one
abbrev pub histories_of : histories.Inside → values.Histories
histories_of h = finite.from_sorted h.map

-- owners stand in their order, none has an empty history, and `nothing` is empty
abbrev pub AreHistories : histories.Inside → Type 0
AreHistories h = Rise owner_cmp h.map × NoneEmpty (histories_of h) × (h.nothing ≡ finite.empty)
