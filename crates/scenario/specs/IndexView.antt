-- Which indexes the code has.
use Rattle.std.specs.Prelude.{◌≡◌, ℕ, map, option_map}
use Rattle.std.specs.Ordering.{nat_cmp}
use Rattle.std.specs.BTreeMap.{get}
use Rattle.script.specs.RequestView.{key_address_of}
use Rattle.scenario.specs.Indexes as spec
use Rattle.scenario.specs.declared.key_index.KeyIndex.{KeyIndex}
use Rattle.scenario.specs.declared.indexes.Indexes.{Indexes}

abbrev pub key_index_of : KeyIndex → spec.KeyIndex
key_index_of index = record { index = index.index; keys = map key_address_of index.keys.items }

-- the code has just these
pub record AreIndexes (code : Indexes) (indexes : spec.Indexes) : Type 0 where
  pub genesis : indexes.genesis ≡ code.genesis.now
  pub of_follower : (id : ℕ) → option_map key_index_of (get nat_cmp code.by_follower id) ≡ indexes.of_follower id
