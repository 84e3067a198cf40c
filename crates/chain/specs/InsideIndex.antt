-- What the fields of an index stand for, and what it keeps.
use Rattle.std.specs.Prelude.{◌≡◌, ◌≤◌, ℕ, List, length, map, min, vec_capacity}
use Rattle.ident.specs.Kinds.{BlockHash}
use Rattle.chain.specs.Indexed.{Indexed}
use Rattle.chain.specs.Searches.{IsRising, AreFound}
use Rattle.chain.specs.declared.index.HashIndex.TheInside.{Inside}

-- the hashes that were noted
abbrev pub hashes_in : List (BlockHash × Unit {0}) → List (List ℕ)
hashes_in items = map (λ p. p.0.bytes) items

-- the index that the fields stand for
abbrev pub indexed : Inside → Indexed
indexed a = record { hashes = hashes_in a.noted.items; room = min (vec_capacity a.nodes) 4294967295 }

-- A node stands for each hash, of which there are fewer than 2^32, and each hash is found. The search goes to later
-- blocks alone.
pub record IsIndex (a : Inside) : Type 0 where
  pub count : length a.nodes.items ≡ length (hashes_in a.noted.items)
  pub few : length a.nodes.items ≤ 4294967295
  pub rising : IsRising a.nodes.items
  pub found : AreFound a.nodes.items (hashes_in a.noted.items)
