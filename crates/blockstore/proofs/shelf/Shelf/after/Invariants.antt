use Rattle.std.proofs.Common.{◌≡◌, ◌++◌, map, Contains, Bor, option_map}
use Rattle.block.specs.View.{bytes_of as hash_bytes}
use Rattle.blockstore.specs.Stored.{Stored}
use Rattle.blockstore.specs.Placed.{blocks_in}
use Rattle.blockstore.specs.Keys.{links_behind}
use Rattle.blockstore.specs.declared.keys.Link.{Link}
use Rattle.blockstore.proofs.LinkRanges.{hashes_found, hashes_of}
use Rattle.blockstore.proofs.shelf.Shelf.after.Given as goal

-- those found so far have the hashes of the links so far, and are there; the links that are left are such ones
abbrev pub invariant-loop-link : goal.invariant-loop-link
invariant-loop-link g l = record {
  can_next : (goal.iterator-loop-link g).can_next l.link-iterator;
  is_finite : (goal.iterator-loop-link g).is_finite l.link-iterator;
  so_far : hashes_found l.found.items ++ hashes_of l.link-iterator ≡ hashes_of (links_behind l.self-inside.links (option_map hash_bytes l.fn.previous));
  left : (k : Link) → Contains l.link-iterator k → Contains (links_behind l.self-inside.links (option_map hash_bytes l.fn.previous)) k;
  within : (x : Stored) → Contains (map (λ (y : Bor Stored). y.now) l.found.items) x → Contains (blocks_in l.self-inside.blocks) x;
}
