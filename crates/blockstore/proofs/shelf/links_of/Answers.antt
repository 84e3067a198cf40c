use Rattle.blockstore.proofs.LinkRanges.{forward}
use Rattle.std.specs.Prelude.{option_map}
use Rattle.block.specs.View.{bytes_of as hash_bytes}
use Rattle.blockstore.proofs.shelf.links_of.Goals as goal

pub range-requires : goal.range-requires
range-requires c = rw (c.new.ensures.start, c.new.ensures.end, c.first-first.ensures, c.last-last.ensures) (forward (option_map hash_bytes c.args.previous))
