use Rattle.std.proofs.Common.{◌≡◌, ◌≤◌, length, max}
use Rattle.chain.specs.Chained.{chain_of}
use Rattle.chain.specs.Indexed.{first_hashes}
use Rattle.chain.proofs.index.HashIndex.push_up_to.Given as goal

-- the blocks below the number are noted
abbrev pub invariant-loop-number : goal.invariant-loop-number
invariant-loop-number g l = record {
  noted : l.self ≡ record l.fn.self { hashes = first_hashes l._number (chain_of l.chain) };
  within : l._number ≤ length (chain_of l.chain);
  most : l._number ≤ max (length l.fn.self.hashes) l.up_to;
  least : length l.fn.self.hashes ≤ l._number;
}
