use Rattle.std.proofs.Common.{◌<◌, ◌+◌, length}
use Rattle.std.specs.Prelude.{IfSome}
use Rattle.model.specs.Limits.{block_size_limit}
use Rattle.listing.proofs.Listed.{IsListing}
use Rattle.listing.proofs.records.list_log.Given as goal

abbrev pub invariant-records : goal.invariant-records
invariant-records g l = record {
  room : block_size_limit + 37 < length l.room.items;
  listed : IfSome (g.R.Read.remaining l.fn.reader) (λ bytes. IsListing l.fn.form bytes (g.R.Read.remaining l.reader) l.number l.place (g.W.Write.contents l.fn.out) (g.W.Write.contents l.out));
}
