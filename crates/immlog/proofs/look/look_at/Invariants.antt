use Rattle.std.proofs.Common.{◌<◌, ◌+◌, length}
use Rattle.std.specs.Prelude.{IfSome}
use Rattle.model.specs.Limits.{block_size_limit}
use Rattle.immlog.specs.Walks.{IsWalked}
use Rattle.immlog.proofs.look.look_at.Given as goal

-- whole records were taken, up to the place
abbrev pub invariant-loop : goal.invariant-loop
invariant-loop g l = record {
  room : block_size_limit + 37 < length l.room.items;
  walked : IfSome (g.R.Read.remaining l.fn.reader) (λ bytes. IsWalked bytes (g.R.Read.remaining l.reader) l.place);
}
