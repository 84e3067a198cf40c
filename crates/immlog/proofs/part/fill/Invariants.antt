use Rattle.std.proofs.Common.{◌≡◌, ◌≤◌, length, take}
use Rattle.std.specs.Io.KnownBytes.{Consumes}
use Rattle.immlog.proofs.part.fill.Given as goal

-- the first bytes of the room were taken
abbrev pub invariant-loop : goal.invariant-loop
invariant-loop g l = record {
  within : l.count ≤ length l.room;
  len : length l.room ≡ length l.fn.room;
  taken : Consumes (g.R.Read.remaining l.fn.reader) (g.R.Read.remaining l.reader) (take l.count l.room);
}
