use Rattle.std.proofs.Common.{◌≡◌, take}
use Rattle.immlog.specs.Views.{noted}
use Rattle.immlog.proofs.blocks.note_bytes.Given as goal

abbrev pub invariant-loop-byte : goal.invariant-loop-byte
invariant-loop-byte l = noted l.so_far.items ≡ take l.byte-index l.bytes
