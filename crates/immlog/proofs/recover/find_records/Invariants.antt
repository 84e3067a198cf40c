use Rattle.std.proofs.Common.{◌≡◌, ◌+◌, ◌-◌, ◌≤◌, ◌++◌, length}
use Rattle.model.specs.Limits.{block_size_limit}
use Rattle.immlog.specs.Index.{AreEntriesOf, blocks_in}
use Rattle.immlog.proofs.Turns.{AreFound}
use Rattle.immlog.proofs.recover.find_records.Given as goal

-- the records up to the gate are those of the blocks in the index, and these were given
abbrev pub invariant-loop-count : goal.invariant-loop-count
invariant-loop-count g l = record {
  found : AreFound (g.D.Disk.reads l.initial.disk) l.gate (blocks_in l.index);
  entries : AreEntriesOf 0 (blocks_in l.index) l.index.entries.items;
  given : g.K.Sink.given l.sink ≡ g.K.Sink.given l.initial.sink ++ blocks_in l.index;
  kept : g.K.Sink.kept l.sink ≡ g.K.Sink.kept l.initial.sink;
  room : block_size_limit + 37 ≤ length l.room.items;
  same : g.D.Disk.reads l.disk ≡ g.D.Disk.reads l.initial.disk;
  still : g.D.Disk.moment l.disk ≡ g.D.Disk.moment l.initial.disk;
  clock : g.D.Disk.past l.disk ≡ g.D.Disk.past l.initial.disk;
  failures : g.D.Disk.failures l.disk ≡ g.D.Disk.failures l.initial.disk;
}

abbrev pub decreases-loop-count : goal.decreases-loop-count
decreases-loop-count g l = length (g.D.Disk.reads l.initial.disk) - l.gate
