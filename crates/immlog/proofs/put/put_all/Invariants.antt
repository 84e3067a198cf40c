use Rattle.std.proofs.Common.{◌≡◌, ◌+◌, ◌-◌, ◌≤◌, ◌++◌, length, take, vec_len, vec_capacity}
use Rattle.std.specs.List.{AllByRecursion}
use Rattle.model.specs.Disk.{settled, LeavesSince}
use Rattle.model.specs.Log.{IsLogBlock, at_rest, IsLogOf}
use Rattle.immlog.specs.Index.{AreEntriesOf, blocks_in}
use Rattle.immlog.specs.Views.{lists_of}
use Rattle.immlog.proofs.put.put_all.Given as goal

-- the blocks of the index are on the disk, and nothing else
abbrev pub invariant-loop-block : goal.invariant-loop-block
invariant-loop-block g l = record {
  counted : blocks_in l.index ≡ blocks_in l.initial.index ++ take l.block-index (lists_of l.blocks);
  entries : AreEntriesOf 0 (blocks_in l.index) l.index.entries.items;
  sizes : AllByRecursion IsLogBlock (blocks_in l.index);
  more : vec_len l.index.entries + (length l.blocks - l.block-index) ≤ vec_capacity l.index.entries;
  rest : g.D.Disk.reads l.disk ≡ at_rest (blocks_in l.index);
  is_settled : g.D.Disk.moment l.disk ≡ settled (g.D.Disk.reads l.disk);
  place : l.gate + 1 ≡ length (g.D.Disk.reads l.disk);
  crash : LeavesSince (g.D.Disk.past l.initial.disk) (g.D.Disk.past l.disk) (g.D.Disk.moment l.disk) (IsLogOf (length (blocks_in l.initial.index)) (blocks_in l.initial.index ++ lists_of l.blocks));
  failures : g.D.Disk.failures l.disk ≡ g.D.Disk.failures l.initial.disk;
}
