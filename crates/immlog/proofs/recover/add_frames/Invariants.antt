use Rattle.std.proofs.Common.{◌≡◌, ◌++◌, length, take}
use Rattle.model.specs.Log.{records}
use Rattle.immlog.specs.Framed.{framed_blocks}
use Rattle.immlog.specs.Index.{AreEntriesOf, blocks_in}
use Rattle.immlog.proofs.recover.add_frames.Given as goal

-- the blocks of the records so far were given and are in the index
abbrev pub invariant-loop-frame : goal.invariant-loop-frame
invariant-loop-frame g l = record {
  noted : blocks_in l.index ≡ blocks_in l.initial.index ++ framed_blocks (take l.frame-index l.frames);
  entries : AreEntriesOf 0 (blocks_in l.index) l.index.entries.items;
  place : l.next ≡ length (records (blocks_in l.index));
  given : g.K.Sink.given l.sink ≡ g.K.Sink.given l.initial.sink ++ framed_blocks (take l.frame-index l.frames);
  kept : g.K.Sink.kept l.sink ≡ g.K.Sink.kept l.initial.sink;
}
