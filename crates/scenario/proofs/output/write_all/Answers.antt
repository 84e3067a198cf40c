use Rattle.std.proofs.Common.{rules}
use Rattle.scenario.proofs.WrittenParts.{more_written, still_written}
use Rattle.scenario.proofs.output.write_all.Goals as goal
use Rattle.scenario.proofs.output.write_all.Goals.{in-Ok, in-Err+else-ne}

pub loop-preserved : goal.loop-preserved
loop-preserved g c = elim c.match-write.branch [
  | in-Ok w ↦ rw w.rest-is (more_written (g.W.Write.contents c.args.writer.now) (g.W.Write.contents c.loop.writer) (g.W.Write.contents c.write.new.self) c.args.bytes.now c.loop.rest.now w.in-Ok.written w.split_at.result.1.now c.loop.invariant w.in-Ok.ensures.bytes (search (rules, w.split_at.ensures)))
  | in-Err+else-ne w ↦ rw w.rest-is (still_written (g.W.Write.contents c.args.writer.now) (g.W.Write.contents c.loop.writer) (g.W.Write.contents c.write.new.self) c.args.bytes.now c.loop.rest.now c.loop.invariant w.in-Err.ensures.bytes)
]
