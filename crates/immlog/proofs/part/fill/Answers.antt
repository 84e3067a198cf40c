use Rattle.std.proofs.Common.{length}
use Rattle.immlog.proofs.Looking.{fill_next, fill_again}
use Rattle.immlog.proofs.part.fill.Goals as goal
use Rattle.immlog.proofs.part.fill.Goals.{in-Ok, in-Err}

pub loop-preserved : goal.loop-preserved
loop-preserved g c = elim c.match-read.branch [
  | in-Ok w ↦ (let it = fill_next (g.R.Read.remaining c.args.reader.now) (g.R.Read.remaining c.loop.reader) (g.R.Read.remaining c.read.new.self) c.loop.room c.read.new.buf c.loop.count w.in-Ok.more (length c.args.room.now) c.loop.invariant.within c.loop.invariant.len c.read.auto.buf w.in-Ok.ensures.bound.0 c.loop.invariant.taken w.in-Ok.ensures.bytes.0 in
      rw w.count-is (record { within = it.within; len = it.len_is; taken = it.taken }))
  | in-Err w ↦ (let it = fill_again (g.R.Read.remaining c.args.reader.now) (g.R.Read.remaining c.loop.reader) (g.R.Read.remaining c.read.new.self) c.loop.room c.read.new.buf c.loop.count (length c.args.room.now) c.loop.invariant.within c.loop.invariant.len c.read.auto.buf c.loop.invariant.taken w.in-Err.ensures.bytes in
      rw w.count-is (record { within = it.within; len = it.len_is; taken = it.taken }))
]
