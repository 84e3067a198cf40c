use Rattle.std.proofs.Common.{◌≡◌, ◌++◌, length, drop, ap, arith, length-append}
use Rattle.std.proofs.lemmas.List.{length-take}
use Rattle.immlog.proofs.Looking.{seen_end, seen_vain, seen_more, seen_left}
use Rattle.immlog.proofs.Torn.{seen_torn}
use Rattle.immlog.proofs.look.look_at.Goals as goal

pub returns-in-End-clause-look : goal.returns-in-End-clause-look
returns-in-End-clause-look g c =
    seen_end c.read_part.new.room (g.R.Read.remaining c.args.reader.now) (g.R.Read.remaining c.loop.reader) (g.R.Read.remaining c.read_part.new.reader) c.loop.place c.in-End.end c.look_of_end.result c.loop.invariant.walked (rw c.in-End.is at c.in-Ok-read_part.ensures.part) c.look_of_end.ensures.log c.look_of_end.ensures.none c.look_of_end.ensures.bad

pub returns-in-End-clause-left : goal.returns-in-End-clause-left
returns-in-End-clause-left g c =
    seen_left (g.R.Read.remaining c.args.reader.now) c.look_of_end.result
    (seen_end c.read_part.new.room (g.R.Read.remaining c.args.reader.now) (g.R.Read.remaining c.loop.reader) (g.R.Read.remaining c.read_part.new.reader) c.loop.place c.in-End.end c.look_of_end.result c.loop.invariant.walked (rw c.in-End.is at c.in-Ok-read_part.ensures.part) c.look_of_end.ensures.log c.look_of_end.ensures.none c.look_of_end.ensures.bad)

pub returns-in-End-clause-torn : goal.returns-in-End-clause-torn
returns-in-End-clause-torn g c =
    seen_torn (g.R.Read.remaining c.args.reader.now) c.look_of_end.result
    (seen_end c.read_part.new.room (g.R.Read.remaining c.args.reader.now) (g.R.Read.remaining c.loop.reader) (g.R.Read.remaining c.read_part.new.reader) c.loop.place c.in-End.end c.look_of_end.result c.loop.invariant.walked (rw c.in-End.is at c.in-Ok-read_part.ensures.part) c.look_of_end.ensures.log c.look_of_end.ensures.none c.look_of_end.ensures.bad)

pub returns-in-Vain-clause-look : goal.returns-in-Vain-clause-look
returns-in-Vain-clause-look g c =
    seen_vain c.read_part.new.room (g.R.Read.remaining c.args.reader.now) (g.R.Read.remaining c.loop.reader) (g.R.Read.remaining c.read_part.new.reader) c.loop.place c.loop.invariant.walked (rw c.in-Vain.is at c.in-Ok-read_part.ensures.part)

pub returns-in-Vain-clause-left : goal.returns-in-Vain-clause-left
returns-in-Vain-clause-left g c =
    seen_left (g.R.Read.remaining c.args.reader.now) _
    (seen_vain c.read_part.new.room (g.R.Read.remaining c.args.reader.now) (g.R.Read.remaining c.loop.reader) (g.R.Read.remaining c.read_part.new.reader) c.loop.place c.loop.invariant.walked (rw c.in-Vain.is at c.in-Ok-read_part.ensures.part))

pub returns-in-Vain-clause-torn : goal.returns-in-Vain-clause-torn
returns-in-Vain-clause-torn g c =
    seen_torn (g.R.Read.remaining c.args.reader.now) _
    (seen_vain c.read_part.new.room (g.R.Read.remaining c.args.reader.now) (g.R.Read.remaining c.loop.reader) (g.R.Read.remaining c.read_part.new.reader) c.loop.place c.loop.invariant.walked (rw c.in-Vain.is at c.in-Ok-read_part.ensures.part))

pub loop-preserved : goal.loop-preserved
loop-preserved g c =
    let room = c.loop.room in
    let part = c.read_part.new.room in
    let same : length c.deref_mut.result.now ≡ length room.items = ap length c.deref_mut.ensures.value in
    record {
      room = omega (arith, c.loop.invariant.room, room.ok.0, same, c.read_part.ensures.len, length-append part (drop (length part) room.items), length-take room.len (part ++ drop (length part) room.items));
      walked = seen_more c.read_part.new.room (g.R.Read.remaining c.args.reader.now) (g.R.Read.remaining c.loop.reader) (g.R.Read.remaining c.read_part.new.reader) c.loop.place c.in-Record.len c.in-Some.next c.loop.invariant.walked (rw c.in-Record.is at c.in-Ok-read_part.ensures.part) c.in-Some.ensures.1;
    }
