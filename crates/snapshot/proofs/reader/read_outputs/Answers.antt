use Rattle.std.specs.FinMap as finite
use Rattle.snapshot.specs.View.{front_view}
use Rattle.snapshot.proofs.Stepping.{one_read, rest_falls}
use Rattle.snapshot.proofs.reader.read_outputs.Goals as goal

pub loop-rest-smaller : goal.loop-rest-smaller
loop-rest-smaller c =
    rest_falls (front_view c.args.front.now) c.args.supply (finite.entries c.loop-rest.outputs) (finite.entries c.read_output.new.outputs) c.loop-rest.rest.now c.in_ok-rest.rest.now c.in_ok-rest.ensures.found

pub loop-rest-preserved : goal.loop-rest-preserved
loop-rest-preserved c =
    one_read (front_view c.args.front.now) c.args.supply (finite.entries c.args.outputs.now) (finite.entries c.loop-rest.outputs) (finite.entries c.read_output.new.outputs) c.args.part.now c.loop-rest.rest.now c.in_ok-rest.rest.now c.in_ok-rest.ensures.found c.loop-rest.invariant
