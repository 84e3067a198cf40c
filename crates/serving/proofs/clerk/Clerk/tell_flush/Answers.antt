use Rattle.std.proofs.Common.{refl}
use Rattle.conversing.specs.declared.outcome.Outcome.TheVariants.{Flushed, NotFlushed}
use Rattle.serving.specs.Serving.{TellsFlush, Done, Failed}
use Rattle.serving.proofs.Telling.{replied}
use Rattle.serving.proofs.clerk.Clerk.tell_flush.Goals as goal

pub returns-in-Ok-clause-told : goal.returns-in-Ok-clause-told
returns-in-Ok-clause-told g c =
    let outcome = Flushed c.in-Ok.durable in
    let done : TellsFlush g.H.Host.flushes g.H.Host.fails c.args.self.now.host c.flush.new.self outcome = Done c.in-Ok.durable c.in-Ok.ensures.ok refl in
    replied outcome done (record { untold = outcome; was = done }) c.tell.ensures

pub returns-in-Err-clause-told : goal.returns-in-Err-clause-told
returns-in-Err-clause-told g c =
    let failed : TellsFlush g.H.Host.flushes g.H.Host.fails c.args.self.now.host c.flush.new.self NotFlushed = Failed c.in-Err.ensures.err refl in
    replied NotFlushed failed (record { untold = NotFlushed; was = failed }) c.tell-in-Err.ensures
