use Rattle.std.proofs.Common.{true, false, Ok, ap, ◌∙◌, set-set}
use Rattle.conversing.proofs.WaitLaws.{quiet_without}
use Rattle.conversing.proofs.station.Station.next.Goals as goal

pub returns-in-Ok-None-clause-ok : goal.returns-in-Ok-None-clause-ok
returns-in-Ok-None-clause-ok g c = (c.told.ensures.same (c.in-Ok-None.is ∙ ap (λ o. Ok o) c.in-Ok-None.field-0-is), set-set c.args.self.now.waits.items c.args.place false true)

pub returns-in-Err-clause-quiet : goal.returns-in-Err-clause-quiet
returns-in-Err-clause-quiet g c = quiet_without g.S.Source.has_news g.S.Source.tells c.args.self.now.source c.told.new.self c.args.self.now.waits.items c.args.place c.requires.quiet c.told.ensures.others
