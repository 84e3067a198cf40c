use Rattle.std.proofs.Common.{arith}
use Rattle.conversing.proofs.WaitLaws.{done_more}
use Rattle.conversing.proofs.station.Station.notices.Goals as goal

pub loop-place-preserved : goal.loop-place-preserved
loop-place-preserved g c =
    let here = c.notice_at-notice.ensures in
    record {
      few = omega (arith, c.put.ensures.len, c.loop-place.invariant.few);
      room = omega (arith, c.put.ensures.capacity, c.loop-place.invariant.room);
      done = done_more g.S.Source.has_news g.S.Source.tells c.loop-place.place c.args.self.now.source c.loop-place.self.source c.notice_at-notice.new.self.source c.args.self.now.waits.items c.loop-place.self.waits.items c.notice_at-notice.new.self.waits.items c.loop-place.notices.items c.put.new.notices.items c.notice_at-notice.result c.loop-place.invariant.done here.quiet here.others here.waits here.waited here.place here.told c.put.ensures.items;
    }
