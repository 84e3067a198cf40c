use Rattle.conversing.proofs.ReplyLaws.{four_on}
use Rattle.conversing.proofs.found.put_refused.Goals as goal

pub returns : goal.returns
returns c = four_on c.put_named.result c.args.line.now.items c.put_hash.new.line.items c.extend_from_slice.new.self.items c.put_number.new.line.items c.put_named.new.line.items _ _ _ _
    c.in_ok-put_hash.ensures c.in_ok-extend_from_slice.ensures.items c.in_ok-put_number.ensures c.put_named.ensures
