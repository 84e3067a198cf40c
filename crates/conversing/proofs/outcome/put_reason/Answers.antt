use Rattle.conversing.proofs.ReplyLaws.{seven}
use Rattle.conversing.proofs.outcome.put_reason.Goals as goal

pub returns : goal.returns
returns c = seven c.extend_from_slice-4.result c.args.line.now.items c.extend_from_slice.new.self.items c.put_text.new.line.items c.extend_from_slice-2.new.self.items c.put_number.new.line.items c.extend_from_slice-3.new.self.items c.put_text-2.new.line.items c.extend_from_slice-4.new.self.items _ _ _ _ _ _ _
    c.in_ok-extend_from_slice.ensures.items c.in_ok-put_text.ensures c.in_ok-extend_from_slice-2.ensures.items c.in_ok-put_number.ensures c.in_ok-extend_from_slice-3.ensures.items c.in_ok-put_text-2.ensures c.extend_from_slice-4.ensures.items
