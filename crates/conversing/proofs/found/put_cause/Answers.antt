use Rattle.conversing.proofs.ReplyLaws.{one, two, two_on}
use Rattle.conversing.proofs.found.put_cause.Goals as goal

pub returns-in_ok-put_hash-in-Waits : goal.returns-in_ok-put_hash-in-Waits
returns-in_ok-put_hash-in-Waits c =
    rw c.in-Waits.is (two c.extend_from_slice-in-Waits.result c.args.line.now.items c.put_hash.new.line.items c.extend_from_slice-in-Waits.new.self.items _ _
    c.in_ok-put_hash-in-Waits.ensures c.extend_from_slice-in-Waits.ensures.items)

pub returns-in_ok-put_hash-in-Misfit : goal.returns-in_ok-put_hash-in-Misfit
returns-in_ok-put_hash-in-Misfit c =
    rw c.in-Misfit.is (two c.extend_from_slice-in-Misfit.result c.args.line.now.items c.put_hash-in-Misfit.new.line.items c.extend_from_slice-in-Misfit.new.self.items _ _
    c.in_ok-put_hash-in-Misfit.ensures c.extend_from_slice-in-Misfit.ensures.items)

pub returns-in_ok-put_hash-in-Invalid : goal.returns-in_ok-put_hash-in-Invalid
returns-in_ok-put_hash-in-Invalid c =
    rw c.in-Invalid.is (two_on c.put_named.result c.args.line.now.items c.put_hash-in-Invalid.new.line.items c.put_named.new.line.items _ _ c.in_ok-put_hash-in-Invalid.ensures c.put_named.ensures)

pub returns-in-NotLonger : goal.returns-in-NotLonger
returns-in-NotLonger c = rw c.in-NotLonger.is (one c.extend_from_slice-in-NotLonger.result c.args.line.now.items c.extend_from_slice-in-NotLonger.new.self.items _ c.extend_from_slice-in-NotLonger.ensures.items)
