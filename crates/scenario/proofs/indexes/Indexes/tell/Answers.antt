use Rattle.std.proofs.Common.{◌≡◌, ◌∙◌, rules, sym}
use Rattle.watching.specs.declared.watch_fault.WatchFault.TheVariants as fault
use Rattle.chain_core.specs.Views.{next_reply_of}
use Rattle.scenario.proofs.IndexLines.{index_lost, index_told}
use Rattle.scenario.proofs.indexes.Indexes.tell.Goals as goal

pub returns-in-Ok : goal.returns-in-Ok
returns-in-Ok g c =
    index_told c.put.result c.args.name.now c.args.id (next_reply_of c.args.reply.now) c.args.line.now.items c.print.new.line.items c.remove.result c.in-Some.index c.take.new.self c.args.self.now c.remove.new.self c.put.new.self c.in-Some.is c.remove.ensures
    c.in-Ok.ensures.taken c.in_ok-print-in-Ok.ensures c.put.ensures

pub returns-in-Err-NotNext : goal.returns-in-Err-NotNext
returns-in-Err-NotNext g c =
    let why : c.in-Err-NotNext.field-0 ≡ fault.NotNext = search (rules, c.in-Err-NotNext.field-0-is) in
    index_lost c.print_lost.result c.args.name.now c.args.id (next_reply_of c.args.reply.now) c.args.line.now.items c.print_lost.new.line.items c.remove.result c.in-Some.index c.args.self.now c.remove.new.self c.in-Some.is c.remove.ensures
    (c.in-Err-NotNext.ensures.lost (λ no. let bad : fault.NotNext ≡ fault.OutOfMemory = sym why ∙ no in cc)) c.print_lost.ensures

pub returns : goal.returns
returns g c =
    let why : c.in-Err-UnknownPoint.field-0 ≡ fault.UnknownPoint = search (rules, c.in-Err-UnknownPoint.field-0-is) in
    index_lost c.print_lost-in-Err-UnknownPoint.result c.args.name.now c.args.id (next_reply_of c.args.reply.now) c.args.line.now.items c.print_lost-in-Err-UnknownPoint.new.line.items c.remove.result c.in-Some.index c.args.self.now c.remove.new.self c.in-Some.is c.remove.ensures
    (c.in-Err-UnknownPoint.ensures.lost (λ no. let bad : fault.UnknownPoint ≡ fault.OutOfMemory = sym why ∙ no in cc)) c.print_lost-in-Err-UnknownPoint.ensures
