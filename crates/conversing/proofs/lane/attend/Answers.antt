use Rattle.std.proofs.Common.{subst}
use Rattle.std.specs.Io.KnownBytes.{Appends}
use Rattle.conversing.specs.Lines.{line_limit, ReadsLine}
use Rattle.conversing.specs.Talks.{AnswersHeld}
use Rattle.conversing.proofs.TalkLaws.{answered, broke_off_at_write}
use Rattle.conversing.proofs.lane.attend.Goals as goal

pub loop-preserved : goal.loop-preserved
loop-preserved g c =
    let answers = g.D.Desk.answers in
    let mid = g.R.Read.remaining c.loop.reader in
    let rest = g.R.Read.remaining c.read_line.new.reader in
    let held = c.read_line.new.line.items in
    let read = subst (λ r. ReadsLine line_limit r mid rest held) c.in-Some.is c.in_ok-read.ensures.read in
    let step = subst (λ l. AnswersHeld answers c.loop.desk c.in-Some.read l c.reply_to.new.desk c.in_ok-reply.reply.items) c.deref.ensures.value c.in_ok-reply.ensures.ok in
    answered answers c.args.desk.now c.loop.desk c.reply_to.new.desk (g.R.Read.remaining c.args.reader.now) mid rest (g.W.Write.contents c.args.writer.now) (g.W.Write.contents c.loop.writer) c.in-Some.read held c.in_ok-reply.reply.items c.loop.invariant read step (g.W.Write.contents c.send.new.writer)
    (subst (Appends (g.W.Write.contents c.loop.writer) (g.W.Write.contents c.send.new.writer)) c.deref-in-loop.ensures.value c.in-Ok.ensures)

pub returns-in_default-send-clause-err : goal.returns-in_default-send-clause-err
returns-in_default-send-clause-err g c =
    let answers = g.D.Desk.answers in
    let mid = g.R.Read.remaining c.loop.reader in
    let rest = g.R.Read.remaining c.read_line.new.reader in
    let held = c.read_line.new.line.items in
    let read = subst (λ r. ReadsLine line_limit r mid rest held) c.in-Some.is c.in_ok-read.ensures.read in
    let step = subst (λ l. AnswersHeld answers c.loop.desk c.in-Some.read l c.reply_to.new.desk c.in_ok-reply.reply.items) c.deref.ensures.value c.in_ok-reply.ensures.ok in
    broke_off_at_write answers c.args.desk.now c.loop.desk c.reply_to.new.desk (g.R.Read.remaining c.args.reader.now) mid rest (g.W.Write.contents c.args.writer.now) (g.W.Write.contents c.loop.writer) (g.W.Write.contents c.send.new.writer) c.in-Some.read held c.in_ok-reply.reply.items c.loop.invariant read step
