use Rattle.std.proofs.Common.{arith}
use Rattle.file_disk.specs.declared.step.Step.TheVariants.{Written}
use Rattle.file_disk.specs.Steps.{bytes_after, steps_of}
use Rattle.file_disk.proofs.Kept.{one_more_step, written_noted, written_length}
use Rattle.file_disk.proofs.file_disk.FileDisk.note_write.Goals as goal

pub invariant_of-self : goal.invariant_of-self
invariant_of-self g c =
    let old = c.args.self.now in
    let is = one_more_step old.steps.items c.and-self.result.items (Written c.args.place c.note_bytes.result) tt c.and-self.ensures in
    let noted = written_noted (steps_of old.steps.items) (steps_of c.and-self.result.items) c.args.place c.note_bytes.result c.args.bytes.now c.note_bytes.ensures is c.requires.place old.left in
    let long = written_length (bytes_after (steps_of old.steps.items)) c.args.bytes.now (bytes_after (steps_of c.and-self.result.items)) c.args.place c.requires.place noted.written in
    record { as_opened = λ x none. absurd cc; same = λ x none. absurd cc; long = omega (arith, long, old.long, c.max-self.ensures); left = noted.left; small = omega (arith, long, old.small, c.requires.small) }
