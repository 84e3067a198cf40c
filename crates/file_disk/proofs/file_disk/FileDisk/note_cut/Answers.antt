use Rattle.std.proofs.Common.{◌∙◌, length, ap, sym, arith}
use Rattle.std.proofs.lemmas.List.{length-take-le}
use Rattle.file_disk.specs.declared.step.Step.TheVariants.{Cut}
use Rattle.file_disk.specs.Steps.{bytes_after, steps_of}
use Rattle.file_disk.proofs.Kept.{one_more_step, cut_left}
use Rattle.file_disk.proofs.file_disk.FileDisk.note_cut.Goals as goal

pub invariant_of-self : goal.invariant_of-self
invariant_of-self g c =
    let old = c.args.self.now in
    let is = one_more_step old.steps.items c.and-self.result.items (Cut c.args.len) tt c.and-self.ensures in
    let long = ap (λ steps. length (bytes_after steps)) is ∙ length-take-le c.args.len (bytes_after (steps_of old.steps.items)) c.requires in
    record { as_opened = λ x none. absurd cc; same = λ x none. absurd cc; long = sym long; left = cut_left (steps_of old.steps.items) (steps_of c.and-self.result.items) c.args.len is c.requires old.left; small = omega (arith, long, old.small, c.requires) }
