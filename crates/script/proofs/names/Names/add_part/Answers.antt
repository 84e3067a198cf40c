use Rattle.std.proofs.Common.{◌∙◌, sym}
use Rattle.std.proofs.lemmas.Result.{err_from_is_err_and}
use Rattle.script.specs.Line.{AddPart}
use Rattle.script.specs.Meaning.{is_late, part_meaning}
use Rattle.script.specs.PartView.{part_of}
use Rattle.script.proofs.Definitions.{opened, part_asked, part_refused}
use Rattle.script.proofs.names.Names.add_part.Goals as goal

pub returns-in_err-added : goal.returns-in_err-added
returns-in_err-added c =
    let p = err_from_is_err_and c.from_residual.result c.from_residual.ensures.1 in
    rw (p.1, p.2) (λ names named made is.
    let making = opened c.args.self.now.making names.making c.in-Some.open made named.making (sym c.take.ensures.value ∙ c.in-Some.is) is in
    part_refused names c.args.self.now made c.in-Some.open c.add-added.new.draft (part_meaning names (part_of c.args.part) made.draft) (is_late (AddPart (part_of c.args.part))) c.in_err-added.field-0.0 named is making (c.in_err-added.ensures names named.known made.draft making.stands))

pub returns : goal.returns
returns c = λ names named made is.
    let making = opened c.args.self.now.making names.making c.in-Some.open made named.making (sym c.take.ensures.value ∙ c.in-Some.is) is in
    part_asked names c.args.self.now made c.in-Some.open c.add-added.new.draft (part_meaning names (part_of c.args.part) made.draft) (is_late (AddPart (part_of c.args.part))) named is making (c.in_ok-added.ensures names named.known made.draft making.stands)
