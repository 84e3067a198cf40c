use Rattle.std.proofs.Common.{◌∙◌, Option, Some, sym, subst}
use Rattle.script.specs.LineView.{line_of}
use Rattle.script.specs.Meaning.{MeansLine, is_late}
use Rattle.script.specs.Names.{OpenTx}
use Rattle.script.specs.RequestView.{Asks}
use Rattle.script.proofs.Definitions.{is_making}
use Rattle.script.proofs.names.Names.obey_line.Goals as goal

pub returns-then-is_some : goal.returns-then-is_some
returns-then-is_some c = λ names named.
    let making = is_making c.args.self.now.making names.making named.making (sym c.is_some.ensures ∙ c.if-is_some.true) in
    subst (λ (m : Option OpenTx). Asks names (MeansLine c.args.number names m (Some (line_of c.args.line))) (is_late (line_of c.args.line)) c.obey_inside.result c.obey_inside.new.self) (sym making.1) (c.obey_inside.ensures names named making.0 making.1)
