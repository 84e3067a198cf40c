use Rattle.std.proofs.Common.{subst, ap, ◌∙◌, ◌++◌}
use Rattle.std.specs.Io.KnownBytes.{Appends}
use Rattle.mempool.specs.View.{evaluation_of}
use Rattle.telling.specs.Verdicts.{evaluation_text}
use Rattle.telling.proofs.verdict.print_evaluation.Goals as goal

pub returns-clause-printed : goal.returns-clause-printed
returns-clause-printed g c =
    let text = evaluation_text (evaluation_of c.args.evaluation.now) in
    record {
      printed = subst (Appends (g.W.Write.contents c.args.out.now) (g.W.Write.contents c.write_line.new.out)) (c.deref.ensures.value ∙ (c.in-Ok.ensures ∙ ap (λ bytes. bytes ++ text) c.new-line.ensures.items)) c.in_ok-write_line.ensures.ok;
      verdict_is = c.verdict_of.ensures;
    }
