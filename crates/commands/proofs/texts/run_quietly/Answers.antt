use Rattle.std.specs.Prelude.{None, IfSome}
use Rattle.chain_core.specs.Held.{Held}
use Rattle.scenario.specs.Handed.{RunsWell}
use Rattle.commands.proofs.Boxed.{in_box}
use Rattle.commands.proofs.texts.run_quietly.Goals as goal

pub returns : goal.returns
returns g c = in_box (λ b. b.value) (λ (after : Held). IfSome (g.R.Read.remaining c.args.reader.now) (λ text. RunsWell c.args.options g.S.SigScheme.verifies c.args.core after text None None)) c.run_from-core.result.0 c.boxed.result c.run_from-core.result.1 c.boxed.ensures c.run_from-core.ensures.ok
