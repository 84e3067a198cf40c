use Rattle.std.proofs.Common.{subst, sym}
use Rattle.genesis.specs.declared.scheme.Scheme.{Scheme}
use Rattle.telling.specs.Shown.{IsShownAs}
use Rattle.commands.specs.Schemes.{verifies_by}
use Rattle.commands.proofs.texts.print_by.Goals as goal

pub returns-in-Test-clause-none : goal.returns-in-Test-clause-none
returns-in-Test-clause-none g c = λ none. c.print_shown.ensures.none (λ text is. none text (subst (λ (s : Scheme). IsShownAs (verifies_by s) c.args.form c.args.kind c.args.bytes.now text) (sym c.in-Test.is) is))

pub returns-in-Ed25519-clause-none : goal.returns-in-Ed25519-clause-none
returns-in-Ed25519-clause-none g c = λ none. c.print_shown-in-Ed25519.ensures.none (λ text is. none text (subst (λ (s : Scheme). IsShownAs (verifies_by s) c.args.form c.args.kind c.args.bytes.now text) (sym c.in-Ed25519.is) is))
