use Rattle.std.proofs.Common.{◌≡◌, ◌∙◌, None, sym}
use Rattle.script.specs.Meaning.{built_key, where_free}
use Rattle.script.specs.Names.{bound_to}
use Rattle.script.proofs.Asking.{short_for, key_built, free_so}
use Rattle.script.proofs.names.Names.define_key.Goals as goal

pub returns-in_err-name : goal.returns-in_err-name
returns-in_err-name c = λ names named.
    let free : bound_to c.args.name.text.now names.of_keys ≡ None = free_so (λ k. k.now) c.get.result _ (c.get.ensures names.of_keys named.known.of_keys) (sym c.is_some.ensures ∙ c.if-is_some.false) in
    short_for names (where_free (bound_to c.args.name.text.now names.of_keys) (built_key c.args.name.text.now c.args.key)) _ c.from_residual.result _ c.from_residual.ensures.1
    (key_built _ c.args.name.text.now c.args.key c.in-Some.key free c.in-Some.is)

pub returns-in_err-bind : goal.returns-in_err-bind
returns-in_err-bind c = λ names named.
    let free : bound_to c.args.name.text.now names.of_keys ≡ None = free_so (λ k. k.now) c.get.result _ (c.get.ensures names.of_keys named.known.of_keys) (sym c.is_some.ensures ∙ c.if-is_some.false) in
    short_for names (where_free (bound_to c.args.name.text.now names.of_keys) (built_key c.args.name.text.now c.args.key)) _ c.from_residual-in_err-bind.result _ c.from_residual-in_err-bind.ensures.1
    (key_built _ c.args.name.text.now c.args.key c.in-Some.key free c.in-Some.is)
