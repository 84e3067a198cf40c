use Rattle.std.proofs.Common.{◌∙◌, ◌≤◌, ◌∷◌, [], ◌++◌, sym, refl, arith}
use Rattle.std.proofs.lemmas.Result.{err_from_is_err_and}
use Rattle.model.specs.Cbor.{nesting}
use Rattle.model.specs.Script.{item_of_script}
use Rattle.draft.proofs.Adding.{script_more, script_same}
use Rattle.draft.proofs.draft.Draft.supply.Goals as goal

pub returns-in_err-copy : goal.returns-in_err-copy
returns-in_err-copy g c =
    let p = err_from_is_err_and c.from_residual.result c.from_residual.ensures.1 in
    let flat : nesting (item_of_script c.args.script.now) ≤ 61 = omega (arith, c.nesting.ensures.deep) in
    rw (p.1, p.2) (λ d s. script_same g.K.Signer.signer c.args.self.now c.args.self.now.scripts c.hash-hash.result c.args.script.now d s c.hash-hash.ensures flat (sym c.has.ensures ∙ c.if-has.false) refl (λ q. refl))

pub returns-in_err-add : goal.returns-in_err-add
returns-in_err-add g c =
    let p = err_from_is_err_and c.from_residual-in_err-add.result c.from_residual-in_err-add.ensures.1 in
    let flat : nesting (item_of_script c.args.script.now) ≤ 61 = omega (arith, c.nesting.ensures.deep) in
    rw (p.1, p.2) (λ d s. script_same g.K.Signer.signer c.args.self.now c.add.new.self c.hash-hash.result c.args.script.now d s c.hash-hash.ensures flat (sym c.has.ensures ∙ c.if-has.false) c.in_err-add.ensures.same_items c.in_err-add.ensures.same_keys)

pub returns : goal.returns
returns g c = λ d s.
    let flat : nesting (item_of_script c.args.script.now) ≤ 61 = omega (arith, c.nesting.ensures.deep) in
    script_more g.K.Signer.signer c.args.self.now c.add.new.self c.hash-hash.result c.args.script.now d s c.hash-hash.ensures flat (sym c.has.ensures ∙ c.if-has.false)
    (c.in_ok-add.ensures.items ∙ λ i. c.args.self.now.scripts.items.items ++ c.in_ok-copy.ensures i ∷ []) c.in_ok-add.ensures.keys
