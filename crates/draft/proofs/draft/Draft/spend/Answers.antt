use Rattle.std.proofs.Common.{◌∙◌, sym}
use Rattle.std.proofs.lemmas.Result.{err_from_is_err_and}
use Rattle.draft.proofs.Adding.{input_more, input_same}
use Rattle.draft.proofs.draft.Draft.spend.Goals as goal

pub returns-in_err-add : goal.returns-in_err-add
returns-in_err-add g c =
    let p = err_from_is_err_and c.from_residual.result c.from_residual.ensures.1 in
    rw (p.1, p.2) (λ d s. input_same g.K.Signer.signer c.args.self.now c.add.new.self c.args.input d s (sym c.has.ensures ∙ c.if-has.false) c.in_err-add.ensures.same_items c.in_err-add.ensures.same_keys)

pub returns : goal.returns
returns g c = λ d s. input_more g.K.Signer.signer c.args.self.now c.add.new.self c.args.input d s (sym c.has.ensures ∙ c.if-has.false) c.in_ok-add.ensures.items c.in_ok-add.ensures.keys
