use Rattle.std.proofs.Common.{◌≡◌, ◌∙◌, sym, refl, false, length, arith, [], ◌∷◌, ◌++◌, to_z, of_z, w64}
use Rattle.std.proofs.lemmas.Int.{to_z-of_z}
use Rattle.std.proofs.lemmas.Result.{err_from_is_err_and}
use Rattle.draft.specs.Draft.{is_long}
use Rattle.draft.proofs.Holding.{below_false}
use Rattle.draft.proofs.Adding.{mint_more, mint_same, mint_taken, not_zero}
use Rattle.draft.proofs.draft.Draft.mint.Goals as goal

pub returns-then-has : goal.returns-then-has
returns-then-has g c = λ d s. mint_taken g.K.Signer.signer c.args.self.now (c.args.policy, c.args.name) c.args.quantity d s (sym c.has.ensures ∙ c.if-has.true)

pub returns-in_err-name : goal.returns-in_err-name
returns-in_err-name g c =
    let p = err_from_is_err_and c.from_residual.result c.from_residual.ensures.1 in
    let short : is_long c.args.name.items ≡ false = below_false 32 (length c.args.name.items) (omega (arith, c.len.ensures)) in
    let some = not_zero c.args.quantity c.if-quantity-eq0.false in
    rw (p.1, p.2) (λ d s. mint_same g.K.Signer.signer c.args.self.now c.args.self.now.mint (c.args.policy, c.args.name) c.args.quantity d s short some (sym c.has.ensures ∙ c.if-has.false) refl (λ q. refl))

pub returns-in_err-add : goal.returns-in_err-add
returns-in_err-add g c =
    let p = err_from_is_err_and c.from_residual-in_err-add.result c.from_residual-in_err-add.ensures.1 in
    let short : is_long c.args.name.items ≡ false = below_false 32 (length c.args.name.items) (omega (arith, c.len.ensures)) in
    let some = not_zero c.args.quantity c.if-quantity-eq0.false in
    rw (p.1, p.2) (λ d s. mint_same g.K.Signer.signer c.args.self.now c.add.new.self (c.args.policy, c.args.name) c.args.quantity d s short some (sym c.has.ensures ∙ c.if-has.false) c.in_err-add.ensures.same_items c.in_err-add.ensures.same_keys)

pub returns : goal.returns
returns g c = λ d s.
    let short : is_long c.args.name.items ≡ false = below_false 32 (length c.args.name.items) (omega (arith, c.len.ensures)) in
    let some = not_zero c.args.quantity c.if-quantity-eq0.false in
    let whole : to_z w64 (of_z w64 c.args.quantity) ≡ c.args.quantity = to_z-of_z w64 c.args.quantity c.ranges.quantity in
    mint_more g.K.Signer.signer c.args.self.now c.add.new.self (c.args.policy, c.args.name) (record { policy = c.args.policy; name = c.in_ok-name.name; quantity = c.args.quantity }) d s refl (c.in_ok-name.ensures.items ∙ c.deref.ensures.value) short some (sym c.has.ensures ∙ c.if-has.false)
    (c.in_ok-add.ensures.items ∙ λ i. c.args.self.now.mint.items.items ++ record { policy = c.args.policy; name = c.in_ok-name.name; quantity = whole i } ∷ []) c.in_ok-add.ensures.keys
