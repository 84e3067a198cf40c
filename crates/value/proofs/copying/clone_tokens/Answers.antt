use Rattle.std.proofs.Common.{◌≡◌, ℕ, List, ap, ◌∙◌}
use Rattle.value.specs.declared.assets.Token.{Token}
use Rattle.value.specs.View.{token_of}
use Rattle.value.proofs.Copies.{one_copied, all_copied}
use Rattle.value.proofs.copying.clone_tokens.Goals as goal

pub loop-token-preserved : goal.loop-token-preserved
loop-token-preserved g c =
    let x = c.token-item.result in
    let copy : Token _ = record { name = c.in_ok-name.name; quantity = x.quantity } in
    let same : token_of copy ≡ token_of x = ap (λ (n : List ℕ). record { name = n; quantity = x.quantity }) (c.in_ok-name.ensures.items ∙ c.deref.ensures.value) in
    one_copied token_of c.loop-token.copies.items c.push.new.self.items c.args.tokens.now c.loop-token.token-index x copy c.loop-token-test.true c.token-item.is same c.in_ok-push.ensures.items c.loop-token.invariant

pub returns : goal.returns
returns g c = all_copied token_of c.loop-token.copies.items c.args.tokens.now c.loop-token.token-index c.loop-token-test.false c.loop-token.invariant
