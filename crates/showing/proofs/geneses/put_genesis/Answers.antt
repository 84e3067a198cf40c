use Rattle.std.proofs.Common.{◌≡◌, ℕ, List, [], ◌++◌, OnOk, ap, subst, ◌∙◌, codes}
use Rattle.std.specs.Prelude.{string_bytes}
use Rattle.model.specs.Genesis.{Grant, supply_of}
use Rattle.genesis.specs.Meaning.{scheme_name}
use Rattle.showing.specs.Lines.{name_line, number_line}
use Rattle.showing.specs.Geneses.{lines_of_grants}
use Rattle.showing.proofs.Appended.{two_on}
use Rattle.showing.proofs.geneses.put_genesis.Goals as goal

pub returns : goal.returns
returns c =
    let document = c.args.document.now in
    let genesis = document.genesis in
    let l0 = string_bytes c.args.out.now in
    let l1 = string_bytes c.put_number.new.out in
    let l2 = string_bytes c.put_name.new.out in
    let l3 = string_bytes c.put_params.new.out in
    let l4 = string_bytes c.put_limits.new.out in
    let l5 = string_bytes c.put_number-2.new.out in
    let l6 = string_bytes c.put_grants.new.out in
    let network : l1 ≡ l0 ++ number_line [] (codes "network") genesis.params.network = c.in_ok-put_number.ensures ∙ ap (λ (n : ℕ). l0 ++ number_line [] (codes "network") n) c.network.ensures.is in
    let scheme : l2 ≡ l1 ++ name_line [] (codes "scheme") (scheme_name document.scheme) = c.in_ok-put_name.ensures ∙ ap (λ (l : List ℕ). l1 ++ name_line [] (codes "scheme") l) c.name.ensures in
    let supply : l5 ≡ l4 ++ number_line [] (codes "supply") (supply_of genesis) = c.in_ok-put_number-2.ensures ∙ ap (λ (n : ℕ). l4 ++ number_line [] (codes "supply") n) c.supply.ensures.supply in
    let grants : OnOk c.put_grants.result (l6 ≡ l5 ++ lines_of_grants 0 genesis.grants) = subst (λ (gs : List Grant). OnOk c.put_grants.result (l6 ≡ l5 ++ lines_of_grants 0 gs)) c.outputs.ensures.outputs c.put_grants.ensures in
    let r = c.put_grants.result in
    two_on r l0 l1 l6 _ _ network (two_on r l1 l2 l6 _ _ scheme (two_on r l2 l3 l6 _ _ c.in_ok-put_params.ensures (two_on r l3 l4 l6 _ _ c.in_ok-put_limits.ensures (two_on r l4 l5 l6 _ _ supply grants))))
