use Rattle.std.proofs.Common.{◌≡◌, ℕ, [], Option, ◌++◌, OnOk, ap, subst, ◌∙◌, codes}
use Rattle.std.specs.Prelude.{string_bytes}
use Rattle.model.specs.Rules.{SecondEra}
use Rattle.showing.specs.Lines.{number_line}
use Rattle.showing.specs.Geneses.{lines_of_era}
use Rattle.showing.proofs.Appended.{two_on}
use Rattle.showing.proofs.geneses.put_params.Goals as goal

pub returns : goal.returns
returns c =
    let p = c.args.genesis.now.params in
    let l0 = string_bytes c.args.out.now in
    let l1 = string_bytes c.put_number.new.out in
    let l2 = string_bytes c.put_number-2.new.out in
    let l3 = string_bytes c.put_number-3.new.out in
    let l4 = string_bytes c.put_number-4.new.out in
    let l5 = string_bytes c.put_number-5.new.out in
    let l6 = string_bytes c.put_era.new.out in
    let fee_a : l1 ≡ l0 ++ number_line [] (codes "min_fee_a") p.min_fee_a = c.in_ok-put_number.ensures ∙ ap (λ (n : ℕ). l0 ++ number_line [] (codes "min_fee_a") n) c.min_fee_a.ensures in
    let fee_b : l2 ≡ l1 ++ number_line [] (codes "min_fee_b") p.min_fee_b = c.in_ok-put_number-2.ensures ∙ ap (λ (n : ℕ). l1 ++ number_line [] (codes "min_fee_b") n) c.min_fee_b.ensures in
    let utxo : l3 ≡ l2 ++ number_line [] (codes "min_utxo") p.min_utxo = c.in_ok-put_number-3.ensures ∙ ap (λ (n : ℕ). l2 ++ number_line [] (codes "min_utxo") n) c.min_utxo.ensures in
    let tx : l4 ≡ l3 ++ number_line [] (codes "max_tx_size") p.max_tx_size = c.in_ok-put_number-4.ensures ∙ ap (λ (n : ℕ). l3 ++ number_line [] (codes "max_tx_size") n) c.max_tx_size.ensures.size in
    let body : l5 ≡ l4 ++ number_line [] (codes "max_body_size") p.max_body_size = c.in_ok-put_number-5.ensures ∙ ap (λ (n : ℕ). l4 ++ number_line [] (codes "max_body_size") n) c.max_body_size.ensures.size in
    let era : OnOk c.put_era.result (l6 ≡ l5 ++ lines_of_era p.second_era) = subst (λ (e : Option SecondEra). OnOk c.put_era.result (l6 ≡ l5 ++ lines_of_era e)) c.second_era.ensures.is c.put_era.ensures in
    let r = c.put_era.result in
    two_on r l0 l1 l6 _ _ fee_a (two_on r l1 l2 l6 _ _ fee_b (two_on r l2 l3 l6 _ _ utxo (two_on r l3 l4 l6 _ _ tx (two_on r l4 l5 l6 _ _ body era))))
