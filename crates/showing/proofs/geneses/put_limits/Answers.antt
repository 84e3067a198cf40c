use Rattle.std.proofs.Common.{◌≡◌, ℕ, [], Option, ◌++◌, OnOk, ap, subst, ◌∙◌, codes}
use Rattle.std.specs.Prelude.{string_bytes}
use Rattle.showing.specs.Lines.{number_line}
use Rattle.showing.specs.Geneses.{given_line}
use Rattle.showing.proofs.Appended.{two_on}
use Rattle.showing.proofs.geneses.put_limits.Goals as goal

pub returns : goal.returns
returns c =
    let genesis = c.args.genesis.now in
    let l0 = string_bytes c.args.out.now in
    let l1 = string_bytes c.put_number.new.out in
    let l2 = string_bytes c.put_number-2.new.out in
    let l3 = string_bytes c.put_given.new.out in
    let l4 = string_bytes c.put_number-3.new.out in
    let k : l1 ≡ l0 ++ number_line [] (codes "k") genesis.k = c.in_ok-put_number.ensures ∙ ap (λ (n : ℕ). l0 ++ number_line [] (codes "k") n) c.k.ensures.k in
    let blocks : l2 ≡ l1 ++ number_line [] (codes "max_volatile") genesis.max_volatile = c.in_ok-put_number-2.ensures ∙ ap (λ (n : ℕ). l1 ++ number_line [] (codes "max_volatile") n) c.max_volatile.ensures in
    let bytes : l3 ≡ l2 ++ given_line (codes "max_volatile_bytes") genesis.max_volatile_bytes = c.in_ok-put_given.ensures ∙ ap (λ (o : Option ℕ). l2 ++ given_line (codes "max_volatile_bytes") o) c.max_volatile_bytes.ensures in
    let mempool : OnOk c.put_number-3.result (l4 ≡ l3 ++ number_line [] (codes "max_mempool") genesis.max_mempool) = subst (λ (n : ℕ). OnOk c.put_number-3.result (l4 ≡ l3 ++ number_line [] (codes "max_mempool") n)) c.max_mempool.ensures c.put_number-3.ensures in
    let r = c.put_number-3.result in
    two_on r l0 l1 l4 _ _ k (two_on r l1 l2 l4 _ _ blocks (two_on r l2 l3 l4 _ _ bytes mempool))
