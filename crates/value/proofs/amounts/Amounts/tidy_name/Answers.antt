use Rattle.std.proofs.Common.{◌≡◌, ◌∙◌, sym, subst, pos, refl, ℕ, List}
use Rattle.value.specs.Sums.{sum_under, amount_under}
use Rattle.byte_keys.proofs.ForCallers.{bytes_from}
use Rattle.value.proofs.Removing.{lookup_removed}
use Rattle.value.proofs.Sums.{zero_from_bits}
use Rattle.value.proofs.Tidying.{out_bit}
use Rattle.value.proofs.amounts.Amounts.tidy_name.Goals as goal

pub returns-then-amount-eq0-clause-same : goal.returns-then-amount-eq0-clause-same
returns-then-amount-eq0-clause-same c = λ q.
    let zero : amount_under c.args.self.now c.args.name.now ≡ pos 0 = sym c.amount.ensures ∙ zero_from_bits c.amount.result c.amount.type_inv c.if-amount-eq0.true in
    rw (c.remove.ensures.entries, lookup_removed (λ k. k.items) q c.args.name.now c.args.self.now.by_name.entries c.args.self.now.ordered)
    (out_bit _ (sum_under c.args.self.now q) (λ h. subst (λ (n : List ℕ). amount_under c.args.self.now n ≡ pos 0) (sym (bytes_from q c.args.name.now h)) zero))

pub returns-then-amount-eq0-clause-others : goal.returns-then-amount-eq0-clause-others
returns-then-amount-eq0-clause-others c = λ q apart.
    rw (c.remove.ensures.entries, lookup_removed (λ k. k.items) q c.args.name.now c.args.self.now.by_name.entries c.args.self.now.ordered, apart) refl
