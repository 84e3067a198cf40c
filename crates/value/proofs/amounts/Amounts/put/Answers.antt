use Rattle.std.proofs.Common.{sym, ◌∙◌, ap, subst, ℤ, Option, ◌^◌}
use Rattle.std.specs.Option.{option_copied_mut}
use Rattle.value.specs.Quantities.{IsWithin}
use Rattle.value.specs.Sums.{or_zero}
use Rattle.byte_keys.proofs.ForCallers.{set_apart}
use Rattle.value.proofs.Sums.{written, put_amount, put_keeps}
use Rattle.value.proofs.amounts.Amounts.put.Goals as goal

pub returns-in-Some-clause-sums : goal.returns-in-Some-clause-sums
returns-in-Some-clause-sums c = λ q.
    let found = sym c.get_mut.ensures.value ∙ ap option_copied_mut c.in-Some.is in
    let room : IsWithin (2 ^ 126) c.in-Some.amount.now = subst (λ (o : Option ℤ). IsWithin (2 ^ 126) (or_zero o)) found c.requires.room in
    rw ((c.get_mut.follows.holds _).0)
    (put_amount (λ k. k.items) or_zero q c.args.name.now c.args.self.now.by_name.entries _ c.in-Some.amount.now c.args.by found (written c.in-Some.amount.now c.args.by room c.requires.within))

pub returns-in-Some-clause-kept : goal.returns-in-Some-clause-kept
returns-in-Some-clause-kept c = λ q had. rw ((c.get_mut.follows.holds _).0) (put_keeps (λ k. k.items) q c.args.name.now c.args.self.now.by_name.entries _ c.requires.present had)

pub returns-in-Some-clause-others : goal.returns-in-Some-clause-others
returns-in-Some-clause-others c = λ q apart. rw ((c.get_mut.follows.holds _).0) (set_apart (λ k. k.items) q c.args.name.now c.args.self.now.by_name.entries _ c.requires.present apart)
