use Rattle.std.proofs.Common.{◌≡◌, refl, sym, ◌∙◌, inl, inr}
use Rattle.block.specs.declared.fault.ReadFault.TheVariants as read
use Rattle.chain_core.proofs.OpenedOn.{never_read}
use Rattle.chain_core.proofs.reopening.unread.Goals as goal

pub returns-in-TooLarge : goal.returns-in-TooLarge
returns-in-TooLarge c = λ verifies s bytes of. (refl, never_read verifies s bytes c.args.fault of (λ out. elim c.in-TooLarge.is [ inl large ↦ absurd (let e : read.TooLarge ≡ read.OutOfMemory = sym large ∙ out in cc) | inr other ↦ elim other [ inl bad ↦ absurd (let e : read.Malformed ≡ read.OutOfMemory = sym bad ∙ out in cc) | inr body ↦ absurd (let e : read.BodyHashMismatch ≡ read.OutOfMemory = sym body ∙ out in cc) ] ]))
