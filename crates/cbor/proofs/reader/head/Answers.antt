-- Each answer first says what the reading gives, as the code computes it.
use Rattle.std.proofs.Common.{rules, ◌≡◌, None, arith}
use Rattle.std.proofs.lemmas.Grind.{common_steps}
use Rattle.cbor.specs.Major.{major_number}
use Rattle.cbor.specs.Reading.{head_at}
use Rattle.cbor.proofs.Clauses.{no_head, head_found, head_refused}
use Rattle.cbor.proofs.reader.head.Goals as goal

pub returns-in_err-first-clause-none : goal.returns-in_err-first-clause-none
unfolding head_at
returns-in_err-first-clause-none c =
    let unread : head_at (major_number c.args.major) c.args.bytes.now ≡ None = grind (arith, common_steps) in
    rw c.from_residual.ensures (no_head (major_number c.args.major) c.args.bytes.now unread)

pub returns-then-first-clause-none : goal.returns-then-first-clause-none
unfolding head_at
returns-then-first-clause-none c =
    let unread : head_at (major_number c.args.major) c.args.bytes.now ≡ None = search rules in
    no_head (major_number c.args.major) c.args.bytes.now unread

pub returns-clause-found : goal.returns-clause-found
unfolding head_at
returns-clause-found c = head_found (major_number c.args.major) c.args.bytes.now c.argument.result (λ i. omega (arith, c.type_inv.bytes i)) (grind (arith, common_steps))

pub returns-clause-none : goal.returns-clause-none
unfolding head_at
returns-clause-none c = head_refused (major_number c.args.major) c.args.bytes.now c.argument.result (grind (arith, common_steps))
