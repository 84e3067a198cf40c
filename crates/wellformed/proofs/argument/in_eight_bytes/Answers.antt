use Rattle.std.proofs.Common.{◌≤◌, length, arith}
use Rattle.std.specs.Int.{w64, from_be_bytes}
use Rattle.wellformed.proofs.Heads.{wide_eight}
use Rattle.wellformed.proofs.Zeros.{zeros, no_zeros, wide_ends, wide_stops, wide_read}
use Rattle.wellformed.proofs.argument.in_eight_bytes.Goals as goal

pub returns-then-begins_with_zeros-clause-stops : goal.returns-then-begins_with_zeros-clause-stops
returns-then-begins_with_zeros-clause-stops c =
    let bytes = c.args.bytes.now in
    let z = zeros c.begins_with_zeros.result 3 bytes c.begins_with_zeros.ensures c.if-begins_with_zeros.true in
    wide_stops 27 3 8 (from_be_bytes w64) wide_eight bytes _ (λ i. omega (arith, c.type_inv.bytes i)) z.0 (omega (arith, z.0)) z.1

pub returns-in_default-clause-stops : goal.returns-in_default-clause-stops
returns-in_default-clause-stops c =
    let bytes = c.args.bytes.now in
    wide_ends 27 3 8 (from_be_bytes w64) wide_eight bytes (λ i. omega (arith, c.type_inv.bytes i)) c.in_default.ensures.cases
    (no_zeros c.begins_with_zeros.result 3 bytes c.begins_with_zeros.ensures c.if-begins_with_zeros.false)

pub returns-clause-found : goal.returns-clause-found
returns-clause-found c =
    let bytes = c.args.bytes.now in
    let parts = c.in-Some.ensures.cases in
    let long : 8 ≤ length bytes = omega (arith, parts.2) in
    wide_read 27 3 8 (from_be_bytes w64) wide_eight bytes c.in-Some.number.now c.in-Some.rest.now c.from_be_bytes.result (λ i. omega (arith, c.type_inv.bytes i)) parts.0 parts.1 long (c.from_be_bytes.ensures)
    (no_zeros c.begins_with_zeros.result 3 bytes c.begins_with_zeros.ensures c.if-begins_with_zeros.false)
