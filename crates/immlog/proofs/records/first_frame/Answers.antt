use Rattle.std.proofs.Common.{◌≡◌, sym, subst, refl, arith, true, false}
use Rattle.model.specs.Log.{IsLogBlock}
use Rattle.immlog.proofs.Reading.{split_of, none_short, none_past, block_taken}
use Rattle.immlog.proofs.Framing.{frame_here}
use Rattle.immlog.proofs.records.first_frame.Goals as goal

pub returns-in_err-size : goal.returns-in_err-size
returns-in_err-size c =
    rw c.from_residual.ensures (none_short c.args.bytes.now (omega (arith, c.in_err-size.ensures.cases)))

pub returns-in_err-digest : goal.returns-in_err-digest
returns-in_err-digest c =
    rw c.from_residual-in_err-digest.ensures (none_short c.args.bytes.now (omega (arith, c.in_err-digest.ensures.cases, c.in_ok-size.ensures.cases.2)))

pub returns-in_err-block : goal.returns-in_err-block
returns-in_err-block c =
    let a = c.in_ok-size.ensures.cases in
    let b = c.in_ok-digest.ensures.cases in
    let split = split_of c.args.bytes.now c.in_ok-size.size.now c.in_ok-size.rest.now c.in_ok-digest.digest.now c.in_ok-digest.rest.now a.0 a.1 a.2 b.0 b.1 b.2 in
    rw c.from_residual-in_err-block.ensures
    (none_past c.args.bytes.now c.in_ok-size.size.now c.in_ok-digest.digest.now c.in_ok-digest.rest.now c.from_be_bytes.result split c.from_be_bytes.ensures c.in_err-block.ensures.cases)

pub returns-then-is_block_size : goal.returns-then-is_block_size
returns-then-is_block_size c =
    let a = c.in_ok-size.ensures.cases in
    let b = c.in_ok-digest.ensures.cases in
    let at = c.in_ok-block.ensures.cases in
    let split = split_of c.args.bytes.now c.in_ok-size.size.now c.in_ok-size.rest.now c.in_ok-digest.digest.now c.in_ok-digest.rest.now a.0 a.1 a.2 b.0 b.1 b.2 in
    let size = c.if-is_block_size.ensures.0 refl in
    let is_block : IsLogBlock c.in_ok-block.block.now = record { some = size.0; within = size.1 } in
    frame_here c.args.bytes.now c.in_ok-size.size.now c.in_ok-digest.digest.now c.in_ok-digest.rest.now c.in_ok-block.block.now c.in_ok-block.field-0-1.now c.from_be_bytes.result split
    (λ i. (c.type_inv.bytes i).fits) c.from_be_bytes.ensures at.1 at.2 at.3 is_block

pub returns-else-is_block_size : goal.returns-else-is_block_size
returns-else-is_block_size c = λ block more is_block text.
    let a = c.in_ok-size.ensures.cases in
    let b = c.in_ok-digest.ensures.cases in
    let at = c.in_ok-block.ensures.cases in
    let split = split_of c.args.bytes.now c.in_ok-size.size.now c.in_ok-size.rest.now c.in_ok-digest.digest.now c.in_ok-digest.rest.now a.0 a.1 a.2 b.0 b.1 b.2 in
    let taken = block_taken c.args.bytes.now c.in_ok-size.size.now c.in_ok-digest.digest.now c.in_ok-digest.rest.now c.in_ok-block.block.now block more c.from_be_bytes.result split c.from_be_bytes.ensures at.1 is_block text in
    let sized : IsLogBlock c.in_ok-block.block.now = subst IsLogBlock (sym taken.0) is_block in
    let e : false ≡ true = c.if-is_block_size.ensures.1 (sized.some, sized.within) in
    absurd cc
