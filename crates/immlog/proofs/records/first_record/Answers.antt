use Rattle.std.proofs.Common.{◌≡◌, false, true, sym, ◌∙◌}
use Rattle.immlog.proofs.Framing.{frame_digest}
use Rattle.immlog.proofs.records.first_record.Goals as goal

pub returns-else-is_same : goal.returns-else-is_same
returns-else-is_same c = λ block more is_block text.
    let frame = c.in_ok-digest.ensures in
    let same = frame_digest c.in_ok-digest.digest.now c.in_ok-digest.block.now frame.more block more frame.size frame.long is_block (sym frame.text ∙ text) in
    let e : false ≡ true = c.if-is_same.ensures.1 (same ∙ sym c.digest.ensures) in
    absurd cc
