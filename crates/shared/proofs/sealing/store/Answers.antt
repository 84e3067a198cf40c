use Rattle.std.proofs.Common.{◌≡◌, sym, subst, arith}
use Rattle.atomic_table.specs.Table.{Allows}
use Rattle.model.specs.Journal.{JournalEntry}
use Rattle.shared.specs.Heights.{IsKept, IsWritten}
use Rattle.shared.specs.Starts.{start_of}
use Rattle.shared.proofs.Moves.{writes_entry}
use Rattle.shared.proofs.sealing.store.Goals as goal

pub store-requires : goal.store-requires
store-requires g c =
    let r = c.requires in (
      r.seat,
      (let w = r.word in omega arith),
      subst (λ (e : JournalEntry). Allows (IsKept g.S.SigScheme.verifies (start_of c.args.heights.now.shared.key)) c.args.heights.now.shared.table_id.slots c.args.seat.now.id c.args.seat.now.me 0 (λ _. c.args.height) (λ _ after. IsWritten e c.args.seat.now.me.0 after.0 × (after.1 ≡ c.args.seat.now.me.1))) (sym r.named)
          (writes_entry g.S.SigScheme.verifies (start_of c.args.heights.now.shared.key) _ _ c.args.seat.now.me c.args.entry.now c.args.height r.right r.own r.legal r.height),
    )
