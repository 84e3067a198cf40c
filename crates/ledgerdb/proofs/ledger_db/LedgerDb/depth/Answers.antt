use Rattle.std.proofs.Common.{length, sym, ap, ◌∙◌}
use Rattle.ledgerdb.specs.Values.{Database}
use Rattle.ledgerdb.proofs.Along.{along_length}
use Rattle.ledgerdb.proofs.ledger_db.LedgerDb.depth.Goals as goal

pub returns-clause-depth : goal.returns-clause-depth
returns-clause-depth c =
    c.len.ensures.value ∙ sym (along_length c.self.inside.diffs c.self.inside.state) ∙ ap (λ (db : Database). length db.states) c.self.view_is
