use Rattle.std.proofs.Common.{◌≡◌, ◌-◌, List, length, drop, ap, ◌∙◌, arith}
use Rattle.std.proofs.lemmas.Result.{IfOk-weaker}
use Rattle.model.specs.Block.{Block}
use Rattle.model.specs.Ledger.{Network}
use Rattle.model.specs.Applying.{LedgerState, IsStateOf}
use Rattle.ledgerdb.specs.Values.{Database, state_back}
use Rattle.ledgerdb.specs.Chains.{without_last, IsDatabaseOf}
use Rattle.ledgerdb.specs.Inside.{undone_blocks, database_of}
use Rattle.ledgerdb.proofs.Along.{along_length, back_is}
use Rattle.ledgerdb.proofs.Databases.{back_from}
use Rattle.ledgerdb.proofs.ledger_db.LedgerDb.state_at.Goals as goal

pub undo_last-requires : goal.undo_last-requires
undo_last-requires c =
    let within = c.requires in
    let long = along_length c.self.inside.diffs c.self.inside.state in
    let seen = ap (λ (db : Database). length db.states) c.self.view_is in
    omega (arith, within, long, seen)

pub returns-clause-state : goal.returns-clause-state
returns-clause-state c =
    let ds = c.self.inside.diffs in
    let s = c.self.inside.state in
    let back = c.args.back in
    let copy = c.in_ok-try_clone.field-0 in
    IfOk-weaker c.undo_last.result (λ before. before ≡ undone_blocks (drop (length ds - back) ds) copy) (λ (state : LedgerState). state ≡ state_back c.args.self.now back)
    (λ before is. back_is ds s copy before back c.in_ok-try_clone.ensures is ∙ ap (λ (db : Database). state_back db back) c.self.view_is) c.undo_last.ensures

pub returns-clause-chain : goal.returns-clause-chain
returns-clause-chain c =
    let ds = c.self.inside.diffs in
    let s = c.self.inside.state in
    let back = c.args.back in
    let now = c.args.self.now in
    let copy = c.in_ok-try_clone.field-0 in
    IfOk-weaker c.undo_last.result (λ before. before ≡ undone_blocks (drop (length ds - back) ds) copy)
    (λ (state : LedgerState). (network : Network) (chain : List Block) → IsDatabaseOf network chain now → IsStateOf network (without_last back chain) state)
    (λ before is. λ network chain of. back_from network chain now (database_of c.self.inside) back before of c.requires c.self.view_is (back_is ds s copy before back c.in_ok-try_clone.ensures is)) c.undo_last.ensures
