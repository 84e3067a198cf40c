use Rattle.std.proofs.Common.{◌≡◌, ◌-◌, length, drop, refl, sym, ap, ◌∙◌, arith}
use Rattle.model.specs.Applying.{LedgerState}
use Rattle.ledger.specs.declared.block_fault.ApplyFault.TheVariants as apply
use Rattle.ledger.proofs.ForCallers.{none_of_four}
use Rattle.ledgerdb.specs.Values.{Database, state_back}
use Rattle.ledgerdb.specs.Inside.{undone_blocks}
use Rattle.ledgerdb.proofs.Along.{along_length, back_is, undone_params}
use Rattle.ledgerdb.proofs.Forks.{first_stops}
use Rattle.ledgerdb.proofs.ledger_db.LedgerDb.without_memory.Goals as goal

pub nth_newest-diff-requires : goal.nth_newest-diff-requires
nth_newest-diff-requires g c =
    let within = c.requires in
    let long = along_length c.self.inside.diffs c.self.inside.state in
    let seen = ap (λ (db : Database). length db.states) c.self.view_is in
    omega (arith, within, long, seen)

pub returns-in-Some-misfit_before : goal.returns-in-Some-misfit_before
returns-in-Some-misfit_before g c =
    let ds = c.self.inside.diffs in
    let s = c.self.inside.state in
    let back = c.args.back in
    let root = state_back c.args.self.now back in
    let left = drop (length ds - back) ds in
    let is_root : undone_blocks left s ≡ root = back_is ds s s (undone_blocks left s) back refl refl ∙ ap (λ (db : Database). state_back db back) c.self.view_is in
    let params : root.params ≡ s.params = ap (λ (t : LedgerState). t.params) (sym is_root) ∙ undone_params left s in
    let tip = sym (c.nth_newest-diff.ensures s ∙ ap (λ (t : LedgerState). t.tip) is_root) in
    first_stops g.S.SigScheme.verifies root c.args.blocks.now c.in-Some.block.now (apply.Refused c.in-Some-misfit_before.fault) c.in-Some.ensures.value (c.in-Some-misfit_before.ensures root params tip)

pub returns-in-None : goal.returns-in-None
returns-in-None g c = λ some.
    let ds = c.self.inside.diffs in
    let s = c.self.inside.state in
    let back = c.args.back in
    let root = state_back c.args.self.now back in
    let left = drop (length ds - back) ds in
    let is_root : undone_blocks left s ≡ root = back_is ds s s (undone_blocks left s) back refl refl ∙ ap (λ (db : Database). state_back db back) c.self.view_is in
    let params : root.params ≡ s.params = ap (λ (t : LedgerState). t.params) (sym is_root) ∙ undone_params left s in
    let tip = sym (c.nth_newest-diff.ensures s ∙ ap (λ (t : LedgerState). t.tip) is_root) in
    let fits = none_of_four g.S.SigScheme.verifies root c.in-Some.block.now (c.in-None.ensures root params tip) in
    (0, first_stops g.S.SigScheme.verifies root c.args.blocks.now c.in-Some.block.now apply.OutOfMemory c.in-Some.ensures.value fits)
