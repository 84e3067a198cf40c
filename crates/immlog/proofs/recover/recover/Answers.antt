use Rattle.std.proofs.Common.{subst, List, ℕ}
use Rattle.immlog.specs.Steps.{IsFound}
use Rattle.immlog.specs.Index.{blocks_in}
use Rattle.immlog.proofs.Recovering.{unsettled_keeps, settled_keeps, keeps_same, keeps_logs_then, beginning_found}
use Rattle.immlog.proofs.recover.recover.Goals as goal

pub returns-in_default-clause-keeps : goal.returns-in_default-clause-keeps
returns-in_default-clause-keeps g c = unsettled_keeps _ _ _ _ c.in_default.ensures.failed c.in_default.ensures.failed_clock

pub returns-in_err-found-clause-keeps : goal.returns-in_err-found-clause-keeps
returns-in_err-found-clause-keeps g c =
    let may = g.met.D.Disk.read_is_left c.args.disk.now in
    keeps_same _ _ _ _ _ _ (settled_keeps _ _ _ _ (g.D.Disk.reads c.args.disk.now) may c.in-Ok.ensures.sure c.in-Ok.ensures.clock) c.find_records.ensures.still c.find_records.ensures.clock

pub returns-in_default-tidy-clause-keeps : goal.returns-in_default-tidy-clause-keeps
returns-in_default-tidy-clause-keeps g c =
    let may = g.met.D.Disk.read_is_left c.args.disk.now in
    let before = keeps_same _ _ _ _ _ _ (settled_keeps _ _ _ _ (g.D.Disk.reads c.args.disk.now) may c.in-Ok.ensures.sure c.in-Ok.ensures.clock) c.find_records.ensures.still c.find_records.ensures.clock in
    keeps_logs_then _ _ _ _ _ _ before c.tidy.ensures.keeps

pub returns-clause-keeps : goal.returns-clause-keeps
returns-clause-keeps g c =
    let may = g.met.D.Disk.read_is_left c.args.disk.now in
    let before = keeps_same _ _ _ _ _ _ (settled_keeps _ _ _ _ (g.D.Disk.reads c.args.disk.now) may c.in-Ok.ensures.sure c.in-Ok.ensures.clock) c.find_records.ensures.still c.find_records.ensures.clock in
    keeps_logs_then _ _ _ _ _ _ before c.tidy.ensures.keeps

pub returns-clause-begins : goal.returns-clause-begins
returns-clause-begins g c = λ least blocks leaves.
    let reads = g.D.Disk.reads c.args.disk.now in
    let log = leaves reads (g.met.D.Disk.read_is_left c.args.disk.now) in
    let found = blocks_in c.in_ok-found.found.index in
    let is = subst (λ (l : List ℕ). IsFound l c.in_ok-found.found.gate found) c.sync.ensures.same c.in_ok-found.ensures.found in
    beginning_found least blocks found reads c.in_ok-found.found.gate log is
