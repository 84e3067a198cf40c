use Rattle.std.proofs.Common.{length, arith}
use Rattle.model.proofs.LogTexts.{opens_first, not_both}
use Rattle.immlog.specs.Index.{blocks_in}
use Rattle.immlog.proofs.Rows.{rest_leaves}
use Rattle.immlog.proofs.log.Log.open.Goals as goal

pub returns-in-Ok-clause-kept : goal.returns-in-Ok-clause-kept
returns-in-Ok-clause-kept g c =
    let found = blocks_in c.in-Ok.field-0.index in
    rest_leaves found (length found) (g.D.Disk.moment c.recover.new.disk) (g.D.Disk.reads c.recover.new.disk) c.in-Ok.ensures.opened.sizes c.in-Ok.ensures.settled c.in-Ok.ensures.rest (omega arith)

pub returns-in-Err-clause-undamaged : goal.returns-in-Err-clause-undamaged
returns-in-Err-clause-undamaged g c = λ least blocks leaves place is.
    let log = leaves (g.D.Disk.reads c.args.disk) (g.met.D.Disk.read_is_left c.args.disk) in
    not_both (g.D.Disk.reads c.args.disk) log.first place (opens_first least blocks (g.D.Disk.reads c.args.disk) log) (c.in-Err.ensures.damaged place cc)
