use Rattle.std.proofs.Common.{[], List, ℕ, sym, subst}
use Rattle.model.specs.Disk.{Leaves}
use Rattle.model.specs.Log.{Opens}
use Rattle.immlog.proofs.Rows.{rest_opens}
use Rattle.immlog.proofs.log.Log.create.Goals as goal

pub returns-in-Ok-clause-left : goal.returns-in-Ok-clause-left
returns-in-Ok-clause-left g c =
    let m = g.D.Disk.moment c.wipe.new.disk in
    subst (λ (blocks : List (List ℕ)). Leaves (λ (bytes : List ℕ). Opens bytes blocks) m) (sym c.new.ensures.blocks)
    (rest_opens [] m (g.D.Disk.reads c.wipe.new.disk) tt c.in-Ok.ensures.settled c.in-Ok.ensures.text)
