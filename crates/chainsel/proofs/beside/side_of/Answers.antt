use Rattle.chainsel.specs.Sides.{IsSideOf}
use Rattle.chainsel.proofs.Sides.{if_ok_some, side_at}
use Rattle.chainsel.proofs.beside.side_of.Goals as goal

pub returns : goal.returns
returns g c =
    let verifies = g.S.SigScheme.verifies in
    let db = c.args.db.now in
    let way = c.args.way.now in
    if_ok_some c.state_on.result _ (IsSideOf verifies db way) (λ s is. side_at verifies db way c.args.back c.min-first.result s is) c.state_on.ensures
