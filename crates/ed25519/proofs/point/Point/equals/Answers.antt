use Rattle.std.proofs.Common.{eqb}
use Rattle.ed25519.specs.Arithmetic.{times}
use Rattle.ed25519.specs.Points.{same_point}
use Rattle.ed25519.proofs.Roots.{and_true, and_false}
use Rattle.ed25519.proofs.point.Point.equals.Goals as goal

pub returns-then-equals : goal.returns-then-equals
unfolding same_point
returns-then-equals c =
    let p = c.args.self.now in
    let q = c.args.other.now in
    and_true (eqb (times p.x q.z) (times q.x p.z)) (eqb (times p.y q.z) (times q.y p.z)) c.equals-then-equals.result
    (cc) (cc)

pub returns-else-equals : goal.returns-else-equals
unfolding same_point
returns-else-equals c =
    let p = c.args.self.now in
    let q = c.args.other.now in
    and_false (eqb (times p.x q.z) (times q.x p.z)) (eqb (times p.y q.z) (times q.y p.z)) c.equals.result (cc) (cc)
