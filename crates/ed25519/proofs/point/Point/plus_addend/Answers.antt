use Rattle.std.proofs.Common.{◌≡◌, ap}
use Rattle.ed25519.specs.Addends.{addend_of}
use Rattle.ed25519.specs.Arithmetic.{plus, minus, times}
use Rattle.ed25519.specs.Points.{added, curve_d}
use Rattle.ed25519.specs.declared.addend.Addend.{Addend}
use Rattle.ed25519.specs.declared.point.Point.{Point}
use Rattle.ed25519.proofs.point.Point.plus_addend.Goals as goal

pub returns : goal.returns
unfolding added addend_of
returns c = λ (p : Point) e.
    let a : c.args.other.now.y_minus_x ≡ minus p.y p.x = ap (λ (v : Addend). v.y_minus_x) e in
    let b : c.args.other.now.y_plus_x ≡ plus p.y p.x = ap (λ (v : Addend). v.y_plus_x) e in
    let z : c.args.other.now.twice_z ≡ times 2 p.z = ap (λ (v : Addend). v.twice_z) e in
    let t : c.args.other.now.twice_d_t ≡ times (times 2 curve_d) p.t = ap (λ (v : Addend). v.twice_d_t) e in
    cc (a, b, z, t)
