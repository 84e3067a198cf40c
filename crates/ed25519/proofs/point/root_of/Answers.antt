use Rattle.std.proofs.Common.{◌≡◌, ◌∙◌, ap, Some, ℕ}
use Rattle.ed25519.specs.Arithmetic.{root_of_minus_one, times}
use Rattle.ed25519.proofs.Powers.{third, seventh}
use Rattle.ed25519.proofs.Roots.{candidate, root_first, root_second, root_none}
use Rattle.ed25519.proofs.point.root_of.Goals as goal

pub returns-then-equals : goal.returns-then-equals
returns-then-equals c =
    root_first c.args.u.now c.args.v.now c.times-x.result c.times-check.result (cc) (cc)
    ∙ candidate _ _ _ _ _ (third _ _ _ c.squared.ensures c.times-cube.ensures)
    (seventh _ _ _ _ (third _ _ _ c.squared.ensures c.times-cube.ensures) c.squared-2.ensures c.times-seventh.ensures)
    (cc)

pub returns-then-equals-2 : goal.returns-then-equals-2
returns-then-equals-2 c =
    let e : c.times-then-equals-2.result ≡ times c.times-x.result root_of_minus_one = cc in
    ap (λ (n : ℕ). Some n) e
    ∙ root_second c.args.u.now c.args.v.now c.times-x.result c.times-check.result (cc) (cc) (cc)
    ∙ candidate _ _ _ _ _ (third _ _ _ c.squared.ensures c.times-cube.ensures)
    (seventh _ _ _ _ (third _ _ _ c.squared.ensures c.times-cube.ensures) c.squared-2.ensures c.times-seventh.ensures)
    (cc)

pub returns-else-equals-2 : goal.returns-else-equals-2
returns-else-equals-2 c =
    root_none c.args.u.now c.args.v.now c.times-x.result c.times-check.result (cc) (cc) (cc)
    ∙ candidate _ _ _ _ _ (third _ _ _ c.squared.ensures c.times-cube.ensures)
    (seventh _ _ _ _ (third _ _ _ c.squared.ensures c.times-cube.ensures) c.squared-2.ensures c.times-seventh.ensures)
    (cc)
