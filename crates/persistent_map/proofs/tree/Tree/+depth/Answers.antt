use Rattle.std.proofs.Common.{◌≡◌, ℕ, suc, ◌+◌, ◌^◌, ◌<◌, max, length, sym, ap, subst, ◌∙◌, length-append, arith}
use Rattle.persistent_map.specs.Entries.{entries_of}
use Rattle.persistent_map.proofs.Depths.{deeper}
use Rattle.persistent_map.proofs.tree.Tree.+depth.Goals as goal

pub returns-in-Fork-clause-least : goal.returns-in-Fork-clause-least
returns-in-Fork-clause-least g t c = λ few.
    let n = c.in-Fork.node.value in
    let l = length c.deref.result.now.left in
    let r = length c.deref-in-Fork.result.now.right in
    let left : l ≡ length n.left = ap (λ d. length d.left) c.deref.ensures in
    let right : r ≡ length n.right = ap (λ d. length d.right) c.deref-in-Fork.ensures in
    let split : length c.args.self.now ≡ length n.left + suc (length n.right) = ap length (sym c.self.view_is ∙ ap entries_of c.in-Fork.is) ∙ length-append n.left _ in
    let deep = deeper l r c.depth.result c.depth-in-Fork.result (c.depth.ensures.least (omega (arith, few, split, left))) (c.depth-in-Fork.ensures.least (omega (arith, few, split, right))) in
    let below = c.max-below.ensures in
    let added = c.saturating_add.ensures in
    let most = c.depth.ensures.most in
    let other = c.depth-in-Fork.ensures.most in
    let deepest : c.saturating_add.result ≡ suc (max c.depth.result c.depth-in-Fork.result) = omega (arith, few, split, left, right, most, other, below, added) in
    subst (λ (k : ℕ). length c.args.self.now < 2 ^ k) (sym deepest) (omega (arith, split, left, right, deep))
