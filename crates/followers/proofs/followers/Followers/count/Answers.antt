use Rattle.std.proofs.Common.{ap, arith}
use Rattle.followers.specs.Places.{Places, open_count}
use Rattle.followers.proofs.Frees.{free_or_open}
use Rattle.followers.proofs.followers.Followers.count.Goals as goal

pub overflow_sub-result : goal.overflow_sub-result
overflow_sub-result c =
    let every = free_or_open c.self.inside.places.items in
    let counted = c.self.invariant.counted in
    let all = c.len.ensures in
    let free = c.len-2.ensures in
    omega arith

pub returns : goal.returns
returns c =
    let every = free_or_open c.self.inside.places.items in
    let counted = c.self.invariant.counted in
    let all = c.len.ensures in
    let free = c.len-2.ensures in
    let view = ap (λ (ps : Places). open_count ps) c.self.view_is in
    omega arith
