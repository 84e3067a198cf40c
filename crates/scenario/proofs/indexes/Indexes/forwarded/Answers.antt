use Rattle.std.proofs.Common.{◌≡◌, Some, rules}
use Rattle.scenario.proofs.indexes.Indexes.forwarded.Goals as goal

pub returns-in-Ok-Some : goal.returns-in-Ok-Some
returns-in-Ok-Some c =
    let some : c.in-Ok-Some.field-0 ≡ Some c.in-Ok-Some.field-0-0 = search (rules, c.in-Ok-Some.field-0-is) in
    rw (c.in-Ok-Some.is, some) (λ indexes are. (c.remove.ensures indexes are).1)
