use Rattle.std.proofs.Common.{◌≡◌, ◌^◌}
use Rattle.ed25519.specs.Arithmetic.{power}
use Rattle.ed25519.proofs.field_element.FieldElement.squared_times.Given as goal

abbrev pub invariant-loop-i : goal.invariant-loop-i
invariant-loop-i l = l.square ≡ power l.self (2 ^ l._i)
