use Rattle.std.proofs.Common.{◌≡◌, map, take}
use Rattle.model.specs.Transaction.{address_bytes}
use Rattle.tx.specs.View.{address_of}
use Rattle.scenario.proofs.key_index.outputs_of.Given as goal

-- the addresses of the keys so far
abbrev pub invariant-loop-key : goal.invariant-loop-key
invariant-loop-key l = map (λ a. address_bytes (address_of a)) l.addresses.items ≡ map (λ k. address_bytes (address_of k.address)) (take l.key-index l.keys)
