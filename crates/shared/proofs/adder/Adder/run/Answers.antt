use Rattle.std.proofs.Common.{ℕ, ◌+◌, sym, subst}
use Rattle.shared.specs.Starts.{network_from}
use Rattle.shared.proofs.Adders.{IsRunning, running_on}
use Rattle.shared.proofs.adder.Adder.run.Goals as goal

pub turns-preserved : goal.turns-preserved
turns-preserved g c =
    let network = network_from g.B.Room.start g.S.SigScheme.verifies in
    let b = c.in_ok-bring_held.ensures in
    subst (λ (count : ℕ). IsRunning network c.args.self.now c.bring_held-in-turns.new.self count (c.turns._turn + 1)) (sym c.saturating_add-count.ensures)
    (running_on network c.args.self.now c.turns.self c.take.new.self c.bring_held-in-turns.new.self c.turns.count c.in_ok-bring_held.field-0 c.turns._turn c.turns.invariant c.take.ensures b.added b.ok b.many b.intake)
