use Rattle.shared.proofs.adder.Adder.bring_held.Goals as goal
