use Rattle.shared.proofs.adder.Adder.fetch.Goals as goal
