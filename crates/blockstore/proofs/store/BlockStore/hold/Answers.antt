use Rattle.std.proofs.Common.{sym, subst}
use Rattle.blockstore.specs.Placed.{Held}
use Rattle.blockstore.specs.HeldStore.{IsHeldStore}
use Rattle.blockstore.proofs.store.BlockStore.hold.Goals as goal

pub invariant_of-self : goal.invariant_of-self
invariant_of-self g c = subst (λ (h : Held). IsHeldStore {S = g.row.S.Denot} (record c.self.inside { blocks = h })) (sym c.hold.ensures) c.self.invariant
