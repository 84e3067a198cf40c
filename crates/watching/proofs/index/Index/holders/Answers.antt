use Rattle.std.proofs.Common.{◌≡◌, map, sym, subst}
use Rattle.model.specs.Value.{Named}
use Rattle.model.specs.Utxo.{Utxo}
use Rattle.watching.specs.Holders.{AreHolders}
use Rattle.watching.specs.HoldersTold.{holders_among}
use Rattle.watching.specs.View.{holder_of}
use Rattle.watching.proofs.Holding.{are_holders}
use Rattle.watching.proofs.Owning.{ok_map}
use Rattle.watching.proofs.index.Index.holders.Goals as goal

pub returns : goal.returns
returns c =
    let asset = Named c.args.policy.now.bytes c.args.name.now in
    let owned = c.self.inside.owners in
    ok_map c.holders.result (λ holders. map holder_of holders.items ≡ holders_among asset owned) (λ holders. AreHolders asset c.args.self.now (map holder_of holders.items))
    (λ holders is. subst (AreHolders asset c.args.self.now) (sym is) (subst (λ (u : Utxo). AreHolders asset u (holders_among asset owned)) c.self.view_is (are_holders asset owned c.self.inside.all c.self.invariant.0)))
    c.holders.ensures
