use Rattle.std.proofs.Common.{◌∙◌, List, ℤ, map, refl, subst}
use Rattle.value.specs.Parts.{IsMintOf}
use Rattle.value.specs.View.{asset_of}
use Rattle.value.specs.declared.asset_quantity.AssetQuantity.{AssetQuantity as CodeAssetQuantity}
use Rattle.draft.proofs.Faults.{no_fault, on_err}
use Rattle.draft.proofs.Finishing.{ok_as, finished}
use Rattle.draft.proofs.draft.Draft.finish.Goals as goal

pub returns-in_err-mint-clause-err : goal.returns-in_err-mint-clause-err
returns-in_err-mint-clause-err g c = on_err c.from_residual.result (λ d s. no_fault d s.sound)

pub returns-clause-err : goal.returns-clause-err
returns-clause-err g c = on_err c.signed.result (λ d s. no_fault d s.sound)

pub returns-clause-tx : goal.returns-clause-tx
returns-clause-tx g c = λ d s.
    ok_as _ _ c.signed.result (λ tx of. finished g.K.Signer.signer c.args.self d (record { inputs = c.into_items-2.result; outputs = c.args.self.outputs; fee = c.unwrap_or.result; interval = record { start = c.args.self.start; end = c.args.self.end }; mint = c.in_ok-mint.mint })
    c.deref.result.now c.into_items-3.result.items s (record {
      beside = record {
        inputs = c.into_items-2.ensures;
        outputs = refl;
        fee = c.unwrap_or.ensures;
        interval = refl;
        mint = subst (λ (minted : List (CodeAssetQuantity ℤ)). IsMintOf c.in_ok-mint.mint (map asset_of minted)) c.into_items.ensures c.in_ok-mint.ensures;
      };
      signers = c.deref.ensures.value ∙ c.into_items-signers.ensures;
      scripts = c.into_items-3.ensures;
    }) tx of) c.signed.ensures.tx
