use Rattle.conversing.specs.Found.{asset_text}
use Rattle.conversing.proofs.ListLaws.{none_listed, one_listed, all_listed}
use Rattle.conversing.proofs.found.put_assets.Goals as goal

pub loop-asset-init : goal.loop-asset-init
loop-asset-init c = none_listed asset_text c.args.line.now.items c.args.assets.now c.extend_from_slice.new.self.items c.as_slice-separator.result.now c.in_ok-extend_from_slice.ensures.items c.as_slice-separator.ensures

pub loop-asset-preserved : goal.loop-asset-preserved
loop-asset-preserved c =
    one_listed asset_text c.args.line.now.items c.args.assets.now c.loop-asset.line.items c.extend_from_slice-in-loop-asset.new.self.items c.put_asset.new.line.items c.loop-asset.separator.now c.as_slice-separator-in-loop-asset.result.now c.loop-asset.asset-index _
    c.loop-asset-test.true c.in_ok-extend_from_slice-2.ensures.items c.in_ok-put_asset.ensures c.as_slice-separator-in-loop-asset.ensures c.loop-asset.invariant

pub returns : goal.returns
returns c = all_listed asset_text c.args.line.now.items c.args.assets.now c.extend_from_slice-2.result c.loop-asset.line.items c.extend_from_slice-2.new.self.items c.loop-asset.separator.now c.loop-asset.asset-index
    c.loop-asset-test.false c.extend_from_slice-2.ensures.items c.loop-asset.invariant
