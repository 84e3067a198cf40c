use Rattle.std.proofs.Common.{[], ◌++◌, ap, sym, ◌∙◌, map, length}
use Rattle.std.specs.Prelude.{flat_map}
use Rattle.model.specs.Value.{Ada}
use Rattle.model.specs.Utxo.{sum_of}
use Rattle.tx.specs.View.{address_of}
use Rattle.value.specs.Totals.{total_of}
use Rattle.value.specs.View.{asset_of}
use Rattle.script.specs.PartView.{owner_of}
use Rattle.scenario.specs.Balances.{asset_text, balance_text, outputs_of_address, owner_text}
use Rattle.scenario.proofs.BalanceSums.{lines_behind, same_assets}
use Rattle.scenario.proofs.balance.balance_lines.Goals as goal

pub returns : goal.returns
returns c =
    let owner = owner_of c.args.owner in
    let totals = c.in_ok-totals.totals in
    let outputs = outputs_of_address (address_of c.args.address.now) c.args.utxo.now in
    let assets = map asset_of c.in_ok-assets.assets.items in
    let lines = flat_map asset_text assets in
    record {
      assets = assets;
      are_assets = same_assets (total_of totals) (λ asset. sum_of asset outputs) assets c.in_ok-totals.ensures.sums c.in_ok-assets.ensures;
      text =
          c.in_ok-print_assets.ensures ∙ ap (λ items. c.print_coin.new.line.items ++ flat_map asset_text (map asset_of items)) c.deref.ensures.value
          ∙ ap (λ bs. bs ++ lines) (c.in_ok-print_coin.ensures ∙ ap (λ bs. bs ++ balance_text owner totals.values (total_of totals Ada) []) c.new-lines.ensures.items)
          ∙ sym (lines_behind (owner_text owner) totals.values (total_of totals Ada) lines)
          ∙ ap (λ n. balance_text owner n (total_of totals Ada) assets) c.in_ok-totals.ensures.counted
          ∙ ap (λ z. balance_text owner (length outputs) z assets) (c.in_ok-totals.ensures.sums Ada);
    }
