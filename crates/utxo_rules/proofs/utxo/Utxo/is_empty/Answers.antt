use Rattle.std.proofs.Common.{[], sym, ap, ◌∙◌}
use Rattle.std.specs.FinMap as finite
use Rattle.model.specs.Transaction.{input_cmp}
use Rattle.model.specs.Utxo.{Utxo}
use Rattle.persistent_map.proofs.ForCallers.{entries_of, empty_of}
use Rattle.utxo_rules.proofs.utxo.Utxo.is_empty.Goals as goal

pub returns : goal.returns
returns c =
    let es = c.self.inside.map in
    let nothing = c.is_empty.ensures.empty in (
      (λ yes. sym c.self.view_is ∙ ap (finite.from_sorted {R = input_cmp}) (nothing.0 yes) ∙ empty_of input_cmp),
      (λ none. nothing.1 (sym (entries_of input_cmp es c.is_empty.ensures.rise) ∙ ap (λ (m : Utxo). finite.entries m) (c.self.view_is ∙ none ∙ sym (empty_of input_cmp)) ∙ finite.entries-from_sorted input_cmp [] tt)),
    )
