use Rattle.std.proofs.Common.{sym, ap, ◌∙◌}
use Rattle.model.specs.Utxo.{Utxo, output_at}
use Rattle.watching.specs.Owned.{Owned, owned_at, only_of}
use Rattle.watching.proofs.Owning.{none_owned}
use Rattle.watching.proofs.index.Index.new.Goals as goal

pub invariant_of-result : goal.invariant_of-result
invariant_of-result c = (
  (λ owner input.
      ap (λ (m : Owned). output_at (owned_at m owner) input) c.new-2.ensures ∙ none_owned owner input
      ∙ ap (λ (u : Utxo). only_of owner (output_at u input)) (sym c.new.ensures)),
  c.new-3.ensures,
)
