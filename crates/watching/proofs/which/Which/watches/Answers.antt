use Rattle.std.proofs.Common.{ℕ, List, sym, ap, ◌∙◌}
use Rattle.model.specs.Transaction.{address_bytes}
use Rattle.tx.specs.View.{output_of}
use Rattle.watching.specs.Which.{Which, is_watched}
use Rattle.watching.specs.WhichView.{which_of}
use Rattle.watching.specs.declared.which.Kept.{Kept}
use Rattle.watching.proofs.Choosing.{has, set_has}
use Rattle.watching.proofs.which.Which.watches.Goals as goal

pub returns-in-Addresses : goal.returns-in-Addresses
returns-in-Addresses c =
    let x = output_of c.args.output.now in
    c.contains.ensures ∙ ap (has (λ (b : List ℕ). b) c.in-Addresses.owners.keys) c.of.ensures
    ∙ sym (set_has c.in-Addresses.owners.keys (address_bytes x.address))
    ∙ ap (λ (k : Kept). is_watched (which_of k) x) (sym c.in-Addresses.is)
    ∙ ap (λ (w : Which). is_watched w x) c.self.view_is
