use Rattle.std.proofs.Common.{◌≡◌, ℕ, List, Option, Some, None, ap, ◌∙◌}
use Rattle.std.specs.Prelude.{unwrap_or}
use Rattle.std.specs.FinMap as finite
use Rattle.model.specs.Utxo.{Utxo}
use Rattle.utxo_rules.specs.Entries.{pairs_with}
use Rattle.watching.proofs.Sifted.{owner_entries}
use Rattle.watching.proofs.index.Index.of.Goals as goal

pub returns-in-Some : goal.returns-in-Some
returns-in-Some c =
    let owned = c.self.inside.owners in
    let owner = c.of.result in
    let found : Some c.in-Some.outputs.now ≡ finite.get owned owner = rw c.in-Some.is at c.get.ensures in
    ap (λ (o : Option Utxo). finite.entries (unwrap_or o finite.empty)) found
    ∙ owner_entries owned c.self.inside.all owner c.self.invariant.0
    ∙ ap (λ (u : Utxo). pairs_with owner (finite.entries u)) c.self.view_is
    ∙ ap (λ (o : List ℕ). pairs_with o (finite.entries c.args.self.now)) c.of.ensures

pub returns-in-None : goal.returns-in-None
returns-in-None c =
    let owned = c.self.inside.owners in
    let owner = c.of.result in
    let found : None ≡ finite.get owned owner = rw c.in-None.is at c.get.ensures in
    ap (λ (u : Utxo). finite.entries u) c.self.invariant.1
    ∙ ap (λ (o : Option Utxo). finite.entries (unwrap_or o finite.empty)) found
    ∙ owner_entries owned c.self.inside.all owner c.self.invariant.0
    ∙ ap (λ (u : Utxo). pairs_with owner (finite.entries u)) c.self.view_is
    ∙ ap (λ (o : List ℕ). pairs_with o (finite.entries c.args.self.now)) c.of.ensures
