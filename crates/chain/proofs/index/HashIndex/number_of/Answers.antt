use Rattle.std.proofs.Common.{◌≡◌, ℕ, ◌≤◌, List, length, take, sym, ap, subst, ◌∙◌}
use Rattle.std.specs.Prelude.{slice_get}
use Rattle.chain.specs.Chained.{chain_of}
use Rattle.chain.specs.Indexed.{Indexed, first_hashes}
use Rattle.chain.specs.InsideIndex.{hashes_in}
use Rattle.chain.specs.Searches.{EndsBy}
use Rattle.chain.specs.declared.index.Node.{Node}
use Rattle.chain.proofs.Searches.{hash_there, hashed_block, none_has, not_both}
use Rattle.chain.proofs.index.HashIndex.number_of.Goals as goal

pub returns-in-Found : goal.returns-in-Found
returns-in-Found g c =
    let size : length c.deref.result.now ≡ length c.args.self.now.hashes = ap length c.deref.ensures.value ∙ c.self.invariant.count ∙ ap (λ (x : Indexed). length x.hashes) c.self.view_is in
    let is = c.in-Found.ensures in (
      subst (λ (k : ℕ). c.in-Found.number ≤ k) size is.1,
      hashed_block _ _ (sym (hash_there (chain_of c.args.chain.now) (length c.deref.result.now) c.in-Found.number is.0 is.1) ∙ is.2),
    )

pub returns-in-Ends : goal.returns-in-Ends
returns-in-Ends g c =
    let chain = chain_of c.args.chain.now in
    let nodes = c.self.inside.nodes.items in
    let hashes = hashes_in c.self.inside.noted.items in
    let hash = c.args.hash.bytes in
    let seen : hashes ≡ c.args.self.now.hashes = ap (λ (x : Indexed). x.hashes) c.self.view_is in
    let size : length c.deref.result.now ≡ length c.args.self.now.hashes = ap length c.deref.ensures.value ∙ c.self.invariant.count ∙ ap length seen in
    let firsts : first_hashes (length c.deref.result.now) chain ≡ hashes = ap (λ (k : ℕ). first_hashes k chain) size ∙ sym c.requires ∙ sym seen in
    let ends = c.in-Ends.ensures.2 in
    let here : EndsBy nodes hashes hash ends.0 1 0 c.in-Ends.field-0 c.in-Ends.field-1 =
    subst (λ (ns : List Node). EndsBy ns hashes hash ends.0 1 0 c.in-Ends.field-0 c.in-Ends.field-1) c.deref.ensures.value
    (subst (λ (hs : List (List ℕ)). EndsBy c.deref.result.now hs hash ends.0 1 0 c.in-Ends.field-0 c.in-Ends.field-1) firsts ends.1) in
    none_has (take (length c.args.self.now.hashes) chain) hash
    (λ place is.
    let found = c.self.invariant.found place hash (ap (λ (hs : List (List ℕ)). slice_get hs place) (seen ∙ c.requires) ∙ is) in
    not_both nodes hashes hash found.0 ends.0 1 0 found.1 c.in-Ends.field-0 c.in-Ends.field-1 found.2 here)
