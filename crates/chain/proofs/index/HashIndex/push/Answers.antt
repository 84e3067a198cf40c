use Rattle.std.proofs.Common.{◌≡◌, ℕ, ◌+◌, ◌<◌, ◌++◌, min, List, [], ◌∷◌, length, sym, ap, subst, ◌∙◌, vec_capacity, arith}
use Rattle.std.specs.Prelude.{option_map, Some}
use Rattle.std.proofs.lemmas.List.{map-append, length-append}
use Rattle.model.specs.Block.{block_hash_of}
use Rattle.chain.specs.Chained.{chain_of, block_numbered}
use Rattle.chain.specs.Indexed.{Indexed, first_hashes}
use Rattle.chain.specs.InsideIndex.{hashes_in}
use Rattle.chain.specs.Searches.{IsHung, IsRising, AreFound, leaf}
use Rattle.chain.specs.declared.index.Node.{Node}
use Rattle.chain.proofs.Searches.{grown, hashes_more}
use Rattle.chain.proofs.index.HashIndex.push.Goals as goal

pub invariant_of-self : goal.invariant_of-self
invariant_of-self g c =
    let chain = chain_of c.args.chain.now in
    let nodes = c.self.inside.nodes.items in
    let hashes = hashes_in c.self.inside.noted.items in
    let hash = c.in-Some.hash.bytes in
    let inv = c.self.invariant in
    let seen : hashes ≡ c.args.self.now.hashes = ap (λ (x : Indexed). x.hashes) c.self.view_is in
    let firsts : first_hashes (length nodes) chain ≡ hashes = ap (λ (k : ℕ). first_hashes k chain) (inv.count ∙ ap length seen) ∙ sym c.requires.noted ∙ sym seen in
    let is_led : IsHung nodes hashes hash c.hang.new.nodes.items = subst (λ (hs : List (List ℕ)). IsHung nodes hs hash c.hang.new.nodes.items) firsts c.hang.ensures.hung in
    let more = grown nodes hashes hash inv.count inv.rising inv.found c.hang.new.nodes.items is_led in
    let pushed : c.push_reserved.new.self.items ≡ c.hang.new.nodes.items ++ leaf ∷ [] = c.push_reserved.ensures.items in
    let noted : hashes_in c.and-self-inside.result.items ≡ hashes ++ hash ∷ [] = ap hashes_in c.and-self-inside.ensures ∙ map-append (λ p. p.0.bytes) c.self.inside.noted.items ((c.in-Some.hash, tt) ∷ []) in
    let long : length c.push_reserved.new.self.items ≡ length nodes + 1 = ap length pushed ∙ more.2 in
    let room : length hashes < min (vec_capacity c.self.inside.nodes) 4294967295 = subst (λ (x : Indexed). length x.hashes < x.room) (sym c.self.view_is) c.requires.room in
    let count = inv.count in
    record {
      count = long ∙ ap (λ (k : ℕ). k + 1) inv.count ∙ sym (ap length noted ∙ length-append hashes (hash ∷ []));
      few = omega (arith, long, room, count);
      rising = subst IsRising (sym pushed) more.0;
      found = subst (λ (ns : List Node). AreFound ns (hashes_in c.and-self-inside.result.items)) (sym pushed) (subst (λ (hs : List (List ℕ)). AreFound (c.hang.new.nodes.items ++ leaf ∷ []) hs) (sym noted) more.1);
    }

pub returns : goal.returns
returns g c =
    let chain = chain_of c.args.chain.now in
    let hashes = hashes_in c.self.inside.noted.items in
    let hash = c.in-Some.hash.bytes in
    let k = length c.args.self.now.hashes in
    let seen : hashes ≡ c.args.self.now.hashes = ap (λ (x : Indexed). x.hashes) c.self.view_is in
    let counted : c.len.result ≡ k = c.len.ensures ∙ c.self.inside.nodes.ok.0 ∙ c.self.invariant.count ∙ ap length seen in
    let is : option_map block_hash_of (block_numbered chain (k + 1)) ≡ Some hash = ap (λ (n : ℕ). option_map block_hash_of (block_numbered chain (n + 1))) (sym counted) ∙ sym c.in-Some.ensures in
    let noted : hashes_in c.and-self-inside.result.items ≡ first_hashes (k + 1) chain = ap hashes_in c.and-self-inside.ensures ∙ map-append (λ p. p.0.bytes) c.self.inside.noted.items ((c.in-Some.hash, tt) ∷ [])
    ∙ ap (λ (hs : List (List ℕ)). hs ++ hash ∷ []) (seen ∙ c.requires.noted) ∙ sym (hashes_more chain k hash c.requires.next is) in
    let room : min (vec_capacity c.push_reserved.new.self) 4294967295 ≡ c.args.self.now.room = ap (λ (n : ℕ). min n 4294967295) (c.push_reserved.ensures.capacity ∙ c.hang.ensures.room) ∙ ap (λ (x : Indexed). x.room) c.self.view_is in
    λ i. record { hashes = noted i; room = room i }
