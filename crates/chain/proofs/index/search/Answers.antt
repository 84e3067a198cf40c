use Rattle.std.proofs.Common.{◌≡◌, ℕ, suc, true, false, ◌+◌, ◌<◌, ◌≤◌, length, refl, sym, ap, subst, ◌∙◌, arith}
use Rattle.chain.specs.Chained.{chain_of}
use Rattle.chain.specs.Indexed.{first_hashes}
use Rattle.chain.specs.Searches.{bit_of, child_at, IsHashAt, EndsBy}
use Rattle.chain.proofs.Searches.{hash_there}
use Rattle.chain.proofs.index.search.Goals as goal

pub returns-then-has_hash : goal.returns-then-has_hash
returns-then-has_hash g c =
    let inv = c.down.invariant in (
      inv.low,
      inv.high,
      hash_there (chain_of c.args.chain.now) (length c.args.nodes.now) c.down.number inv.low inv.high ∙ c.has_hash.ensures.0 c.if-has_hash.true,
    )

pub returns-then-next-eq0 : goal.returns-then-next-eq0
returns-then-next-eq0 g c =
    let inv = c.down.invariant in
    let hashes = first_hashes (length c.args.nodes.now) (chain_of c.args.chain.now) in
    let other : IsHashAt hashes c.down.number c.args.hash.bytes → ⊥ = λ here.
    let e : false ≡ true = sym c.if-has_hash.false ∙ c.has_hash.ensures.1 (sym (hash_there (chain_of c.args.chain.now) (length c.args.nodes.now) c.down.number inv.low inv.high) ∙ here) in cc in
    let none : child_at c.args.nodes.now c.down.number c.bit_at-bit.result ≡ 0 = sym c.child_of-next.ensures ∙ c.if-next-eq0.true in
    (inv.low, inv.high, inv.way 0 c.down.number c.bit_at-bit.result (other, refl, sym c.bit_at-bit.ensures, none))

pub down-preserved : goal.down-preserved
down-preserved g c =
    let inv = c.down.invariant in
    let nodes = c.args.nodes.now in
    let hash = c.args.hash.bytes in
    let number = c.down.number in
    let next = c.child_of-next.result in
    let hashes = first_hashes (length nodes) (chain_of c.args.chain.now) in
    let other : IsHashAt hashes number hash → ⊥ = λ here.
    let e : false ≡ true = sym c.if-has_hash.false ∙ c.has_hash.ensures.1 (sym (hash_there (chain_of c.args.chain.now) (length nodes) number inv.low inv.high) ∙ here) in cc in
    let is : child_at nodes number (bit_of hash c.down.depth) ≡ next = ap (child_at nodes number) (sym c.bit_at-bit.ensures) ∙ sym c.child_of-next.ensures in
    let some : 0 < next = let not = c.if-next-eq0.false in omega (arith, not) in
    let somewhere : 0 < child_at nodes number (bit_of hash c.down.depth) = subst (λ (m : ℕ). 0 < m) (sym is) some in
    let up = c.requires.rising number (bit_of hash c.down.depth) somewhere in
    let later : number < next = subst (λ (m : ℕ). number < m) is up.0 in
    let deeper : c.down.depth + 1 ≡ suc c.down.depth = omega arith in
    record {
      low = some;
      high = subst (λ (m : ℕ). m ≤ length nodes) is up.1;
      deep = let deep = inv.deep in omega (arith, deep, later);
      way = λ steps last bit ends.
          inv.way (suc steps) last bit
          (other, somewhere, subst (λ (d : ℕ). EndsBy nodes hashes hash steps (child_at nodes number (bit_of hash c.down.depth)) d last bit) deeper (subst (λ (m : ℕ). EndsBy nodes hashes hash steps m (c.down.depth + 1) last bit) (sym is) ends));
    }
