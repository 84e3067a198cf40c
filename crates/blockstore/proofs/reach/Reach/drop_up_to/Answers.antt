use Rattle.std.proofs.Common.{◌≡◌, ◌≢◌, ◌⊎◌, ◌<◌, ◌≤◌, ℕ, true, false, List, Option, None, Some, map, Contains, refl, sym, ap, subst, ◌∙◌, arith, inl, inr, MatchOption}
use Rattle.std.specs.List.{filter}
use Rattle.std.specs.Prelude.{nat_lt}
use Rattle.std.proofs.lemmas.Bool.{lt-ltb, ltb-true}
use Rattle.std.proofs.lemmas.List.{length-map}
use Rattle.model.specs.Block.{Block, block_hash_of}
use Rattle.model.specs.Chain.{HaveDistinctHashes}
use Rattle.model.proofs.Lists.{contains_filter}
use Rattle.model.proofs.MappedLists.{contains_map, contains_before, filter_member}
use Rattle.model.proofs.Chains.{one_with_hash}
use Rattle.model.proofs.Sets.{same_count}
use Rattle.block.specs.View.{tip_of}
use Rattle.blockstore.specs.Stored.{Stored}
use Rattle.blockstore.specs.Tests.{is_past}
use Rattle.blockstore.specs.Shelves.{ArePast, HasAge}
use Rattle.blockstore.specs.declared.keys.Age.{Age}
use Rattle.blockstore.proofs.Lists.{distinct_filter}
use Rattle.blockstore.proofs.Stores.{block_of, past_blocks}
use Rattle.blockstore.proofs.Rising.{one_dropped}
use Rattle.blockstore.proofs.reach.Reach.drop_up_to.Goals as goal
use Rattle.blockstore.proofs.reach.Reach.drop_up_to.Goals.{then-let_go, else-let_go}

at_some : (number : ℕ) (xs : List Stored) (r : Option Age) (age : Age) → r ≡ Some age → MatchOption r (ArePast number xs) (λ a. HasAge xs a × (a.number ≤ number)) → HasAge xs age × (age.number ≤ number)
at_some number xs r age is known = subst (λ (o : Option Age). MatchOption o (ArePast number xs) (λ a. HasAge xs a × (a.number ≤ number))) is known

at_none : (number : ℕ) (xs : List Stored) (r : Option Age) → ((age : Age) → r ≡ Some age → ⊥) → MatchOption r (ArePast number xs) (λ a. HasAge xs a × (a.number ≤ number)) → ArePast number xs
at_none number xs None none known = known
at_none number xs (Some age) none known = absurd (none age refl)

pub loop-oldest-preserved : goal.loop-oldest-preserved
loop-oldest-preserved g c =
    let held = c.loop-oldest.blocks in
    let live = held.blocks in
    let number = c.args.root.now.number in
    let age = c.in-Some.age in
    let inv = c.loop-oldest.invariant in
    let oldest = at_some number live c.loop-oldest.oldest age c.in-Some.is inv.oldest in
    let alone : (x y : Stored) → Contains live x → Contains live y → block_hash_of x.block ≡ block_hash_of y.block → x.block ≡ y.block =
    λ x y here there same. one_with_hash (map block_of live) x.block y.block inv.distinct (contains_map block_of live x here) (contains_map block_of live y there) same in
    let apart : (x : Stored) → Contains live x → number < x.block.header.number → block_hash_of x.block ≢ age.hash =
    λ x member far same.
    let y = oldest.0 in
    let one : x.block ≡ y.block.block = alone x y.block member y.member (same ∙ y.is.1) in
    let at : x.block.header.number ≡ age.number = ap (λ (b : Block). b.header.number) one ∙ sym y.is.0 in
    let le = oldest.1 in omega (arith, at, le, far) in
    let either : c.if-let_go.leads ≡ true → (c.let_go.result ≡ true) ⊎ (c.loop-oldest.leads ≡ true) =
    λ leads. elim c.if-let_go.branch [ then-let_go w ↦ inl w.if-let_go.true | else-let_go w ↦ inr (sym w.leads-is ∙ leads) ] in
    let this : c.let_go.result ≡ true → c.if-let_go.leads ≡ true =
    λ stood. elim c.if-let_go.branch [ then-let_go w ↦ w.leads-is | else-let_go w ↦ absurd (let e : true ≡ false = sym stood ∙ w.if-let_go.false in cc) ] in
    let that : c.loop-oldest.leads ≡ true → c.if-let_go.leads ≡ true =
    λ leads. elim c.if-let_go.branch [ then-let_go w ↦ w.leads-is | else-let_go w ↦ w.leads-is ∙ leads ] in
    let count = c.let_go.ensures.blocks.count in
    let room = inv.room in
    let longer = c.let_go.ensures.one_more in
    let wide = c.let_go.ensures.room in
    record {
      oldest = c.oldest_up_to-oldest-in-Some.ensures.oldest;
      distinct = c.oldest_up_to-oldest-in-Some.ensures.distinct;
      left = record {
        within = λ x member. inv.left.within x ((c.let_go.ensures.blocks.members x).0 member).0;
        past = λ x was far. let here = inv.left.past x was far in (c.let_go.ensures.blocks.members x).1 (here, apart x here far);
      };
      dropped = one_dropped c.args.blocks.now held c.let_go.new.blocks (tip_of c.args.root.now) c.loop-oldest.leads c.let_go.result c.if-let_go.leads c.loop-oldest.self.waiting.items c.let_go.new.self.waiting.items age.hash inv.dropped
          alone c.let_go.ensures.blocks.members c.let_go.ensures.notes c.let_go.ensures.gone either this that;
      room = omega (arith, count, room, longer, wide);
    }

pub returns-clause-blocks : goal.returns-clause-blocks
returns-clause-blocks g c =
    let number = c.args.root.now.number in
    let now = c.loop-oldest.blocks.blocks in
    let old = c.args.blocks.now.blocks in
    let inv = c.loop-oldest.invariant in
    let far = at_none number now c.loop-oldest.oldest c.in_default.not-Some inv.oldest in
    let left : List Stored = filter (is_past number) old in
    let out : (x : Stored) → Contains now x → Contains left x =
    λ x member. contains_filter (is_past number) old x (inv.left.within x member) (lt-ltb number x.block.header.number (far x member)) in
    let back : (x : Stored) → Contains left x → Contains now x =
    λ x member. let was = filter_member (is_past number) old x member in inv.left.past x was.0 (ltb-true number x.block.header.number was.1) in
    let distinct : HaveDistinctHashes (map block_of left) =
    subst HaveDistinctHashes (sym (past_blocks number old)) (distinct_filter (λ b. nat_lt number b.header.number) (map block_of old) c.oldest_up_to-oldest.ensures.distinct) in
    let count = same_count (map block_of now) (map block_of left) inv.distinct distinct
    (λ b member. let x = contains_before block_of now b member in subst (Contains (map block_of left)) x.2 (contains_map block_of left x.0 (out x.0 x.1)))
    (λ b member. let x = contains_before block_of left b member in subst (Contains (map block_of now)) x.2 (contains_map block_of now x.0 (back x.0 x.1))) in
    record {
      members = λ x. (out x, back x);
      count = let a = length-map now block_of in let b = length-map left block_of in omega (arith, count, a, b);
    }
