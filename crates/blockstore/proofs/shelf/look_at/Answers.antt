use Rattle.std.proofs.Common.{◌≡◌, ◌+◌, ◌≤◌, ◌<◌, ◌∙◌, refl, ap, subst, sym, arith, Option, Some, inl, MatchOption, ◌++◌, ◌∷◌, [], vec_len, vec_capacity, option_map}
use Rattle.std.specs.Prelude.{is_some}
use Rattle.std.specs.Option.{option_copied_mut}
use Rattle.std.specs.BTreeMap.{get}
use Rattle.model.specs.Chain.{tip_at}
use Rattle.block.specs.View.{tip_of}
use Rattle.blockstore.specs.Stored.{Stored}
use Rattle.blockstore.specs.Placed.{notes_in, blocks_in}
use Rattle.blockstore.specs.Keys.{hash_cmp}
use Rattle.blockstore.specs.Ways.{AreSameNotes, IsLookedAt}
use Rattle.blockstore.proofs.Shelves.{stands_at, value_at, same_written, note_turns, note_stays, seen_same}
use Rattle.blockstore.proofs.Noting.{one_fewer, same_left}
use Rattle.blockstore.proofs.shelf.look_at.Goals as goal

pub returns-then-turn-clause-same : goal.returns-then-turn-clause-same
returns-then-turn-clause-same g c =
    let m = c.args.blocks.now in
    let y = c.turn.new.self in
    let found : get hash_cmp m c.args.hash.now ≡ Some c.in-Some.placed.now = sym c.get_mut.ensures.value ∙ ap option_copied_mut c.in-Some.is in
    same_written m (c.get_mut.follows.lender y) c.args.hash.now c.in-Some.placed.now y found c.turn.ensures.stored (c.get_mut.follows.holds y).0

pub returns-else-turn-clause-same : goal.returns-else-turn-clause-same
returns-else-turn-clause-same g c =
    let m = c.args.blocks.now in
    let y = c.turn.new.self in
    let found : get hash_cmp m c.args.hash.now ≡ Some c.in-Some.placed.now = sym c.get_mut.ensures.value ∙ ap option_copied_mut c.in-Some.is in
    same_written m (c.get_mut.follows.lender y) c.args.hash.now c.in-Some.placed.now y found c.turn.ensures.stored (c.get_mut.follows.holds y).0

pub returns-then-turn-clause-looked : goal.returns-then-turn-clause-looked
returns-then-turn-clause-looked g c =
    let m = c.args.blocks.now in
    let x = c.in-Some.placed.now in
    let y = c.turn.new.self in
    let p = c.get_mut.follows.lender y in
    let found : get hash_cmp m c.args.hash.now ≡ Some x = sym c.get_mut.ensures.value ∙ ap option_copied_mut c.in-Some.is in
    let has = c.if-turn.ensures.turned refl in
    let there = stands_at m c.args.hash.now x found in
    let turned = note_turns m p c.args.hash.now x y c.args.reached (c.requires.keyed c.args.hash.now x.stored there) found ((c.get_mut.follows.holds y).3 (ap is_some found)) has.0 has.1 in
    let less = one_fewer (blocks_in m) c.args.reached x.stored (notes_in m) (notes_in p) (value_at m c.args.hash.now x.stored there) turned in
    let free : vec_len c.args.waiting.now < vec_capacity c.args.waiting.now = let room = c.requires.room in omega (arith, less, room) in
    let pushed : c.push.new.self.items ≡ c.args.waiting.now.items ++ c.at.result ∷ [] = c.push.ensures.items ∙ rw (c.push.ensures.succeeds free) refl in
    let place : tip_of c.at.result ≡ tip_at x.stored.block = c.at.ensures ∙ (ap tip_at c.block.ensures ∙ ap (λ (s : Stored). tip_at s.block) c.turn.ensures.stored) in
    let looked : IsLookedAt (tip_of c.args.before.now) (option_map tip_of c.args.root) c.args.reached x.stored (notes_in m) (notes_in p) c.args.waiting.now.items c.push.new.self.items
    = inl (turned, has.2, has.3, (c.at.result, place, pushed)) in
    subst (λ (o : Option Stored). MatchOption o (AreSameNotes (notes_in m) (notes_in p) × (c.push.new.self.items ≡ c.args.waiting.now.items))
    (λ s. IsLookedAt (tip_of c.args.before.now) (option_map tip_of c.args.root) c.args.reached s (notes_in m) (notes_in p) c.args.waiting.now.items c.push.new.self.items)) (sym there) looked

pub returns-then-turn-clause-fewer : goal.returns-then-turn-clause-fewer
returns-then-turn-clause-fewer g c =
    let m = c.args.blocks.now in
    let x = c.in-Some.placed.now in
    let y = c.turn.new.self in
    let p = c.get_mut.follows.lender y in
    let found : get hash_cmp m c.args.hash.now ≡ Some x = sym c.get_mut.ensures.value ∙ ap option_copied_mut c.in-Some.is in
    let has = c.if-turn.ensures.turned refl in
    let there = stands_at m c.args.hash.now x found in
    let turned = note_turns m p c.args.hash.now x y c.args.reached (c.requires.keyed c.args.hash.now x.stored there) found ((c.get_mut.follows.holds y).3 (ap is_some found)) has.0 has.1 in
    let less = one_fewer (blocks_in m) c.args.reached x.stored (notes_in m) (notes_in p) (value_at m c.args.hash.now x.stored there) turned in
    let len : vec_len c.push.new.self ≤ vec_len c.args.waiting.now + 1 = c.push.ensures.upper_bound in
    omega (arith, less, len)

pub returns-else-turn-clause-looked : goal.returns-else-turn-clause-looked
returns-else-turn-clause-looked g c =
    let m = c.args.blocks.now in
    let x = c.in-Some.placed.now in
    let y = c.turn.new.self in
    let p = c.get_mut.follows.lender y in
    let found : get hash_cmp m c.args.hash.now ≡ Some x = sym c.get_mut.ensures.value ∙ ap option_copied_mut c.in-Some.is in
    let stayed = c.if-turn.ensures.stayed refl in
    let there = stands_at m c.args.hash.now x found in
    let same = note_stays m p c.args.hash.now x y found ((c.get_mut.follows.holds y).3 (ap is_some found)) stayed.0 in
    subst (λ (o : Option Stored). MatchOption o (AreSameNotes (notes_in m) (notes_in p) × (c.args.waiting.now.items ≡ c.args.waiting.now.items))
    (λ s. IsLookedAt (tip_of c.args.before.now) (option_map tip_of c.args.root) c.args.reached s (notes_in m) (notes_in p) c.args.waiting.now.items c.args.waiting.now.items)) (sym there)
    (seen_same (tip_of c.args.before.now) (option_map tip_of c.args.root) c.args.reached m p x c.args.hash.now c.args.waiting.now.items (c.requires.keyed c.args.hash.now x.stored there) found same stayed.1)

pub returns-else-turn-clause-fewer : goal.returns-else-turn-clause-fewer
returns-else-turn-clause-fewer g c =
    let m = c.args.blocks.now in
    let x = c.in-Some.placed.now in
    let y = c.turn.new.self in
    let p = c.get_mut.follows.lender y in
    let found : get hash_cmp m c.args.hash.now ≡ Some x = sym c.get_mut.ensures.value ∙ ap option_copied_mut c.in-Some.is in
    let less = same_left (blocks_in m) c.args.reached (notes_in m) (notes_in p) (note_stays m p c.args.hash.now x y found ((c.get_mut.follows.holds y).3 (ap is_some found)) (c.if-turn.ensures.stayed refl).0) in
    omega (arith, less)
