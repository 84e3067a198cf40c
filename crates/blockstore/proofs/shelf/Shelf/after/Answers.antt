use Rattle.std.proofs.Common.{◌≡◌, ◌∙◌, ◌++◌, refl, ap, subst, sym, map, Contains, List, Bor, option_map}
use Rattle.model.specs.Block.{block_hash_of}
use Rattle.model.proofs.Lists.{contains_first, contains_later, nothing_contained}
use Rattle.model.proofs.Results.{on_err}
use Rattle.block.specs.View.{bytes_of as hash_bytes}
use Rattle.blockstore.specs.Stored.{Stored}
use Rattle.blockstore.specs.Placed.{Held, blocks_in}
use Rattle.blockstore.specs.Shelves.{AreAfter, HasAfter}
use Rattle.blockstore.specs.Keys.{links_behind}
use Rattle.blockstore.specs.declared.keys.Link.{Link}
use Rattle.blockstore.proofs.Shelves.{value_at}
use Rattle.blockstore.proofs.LinkRanges.{are_links, are_after, one_after, one_found, still_within, is_found, found_there, hashes_found, hashes_of, ends_here}
use Rattle.blockstore.proofs.shelf.Shelf.after.Goals as goal

pub loop-link-init : goal.loop-link-init
loop-link-init g c =
    let previous = option_map hash_bytes c.args.previous in
    let is : c.into_iter-link-iterator.result ≡ links_behind c.self.inside.links previous =
    c.into_iter-link-iterator.ensures.into_iter_gives ∙ c.links_of-link-items.ensures.between in
    record {
      can_next = tt;
      is_finite = tt;
      so_far = ap (λ (found : List (Bor Stored)). hashes_found found ++ hashes_of c.into_iter-link-iterator.result) c.new-found.ensures.items ∙ ap hashes_of is;
      left = λ k member. subst (λ (ls : List Link). Contains ls k) is member;
      within = λ x member. absurd (nothing_contained x (subst (λ (found : List (Bor Stored)). Contains (map (λ (y : Bor Stored). y.now) found) x) c.new-found.ensures.items member));
    }

pub loop-link-preserved-in-Continue-1 : goal.loop-link-preserved-in-Continue-1
loop-link-preserved-in-Continue-1 g c =
    let m = c.self.inside.blocks in
    let k : Link = c.in-Some.link.now in
    let all = links_behind c.self.inside.links (option_map hash_bytes c.args.previous) in
    let inv = c.loop-link.invariant in
    let there = found_there m k.hash c.get.result c.in-Some-get.placed c.get.ensures.value c.in-Some-get.is in
    let same : c.stored.result.now ≡ c.in-Some-get.placed.now.stored = c.stored.ensures in
    let so_far = subst (λ (ls : List Link). hashes_found c.loop-link.found.items ++ hashes_of ls ≡ hashes_of all) c.in-Some.ensures.steps inv.so_far in
    let left = subst (λ (ls : List Link). (j : Link) → Contains ls j → Contains all j) c.in-Some.ensures.steps inv.left in
    record {
      can_next = tt;
      is_finite = tt;
      so_far = one_found k c.next.new.self (hashes_of all) c.loop-link.found.items c.push.new.self.items c.stored.result c.in_ok-push.ensures.items
          (ap (λ (x : Stored). block_hash_of x.block) same ∙ c.self.invariant.keyed k.hash c.in-Some-get.placed.now.stored there) so_far;
      left = λ j member. left j (contains_later k c.next.new.self j member);
      within = still_within m c.loop-link.found.items c.push.new.self.items c.stored.result c.in_ok-push.ensures.items (subst (Contains (blocks_in m)) (sym same) (value_at m k.hash c.in-Some-get.placed.now.stored there)) inv.within;
    }

pub loop-link-preserved : goal.loop-link-preserved
loop-link-preserved g c =
    let m = c.self.inside.blocks in
    let k : Link = c.in-Some.link.now in
    let previous = option_map hash_bytes c.args.previous in
    let all = links_behind c.self.inside.links previous in
    let left = subst (λ (ls : List Link). (j : Link) → Contains ls j → Contains all j) c.in-Some.ensures.steps c.loop-link.invariant.left in
    let are = are_links m c.self.inside.links previous all c.self.invariant.ordered c.self.invariant.keyed c.self.invariant.links c.links_of-link-items.ensures.ordered refl in
    absurd (is_found m previous all k c.get.result c.self.invariant.ordered c.self.invariant.keyed are (left k (contains_first k c.next.new.self)) c.get.ensures.value c.in_default.not-Some)

pub returns-clause-found : goal.returns-clause-found
returns-clause-found g c =
    let m = c.self.inside.blocks in
    let found = c.loop-link.found.items in
    let previous = option_map hash_bytes c.args.previous in
    let all = links_behind c.self.inside.links previous in
    let are = are_links m c.self.inside.links previous all c.self.invariant.ordered c.self.invariant.keyed c.self.invariant.links c.links_of-link-items.ensures.ordered refl in
    let so_far = subst (λ (ls : List Link). hashes_found found ++ hashes_of ls ≡ hashes_of all) c.in-None.ensures.steps.0 c.loop-link.invariant.so_far in
    subst (λ (h : Held). AreAfter h.blocks previous (map (λ (x : Bor Stored). x.now) found)) c.self.view_is
    (are_after m previous all (map (λ (x : Bor Stored). x.now) found) c.self.invariant.ordered c.self.invariant.keyed are (sym (ends_here (hashes_found found)) ∙ so_far) c.loop-link.invariant.within)

pub returns-in_err-push-clause-some : goal.returns-in_err-push-clause-some
returns-in_err-push-clause-some g c =
    let m = c.self.inside.blocks in
    let k : Link = c.in-Some.link.now in
    let previous = option_map hash_bytes c.args.previous in
    let all = links_behind c.self.inside.links previous in
    let left = subst (λ (ls : List Link). (j : Link) → Contains ls j → Contains all j) c.in-Some.ensures.steps c.loop-link.invariant.left in
    let are = are_links m c.self.inside.links previous all c.self.invariant.ordered c.self.invariant.keyed c.self.invariant.links c.links_of-link-items.ensures.ordered refl in
    let there = one_after m previous all k are (left k (contains_first k c.next.new.self)) in
    on_err c.from_residual.result _ (subst (λ (h : Held). HasAfter h.blocks previous) c.self.view_is there)
