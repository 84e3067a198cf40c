use Rattle.std.proofs.Common.{◌≡◌, ◌+◌, ◌<◌, ◌≤◌, [], ◌∷◌, ◌++◌, length, Some, slice_set, sym, ap, subst, ◌∙◌, arith, rules}
use Rattle.std.proofs.lemmas.List.{length-set, length-append}
use Rattle.std.specs.BinaryHeap.{heap_items, heap_capacity}
use Rattle.model.specs.Limits.{follower_limit}
use Rattle.model.specs.Follower.{free_id, with_first_free}
use Rattle.model.proofs.Results.{if_err}
use Rattle.std.proofs.lemmas.List.Sorted.{length_permutation}
use Rattle.followers.specs.Places.{Places, standing}
use Rattle.followers.specs.Inside.{free_at, frees, times, IsLeastFirst}
use Rattle.followers.proofs.Numbers.{first_free_set, first_free_pushed}
use Rattle.followers.proofs.Frees.{free_within, top_is_free, top_is_least, kept_popped, fewer_free, none_free, pushed_free, pushed_frees}
use Rattle.followers.specs.declared.fault.OpenFollowerFault.TheVariants as fault
use Rattle.followers.specs.Calls.{IsOpenFault}
use Rattle.followers.proofs.followers.Followers.open.Goals as goal

pub index_mut-requires : goal.index_mut-requires
index_mut-requires c =
    let before = c.self.invariant in
    let popped = c.in-Some.ensures.permutation in
    let free = top_is_free c.self.inside.places.items (heap_items c.self.inside.free) (heap_items c.pop.new.self) c.in-Some.field-0 before.kept popped in
    let below = free_within c.self.inside.places.items c.in-Some.field-0.0 free in
    search (rules, below)

pub invariant_of-self : goal.invariant_of-self
invariant_of-self c =
    let before = c.self.invariant in
    let places = c.self.inside.places.items in
    let x = c.in-Some.field-0 in
    let popped = c.in-Some.ensures.permutation in
    let free = top_is_free places (heap_items c.self.inside.free) (heap_items c.pop.new.self) x before.kept popped in
    let shorter = length_permutation _ _ popped in
    let fewer = fewer_free places x.0 c.standing.result free in
    let long = length-set places x.0 (Some c.standing.result) in
    let counted = before.counted in
    let capacity = c.pop.ensures.capacity in
    let room = before.room in
    let few = before.few in
    record {
      kept = kept_popped places (heap_items c.self.inside.free) (heap_items c.pop.new.self) x c.standing.result before.kept popped;
      counted = omega arith;
      ordered = (c.in-Some.ensures.heap_order before.ordered).0;
      room = omega arith;
      few = omega arith;
    }

pub returns-in-Some-clause-ok : goal.returns-in-Some-clause-ok
returns-in-Some-clause-ok c =
    let before = c.self.invariant in
    let places = c.self.inside.places.items in
    let x = c.in-Some.field-0 in
    let popped = c.in-Some.ensures.permutation in
    let free = top_is_free places (heap_items c.self.inside.free) (heap_items c.pop.new.self) x before.kept popped in
    let below = free_within places x.0 free in
    let few = before.few in
    let least : free_id places ≡ x.0 = top_is_least places (heap_items c.self.inside.free) (heap_items c.pop.new.self) x before.kept popped (c.in-Some.ensures.heap_order before.ordered).1 in
    let is : c.standing.result ≡ standing 0 = c.standing.ensures in
    record {
      is_free = sym least ∙ ap free_id c.self.view_is;
      few = omega arith;
      after = (λ j. slice_set places (sym least j) (Some (is j))) ∙ (first_free_set places (standing 0) (omega arith) ∙ ap (with_first_free (standing 0)) c.self.view_is);
    }

pub returns-then-number-ge-MAX_FOLLOWERS-clause-fault : goal.returns-then-number-ge-MAX_FOLLOWERS-clause-fault
returns-then-number-ge-MAX_FOLLOWERS-clause-fault c =
    let before = c.self.invariant in
    let places = c.self.inside.places.items in
    let counted = before.counted in
    let empty : length (heap_items c.self.inside.free) ≡ 0 = search rules in
    let all : free_id places ≡ length places = none_free places (omega arith) in
    let many : follower_limit ≤ length places = search rules in
    subst (λ n. follower_limit ≤ n) (ap free_id c.self.view_is) (omega arith)

pub returns-in_err-reserve-clause-fault : goal.returns-in_err-reserve-clause-fault
returns-in_err-reserve-clause-fault c =
    let before = c.self.invariant in
    let places = c.self.inside.places.items in
    let counted = before.counted in
    let empty : length (heap_items c.self.inside.free) ≡ 0 = search rules in
    let all : free_id places ≡ length places = none_free places (omega arith) in
    let some : length places < follower_limit = search rules in
    let room : free_id places < follower_limit = omega arith in
    if_err c.from_residual.result fault.OutOfMemory (IsOpenFault c.args.self.now) c.from_residual.ensures.1 (subst (λ n. n < follower_limit) (ap free_id c.self.view_is) room)

pub returns-in_err-push-clause-fault : goal.returns-in_err-push-clause-fault
returns-in_err-push-clause-fault c =
    let before = c.self.invariant in
    let places = c.self.inside.places.items in
    let counted = before.counted in
    let empty : length (heap_items c.self.inside.free) ≡ 0 = search rules in
    let all : free_id places ≡ length places = none_free places (omega arith) in
    let some : length places < follower_limit = search rules in
    let room : free_id places < follower_limit = omega arith in
    if_err c.from_residual-in_err-push.result fault.OutOfMemory (IsOpenFault c.args.self.now) c.from_residual-in_err-push.ensures.1 (subst (λ n. n < follower_limit) (ap free_id c.self.view_is) room)

pub invariant_of-self-2 : goal.invariant_of-self-2
invariant_of-self-2 c =
    let before = c.self.invariant in
    let places = c.self.inside.places.items in
    let popped : heap_items c.pop.new.self ≡ heap_items c.self.inside.free = search rules in
    let same : heap_items c.reserve.new.self ≡ heap_items c.self.inside.free = c.reserve.ensures.items ∙ popped in
    let items : c.push.new.self.items ≡ places ++ Some c.standing.result ∷ [] = search rules in
    let size : c.len-number.result ≡ length places = search rules in
    let some : length places < follower_limit = search rules in
    let long = length-append places (Some c.standing.result ∷ []) in
    let longer : length c.push.new.self.items ≡ length places + 1 = ap length items ∙ long in
    let enough : c.len-number.result + 1 ≤ heap_capacity c.reserve.new.self = let ok = c.in_ok-reserve.ensures.ok in omega arith in
    record {
      kept = λ n. ap (times n) same ∙ (before.kept n ∙ sym (ap (λ (ps : Places). free_at ps n) items ∙ pushed_free places c.standing.result n));
      counted = ap length same ∙ (before.counted ∙ sym (ap frees items ∙ pushed_frees places c.standing.result));
      ordered = subst IsLeastFirst (sym same) before.ordered;
      room = omega arith;
      few = omega arith;
    }

pub returns-clause-ok : goal.returns-clause-ok
returns-clause-ok c =
    let before = c.self.invariant in
    let places = c.self.inside.places.items in
    let counted = before.counted in
    let empty : length (heap_items c.self.inside.free) ≡ 0 = search rules in
    let all : free_id places ≡ length places = none_free places (omega arith) in
    let size : c.len-number.result ≡ length places = search rules in
    let some : length places < follower_limit = search rules in
    let items : c.push.new.self.items ≡ places ++ Some c.standing.result ∷ [] = search rules in
    let is : c.standing.result ≡ standing 0 = c.standing.ensures in
    record {
      is_free = size ∙ (sym all ∙ ap free_id c.self.view_is);
      few = omega arith;
      after = items ∙ (ap (λ p. places ++ Some p ∷ []) is ∙ (first_free_pushed places (standing 0) (omega arith) ∙ ap (with_first_free (standing 0)) c.self.view_is));
    }
