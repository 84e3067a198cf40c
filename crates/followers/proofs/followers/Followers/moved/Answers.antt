use Rattle.std.proofs.Common.{◌≡◌, ◌≤◌, refl, sym, ap, subst, ◌∙◌, map, arith, length, rules}
use Rattle.std.specs.Prelude.{option_map}
use Rattle.std.proofs.lemmas.List.{length-set}
use Rattle.std.specs.BinaryHeap.{heap_items, heap_capacity}
use Rattle.followers.specs.Places.{Places, moved_place}
use Rattle.followers.specs.Inside.{free_at, frees, times, IsLeastFirst}
use Rattle.followers.proofs.Frees.{mapped_free, mapped_frees}
use Rattle.followers.proofs.Numbers.{changed_next, all_changed}
use Rattle.followers.proofs.followers.Followers.moved.Goals as goal

pub loop-number-init : goal.loop-number-init
loop-number-init c = (c.self.view_is, ap length c.self.view_is, refl)

pub loop-number-preserved : goal.loop-number-preserved
loop-number-preserved c =
    let size : c.len-number-end.result ≡ length c.self.inside.places.items = search rules in
    let same : length c.self.inside.places.items ≡ length c.args.self.now = ap length c.self.view_is in
    let test = c.loop-number-test.true in (
      changed_next (option_map (moved_place c.args.common)) c.args.self.now c.loop-number.self-inside.places.items c.loop-number.number c.index.result.now c.moved_if_open.result (omega arith) c.loop-number.invariant.0 c.index.ensures c.moved_if_open.ensures,
      length-set c.loop-number.self-inside.places.items c.loop-number.number c.moved_if_open.result ∙ c.loop-number.invariant.1,
      c.loop-number.invariant.2,
    )

pub returns : goal.returns
returns c =
    let size : c.len-number-end.result ≡ length c.self.inside.places.items = search rules in
    let same : length c.self.inside.places.items ≡ length c.args.self.now = ap length c.self.view_is in
    let test = c.loop-number-test.false in
    c.loop-number.invariant.0 ∙ all_changed (option_map (moved_place c.args.common)) c.args.self.now c.loop-number.number (omega arith)

pub invariant_of-self : goal.invariant_of-self
invariant_of-self c =
    let before = c.self.invariant in
    let places = c.self.inside.places.items in
    let f = moved_place c.args.common in
    let size : c.len-number-end.result ≡ length places = search rules in
    let shown : places ≡ c.args.self.now = c.self.view_is in
    let same : length places ≡ length c.args.self.now = ap length shown in
    let test = c.loop-number-test.false in
    let moved : c.loop-number.self-inside.places.items ≡ map (option_map f) places =
    c.loop-number.invariant.0 ∙ (all_changed (option_map f) c.args.self.now c.loop-number.number (omega arith) ∙ ap (map (option_map f)) (sym shown)) in
    let free = c.loop-number.invariant.2 in
    let long = c.loop-number.invariant.1 in
    let room : length places ≤ heap_capacity c.loop-number.self-inside.free = subst (λ h. length places ≤ heap_capacity h) (sym free) before.room in
    let few = before.few in
    record {
      kept = λ n. subst (λ h. times n (heap_items h) ≡ free_at c.loop-number.self-inside.places.items n) (sym free) (before.kept n ∙ sym (ap (λ (ps : Places). free_at ps n) moved ∙ mapped_free f places n));
      counted = subst (λ h. length (heap_items h) ≡ frees c.loop-number.self-inside.places.items) (sym free) (before.counted ∙ sym (ap frees moved ∙ mapped_frees f places));
      ordered = subst (λ h. IsLeastFirst (heap_items h)) (sym free) before.ordered;
      room = omega arith;
      few = omega arith;
    }
