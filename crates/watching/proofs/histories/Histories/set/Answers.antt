use Rattle.std.proofs.Common.{◌≡◌, ℕ, true, false, List, refl, sym, ap, subst, ◌∙◌}
use Rattle.std.specs.FinMap as finite
use Rattle.std.specs.FinMap.{put}
use Rattle.std.specs.Arc.{arc_value}
use Rattle.persistent_map.specs.Order.{Rise, without}
use Rattle.persistent_map.proofs.ForCallers.{insert_of, remove_of}
use Rattle.watching.specs.Owned.{owner_cmp}
use Rattle.watching.specs.Histories.{History, Histories, NoneEmpty}
use Rattle.watching.specs.Changes.{with_history}
use Rattle.watching.proofs.Owning.{owners_total, owners_same}
use Rattle.watching.proofs.Entering.{removed_is, inserted_is, none_empty_set}
use Rattle.watching.proofs.histories.Histories.set.Goals as goal
use Rattle.watching.proofs.histories.Histories.set.Goals.{in-Some-2, in-None-2}

-- what the map is after either call
abbrev Map : Type 0
Map = List (List ℕ × History)

removed : (old new : Map) (now : Histories) (owner : List ℕ) (h : History) → Rise owner_cmp old → new ≡ without owner_cmp owner old → finite.from_sorted {R = owner_cmp} old ≡ now → finite.len h ≡ 0
    → finite.from_sorted {R = owner_cmp} new ≡ with_history now owner h
removed old new now owner h rose is view none =
    ap (finite.from_sorted {R = owner_cmp}) is ∙ remove_of owner_cmp owners_total owners_same old owner rose
    ∙ ap (λ (m : Histories). finite.remove m owner) view ∙ removed_is now owner h none

inserted : (old new : Map) (now : Histories) (owner : List ℕ) (held h : History) → Rise owner_cmp old → new ≡ put owner_cmp owner held old → finite.from_sorted {R = owner_cmp} old ≡ now → held ≡ h → (finite.len h ≡ 0 → ⊥)
    → finite.from_sorted {R = owner_cmp} new ≡ with_history now owner h
inserted old new now owner held h rose is view same some =
    ap (finite.from_sorted {R = owner_cmp}) is ∙ insert_of owner_cmp owners_total old owner held rose
    ∙ ap (λ (m : Histories). finite.insert m owner held) view ∙ ap (finite.insert now owner) same ∙ inserted_is now owner h some

still_none_empty : (old new : Map) (now : Histories) (owner : List ℕ) (h : History) → finite.from_sorted {R = owner_cmp} old ≡ now → NoneEmpty (finite.from_sorted {R = owner_cmp} old)
    → finite.from_sorted {R = owner_cmp} new ≡ with_history now owner h → NoneEmpty (finite.from_sorted {R = owner_cmp} new)
still_none_empty old new now owner h view none is = subst NoneEmpty (sym is) (none_empty_set now owner h (subst NoneEmpty view none))

pub invariant_of-self-then-is_empty : goal.invariant_of-self-then-is_empty
invariant_of-self-then-is_empty c =
    let call = c.in_ok-remove.ensures in
    let is = removed c.self.inside.map c.remove.new.self c.args.self.now c.args.owner c.args.history call.rose call.ok c.self.view_is (c.if-is_empty.ensures.0 refl) in
    (call.rise, still_none_empty c.self.inside.map c.remove.new.self c.args.self.now c.args.owner c.args.history c.self.view_is c.self.invariant.1 is, c.self.invariant.2)

pub invariant_of-self-in_ok-insert : goal.invariant_of-self-in_ok-insert
invariant_of-self-in_ok-insert c =
    let call = c.in_ok-insert.ensures in
    let is =
    inserted c.self.inside.map c.insert.new.self c.args.self.now c.args.owner (arc_value c.in_ok-history.history) c.args.history call.rose call.ok c.self.view_is c.in_ok-history.ensures.ok
    (λ none. let no : false ≡ true = c.if-is_empty.ensures.1 none in cc) in
    (call.rise, still_none_empty c.self.inside.map c.insert.new.self c.args.self.now c.args.owner c.args.history c.self.view_is c.self.invariant.1 is, c.self.invariant.2)

pub invariant_of-self-in_ok-insert-2 : goal.invariant_of-self-in_ok-insert-2
invariant_of-self-in_ok-insert-2 c =
    let call = c.in_ok-insert.ensures in
    let is =
    inserted c.self.inside.map c.insert.new.self c.args.self.now c.args.owner (arc_value c.in_ok-history.history) c.args.history call.rose call.ok c.self.view_is c.in_ok-history.ensures.ok
    (λ none. let no : false ≡ true = c.if-is_empty.ensures.1 none in cc) in
    (call.rise, still_none_empty c.self.inside.map c.insert.new.self c.args.self.now c.args.owner c.args.history c.self.view_is c.self.invariant.1 is, c.self.invariant.2)

pub returns-in_ok-remove : goal.returns-in_ok-remove
returns-in_ok-remove c =
    let call = c.in_ok-remove.ensures in
    removed c.self.inside.map c.remove.new.self c.args.self.now c.args.owner c.args.history call.rose call.ok c.self.view_is (c.if-is_empty.ensures.0 refl)

pub returns-in_ok-insert : goal.returns-in_ok-insert
returns-in_ok-insert c =
    let call = c.in_ok-insert.ensures in
    let is =
    inserted c.self.inside.map c.insert.new.self c.args.self.now c.args.owner (arc_value c.in_ok-history.history) c.args.history call.rose call.ok c.self.view_is c.in_ok-history.ensures.ok
    (λ none. let no : false ≡ true = c.if-is_empty.ensures.1 none in cc) in
    elim c.match-branch-5.branch [
      | in-Some-2 w ↦ w.self-is ∙ is
      | in-None-2 w ↦ w.self-is ∙ is
    ]
