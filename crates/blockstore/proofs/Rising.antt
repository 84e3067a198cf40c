-- How the notes of ways turn where a block comes, gets its mark, or goes; and that they are right about whole ways.
use Rattle.std.proofs.Common.{◌≡◌, ◌≢◌, ◌⊎◌, ◌↔◌, ℕ, zero, suc, ◌+◌, ◌<◌, ◌≤◌, Bool, true, false, List, [], ◌∷◌, ◌++◌, length, map, Contains, Option, Some, None, refl, sym, ap, subst, ◌∙◌, arith, inl, inr}
use Rattle.std.specs.List.{AllByRecursion}
use Rattle.std.specs.Prelude.{IsTrue}
use Rattle.std.proofs.lemmas.Option.{same_Some}
use Rattle.std.proofs.lemmas.List.Elements.{Contains-append_left, Contains-push, Contains-push_cases}
use Rattle.model.specs.Block.{Block, block_hash_of}
use Rattle.model.specs.Chain.{Tip, tip_at, Follows, IsLinked}
use Rattle.model.proofs.Lists.{all_push, contains_first, contains_later, contains_cases, nothing_contained}
use Rattle.model.proofs.MappedLists.{contains_map, contains_before}
use Rattle.block.specs.declared.tip.Tip.{Tip as Place}
use Rattle.block.specs.View.{tip_of}
use Rattle.blockstore.specs.Stored.{Stored, unmarked}
use Rattle.blockstore.specs.Placed.{Notes, is_noted, Held}
use Rattle.blockstore.specs.Tests.{marked_at}
use Rattle.blockstore.specs.Answers.{IsMarkedAt}
use Rattle.blockstore.specs.Shelves.{IsSame, AreApart, HasNone}
use Rattle.blockstore.specs.Ways.{HasWay, FollowsRoot, HasStep, IsReached, AreNotes, AreTurning, FollowsOne, Stands, AllStand, may_turn, differs, IsNotedAt, IsTurned, IsPlaceOf, IsLetGo, AreDropped}
use Rattle.blockstore.proofs.KeySets.{is_hash}
use Rattle.blockstore.proofs.Lists.{no_longer}
use Rattle.blockstore.proofs.Tests.{is_marked}
use Rattle.blockstore.proofs.Noting.{step_with, follows_or_not, turned, others_wait, same_turning, stands_here, settled, one_fewer, WaitsToo}

-- ---- what is noted

pub few_turn : (live : List Stored) (turns : Bool) (notes : Notes) → may_turn live turns notes ≤ length live
few_turn live turns notes = no_longer (λ x. differs turns (is_noted notes (block_hash_of x.block))) live

-- a hash that no live block has isn't noted
unnoted : (root : Option Tip) (live : List Stored) (notes : Notes) (hash : List ℕ) → AreNotes root live notes → HasNone live hash → is_noted notes hash ≡ false
unnoted root live notes hash was none = one (is_noted notes hash) refl
  where
    one : (t : Bool) → is_noted notes hash ≡ t → is_noted notes hash ≡ false
    one true is = let x = was.named hash is in absurd (none x.0 x.1 x.2)
    one false is = is

-- ---- a block comes

module _ (root : Option Tip) (live now : List Stored) (b : Block) (old new : Notes) (reached : Bool) (was : AreNotes root live old) (none : HasNone live (block_hash_of b)) (is : IsSame now (live ++ unmarked b ∷ []))
    (asked : IsTrue reached ↔ HasStep root live old b) (noted : IsNotedAt (block_hash_of b) reached old new) where
  before : (y : Stored) → Contains now y → Contains live y ⊎ (unmarked b ≡ y)
  before y member = Contains-push_cases live (unmarked b) y ((is.members y).0 member)

  still : (y : Stored) → Contains live y → Contains now y
  still y member = (is.members y).1 (Contains-append_left live (unmarked b ∷ []) y member)

  it_is_there : Contains now (unmarked b)
  it_is_there = (is.members (unmarked b)).1 (Contains-push live (unmarked b))

  as_it_was : (y : Stored) → Contains live y → is_noted new (block_hash_of y.block) ≡ is_noted old (block_hash_of y.block)
  as_it_was y member = noted.others (block_hash_of y.block) (none y member)

  grown : (y : Block) → HasStep root live old y → HasStep root now new y
  grown y step = step_with root live now old new y (λ p member had follows. (p, still p member, refl, as_it_was p member ∙ had)) step

  shrunk : (y : Block) → HasStep root now new y → HasStep root live old y ⊎ ((reached ≡ true) × Follows (tip_at b) y)
  shrunk y (inl first) = inl (inl first)
  shrunk y (inr after) = elim (before after.parent after.member) [
    | inl there ↦ inl (inr (record { parent = after.parent; member = there; noted = sym (as_it_was after.parent there) ∙ after.noted; follows = after.follows }))
    | inr it ↦ inr (
      sym noted.here ∙ (ap (λ (x : Stored). is_noted new (block_hash_of x.block)) it ∙ after.noted),
      subst (λ (x : Stored). Follows (tip_at x.block) y) (sym it) after.follows,
    )
  ]

  -- where it is reached, what follows it has a step
  pub came_stands : reached ≡ true → Stands root now true new (tip_at b)
  came_stands sure = λ c follows. inr (record { parent = unmarked b; member = it_is_there; noted = noted.here ∙ sure; follows = follows })

  -- and may turn no more
  pub came_fewer : reached ≡ true → may_turn now true new + 1 ≤ length now
  came_fewer sure =
      let turns : IsTurned (block_hash_of b) true old new = record { before = unnoted root live old (block_hash_of b) was none; after = noted.here ∙ sure; others = noted.others } in
      let less = one_fewer now true (unmarked b) old new it_is_there turns in omega (arith, less, few_turn now true old)

  module _ (waits : List Place) (comes : reached ≡ true → (p : Place) × Contains waits p × (tip_of p ≡ tip_at b)) where
    behind : (y : Stored) → Contains live y → is_noted old (block_hash_of y.block) ≡ false → (t : Bool) → reached ≡ t → Follows (tip_at b) y.block ⊎ (Follows (tip_at b) y.block → ⊥)
        → (IsReached root now new y → ⊥) ⊎ FollowsOne waits y
    behind y there hadnt true sure (inl follows) = let p = comes sure in inr (p.0, p.1, subst (λ (t : Tip). Follows t y.block) (sym p.2) follows)
    behind y there hadnt false never (inl follows) = inl (λ has. elim (shrunk y.block has.step) [
      | inl step ↦ was.right false y there hadnt (record { unmarked = has.unmarked; step = step })
      | inr by ↦ let e : false ≡ true = sym never ∙ by.0 in absurd {A = ⊥} cc
    ])
    behind y there hadnt t at (inr aside) = inl (λ has. elim (shrunk y.block has.step) [
      | inl step ↦ was.right false y there hadnt (record { unmarked = has.unmarked; step = step })
      | inr by ↦ aside by.1
    ])

    itself : reached ≡ false → IsReached root now new (unmarked b) → ⊥
    itself never has = elim (shrunk b has.step) [
      | inl step ↦ let e : false ≡ true = sym never ∙ asked.1 step in absurd {A = ⊥} cc
      | inr by ↦ let e : false ≡ true = sym never ∙ by.0 in absurd {A = ⊥} cc
    ]

    pub came : AreTurning root now true (FollowsOne waits) new
    came = record {
      named = λ hash said. elim (is_hash (block_hash_of b) hash) [
        | inl same ↦ (unmarked b, it_is_there, sym same)
        | inr other ↦ let x = was.named hash (sym (noted.others hash other) ∙ said) in (x.0, still x.0 x.1, x.2)
      ];
      sound = λ y member said. elim (before y member) [
        | inl there ↦ let has = was.right true y there (sym (as_it_was y there) ∙ said) in record { unmarked = has.unmarked; step = grown y.block has.step }
        | inr it ↦
            let sure : reached ≡ true = sym noted.here ∙ (ap (λ (x : Stored). is_noted new (block_hash_of x.block)) it ∙ said) in
            subst (IsReached root now new) it (record { unmarked = refl; step = grown b (asked.0 sure) })
      ];
      left = λ y member said. elim (before y member) [
        | inl there ↦ behind y there (sym (as_it_was y there) ∙ said) reached refl (follows_or_not (tip_at b) y.block)
        | inr it ↦
            let never : reached ≡ false = sym noted.here ∙ (ap (λ (x : Stored). is_noted new (block_hash_of x.block)) it ∙ said) in
            inl (λ has. itself never (subst (IsReached root now new) (sym it) has))
      ];
    }

-- ---- a block gets its mark

module _ (root : Option Tip) (live now : List Stored) (hash : List ℕ) (notes : Notes) (was : AreNotes root live notes) (is : IsSame now (map (marked_at hash) live)) where
  pub record WasBefore (y : Stored) : Type 0 where
    pub stored : Stored
    pub member : Contains live stored
    pub block : y.block ≡ stored.block
    pub mark : IsMarkedAt hash stored y

  was_before : (y : Stored) → Contains now y → WasBefore y
  was_before y member =
      let z = contains_before (marked_at hash) live y ((is.members y).0 member) in
      let mark = subst (IsMarkedAt hash z.0) z.2 (is_marked hash z.0) in
      record { stored = z.0; member = z.1; block = mark.block; mark = mark }

  still_there : (z : Stored) → Contains live z → Contains now (marked_at hash z)
  still_there z member = (is.members (marked_at hash z)).1 (contains_map (marked_at hash) live z member)

  to_now : (b : Block) → HasStep root live notes b → HasStep root now notes b
  to_now b step = step_with root live now notes notes b (λ p member noted follows. (marked_at hash p, still_there p member, (is_marked hash p).block, noted)) step

  to_live : (b : Block) → HasStep root now notes b → HasStep root live notes b
  to_live b step = step_with root now live notes notes b (λ p member noted follows. let z = was_before p member in (z.stored, z.member, sym z.block, noted)) step

  note_of : (t : Bool) (y z : Stored) → y.block ≡ z.block → is_noted notes (block_hash_of y.block) ≡ t → is_noted notes (block_hash_of z.block) ≡ t
  note_of t y z same noted = ap (λ (b : Block). is_noted notes (block_hash_of b)) (sym same) ∙ noted

  pub marked_now : AreTurning root now false (λ x. block_hash_of x.block ≡ hash) notes
  marked_now = record {
    named = λ q noted. let x = was.named q noted in (marked_at hash x.0, still_there x.0 x.1, ap block_hash_of (is_marked hash x.0).block ∙ x.2);
    sound = λ y member noted reached.
        let z = was_before y member in
        elim (is_hash hash (block_hash_of z.stored.block)) [
          | inl same ↦ absurd (let e : true ≡ false = sym (z.mark.this same) ∙ reached.unmarked in cc)
          | inr other ↦ was.right false z.stored z.member (note_of false y z.stored z.block noted) (record {
            unmarked = sym (z.mark.others other) ∙ reached.unmarked;
            step = subst (HasStep root live notes) z.block (to_live y.block reached.step);
          })
        ];
    left = λ y member noted.
        let z = was_before y member in
        elim (is_hash hash (block_hash_of z.stored.block)) [
          | inl same ↦ inr (ap block_hash_of z.block ∙ same)
          | inr other ↦
              let reached = was.right true z.stored z.member (note_of true y z.stored z.block noted) in
              inl (record { unmarked = z.mark.others other ∙ reached.unmarked; step = subst (HasStep root now notes) (sym z.block) (to_now z.stored.block reached.step) })
        ];
  }

-- it wasn't noted, so that no note turns
pub mark_settles : (root : Option Tip) (live now : List Stored) (hash : List ℕ) (old new : Notes) → AreNotes root live old → IsSame now (map (marked_at hash) live) → is_noted old hash ≡ false → IsNotedAt hash false old new
    → AreTurning root now false (FollowsOne []) new
mark_settles root live now hash old new was is none noted =
    others_wait root now false (λ x. block_hash_of x.block ≡ hash) (FollowsOne []) new
    (λ y member said same. absurd (let e : false ≡ true = sym noted.here ∙ (ap (is_noted new) (sym same) ∙ said) in cc))
    (same_turning root now false (λ x. block_hash_of x.block ≡ hash) old new says (marked_now root live now hash old was is))
  where
    says : (q : List ℕ) → is_noted new q ≡ is_noted old q
    says q = elim (is_hash hash q) [
      | inl same ↦ ap (is_noted new) same ∙ (noted.here ∙ (sym none ∙ sym (ap (is_noted old) same)))
      | inr other ↦ noted.others q other
    ]

-- so that they are right
pub mark_settled : (root : Option Tip) (live now : List Stored) (hash : List ℕ) (old new : Notes) → AreNotes root live old → IsSame now (map (marked_at hash) live) → is_noted old hash ≡ false → IsNotedAt hash false old new → AreNotes root now new
mark_settled root live now hash old new was is none noted =
    settled root now false (FollowsOne []) new (λ y member one. nothing_contained one.0 one.1) (mark_settles root live now hash old new was is none noted)

-- its note turns
module _ (root : Option Tip) (live now : List Stored) (hash : List ℕ) (old new : Notes) (place : Place) (was : AreNotes root live old) (is : IsSame now (map (marked_at hash) live)) (apart : AreApart now)
    (stood : IsPlaceOf (record { blocks = live; notes = old }) hash (Some (tip_of place))) (noted : IsNotedAt hash false old new) where
  abbrev x : Stored
  x = marked_at hash stood.0

  x_there : Contains now x
  x_there = (is.members x).1 (contains_map (marked_at hash) live stood.0 stood.1)

  x_block : x.block ≡ stood.0.block
  x_block = (is_marked hash stood.0).block

  x_hash : block_hash_of x.block ≡ hash
  x_hash = ap block_hash_of x_block ∙ stood.2

  x_dead : IsReached root now old x → ⊥
  x_dead has = let e : true ≡ false = sym ((is_marked hash stood.0).this stood.2) ∙ has.unmarked in cc

  x_turned : IsTurned (block_hash_of x.block) false old new
  x_turned = subst (λ (h : List ℕ). IsTurned h false old new) (sym x_hash) (record { before = stood.3; after = noted.here; others = noted.others })

  x_place : tip_at x.block ≡ tip_of place
  x_place = ap tip_at x_block ∙ stood.4

  pub mark_turns : AreTurning root now false (FollowsOne (place ∷ [])) new
  mark_turns =
      others_wait root now false (WaitsToo (λ y. block_hash_of y.block ≡ hash) x) (FollowsOne (place ∷ [])) new
      (λ y member said waits. elim waits [
        | inl same ↦ absurd (let e : false ≡ true = sym noted.here ∙ (ap (is_noted new) (sym same) ∙ said) in cc)
        | inr follows ↦ inr (place, contains_first place [], subst (λ (t : Tip). Follows t y.block) x_place follows)
      ])
      (turned root now false (λ y. block_hash_of y.block ≡ hash) x old new apart x_there x_turned x_dead (marked_now root live now hash old was is))

  pub mark_fewer : may_turn now false new + 1 ≤ length now
  mark_fewer = let less = one_fewer now false x old new x_there x_turned in omega (arith, less, few_turn now false old)

  pub mark_stands : AllStand root now false new (place ∷ [])
  mark_stands p member = elim (contains_cases place [] p member) [
    | inl same ↦ subst (Stands root now false new) (x_place ∙ ap tip_of same) (stands_here root now false x old new apart x_there x_turned)
    | inr none ↦ absurd (nothing_contained p none)
  ]

-- ---- blocks go

-- where ways begin after them
risen : (root : Tip) (next : Option Tip) (old new : Held) (place : Tip) (leads : Bool) (waiting more : List Place) → AreNotes (Some root) old.blocks old.notes → AreDropped old new place leads waiting
    → ((p : Place) → Contains waiting p → Contains more p)
    → ((y : Stored) → Contains new.blocks y → FollowsRoot next y.block → HasStep (Some root) old.blocks old.notes y.block)
    → ((y : Stored) → Contains new.blocks y → Follows root y.block → FollowsRoot next y.block ⊎ FollowsOne more y)
    → (leads ≡ true → (y : Stored) → Follows place y.block → FollowsRoot next y.block)
    → AreTurning next new.blocks false (FollowsOne more) new.notes
risen root next old new place leads waiting more was dropped wider before after led = record {
  named = λ hash noted.
      let x = was.named hash (dropped.noted hash noted) in
      (x.0, dropped.named x.0 x.1 (ap (is_noted new.notes) x.2 ∙ noted), x.2);
  sound = λ y member noted reached. was.right false y (dropped.within y member) (sym (dropped.notes y member) ∙ noted) (record { unmarked = reached.unmarked; step = back y member reached.step });
  left = λ y member noted.
      let reached = was.right true y (dropped.within y member) (sym (dropped.notes y member) ∙ noted) in
      elim (on y member reached.step) [
        | inl step ↦ inl (record { unmarked = reached.unmarked; step = step })
        | inr waits ↦ inr waits
      ];
}
  where
    back : (y : Stored) → Contains new.blocks y → HasStep next new.blocks new.notes y.block → HasStep (Some root) old.blocks old.notes y.block
    back y member (inl first) = before y member first
    back y member (inr after_p) = inr (record {
      parent = after_p.parent;
      member = dropped.within after_p.parent after_p.member;
      noted = sym (dropped.notes after_p.parent after_p.member) ∙ after_p.noted;
      follows = after_p.follows;
    })

    on : (y : Stored) → Contains new.blocks y → HasStep (Some root) old.blocks old.notes y.block → HasStep next new.blocks new.notes y.block ⊎ FollowsOne more y
    on y member (inl first) = elim (after y member first) [ inl is ↦ inl (inl is) | inr waits ↦ inr waits ]
    on y member (inr after_p) = elim (dropped.gone after_p.parent after_p.member after_p.noted) [
      | inl here ↦ inl (inr (record {
        parent = after_p.parent;
        member = here;
        noted = dropped.notes after_p.parent here ∙ after_p.noted;
        follows = after_p.follows;
      }))
      | inr (inl w) ↦ inr (w.0, wider w.0 w.1, subst (λ (t : Tip). Follows t y.block) (sym w.2) after_p.follows)
      | inr (inr at) ↦ inl (inl (led at.1 y (subst (λ (t : Tip). Follows t y.block) at.0 after_p.follows)))
    ]

-- what is noted is past the root
number_below : (root : Tip) (live : List Stored) (notes : Notes) (n : ℕ) (x : Stored) → AreNotes (Some root) live notes → Contains live x → is_noted notes (block_hash_of x.block) ≡ true → x.block.header.number < n
    → root.number < x.block.header.number
number_below root live notes zero x was member noted low = absurd (omega (arith, low))
number_below root live notes (suc n) x was member noted low = at (was.right true x member noted).step (λ p there has lower. number_below root live notes n p was there has lower)
  where
    at : HasStep (Some root) live notes x.block → ((p : Stored) → Contains live p → is_noted notes (block_hash_of p.block) ≡ true → p.block.header.number < n → root.number < p.block.header.number) → root.number < x.block.header.number
    at (inl first) before = let number = first.number in omega (arith, number)
    at (inr after) before =
        let number = after.follows.number in
        let past = before after.parent after.member after.noted (omega (arith, low, number)) in
        omega (arith, number, past)

-- the place that ways begin behind is the one that they began behind, or one led to it
pub risen_on : (root next : Tip) (old new : Held) (leads : Bool) (waiting : List Place) → AreNotes (Some root) old.blocks old.notes → AreDropped old new next leads waiting → (next ≡ root) ⊎ (leads ≡ true)
    → ((y : Stored) → Contains new.blocks y → next.number < y.block.header.number) → AreTurning (Some next) new.blocks false (FollowsOne waiting) new.notes
risen_on root next old new leads waiting was dropped (inl same) past =
    risen root (Some next) old new next leads waiting waiting was dropped (λ p member. member)
    (λ y member first. inl (subst (λ (t : Tip). Follows t y.block) same first))
    (λ y member first. inl (subst (λ (t : Tip). Follows t y.block) (sym same) first))
    (λ sure y follows. follows)
risen_on root next old new leads waiting was dropped (inr sure) past =
    let r = dropped.led sure in
    risen root (Some next) old new next leads waiting waiting was dropped (λ p member. member)
    (λ y member first. inr (record { parent = r.0; member = r.1; noted = r.2; follows = subst (λ (t : Tip). Follows t y.block) (sym r.3) first }))
    (λ y member first.
    let x : Stored = r.0 in
    let low = number_below root old.blocks old.notes (x.block.header.number + 1) x was r.1 r.2 (omega arith) in
    let is : x.block.header.number ≡ next.number = ap (λ (t : Tip). t.number) r.3 in
    let far = past y member in
    let number = first.number in absurd (omega (arith, low, is, far, number)))
    (λ _ y follows. follows)

-- none begins anywhere
pub risen_off : (root : Place) (next : Tip) (old new : Held) (leads : Bool) (waiting : List Place) → AreNotes (Some (tip_of root)) old.blocks old.notes → AreDropped old new next leads waiting → leads ≡ false
    → AreTurning None new.blocks false (FollowsOne (root ∷ waiting)) new.notes
risen_off root next old new leads waiting was dropped never =
    risen (tip_of root) None old new next leads waiting (root ∷ waiting) was dropped (λ p member. contains_later root waiting p member)
    (λ y member first. absurd first)
    (λ y member first. inr (root, contains_first root waiting, first))
    (λ sure. let e : true ≡ false = sym sure ∙ never in absurd cc)

-- no live block that is left stands where one went
pub dropped_stand : (next : Option Tip) (old new : Held) (place : Tip) (leads : Bool) (waiting : List Place) → AreDropped old new place leads waiting → AllStand next new.blocks false new.notes waiting
dropped_stand next old new place leads waiting dropped p member = λ b follows after.
    dropped.out p member after.parent after.member (sym follows.previous ∙ after.follows.previous)

-- nor where the root was
pub root_stands : (root : Place) (next : Option Tip) (old new : Held) (place : Tip) (leads : Bool) (waiting : List Place) → AreNotes (Some (tip_of root)) old.blocks old.notes → AreDropped old new place leads waiting
    → AllStand next new.blocks false new.notes (root ∷ waiting)
root_stands root next old new place leads waiting was dropped p member = elim (contains_cases root waiting p member) [
  | inr later ↦ dropped_stand next old new place leads waiting dropped p later
  | inl same ↦ subst (λ (q : Place). Stands next new.blocks false new.notes (tip_of q)) same
      (λ b follows after.
      let x : Stored = after.parent in
      let there = dropped.within x after.member in
      let low = number_below (tip_of root) old.blocks old.notes (x.block.header.number + 1) x was there (sym (dropped.notes x after.member) ∙ after.noted) (omega arith) in
      let number = follows.number in
      let too = after.follows.number in absurd (omega (arith, low, number, too)))
]

-- where none began, ways begin behind a place
pub anew : (root : Place) (live : List Stored) (notes : Notes) → AreNotes None live notes → AreTurning (Some (tip_of root)) live true (FollowsOne (root ∷ [])) notes
anew root live notes was = record {
  named = was.named;
  sound = λ y member noted. let reached = was.right true y member noted in record { unmarked = reached.unmarked; step = more y.block reached.step };
  left = λ y member noted. elim (follows_or_not (tip_of root) y.block) [
    | inl follows ↦ inr (root, contains_first root [], follows)
    | inr aside ↦ inl (λ reached. was.right false y member noted (record { unmarked = reached.unmarked; step = less y.block aside reached.step }))
  ];
}
  where
    more : (b : Block) → HasStep None live notes b → HasStep (Some (tip_of root)) live notes b
    more b (inl first) = absurd first
    more b (inr after) = inr after

    less : (b : Block) → (Follows (tip_of root) b → ⊥) → HasStep (Some (tip_of root)) live notes b → HasStep None live notes b
    less b aside (inl first) = absurd (aside first)
    less b aside (inr after) = inr after

-- ---- whole ways

linked_push : (tip : Tip) (path : List Block) (p b : Block) → IsLinked tip (path ++ p ∷ []) → Follows (tip_at p) b → IsLinked tip ((path ++ p ∷ []) ++ b ∷ [])
linked_push tip [] p b linked follows = (linked.0, (follows, tt))
linked_push tip (c ∷ cs) p b linked follows = (linked.0, linked_push (tip_at c) cs p b linked.1 follows)

-- a way goes on by a live block without a mark
way_on : (root : Tip) (live : List Stored) (p : Stored) (b : Block) → HasWay root live p.block → p.invalid ≡ false → Contains live p → Follows (tip_at p.block) b → HasWay root live b
way_on root live p b way good member follows = record {
  before = way.before ++ p.block ∷ [];
  members = all_push (λ c. Contains live (unmarked c)) way.before p.block way.members (subst (λ (t : Bool). Contains live (record { block = p.block; invalid = t })) good member);
  linked = linked_push root way.before p.block b way.linked follows;
}

-- a way leads to what is noted
way_to_noted : (root : Tip) (live : List Stored) (notes : Notes) (n : ℕ) (x : Stored) → AreNotes (Some root) live notes → Contains live x → is_noted notes (block_hash_of x.block) ≡ true → x.block.header.number < n → HasWay root live x.block
way_to_noted root live notes zero x was member noted low = absurd (omega (arith, low))
way_to_noted root live notes (suc n) x was member noted low = at (was.right true x member noted).step (λ p there has lower. way_to_noted root live notes n p was there has lower)
  where
    at : HasStep (Some root) live notes x.block → ((p : Stored) → Contains live p → is_noted notes (block_hash_of p.block) ≡ true → p.block.header.number < n → HasWay root live p.block) → HasWay root live x.block
    at (inl first) before = record { before = []; members = tt; linked = (first, tt) }
    at (inr after) before =
        let p : Stored = after.parent in
        let number = after.follows.number in
        way_on root live p x.block (before p after.member after.noted (omega (arith, low, number))) (was.right true p after.member after.noted).unmarked after.member after.follows

along : (root : Tip) (live : List Stored) (notes : Notes) → AreNotes (Some root) live notes → (tip : Tip) (path : List Block) (b : Block) → ((c : Block) → Follows tip c → HasStep (Some root) live notes c)
    → AllByRecursion (λ c. Contains live (unmarked c)) path → IsLinked tip (path ++ b ∷ []) → HasStep (Some root) live notes b
along root live notes was tip [] b start members linked = start b linked.0
along root live notes was tip (c ∷ cs) b start members linked =
    along root live notes was (tip_at c) cs b
    (λ d follows. inr (record { parent = unmarked c; member = members.0; noted = noted (is_noted notes (block_hash_of c)) refl; follows = follows })) members.1 linked.1
  where
    noted : (t : Bool) → is_noted notes (block_hash_of c) ≡ t → is_noted notes (block_hash_of c) ≡ true
    noted true is = is
    noted false is = absurd (was.right false (unmarked c) members.0 is (record { unmarked = refl; step = start c linked.0 }))

-- a block has a step just where a way leads to it
pub step_is_way : (root : Tip) (live : List Stored) (notes : Notes) (b : Block) → AreNotes (Some root) live notes → (HasStep (Some root) live notes b → HasWay root live b) × (HasWay root live b → HasStep (Some root) live notes b)
step_is_way root live notes b was = (to, (λ way. along root live notes was root way.before b (λ c first. inl first) way.members way.linked))
  where
    to : HasStep (Some root) live notes b → HasWay root live b
    to (inl first) = record { before = []; members = tt; linked = (first, tt) }
    to (inr after) =
        let p : Stored = after.parent in
        way_on root live p b (way_to_noted root live notes (p.block.header.number + 1) p was after.member after.noted (omega arith)) (was.right true p after.member after.noted).unmarked after.member after.follows

-- ---- one goes after the other

module _ (old held now : Held) (place : Tip) (leads one more_leads : Bool) (waiting more : List Place) (hash : List ℕ) (was : AreDropped old held place leads waiting)
    (alone : (x y : Stored) → Contains held.blocks x → Contains held.blocks y → block_hash_of x.block ≡ block_hash_of y.block → x.block ≡ y.block)
    (without : (x : Stored) → Contains now.blocks x ↔ (Contains held.blocks x × (block_hash_of x.block ≢ hash))) (noted : IsNotedAt hash false held.notes now.notes) where
  wider : IsLetGo held hash place one waiting more → (p : Place) → Contains waiting p → Contains more p
  wider (inl none) p member = subst (λ (ws : List Place). Contains ws p) (sym none.2) member
  wider (inr (y, there, at, said, inl stood)) p member = subst (λ (ws : List Place). Contains ws p) (sym stood.2) member
  wider (inr (y, there, at, said, inr left)) p member = subst (λ (ws : List Place). Contains ws p) (sym left.1.2) (Contains-append_left waiting (left.1.0 ∷ []) p member)

  apart : (q : List ℕ) → is_noted now.notes q ≡ true → q ≢ hash
  apart q said same = let e : false ≡ true = sym (ap (is_noted now.notes) same ∙ noted.here) ∙ said in cc

  had_it : (q : List ℕ) → is_noted now.notes q ≡ true → is_noted held.notes q ≡ true
  had_it q said = sym (noted.others q (apart q said)) ∙ said

  -- where the one that went stood
  goes : (x : Stored) → Contains held.blocks x → block_hash_of x.block ≡ hash → is_noted held.notes (block_hash_of x.block) ≡ true → IsLetGo held hash place one waiting more
      → ((p : Place) × Contains more p × (tip_of p ≡ tip_at x.block)) ⊎ ((tip_at x.block ≡ place) × (one ≡ true))
  goes x here same said (inl none) = absurd (let e : false ≡ true = sym none.0 ∙ (ap (is_noted held.notes) (sym same) ∙ said) in cc)
  goes x here same said (inr (y, there, at, had, inl stood)) = inr (ap tip_at (alone x y here there (same ∙ sym at)) ∙ stood.0, stood.1)
  goes x here same said (inr (y, there, at, had, inr left)) = inl (
    left.1.0,
    subst (λ (ws : List Place). Contains ws left.1.0) (sym left.1.2) (Contains-push waiting left.1.0),
    left.1.1 ∙ ap tip_at (alone y x there here (at ∙ sym same)),
  )

  outside : IsLetGo held hash place one waiting more → (p : Place) → Contains more p → Contains waiting p ⊎ ((tip_of p).hash ≡ Some hash)
  outside (inl none) p member = inl (subst (λ (ws : List Place). Contains ws p) none.2 member)
  outside (inr (y, there, at, had, inl stood)) p member = inl (subst (λ (ws : List Place). Contains ws p) stood.2 member)
  outside (inr (y, there, at, had, inr left)) p member = elim (Contains-push_cases waiting left.1.0 p (subst (λ (ws : List Place). Contains ws p) left.1.2 member)) [
    | inl earlier ↦ inl earlier
    | inr it ↦ inr (ap (λ (q : Place). (tip_of q).hash) (sym it) ∙ (ap (λ (t : Tip). t.hash) left.1.1 ∙ ap (λ (h : List ℕ). Some h) at))
  ]

  leads_on : one ≡ true → IsLetGo held hash place one waiting more → (x : Stored) × Contains old.blocks x × (is_noted old.notes (block_hash_of x.block) ≡ true) × (tip_at x.block ≡ place)
  leads_on sure (inl none) = absurd (let e : false ≡ true = sym none.1 ∙ sure in cc)
  leads_on sure (inr (y, there, at, had, inl stood)) = (y, was.within y there, sym (was.notes y there) ∙ (ap (is_noted held.notes) at ∙ had), stood.0)
  leads_on sure (inr (y, there, at, had, inr left)) = absurd (let e : false ≡ true = sym left.0 ∙ sure in cc)

  pub one_dropped : IsLetGo held hash place one waiting more → (more_leads ≡ true → (one ≡ true) ⊎ (leads ≡ true)) → (one ≡ true → more_leads ≡ true) → (leads ≡ true → more_leads ≡ true) → AreDropped old now place more_leads more
  one_dropped go either this that = record {
    within = λ x member. was.within x ((without x).0 member).0;
    gone = λ x member said. elim (was.gone x member said) [
      | inr (inl w) ↦ inr (inl (w.0, wider go w.0 w.1, w.2))
      | inr (inr at) ↦ inr (inr (at.0, that at.1))
      | inl here ↦ elim (is_hash hash (block_hash_of x.block)) [
        | inr other ↦ inl ((without x).1 (here, other))
        | inl same ↦ elim (goes x here same (was.notes x here ∙ said) go) [
          | inl waits ↦ inr (inl waits)
          | inr stood ↦ inr (inr (stood.0, this stood.1))
        ]
      ]
    ];
    notes = λ x member. let here = (without x).0 member in noted.others (block_hash_of x.block) here.1 ∙ was.notes x here.0;
    named = λ x member said. (without x).1 (was.named x member (had_it (block_hash_of x.block) said), apart (block_hash_of x.block) said);
    noted = λ q said. was.noted q (had_it q said);
    out = λ p member x there same.
        let here = (without x).0 there in
        elim (outside go p member) [
          | inl earlier ↦ was.out p earlier x here.0 same
          | inr at ↦ here.1 (same_Some (block_hash_of x.block) hash (sym same ∙ at))
        ];
    led = λ sure. elim (either sure) [
      | inl is ↦ leads_on is go
      | inr had ↦ was.led had
    ];
  }
