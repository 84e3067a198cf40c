-- How the notes of ways stay right while they turn.
use Rattle.std.proofs.Common.{◌≡◌, ◌≢◌, ◌⊎◌, ℕ, ◌+◌, ◌≤◌, Bool, true, false, cond, List, [], ◌∷◌, ◌++◌, length, Contains, Option, Some, None, refl, sym, ap, subst, ◌∙◌, arith, inl, inr, not}
use Rattle.std.specs.List.{filter}
use Rattle.std.specs.Prelude.{MatchOption}
use Rattle.std.proofs.lemmas.Bool.{cases_lt}
use Rattle.std.proofs.lemmas.List.Elements.{Contains-append_left, Contains-push, Contains-push_cases}
use Rattle.model.specs.Block.{Block, block_hash_of}
use Rattle.model.specs.Chain.{Tip, tip_at, Follows}
use Rattle.model.proofs.Lists.{contains_first, contains_later, contains_cases, nothing_contained}
use Rattle.block.specs.declared.tip.Tip.{Tip as Place}
use Rattle.block.specs.View.{tip_of}
use Rattle.blockstore.specs.Stored.{Stored}
use Rattle.blockstore.specs.Placed.{Notes, is_noted}
use Rattle.blockstore.specs.Keys.{IsLinkOf}
use Rattle.blockstore.specs.Shelves.{AreApart, HasNone, AreLinksAfter}
use Rattle.blockstore.specs.Ways.{FollowsRoot, HasParent, HasStep, IsReached, Agrees, AreNotes, AreTurning, FollowsOne, Stands, AllStand, differs, may_turn, IsTurned, AreSameNotes, IsLed, IsLookedAt}
use Rattle.blockstore.specs.Tests.{same_previous}
use Rattle.blockstore.specs.declared.keys.Link.{Link}
use Rattle.blockstore.proofs.KeySets.{is_hash}
use Rattle.blockstore.proofs.Tests.{previous_is, previous_passes}

-- ---- what is decided

-- the block names this one, or another
names_or_not : (previous other : Option (List ℕ)) → (previous ≡ other) ⊎ (previous ≢ other)
names_or_not previous other = one (same_previous previous other) refl
  where
    one : (t : Bool) → same_previous previous other ≡ t → (previous ≡ other) ⊎ (previous ≢ other)
    one true is = inl (previous_is previous other is)
    one false is = inr (λ same. let e : true ≡ false = sym (previous_passes previous other same) ∙ is in cc)

number_or_not : (m n : ℕ) → (m ≡ n) ⊎ (m ≢ n)
number_or_not m n = elim (cases_lt m n) [
  | inl less ↦ inr (λ same. omega (arith, less, same))
  | inr most ↦ elim (cases_lt n m) [
    | inl more ↦ inr (λ same. omega (arith, more, same))
    | inr least ↦ inl (omega (arith, most, least))
  ]
]

-- the block follows the place, or it doesn't
pub follows_or_not : (place : Tip) (b : Block) → Follows place b ⊎ (Follows place b → ⊥)
follows_or_not place b = elim (names_or_not b.header.previous place.hash) [
  | inr other ↦ inr (λ follows. other follows.previous)
  | inl names ↦ elim (number_or_not b.header.number (place.number + 1)) [
    | inr far ↦ inr (λ follows. far follows.number)
    | inl next ↦ elim (cases_lt place.slot b.header.slot) [
      | inl later ↦ inl (record { number = next; previous = names; slot = later })
      | inr early ↦ inr (λ follows. let slot = follows.slot in omega (arith, early, slot))
    ]
  ]
]

-- what is noted isn't what isn't
opposite : (t b : Bool) → b ≡ t → b ≡ not t → ⊥
opposite true b is isnt = let e : true ≡ false = sym is ∙ isnt in cc
opposite false b is isnt = let e : false ≡ true = sym is ∙ isnt in cc

-- ---- steps

pub parent_with : (live more : List Stored) (old new : Notes) (b : Block) → ((p : Stored) → Contains live p → is_noted old (block_hash_of p.block) ≡ true → Follows (tip_at p.block) b → (q : Stored) × Contains more q × (q.block ≡ p.block) × (is_noted new (block_hash_of p.block) ≡ true))
    → HasParent live old b → HasParent more new b
parent_with live more old new b still after =
    let q = still after.parent after.member after.noted after.follows in
    record {
      parent = q.0;
      member = q.1;
      noted = subst (λ (c : Block). is_noted new (block_hash_of c) ≡ true) (sym q.2) q.3;
      follows = subst (λ (c : Block). Follows (tip_at c) b) (sym q.2) after.follows;
    }

pub step_with : (root : Option Tip) (live more : List Stored) (old new : Notes) (b : Block) → ((p : Stored) → Contains live p → is_noted old (block_hash_of p.block) ≡ true → Follows (tip_at p.block) b → (q : Stored) × Contains more q × (q.block ≡ p.block) × (is_noted new (block_hash_of p.block) ≡ true))
    → HasStep root live old b → HasStep root more new b
step_with root live more old new b still (inl first) = inl first
step_with root live more old new b still (inr after) = inr (parent_with live more old new b still after)

-- among the same blocks
reached_with : (root : Option Tip) (live : List Stored) (old new : Notes) (x : Stored) → ((p : Stored) → Contains live p → is_noted old (block_hash_of p.block) ≡ true → Follows (tip_at p.block) x.block → is_noted new (block_hash_of p.block) ≡ true)
    → IsReached root live old x → IsReached root live new x
reached_with root live old new x still was = record {
  unmarked = was.unmarked;
  step = step_with root live live old new x.block (λ p member noted follows. (p, member, refl, still p member noted follows)) was.step;
}

-- ---- what is led

-- behind a place where notes turn, what is led is reached
led_reached : (root : Option Tip) (live : List Stored) (turns : Bool) (notes : Notes) (place : Tip) (x : Stored) → Stands root live turns notes place → Follows place x.block → IsLed root turns x → IsReached root live notes x
led_reached root live true notes place x stands follows led = record { unmarked = led.unmarked; step = stands x.block follows }
led_reached root live false notes place x stands follows led = record { unmarked = led.unmarked; step = first led.first }
  where
    first : (false ≡ true) ⊎ FollowsRoot root x.block → HasStep root live notes x.block
    first (inl isnt) = absurd (let e : false ≡ true = isnt in cc)
    first (inr on) = inl on

reached_led : (root : Option Tip) (live : List Stored) (turns : Bool) (notes : Notes) (place : Tip) (x : Stored) → Stands root live turns notes place → Follows place x.block → IsReached root live notes x → IsLed root turns x
reached_led root live true notes place x stands follows reached = record { unmarked = reached.unmarked; first = inl refl }
reached_led root live false notes place x stands follows reached = record { unmarked = reached.unmarked; first = first reached.step }
  where
    first : HasStep root live notes x.block → (false ≡ true) ⊎ FollowsRoot root x.block
    first (inl on) = inr on
    first (inr after) = absurd (stands x.block follows after)

led_agrees : (root : Option Tip) (live : List Stored) (turns : Bool) (notes : Notes) (place : Tip) (x : Stored) → Stands root live turns notes place → Follows place x.block → (t : Bool) → Agrees t (IsLed root turns x) → Agrees t (IsReached root live notes x)
led_agrees root live turns notes place x stands follows true is = led_reached root live turns notes place x stands follows is
led_agrees root live turns notes place x stands follows false isnt = λ reached. isnt (reached_led root live turns notes place x stands follows reached)

-- ---- a note turns

-- those that waited, and those that follow this one
abbrev pub WaitsToo : (Stored → Type 0) → Stored → Stored → Type 0
WaitsToo Waits x y = Waits y ⊎ Follows (tip_at x.block) y.block

module _ (root : Option Tip) (live : List Stored) (Waits : Stored → Type 0) (x : Stored) (old new : Notes) (apart : AreApart live) (here : Contains live x) where
  -- what another block follows isn't this one
  others_follow : (y : Stored) → (Follows (tip_at x.block) y.block → ⊥) → (p : Stored) → Contains live p → Follows (tip_at p.block) y.block → block_hash_of p.block ≢ block_hash_of x.block
  others_follow y none p member follows same = none (subst (λ (z : Stored). Follows (tip_at z.block) y.block) (apart p x member here same) follows)

  module _ (t : IsTurned (block_hash_of x.block) true old new) where
    more : (p : Stored) → is_noted old (block_hash_of p.block) ≡ true → is_noted new (block_hash_of p.block) ≡ true
    more p noted = elim (is_hash (block_hash_of x.block) (block_hash_of p.block)) [
      | inl same ↦ ap (is_noted new) same ∙ t.after
      | inr other ↦ t.others (block_hash_of p.block) other ∙ noted
    ]

    -- what has a step keeps it
    step_stays : (b : Block) → HasStep root live old b → HasStep root live new b
    step_stays b step = step_with root live live old new b (λ p member noted follows. (p, member, refl, more p noted)) step

    grows : (y : Stored) → IsReached root live old y → IsReached root live new y
    grows y reached = record { unmarked = reached.unmarked; step = step_stays y.block reached.step }

    -- what follows it has a step
    stands_true : Stands root live true new (tip_at x.block)
    stands_true b follows = inr (record { parent = x; member = here; noted = t.after; follows = follows })

    module _ (is : IsReached root live old x) (was : AreTurning root live true Waits old) where
      turned_true : AreTurning root live true (WaitsToo Waits x) new
      turned_true = record {
        named = λ hash noted. elim (is_hash (block_hash_of x.block) hash) [
          | inl same ↦ (x, here, sym same)
          | inr other ↦ was.named hash (sym (t.others hash other) ∙ noted)
        ];
        sound = λ y member noted. elim (is_hash (block_hash_of x.block) (block_hash_of y.block)) [
          | inl same ↦ subst (IsReached root live new) (apart x y here member (sym same)) (grows x is)
          | inr other ↦ grows y (was.sound y member (sym (t.others (block_hash_of y.block) other) ∙ noted))
        ];
        left = λ y member noted. elim (is_hash (block_hash_of x.block) (block_hash_of y.block)) [
          | inl same ↦ absurd (let e : true ≡ false = sym t.after ∙ (ap (is_noted new) (sym same) ∙ noted) in cc)
          | inr other ↦ elim (was.left y member (sym (t.others (block_hash_of y.block) other) ∙ noted)) [
            | inr waits ↦ inr (inl waits)
            | inl none ↦ elim (follows_or_not (tip_at x.block) y.block) [
              | inl follows ↦ inr (inr follows)
              | inr aside ↦ inl (λ reached. none (reached_with root live new old y
                  (λ p there now follows. sym (t.others (block_hash_of p.block) (others_follow y aside p there follows)) ∙ now) reached))
            ]
          ]
        ];
      }

  module _ (t : IsTurned (block_hash_of x.block) false old new) where
    fewer : (p : Stored) → is_noted new (block_hash_of p.block) ≡ true → is_noted old (block_hash_of p.block) ≡ true
    fewer p noted = elim (is_hash (block_hash_of x.block) (block_hash_of p.block)) [
      | inl same ↦ absurd (let e : false ≡ true = sym t.after ∙ (ap (is_noted new) (sym same) ∙ noted) in cc)
      | inr other ↦ sym (t.others (block_hash_of p.block) other) ∙ noted
    ]

    -- what has a parent had it
    parent_was : (b : Block) → HasParent live new b → HasParent live old b
    parent_was b after = parent_with live live new old b (λ p member noted follows. (p, member, refl, fewer p noted)) after

    shrinks : (y : Stored) → IsReached root live new y → IsReached root live old y
    shrinks y reached = reached_with root live new old y (λ p member noted follows. fewer p noted) reached

    -- what follows it has no step by a live block
    stands_false : Stands root live false new (tip_at x.block)
    stands_false b follows after =
        let same : block_hash_of after.parent.block ≡ block_hash_of x.block = same_hash (sym after.follows.previous ∙ follows.previous) in
        let e : false ≡ true = sym t.after ∙ (ap (is_noted new) (sym same) ∙ after.noted) in cc
      where
        same_hash : {h q : List ℕ} → Some h ≡ Some q → h ≡ q
        same_hash is = cc

    module _ (isnt : IsReached root live old x → ⊥) (was : AreTurning root live false Waits old) where
      turned_false : AreTurning root live false (WaitsToo Waits x) new
      turned_false = record {
        named = λ hash noted. elim (is_hash (block_hash_of x.block) hash) [
          | inl same ↦ (x, here, sym same)
          | inr other ↦ was.named hash (sym (t.others hash other) ∙ noted)
        ];
        sound = λ y member noted reached. elim (is_hash (block_hash_of x.block) (block_hash_of y.block)) [
          | inl same ↦ isnt (subst (IsReached root live old) (sym (apart x y here member (sym same))) (shrinks y reached))
          | inr other ↦ was.sound y member (sym (t.others (block_hash_of y.block) other) ∙ noted) (shrinks y reached)
        ];
        left = λ y member noted. elim (is_hash (block_hash_of x.block) (block_hash_of y.block)) [
          | inl same ↦ absurd (let e : false ≡ true = sym t.after ∙ (ap (is_noted new) (sym same) ∙ noted) in cc)
          | inr other ↦ elim (was.left y member (sym (t.others (block_hash_of y.block) other) ∙ noted)) [
            | inr waits ↦ inr (inl waits)
            | inl reached ↦ elim (follows_or_not (tip_at x.block) y.block) [
              | inl follows ↦ inr (inr follows)
              | inr aside ↦ inl (reached_with root live old new y
                  (λ p there had follows. t.others (block_hash_of p.block) (others_follow y aside p there follows) ∙ had) reached)
            ]
          ]
        ];
      }

-- notes that say the same
agrees_same : (root : Option Tip) (live : List Stored) (old new : Notes) → AreSameNotes old new → (t : Bool) (y : Stored) → Agrees t (IsReached root live old y) → Agrees t (IsReached root live new y)
agrees_same root live old new same true y reached = reached_with root live old new y (λ p member noted follows. same (block_hash_of p.block) ∙ noted) reached
agrees_same root live old new same false y none = λ reached. none (reached_with root live new old y (λ p member noted follows. sym (same (block_hash_of p.block)) ∙ noted) reached)

pub same_turning : (root : Option Tip) (live : List Stored) (turns : Bool) (Waits : Stored → Type 0) (old new : Notes) → AreSameNotes old new → AreTurning root live turns Waits old → AreTurning root live turns Waits new
same_turning root live turns Waits old new same was = record {
  named = λ hash noted. was.named hash (sym (same hash) ∙ noted);
  sound = λ y member noted. agrees_same root live old new same turns y (was.sound y member (sym (same (block_hash_of y.block)) ∙ noted));
  left = λ y member noted. elim (was.left y member (sym (same (block_hash_of y.block)) ∙ noted)) [
    | inl is ↦ inl (agrees_same root live old new same (not turns) y is)
    | inr waits ↦ inr waits
  ];
}

-- fewer wait, or others
pub others_wait : (root : Option Tip) (live : List Stored) (turns : Bool) (Waits Next : Stored → Type 0) (notes : Notes)
    → ((y : Stored) → Contains live y → is_noted notes (block_hash_of y.block) ≡ not turns → Waits y → Agrees (not turns) (IsReached root live notes y) ⊎ Next y)
    → AreTurning root live turns Waits notes → AreTurning root live turns Next notes
others_wait root live turns Waits Next notes moves was = record {
  named = was.named;
  sound = was.sound;
  left = λ y member noted. elim (was.left y member noted) [
    | inl is ↦ inl is
    | inr waits ↦ moves y member noted waits
  ];
}

pub turned : (root : Option Tip) (live : List Stored) (turns : Bool) (Waits : Stored → Type 0) (x : Stored) (old new : Notes) → AreApart live → Contains live x → IsTurned (block_hash_of x.block) turns old new
    → Agrees turns (IsReached root live old x) → AreTurning root live turns Waits old → AreTurning root live turns (WaitsToo Waits x) new
turned root live true Waits x old new apart here t is was = turned_true root live Waits x old new apart here t is was
turned root live false Waits x old new apart here t isnt was = turned_false root live Waits x old new apart here t isnt was

-- ---- places stand on

stands_turned : (root : Option Tip) (live : List Stored) (turns : Bool) (x : Stored) (old new : Notes) (place : Tip) → AreApart live → Contains live x → IsTurned (block_hash_of x.block) turns old new → Stands root live turns old place → Stands root live turns new place
stands_turned root live true x old new place apart here t stands = λ b follows. step_stays root live (λ y. ⊥) x old new apart here t b (stands b follows)
stands_turned root live false x old new place apart here t stands = λ b follows after. stands b follows (parent_was root live (λ y. ⊥) x old new apart here t b after)

pub stands_here : (root : Option Tip) (live : List Stored) (turns : Bool) (x : Stored) (old new : Notes) → AreApart live → Contains live x → IsTurned (block_hash_of x.block) turns old new → Stands root live turns new (tip_at x.block)
stands_here root live true x old new apart here t = stands_true root live (λ y. ⊥) x old new apart here t
stands_here root live false x old new apart here t = stands_false root live (λ y. ⊥) x old new apart here t

pub stands_same : (root : Option Tip) (live : List Stored) (turns : Bool) (old new : Notes) (place : Tip) → AreSameNotes old new → Stands root live turns old place → Stands root live turns new place
stands_same root live true old new place same stands = λ b follows. step_with root live live old new b (λ p member noted after. (p, member, refl, same (block_hash_of p.block) ∙ noted)) (stands b follows)
stands_same root live false old new place same stands = λ b follows after. stands b follows (parent_with live live new old b (λ p member noted next. (p, member, refl, sym (same (block_hash_of p.block)) ∙ noted)) after)

-- ---- a block is looked at

module _ (root : Option Tip) (live : List Stored) (turns : Bool) (before : Tip) (x : Stored) (old new : Notes) (waiting more : List Place) (apart : AreApart live) (here : Contains live x) where
  pub place_stands : (place : Tip) → IsLookedAt before root turns x old new waiting more → Stands root live turns old place → Stands root live turns new place
  place_stands place (inl t) stands = stands_turned root live turns x old new place apart here t.0 stands
  place_stands place (inr t) stands = stands_same root live turns old new place t.0 stands

  pub all_stand_on : IsLookedAt before root turns x old new waiting more → AllStand root live turns old waiting → AllStand root live turns new more
  all_stand_on (inl t) stand p member =
      let q : Place = t.3.0 in
      elim (Contains-push_cases waiting q p (subst (λ (ws : List Place). Contains ws p) t.3.2 member)) [
        | inl was ↦ stands_turned root live turns x old new (tip_of p) apart here t.0 (stand p was)
        | inr is ↦ subst (Stands root live turns new) (sym t.3.1 ∙ ap tip_of is) (stands_here root live turns x old new apart here t.0)
      ]
  all_stand_on (inr t) stand p member = stands_same root live turns old new (tip_of p) t.0 (stand p (subst (λ (ws : List Place). Contains ws p) t.1 member))

  module _ (Waits Next : Stored → Type 0) (stands : Stands root live turns old before)
      (settles : (y : Stored) → Contains live y → Waits y → ((block_hash_of y.block ≡ block_hash_of x.block) × Follows before y.block) ⊎ Next y)
      (behind : (p : Place) (y : Stored) → Contains more p → Follows (tip_of p) y.block → Next y) where
    looked : IsLookedAt before root turns x old new waiting more → AreTurning root live turns Waits old → AreTurning root live turns Next new
    looked (inl t) was =
        others_wait root live turns (WaitsToo Waits x) Next new moves
        (turned root live turns Waits x old new apart here t.0 (led_agrees root live turns old before x stands t.1 turns t.2) was)
      where
        last : Contains more t.3.0
        last = subst (λ (ws : List Place). Contains ws t.3.0) (sym t.3.2) (Contains-push waiting t.3.0)

        moves : (y : Stored) → Contains live y → is_noted new (block_hash_of y.block) ≡ not turns → WaitsToo Waits x y → Agrees (not turns) (IsReached root live new y) ⊎ Next y
        moves y member noted (inl waits) = elim (settles y member waits) [
          | inl same ↦ absurd (opposite turns (is_noted new (block_hash_of x.block)) t.0.after (ap (is_noted new) (sym same.0) ∙ noted))
          | inr next ↦ inr next
        ]
        moves y member noted (inr follows) = inr (behind t.3.0 y last (subst (λ (p : Tip). Follows p y.block) (sym t.3.1) follows))
    looked (inr t) was = others_wait root live turns Waits Next new moves (same_turning root live turns Waits old new t.0 was)
      where
        settled : (y : Stored) → x ≡ y → Follows before y.block → is_noted new (block_hash_of y.block) ≡ not turns
            → (Follows before x.block → ⊥) ⊎ ((is_noted old (block_hash_of x.block) ≡ turns) ⊎ Agrees (not turns) (IsLed root turns x))
            → Agrees (not turns) (IsReached root live new y)
        settled y is follows noted (inl aside) = absurd (aside (subst (λ (z : Stored). Follows before z.block) (sym is) follows))
        settled y is follows noted (inr (inl said)) =
            absurd (opposite turns (is_noted old (block_hash_of x.block)) said (sym (t.0 (block_hash_of x.block)) ∙ (ap (λ (z : Stored). is_noted new (block_hash_of z.block)) is ∙ noted)))
        settled y is follows noted (inr (inr led)) =
            subst (λ (z : Stored). Agrees (not turns) (IsReached root live new z)) is
            (agrees_same root live old new t.0 (not turns) x (led_agrees root live turns old before x stands (subst (λ (z : Stored). Follows before z.block) (sym is) follows) (not turns) led))

        moves : (y : Stored) → Contains live y → is_noted new (block_hash_of y.block) ≡ not turns → Waits y → Agrees (not turns) (IsReached root live new y) ⊎ Next y
        moves y member noted waits = elim (settles y member waits) [
          | inl same ↦ inl (settled y (apart x y here member (sym same.0)) same.1 noted t.2)
          | inr next ↦ inr next
        ]

-- ---- behind a place

-- the block is named by one of the links that are left
abbrev pub IsLinked : List Link → Stored → Type 0
IsLinked links y = (l : Link) × Contains links l × IsLinkOf y.block l

-- it follows one that waits, or this place, and is named by a link that is left
abbrev pub WaitsBehind : Tip → List Place → List Link → Stored → Type 0
WaitsBehind before waiting links y = FollowsOne waiting y ⊎ (Follows before y.block × IsLinked links y)

-- what waits is looked behind
pub behind_begins : (root : Option Tip) (live : List Stored) (turns : Bool) (notes : Notes) (before : Place) (waiting : List Place) (links : List Link) → AreLinksAfter live (tip_of before).hash links
    → AreTurning root live turns (FollowsOne (before ∷ waiting)) notes → AreTurning root live turns (WaitsBehind (tip_of before) waiting links) notes
behind_begins root live turns notes before waiting links are was =
    others_wait root live turns (FollowsOne (before ∷ waiting)) (WaitsBehind (tip_of before) waiting links) notes
    (λ y member noted one. elim (contains_cases before waiting one.0 one.1) [
      | inl is ↦
          let follows = subst (λ (p : Place). Follows (tip_of p) y.block) (sym is) one.2 in
          inr (inr (follows, are.kept y member follows.previous))
      | inr later ↦ inr (inl (one.0, later, one.2))
    ])
    was

-- no link is left
pub behind_ends : (root : Option Tip) (live : List Stored) (turns : Bool) (notes : Notes) (before : Tip) (waiting : List Place) → AreTurning root live turns (WaitsBehind before waiting []) notes → AreTurning root live turns (FollowsOne waiting) notes
behind_ends root live turns notes before waiting was =
    others_wait root live turns (WaitsBehind before waiting []) (FollowsOne waiting) notes
    (λ y member noted waits. elim waits [
      | inl one ↦ inr one
      | inr linked ↦ absurd (nothing_contained linked.1.0 linked.1.1)
    ])
    was

wider : (before : Tip) (root : Option Tip) (turns : Bool) (x : Stored) (old new : Notes) (waiting more : List Place) → IsLookedAt before root turns x old new waiting more → (p : Place) → Contains waiting p → Contains more p
wider before root turns x old new waiting more (inl t) p member = subst (λ (ws : List Place). Contains ws p) (sym t.3.2) (Contains-append_left waiting (t.3.0 ∷ []) p member)
wider before root turns x old new waiting more (inr t) p member = subst (λ (ws : List Place). Contains ws p) (sym t.1) member

-- one link more
pub behind_goes_on : (root : Option Tip) (live : List Stored) (turns : Bool) (before : Tip) (x : Stored) (old new : Notes) (waiting more : List Place) (k : Link) (links : List Link) → AreApart live → Contains live x
    → block_hash_of x.block ≡ k.hash → Stands root live turns old before → IsLookedAt before root turns x old new waiting more → AreTurning root live turns (WaitsBehind before waiting (k ∷ links)) old → AreTurning root live turns (WaitsBehind before more links) new
behind_goes_on root live turns before x old new waiting more k links apart here at stands is was =
    looked root live turns before x old new waiting more apart here (WaitsBehind before waiting (k ∷ links)) (WaitsBehind before more links) stands settles
    (λ p y member follows. inl (p, member, follows)) is was
  where
    settles : (y : Stored) → Contains live y → WaitsBehind before waiting (k ∷ links) y → ((block_hash_of y.block ≡ block_hash_of x.block) × Follows before y.block) ⊎ WaitsBehind before more links y
    settles y member (inl one) = inr (inl (one.0, wider before root turns x old new waiting more is one.0 one.1, one.2))
    settles y member (inr linked) = elim (contains_cases k links linked.1.0 linked.1.1) [
      | inl same ↦ inl (sym linked.1.2.1 ∙ (ap (λ (l : Link). l.hash) (sym same) ∙ sym at), linked.0)
      | inr later ↦ inr (inr (linked.0, (linked.1.0, later, linked.1.2)))
    ]

-- a link that names none
pub behind_none : (root : Option Tip) (live : List Stored) (turns : Bool) (notes : Notes) (before : Tip) (waiting : List Place) (k : Link) (links : List Link) → ((y : Stored) → Contains live y → block_hash_of y.block ≢ k.hash)
    → AreTurning root live turns (WaitsBehind before waiting (k ∷ links)) notes → AreTurning root live turns (WaitsBehind before waiting links) notes
behind_none root live turns notes before waiting k links none was =
    others_wait root live turns (WaitsBehind before waiting (k ∷ links)) (WaitsBehind before waiting links) notes
    (λ y member noted waits. elim waits [
      | inl one ↦ inr (inl one)
      | inr linked ↦ elim (contains_cases k links linked.1.0 linked.1.1) [
        | inl same ↦ absurd (none y member (sym linked.1.2.1 ∙ ap (λ (l : Link). l.hash) (sym same)))
        | inr later ↦ inr (inr (linked.0, (linked.1.0, later, linked.1.2)))
      ]
    ])
    was

-- one link more, whatever stands at its hash
module _ (root : Option Tip) (live : List Stored) (turns : Bool) (before : Tip) (old new : Notes) (waiting more : List Place) (k : Link) (links : List Link) where
  pub record GoesOn : Type 0 where
    pub stands : Stands root live turns new before
    pub all_stand : AllStand root live turns new more
    pub turning : AreTurning root live turns (WaitsBehind before more links) new

  pub goes_on : (o : Option Stored) → AreApart live → (o ≡ None → HasNone live k.hash) → ((x : Stored) → o ≡ Some x → Contains live x × (block_hash_of x.block ≡ k.hash))
      → MatchOption o (AreSameNotes old new × (more ≡ waiting)) (λ x. IsLookedAt before root turns x old new waiting more)
      → Stands root live turns old before → AllStand root live turns old waiting → AreTurning root live turns (WaitsBehind before waiting (k ∷ links)) old → GoesOn
  goes_on None apart none found same stands all was = record {
    stands = stands_same root live turns old new before same.0 stands;
    all_stand = λ p member. stands_same root live turns old new (tip_of p) same.0 (all p (subst (λ (ws : List Place). Contains ws p) same.1 member));
    turning = subst (λ (ws : List Place). AreTurning root live turns (WaitsBehind before ws links) new) (sym same.1)
        (same_turning root live turns (WaitsBehind before waiting links) old new same.0 (behind_none root live turns old before waiting k links (none refl) was));
  }
  goes_on (Some x) apart none found looked stands all was =
      let here = found x refl in
      record {
        stands = place_stands root live turns before x old new waiting more apart here.0 before looked stands;
        all_stand = all_stand_on root live turns before x old new waiting more apart here.0 looked all;
        turning = behind_goes_on root live turns before x old new waiting more k links apart here.0 here.1 stands looked was;
      }

-- ---- all of it

-- the last that waits is taken
pub next_waiting : (root : Option Tip) (live : List Stored) (turns : Bool) (notes : Notes) (waiting rest : List Place) (place : Place) → waiting ≡ rest ++ place ∷ []
    → AreTurning root live turns (FollowsOne waiting) notes → AreTurning root live turns (FollowsOne (place ∷ rest)) notes
next_waiting root live turns notes waiting rest place is was =
    others_wait root live turns (FollowsOne waiting) (FollowsOne (place ∷ rest)) notes
    (λ y member noted one. elim (Contains-push_cases rest place one.0 (subst (λ (ws : List Place). Contains ws one.0) is one.1)) [
      | inl before ↦ inr (one.0, contains_later place rest one.0 before, one.2)
      | inr last ↦ inr (place, contains_first place rest, subst (λ (p : Place). Follows (tip_of p) y.block) (sym last) one.2)
    ])
    was

pub rest_stand : (root : Option Tip) (live : List Stored) (turns : Bool) (notes : Notes) (waiting rest : List Place) (place : Place) → waiting ≡ rest ++ place ∷ [] → AllStand root live turns notes waiting → AllStand root live turns notes rest
rest_stand root live turns notes waiting rest place is stand p member = stand p (subst (λ (ws : List Place). Contains ws p) (sym is) (Contains-append_left rest (place ∷ []) p member))

pub last_stands : (root : Option Tip) (live : List Stored) (turns : Bool) (notes : Notes) (waiting rest : List Place) (place : Place) → waiting ≡ rest ++ place ∷ [] → AllStand root live turns notes waiting → Stands root live turns notes (tip_of place)
last_stands root live turns notes waiting rest place is stand = stand place (subst (λ (ws : List Place). Contains ws place) (sym is) (Contains-push rest place))

-- none waits
pub settled : (root : Option Tip) (live : List Stored) (turns : Bool) (Waits : Stored → Type 0) (notes : Notes) → ((y : Stored) → Contains live y → Waits y → ⊥) → AreTurning root live turns Waits notes → AreNotes root live notes
settled root live turns Waits notes none was = record { named = was.named; right = right turns was.sound (λ y member noted. no_wait y member (was.left y member noted)) }
  where
    no_wait : {P : Type 0} (y : Stored) → Contains live y → P ⊎ Waits y → P
    no_wait y member (inl is) = is
    no_wait y member (inr waits) = absurd (none y member waits)

    right : (t : Bool) → ((y : Stored) → Contains live y → is_noted notes (block_hash_of y.block) ≡ t → Agrees t (IsReached root live notes y))
        → ((y : Stored) → Contains live y → is_noted notes (block_hash_of y.block) ≡ not t → Agrees (not t) (IsReached root live notes y))
        → (b : Bool) (y : Stored) → Contains live y → is_noted notes (block_hash_of y.block) ≡ b → Agrees b (IsReached root live notes y)
    right true these those true = these
    right true these those false = those
    right false these those true = those
    right false these those false = these

-- ---- how many may turn

differs_not : (t b : Bool) → b ≡ not t → differs t b ≡ true
differs_not true b is = ap not is
differs_not false b is = is

differs_same : (t b : Bool) → b ≡ t → differs t b ≡ false
differs_same true b is = ap not is
differs_same false b is = is

module _ {X : Type 0} (p q : X → Bool) where
  no_more : (xs : List X) → ((y : X) → Contains xs y → q y ≡ true → p y ≡ true) → length (filter q xs) ≤ length (filter p xs)
  no_more [] each = omega arith
  no_more (y ∷ ys) each = one (q y) (p y) (each y (contains_first y ys)) (no_more ys (λ z member. each z (contains_later y ys z member)))
    where
      one : (t s : Bool) → (t ≡ true → s ≡ true) → length (filter q ys) ≤ length (filter p ys) → length (cond t (y ∷ filter q ys) (filter q ys)) ≤ length (cond s (y ∷ filter p ys) (filter p ys))
      one true true is rest = omega (arith, rest)
      one true false is rest = absurd (let e : false ≡ true = is refl in cc)
      one false true is rest = omega (arith, rest)
      one false false is rest = rest

  -- one of them is left out
  one_less : (xs : List X) (x : X) → ((y : X) → Contains xs y → q y ≡ true → p y ≡ true) → Contains xs x → p x ≡ true → q x ≡ false → length (filter q xs) + 1 ≤ length (filter p xs)
  one_less [] x each member has hasnt = absurd (nothing_contained x member)
  one_less (y ∷ ys) x each member has hasnt = elim (contains_cases y ys x member) [
    | inl is ↦ this (q y) (p y) (ap q is ∙ hasnt) (ap p is ∙ has) (no_more ys (λ z later. each z (contains_later y ys z later)))
    | inr later ↦ other (q y) (p y) (each y (contains_first y ys)) (one_less ys x (λ z there. each z (contains_later y ys z there)) later has hasnt)
  ]
    where
      this : (t s : Bool) → t ≡ false → s ≡ true → length (filter q ys) ≤ length (filter p ys) → length (cond t (y ∷ filter q ys) (filter q ys)) + 1 ≤ length (cond s (y ∷ filter p ys) (filter p ys))
      this true s isnt is rest = absurd (let e : true ≡ false = isnt in cc)
      this false true isnt is rest = omega (arith, rest)
      this false false isnt is rest = absurd (let e : false ≡ true = is in cc)

      other : (t s : Bool) → (t ≡ true → s ≡ true) → length (filter q ys) + 1 ≤ length (filter p ys) → length (cond t (y ∷ filter q ys) (filter q ys)) + 1 ≤ length (cond s (y ∷ filter p ys) (filter p ys))
      other true true is rest = omega (arith, rest)
      other true false is rest = absurd (let e : false ≡ true = is refl in cc)
      other false true is rest = omega (arith, rest)
      other false false is rest = rest

-- one that turns may turn no more
pub one_fewer : (live : List Stored) (turns : Bool) (x : Stored) (old new : Notes) → Contains live x → IsTurned (block_hash_of x.block) turns old new → may_turn live turns new + 1 ≤ may_turn live turns old
one_fewer live turns x old new here t =
    one_less (λ y. differs turns (is_noted old (block_hash_of y.block))) (λ y. differs turns (is_noted new (block_hash_of y.block))) live x
    (λ y member still. elim (is_hash (block_hash_of x.block) (block_hash_of y.block)) [
      | inl same ↦ absurd (let e : false ≡ true = sym (differs_same turns (is_noted new (block_hash_of y.block)) (ap (is_noted new) same ∙ t.after)) ∙ still in cc)
      | inr other ↦ ap (differs turns) (sym (t.others (block_hash_of y.block) other)) ∙ still
    ])
    here (differs_not turns (is_noted old (block_hash_of x.block)) t.before) (differs_same turns (is_noted new (block_hash_of x.block)) t.after)

pub same_left : (live : List Stored) (turns : Bool) (old new : Notes) → AreSameNotes old new → may_turn live turns new ≤ may_turn live turns old
same_left live turns old new same =
    no_more (λ y. differs turns (is_noted old (block_hash_of y.block))) (λ y. differs turns (is_noted new (block_hash_of y.block))) live
    (λ y member still. ap (differs turns) (sym (same (block_hash_of y.block))) ∙ still)
