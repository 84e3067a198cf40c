-- What each step keeps of followers, and that it leaves nothing open.
use Rattle.std.proofs.Common.{◌≡◌, ◌≢◌, ℕ, zero, suc, ◌+◌, ◌-◌, ◌<◌, ◌≤◌, List, [], ◌∷◌, ◌++◌, length, take, drop, min, Option, Some, None, refl, sym, ap, subst, ◌∙◌, inl, inr, ◌⊎◌, arith, le_antisymm}
use Rattle.std.specs.Prelude.{slice_get, slice_set, ◌↔◌}
use Rattle.std.proofs.lemmas.List.{length-append, length-take, take-take, take_min, take-append-drop}
use Rattle.std.proofs.lemmas.Option.{slice_get_within, same_Some}
use Rattle.model.specs.Block.{Block, SpellsBlock, block_text}
use Rattle.model.specs.Chain.{Point, genesis_tip, tip_point, IsLinked, BeginsWith}
use Rattle.model.specs.Follower.{Follower, Followers, standing_at, follower_of, free_id, with_opened, IsCommonBeginning, IsMoved, AreMoved, Instruction, Stay, AddBlock, RollBack, IsNext, IsReplayed, left_to_tell}
use Rattle.model.specs.History.{IsCommonLength}
use Rattle.model.proofs.Chains.{linked_front, tip_number, begins_with_whole}
use Rattle.model.proofs.Changes.{taken_with}

-- ---- beginnings of chains

pub begins_not_longer : (c a : List Block) → BeginsWith c a → length a ≤ length c
begins_not_longer c a begins = let cut = length-take (length a) c in let same : length (take (length a) c) ≡ length a = ap length begins in omega (arith, cut, same)

pub begins_take : (n : ℕ) (c : List Block) → BeginsWith c (take n c)
begins_take n c = ap (λ m. take m c) (length-take n c) ∙ take_min n c

pub begins_through : (c b a : List Block) → BeginsWith c b → BeginsWith b a → BeginsWith c a
begins_through c b a first second =
    sym (take-take (length a) (length b) c (begins_not_longer b a second)) ∙ (ap (take (length a)) first ∙ second)

pub begins_less : (c a b : List Block) → BeginsWith c a → BeginsWith c b → length a ≤ length b → BeginsWith b a
begins_less c a b first second less = ap (take (length a)) (sym second) ∙ (take-take (length a) (length b) c less ∙ first)

-- a chain that begins with some blocks of another begins with fewer of them
pub begins_fewer : (old new : List Block) (n m : ℕ) → n ≤ m → BeginsWith new (take m old) → BeginsWith new (take n old)
begins_fewer old new n m le begins =
    begins_through new (take m old) (take n old) begins (begins_less old (take n old) (take m old) (begins_take n old) (begins_take m old) (omega (arith, le, length-take n old, length-take m old)))

pub begins_same : (c a b : List Block) → BeginsWith c a → BeginsWith c b → length a ≡ length b → a ≡ b
begins_same c a b first second same = sym first ∙ (ap (λ n. take n c) same ∙ second)

-- a beginning with the block that comes next
pub begins_next : (c a : List Block) (b : Block) → BeginsWith c a → slice_get c (length a) ≡ Some b → BeginsWith c (a ++ b ∷ [])
begins_next c a b begins is =
    let more = taken_with c (length a) b is in
    let size : length (a ++ b ∷ []) ≡ suc (length a) = length-append a (b ∷ []) ∙ (let e : length a + 1 ≡ suc (length a) = omega arith in e) in
    ap (λ n. take n c) size ∙ (more.1 ∙ ap (λ xs. xs ++ b ∷ []) begins)

-- a beginning that is as long as the whole is the whole
pub begins_all : (c a : List Block) → BeginsWith c a → length a ≡ length c → a ≡ c
begins_all c a begins same = begins_same c a c begins (begins_with_whole c) same

-- ---- the selected chain changes

pub common_one : (x y c d : List Block) → IsCommonBeginning x y c → IsCommonBeginning x y d → c ≡ d
common_one x y c d first second =
    begins_same x c d first.of_one second.of_one (le_antisymm (second.longest c first.of_one first.of_other) (first.longest d second.of_one second.of_other))

is_moved_one : (selected : List Block) (f g h : Follower) → IsMoved selected f g → IsMoved selected f h → g ≡ h
is_moved_one selected f g h first second =
    let told : g.told ≡ h.told = first.told ∙ sym second.told in
    let agreed : g.agreed ≡ h.agreed = common_one f.agreed selected g.agreed h.agreed first.agreed second.agreed in
    λ i. record { told = told i; agreed = agreed i }

pub moved_one : (selected : List Block) (fs gs hs : Followers) → AreMoved selected fs gs → AreMoved selected fs hs → gs ≡ hs
moved_one selected [] [] [] first second = refl
moved_one selected [] [] (h ∷ hs) first second = absurd second
moved_one selected [] (g ∷ gs) hs first second = absurd first
moved_one selected (None ∷ fs) [] hs first second = absurd first
moved_one selected (None ∷ fs) (Some g ∷ gs) hs first second = absurd first
moved_one selected (None ∷ fs) (None ∷ gs) [] first second = absurd second
moved_one selected (None ∷ fs) (None ∷ gs) (Some h ∷ hs) first second = absurd second
moved_one selected (None ∷ fs) (None ∷ gs) (None ∷ hs) first second = ap (λ (rest : Followers). None ∷ rest) (moved_one selected fs gs hs first second)
moved_one selected (Some f ∷ fs) [] hs first second = absurd first
moved_one selected (Some f ∷ fs) (None ∷ gs) hs first second = absurd first
moved_one selected (Some f ∷ fs) (Some g ∷ gs) [] first second = absurd second
moved_one selected (Some f ∷ fs) (Some g ∷ gs) (None ∷ hs) first second = absurd second
moved_one selected (Some f ∷ fs) (Some g ∷ gs) (Some h ∷ hs) first second =
    let one = is_moved_one selected f g h first.0 second.0 in
    let rest = moved_one selected fs gs hs first.1 second.1 in
    λ i. Some (one i) ∷ rest i

-- a follower of now was one before, and was moved
pub moved_at : (selected : List Block) (fs gs : Followers) (id : ℕ) (g : Follower) → AreMoved selected fs gs → follower_of gs id ≡ Some g → (f : Follower) × (follower_of fs id ≡ Some f) × IsMoved selected f g
moved_at selected [] [] zero g moved is = absurd (let e : None ≡ Some g = is in cc)
moved_at selected [] [] (suc id) g moved is = absurd (let e : None ≡ Some g = is in cc)
moved_at selected [] (h ∷ gs) id g moved is = absurd moved
moved_at selected (None ∷ fs) [] id g moved is = absurd moved
moved_at selected (None ∷ fs) (Some h ∷ gs) id g moved is = absurd moved
moved_at selected (None ∷ fs) (None ∷ gs) zero g moved is = absurd (let e : None ≡ Some g = is in cc)
moved_at selected (None ∷ fs) (None ∷ gs) (suc id) g moved is = moved_at selected fs gs id g moved is
moved_at selected (Some f ∷ fs) [] id g moved is = absurd moved
moved_at selected (Some f ∷ fs) (None ∷ gs) id g moved is = absurd moved
moved_at selected (Some f ∷ fs) (Some h ∷ gs) zero g moved is = (f, refl, let same : h ≡ g = (let e : Some h ≡ Some g = is in cc) in subst (IsMoved selected f) same moved.0)
moved_at selected (Some f ∷ fs) (Some h ∷ gs) (suc id) g moved is = moved_at selected fs gs id g moved.1 is

-- what is common to two chains up to here is common to a beginning of the one
pub common_of_length : (old new agreed : List Block) (n : ℕ) → IsCommonLength old new n → BeginsWith old agreed → IsCommonBeginning agreed new (take n agreed)
common_of_length old new agreed n common begins = record {
  of_one = begins_take n agreed;
  of_other =
      let m = min n (length agreed) in
      let cut : take n agreed ≡ take m old =
      ap (take n) (sym begins) ∙ (sym (take_min n (take (length agreed) old)) ∙ (ap (λ j. take (min n j) (take (length agreed) old)) (length-take (length agreed) old ∙ (let le = begins_not_longer old agreed begins in omega arith))
      ∙ take-take m (length agreed) old (omega arith))) in
      let shared : take m old ≡ take m new = sym (take-take m n old (omega arith)) ∙ (ap (take m) common.common ∙ take-take m n new (omega arith)) in
      subst (BeginsWith new) (sym (cut ∙ shared)) (begins_take m new);
  longest = λ part of_one of_other.
      let of_old : BeginsWith old part = begins_through old agreed part begins of_one in
      let le : length part ≤ n = common.longest (length part) (begins_not_longer old part of_old) (begins_not_longer new part of_other) (of_old ∙ sym of_other) in
      let within = begins_not_longer agreed part of_one in
      let cut = length-take n agreed in
      omega (arith, le, within, cut);
}

-- ---- followers of a legal history

-- What was agreed is a beginning of the selected chain and of what was told; no more than k blocks are to be rolled back;
-- what was told is no longer than the selected chain, and shorter where a rollback is due.
pub record IsSoundFollower (k : ℕ) (chain : List Block) (f : Follower) : Type 0 where
  pub selected : BeginsWith chain f.agreed
  pub begins : BeginsWith f.told f.agreed
  pub bounded : length f.told ≤ length f.agreed + k
  pub not_longer : length f.told ≤ length chain
  pub due : length f.agreed < length f.told → length f.told < length chain

pub standing_sound : (k : ℕ) (chain part : List Block) → BeginsWith chain part → IsSoundFollower k chain (standing_at part)
standing_sound k chain part begins = record {
  selected = begins;
  begins = begins_with_whole part;
  bounded = omega arith;
  not_longer = begins_not_longer chain part begins;
  due = λ less. absurd (omega arith);
}

-- the chain stays, or becomes a longer one that shares all but the last k blocks
pub moved_sound : (k : ℕ) (old new : List Block) (f g : Follower) → (new ≡ old) ⊎ (length old < length new) → BeginsWith new (take (length old - k) old) → IsSoundFollower k old f → IsMoved new f g → IsSoundFollower k new g
moved_sound k old new f g (inl stays) begins sound moved =
    let told = ap length moved.told in
    let same : length new ≡ length old = ap length stays in
    let enough : length f.agreed ≤ length g.agreed = moved.agreed.longest f.agreed (begins_with_whole f.agreed) (subst (λ (c : List Block). BeginsWith c f.agreed) (sym stays) sound.selected) in
    let bounded = sound.bounded in let not_longer = sound.not_longer in
    record {
      selected = moved.agreed.of_other;
      begins = subst (λ (c : List Block). BeginsWith c g.agreed) (sym moved.told) (begins_through f.told f.agreed g.agreed sound.begins moved.agreed.of_one);
      bounded = omega arith;
      not_longer = omega arith;
      due = λ less. let more = sound.due (omega arith) in omega arith;
    }
moved_sound k old new f g (inr longer) begins sound moved =
    let told = ap length moved.told in
    let n = min (length f.agreed) (length old - k) in
    let part = take n old in
    let size : length part ≡ n = length-take n old ∙ omega arith in
    let of_agreed : BeginsWith f.agreed part = begins_less old part f.agreed (begins_take n old) sound.selected (omega (arith, size)) in
    let cut : part ≡ take n (take (length old - k) old) = sym (take-take n (length old - k) old (omega arith)) in
    let of_new : BeginsWith new part = begins_through new (take (length old - k) old) part begins (subst (BeginsWith (take (length old - k) old)) (sym cut) (begins_take n (take (length old - k) old))) in
    let enough : n ≤ length g.agreed = subst (λ m. m ≤ length g.agreed) size (moved.agreed.longest part of_agreed of_new) in
    let bounded = sound.bounded in let not_longer = sound.not_longer in
    record {
      selected = moved.agreed.of_other;
      begins = subst (λ (c : List Block). BeginsWith c g.agreed) (sym moved.told) (begins_through f.told f.agreed g.agreed sound.begins moved.agreed.of_one);
      bounded = omega arith;
      not_longer = omega arith;
      due = λ less. omega arith;
    }

-- where no rollback is due the two chains are one
pub told_is_agreed : (f : Follower) → BeginsWith f.told f.agreed → length f.told ≤ length f.agreed → f.agreed ≡ f.told
told_is_agreed f begins not_longer = begins_all f.told f.agreed begins (let less = begins_not_longer f.told f.agreed begins in omega arith)

pub next_sound : (k : ℕ) (chain : List Block) (f : Follower) (instruction : Instruction) (g : Follower) → IsSoundFollower k chain f → IsNext chain f instruction g → IsSoundFollower k chain g
next_sound k chain f Stay g sound next = subst (IsSoundFollower k chain) (sym next.2) sound
next_sound k chain f (RollBack point) g sound next = subst (IsSoundFollower k chain) (sym next.2) (standing_sound k chain f.agreed sound.selected)
next_sound k chain f (AddBlock bytes) g sound next =
    let same : f.agreed ≡ f.told = told_is_agreed f sound.begins next.1.0 in
    let begins : BeginsWith chain (f.told ++ next.0 ∷ []) = begins_next chain f.told next.0 (subst (BeginsWith chain) same sound.selected) next.1.1 in
    let is : g ≡ standing_at (f.told ++ next.0 ∷ []) = next.3 ∙ (λ i. record { told = f.told ++ next.0 ∷ []; agreed = same i ++ next.0 ∷ [] }) in
    subst (IsSoundFollower k chain) (sym is) (standing_sound k chain (f.told ++ next.0 ∷ []) begins)

-- after an instruction what was told is a beginning of the selected chain
pub next_begins : (k : ℕ) (chain : List Block) (f : Follower) (instruction : Instruction) (g : Follower) → IsSoundFollower k chain f → IsNext chain f instruction g → BeginsWith chain g.told
next_begins k chain f Stay g sound next = subst (BeginsWith chain) (ap (λ (h : Follower). h.told) (sym next.2)) (subst (BeginsWith chain) (told_is_agreed f sound.begins next.0) sound.selected)
next_begins k chain f (RollBack point) g sound next = subst (BeginsWith chain) (ap (λ (h : Follower). h.told) (sym next.2)) sound.selected
next_begins k chain f (AddBlock bytes) g sound next =
    subst (BeginsWith chain) (ap (λ (h : Follower). h.told) (sym next.3))
    (begins_next chain f.told next.0 (subst (BeginsWith chain) (told_is_agreed f sound.begins next.1.0) sound.selected) next.1.1)

-- nothing is left exactly where the selected chain was told
pub next_at_end : (k : ℕ) (chain : List Block) (f : Follower) (instruction : Instruction) (g : Follower) → IsSoundFollower k chain f → IsNext chain f instruction g → (instruction ≡ Stay) ↔ (f.told ≡ chain)
next_at_end k chain f Stay g sound next = (λ is. next.1, λ is. refl)
next_at_end k chain f (RollBack point) g sound next = (λ is. absurd cc, λ is. absurd (let size : length f.told ≡ length chain = ap length is in let more = sound.due next.0 in omega arith))
next_at_end k chain f (AddBlock bytes) g sound next =
    (λ is. absurd cc, λ is. absurd (let size : length f.told ≡ length chain = ap length is in let within = slice_get_within chain (length f.told) next.0 next.1.1 in omega arith))

-- an instruction has one outcome
pub next_one : (chain : List Block) (f : Follower) (instruction : Instruction) (g h : Follower) → IsNext chain f instruction g → IsNext chain f instruction h → g ≡ h
next_one chain f Stay g h first second = first.2 ∙ sym second.2
next_one chain f (RollBack point) g h first second = first.2 ∙ sym second.2
next_one chain f (AddBlock bytes) g h first second =
    let blocks : first.0 ≡ second.0 = same_Some first.0 second.0 (sym first.1.1 ∙ second.1.1) in
    first.3 ∙ ((λ i. record { told = f.told ++ blocks i ∷ []; agreed = f.agreed ++ blocks i ∷ [] }) ∙ sym second.3)

-- the part of a linked chain ends in the block of its length
pub tip_of_part : (chain part : List Block) → IsLinked genesis_tip chain → BeginsWith chain part → (tip_point part).number ≡ length part
tip_of_part chain part linked begins =
    let whole : chain ≡ part ++ drop (length part) chain = sym (take-append-drop (length part) chain) ∙ ap (λ (xs : List Block). xs ++ drop (length part) chain) begins in
    tip_number genesis_tip part (linked_front genesis_tip part (drop (length part) chain) (subst (IsLinked genesis_tip) whole linked)) ∙ omega arith

-- an instruction, carried out on what was told, gives what was then told
pub next_replayed : (k : ℕ) (chain : List Block) (f : Follower) (instruction : Instruction) (g : Follower) → IsLinked genesis_tip chain → ((n : ℕ) (b : Block) → slice_get chain n ≡ Some b → SpellsBlock b (block_text b))
    → IsSoundFollower k chain f → IsNext chain f instruction g → IsReplayed f.told instruction g.told
next_replayed k chain f Stay g linked spelled sound next = ap (λ (h : Follower). h.told) next.2
next_replayed k chain f (AddBlock bytes) g linked spelled sound next =
    (next.0, subst (SpellsBlock next.0) (sym next.2) (spelled (length f.told) next.0 next.1.1), ap (λ (h : Follower). h.told) next.3)
next_replayed k chain f (RollBack point) g linked spelled sound next =
    let number : point.number ≡ length f.agreed = ap (λ (p : Point). p.number) next.1 ∙ tip_of_part chain f.agreed linked sound.selected in
    let told : g.told ≡ f.agreed = ap (λ (h : Follower). h.told) next.2 in
    (told ∙ sym (ap (λ n. take n f.told) number ∙ sound.begins), ap tip_point told ∙ sym next.1)

-- ---- how much is left to tell

-- each instruction leaves one less
pub next_leaves : (k : ℕ) (chain : List Block) (f : Follower) (instruction : Instruction) (g : Follower) → IsSoundFollower k chain f → IsNext chain f instruction g → left_to_tell chain g ≡ left_to_tell chain f - 1
next_leaves k chain f Stay g sound next =
    let size : length f.told ≡ length chain = ap length next.1 in
    let not_less = next.0 in
    let nothing : left_to_tell chain f ≡ 0 = omega arith in
    ap (left_to_tell chain) next.2 ∙ omega (arith, nothing)
next_leaves k chain f (RollBack point) g sound next =
    let less = next.0 in ap (left_to_tell chain) next.2 ∙ omega arith
next_leaves k chain f (AddBlock bytes) g sound next =
    let not_less = next.1.0 in
    let one = length-append f.told (next.0 ∷ []) in
    let two = length-append f.agreed (next.0 ∷ []) in
    let within = slice_get_within chain (length f.told) next.0 next.1.1 in
    let same : length f.agreed ≡ length f.told = ap length (told_is_agreed f sound.begins next.1.0) in
    ap (left_to_tell chain) next.3 ∙ omega arith

-- where nothing is left the follower was told the selected chain
pub nothing_left : (k : ℕ) (chain : List Block) (f : Follower) → IsSoundFollower k chain f → left_to_tell chain f ≡ 0 → f.told ≡ chain
nothing_left k chain f sound nothing =
    let none_due : length f.told ≤ length f.agreed = omega arith in
    let same : f.agreed ≡ f.told = told_is_agreed f sound.begins none_due in
    let sizes : length f.agreed ≡ length f.told = ap length same in
    let not_longer = sound.not_longer in
    begins_all chain f.told (subst (BeginsWith chain) same sound.selected) (omega arith)

-- ---- followers by number

nobody : (fs : Followers) (f : Follower) → None ≡ Some f → ⊥
nobody fs f e = cc

-- a follower once one was opened: it was there before, or has the number that was free
pub opened_at : (fs : Followers) (id : ℕ) (f : Follower) → follower_of (with_opened fs) id ≡ Some f → ((free_id fs ≢ id) × (follower_of fs id ≡ Some f)) ⊎ ((free_id fs ≡ id) × (f ≡ standing_at []))
opened_at [] zero f is = inr (refl, sym (same_Some (standing_at []) f is))
opened_at [] (suc id) f is = absurd (nobody [] f is)
opened_at (None ∷ fs) zero f is = inr (refl, sym (same_Some (standing_at []) f is))
opened_at (None ∷ fs) (suc id) f is = inl (λ e. absurd (omega arith), is)
opened_at (Some old ∷ fs) zero f is = inl (λ e. absurd (omega arith), is)
opened_at (Some old ∷ fs) (suc id) f is =
    elim (opened_at fs id f is) [
      | inl before ↦ inl (λ e. before.0 (omega (arith, e)), before.1)
      | inr opened ↦ inr (ap suc opened.0, opened.1)
    ]

-- a follower once another stands at a number, or none
pub set_at : (fs : Followers) (at id : ℕ) (now : Option Follower) (f : Follower) → follower_of (slice_set fs at now) id ≡ Some f → ((at ≢ id) × (follower_of fs id ≡ Some f)) ⊎ ((at ≡ id) × (now ≡ Some f))
set_at [] zero id now f is = absurd (nobody_at id f is)
  where
    nobody_at : (n : ℕ) (g : Follower) → follower_of [] n ≡ Some g → ⊥
    nobody_at zero g e = nobody [] g e
    nobody_at (suc n) g e = nobody [] g e
set_at [] (suc at) id now f is = absurd (nobody_at id f is)
  where
    nobody_at : (n : ℕ) (g : Follower) → follower_of [] n ≡ Some g → ⊥
    nobody_at zero g e = nobody [] g e
    nobody_at (suc n) g e = nobody [] g e
set_at (x ∷ fs) zero zero now f is = inr (refl, is)
set_at (x ∷ fs) zero (suc id) now f is = inl (λ e. absurd (omega (arith, e)), is)
set_at (x ∷ fs) (suc at) zero now f is = inl (λ e. absurd (omega (arith, e)), is)
set_at (x ∷ fs) (suc at) (suc id) now f is =
    elim (set_at fs at id now f is) [
      | inl before ↦ inl (λ e. before.0 (omega (arith, e)), before.1)
      | inr set ↦ inr (ap suc set.0, set.1)
    ]

-- each follower of the list is sound
abbrev pub AllSound : ℕ → List Block → Followers → Type 0
AllSound k chain fs = (id : ℕ) (f : Follower) → follower_of fs id ≡ Some f → IsSoundFollower k chain f

pub moved_all_sound : (k : ℕ) (old new : List Block) (fs gs : Followers) → (new ≡ old) ⊎ (length old < length new) → BeginsWith new (take (length old - k) old) → AllSound k old fs → AreMoved new fs gs → AllSound k new gs
moved_all_sound k old new fs gs longer begins sound moved id g is =
    let was = moved_at new fs gs id g moved is in
    moved_sound k old new was.0 g longer begins (sound id was.0 was.1) was.2

pub opened_all_sound : (k : ℕ) (chain : List Block) (fs : Followers) → AllSound k chain fs → AllSound k chain (with_opened fs)
opened_all_sound k chain fs sound id f is =
    elim (opened_at fs id f is) [
      | inl before ↦ sound id f before.1
      | inr opened ↦ subst (IsSoundFollower k chain) (sym opened.1) (standing_sound k chain [] refl)
    ]

pub set_all_sound : (k : ℕ) (chain : List Block) (fs : Followers) (at : ℕ) (new : Follower) → AllSound k chain fs → IsSoundFollower k chain new → AllSound k chain (slice_set fs at (Some new))
set_all_sound k chain fs at new sound now id f is =
    elim (set_at fs at id (Some new) f is) [
      | inl before ↦ sound id f before.1
      | inr set ↦ subst (IsSoundFollower k chain) (same_Some new f set.1) now
    ]

pub closed_all_sound : (k : ℕ) (chain : List Block) (fs : Followers) (at : ℕ) → AllSound k chain fs → AllSound k chain (slice_set fs at None)
closed_all_sound k chain fs at sound id f is =
    elim (set_at fs at id None f is) [
      | inl before ↦ sound id f before.1
      | inr set ↦ absurd (nobody fs f set.1)
    ]
