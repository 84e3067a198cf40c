-- The calls of followers are steps of every state that the core stands for.
use Rattle.std.proofs.Common.{◌≡◌, ℕ, zero, suc, ◌<◌, ◌≤◌, Bool, true, false, List, [], ◌∷◌, length, take, Option, Some, None, Result, Ok, Err, refl, sym, ap, subst, ◌∙◌, inl, inr, arith}
use Rattle.std.specs.Prelude.{IfOk, IfErr, OnErr, OnOk, IsErrAnd, IsTrue, ◌↔◌, slice_set, slice_get, option_map, nat_lt, if◌then◌else◌}
use Rattle.std.proofs.lemmas.Bool.{cases_lt, ltb-true, ltb-false}
use Rattle.std.proofs.lemmas.List.{take_all, length-take-le}
use Rattle.std.proofs.lemmas.Option.{same_Some}
use Rattle.model.specs.Signature.{Verifies}
use Rattle.model.specs.Genesis.{Genesis}
use Rattle.model.specs.Block.{Block}
use Rattle.model.specs.Chain.{Point as Place', genesis_tip, tip_point, IsLinked}
use Rattle.model.specs.Transaction.{Transaction}
use Rattle.model.specs.Limits.{follower_limit}
use Rattle.model.specs.Follower.{Follower, Followers, follower_of, free_id, with_opened, standing_at, IsFirstOn, IsOn}
use Rattle.model.specs.History.{State, Open, Next, Forward, Close, Step, HasDue}
use Rattle.model.proofs.Chains.{tip_number}
use Rattle.ident.specs.PointView.{point_of}
use Rattle.ident.specs.declared.point.Point.{Point}
use Rattle.followers.specs.declared.follower_id.FollowerId.{FollowerId}
use Rattle.followers.specs.declared.fault.OpenFollowerFault.{OpenFollowerFault}
use Rattle.followers.specs.declared.fault.OpenFollowerFault.TheVariants as open'
use Rattle.followers.specs.declared.fault.UnknownFollower.{UnknownFollower}
use Rattle.followers.specs.declared.place.Place.{Place}
use Rattle.followers.specs.declared.place.Due as code
use Rattle.followers.specs.declared.place.Due.TheVariants.{Add, RollBack}
use Rattle.followers.specs.Places.{Places, open_count, standing, due_of, place_after}
use Rattle.followers.specs.Calls.{IsOpened, IsOpenFault, IsMovedOn, IsForwarded, IsClosed}
use Rattle.followers.specs.Standing.{ArePlacesOf, IsDueOf}
use Rattle.followers.proofs.ForCallers.{the_lengths}
use Rattle.chain_core.specs.declared.follower.Instruction.{Instruction}
use Rattle.chain_core.specs.declared.follower.NextFault.{NextFault}
use Rattle.chain_core.specs.declared.follower.NextFault.TheVariants as next
use Rattle.chain_core.specs.Views.{open_reply_of, next_reply_of, forward_reply_of, close_reply_of, instruction_of}
use Rattle.chain_core.specs.FollowerCalls.{IsWantAtOpen, IsWantAtNext, Peeks}
use Rattle.chain_core.specs.Held.{Held, Stands, held_of, network_held}

there_is : {X : Type 0} (xs : List X) (i : ℕ) → i < length xs → (x : X) × (slice_get xs i ≡ Some x)
there_is [] i below = absurd (omega arith)
there_is (x ∷ xs) zero below = (x, refl)
there_is (x ∷ xs) (suc i) below = there_is xs i (omega arith)

-- what the test says of a follower that is open, and of one that isn't
pub one_open : (places : Places) (id : ℕ) (answer : Bool) → IsTrue answer ↔ ((place : Place) × (follower_of places id ≡ Some place)) → answer ≡ true → (place : Place) × (follower_of places id ≡ Some place)
one_open places id answer says is = says.0 is

pub none_open : (places : Places) (id : ℕ) (answer : Bool) → IsTrue answer ↔ ((place : Place) × (follower_of places id ≡ Some place)) → answer ≡ false → follower_of places id ≡ None
none_open places id true says is = absurd (let e : true ≡ false = is in cc)
none_open places id false says is = by_place (follower_of places id) refl
  where
    by_place : (o : Option Place) → follower_of places id ≡ o → follower_of places id ≡ None
    by_place None none = none
    by_place (Some place) some = absurd (let e : false ≡ true = says.1 (place, some) in cc)

-- as many are open
pub as_many_open : (selected : List Block) (places : Places) (fs : Followers) → ArePlacesOf selected places fs → open_count places ≡ open_count fs
as_many_open selected [] [] are = refl
as_many_open selected (None ∷ places) (None ∷ fs) are = as_many_open selected places fs are
as_many_open selected (Some place ∷ places) (Some f ∷ fs) are = ap suc (as_many_open selected places fs are.1)
as_many_open selected [] (f ∷ fs) are = absurd are
as_many_open selected (None ∷ places) [] are = absurd are
as_many_open selected (Some place ∷ places) [] are = absurd are
as_many_open selected (None ∷ places) (Some f ∷ fs) are = absurd are
as_many_open selected (Some place ∷ places) (None ∷ fs) are = absurd are

-- what the test says of the place of a number it says of the follower
pub open_beside : (selected : List Block) (places : Places) (fs : Followers) (id : ℕ) (answer : Bool) → ArePlacesOf selected places fs → IsTrue answer ↔ ((place : Place) × (follower_of places id ≡ Some place)) → IsTrue answer ↔ ((f : Follower) × (follower_of fs id ≡ Some f))
open_beside selected places fs id true are says =
    let place = says.0 refl in
    let there = the_lengths.is_open selected places fs id place.0 are place.1 in
    (λ is. (there.0, there.1), λ follower. refl)
open_beside selected places fs id false are says =
    let none : follower_of fs id ≡ None = the_lengths.nobody selected places fs id are (none_open places id false says refl) in
    (λ is. absurd (let e : false ≡ true = is in cc), λ follower. absurd (let e : None ≡ Some follower.0 = sym none ∙ follower.1 in cc))

module _ (verifies : Verifies) (genesis : Genesis) (opened_on live chain : List Block) (txs : List Transaction) where
  -- what stands for a state stands for it with other followers, once these stand there
  followed : (old new : Places) (s : State) (gs : Followers) → Stands (held_of genesis opened_on live chain txs old) s → ArePlacesOf s.chain new gs → Stands (held_of genesis opened_on live chain txs new) (record s { followers = gs })
  followed old new s gs stands are = record {
    chain = stands.chain;
    mempool = stands.mempool;
    followers = subst (λ (c : List Block). ArePlacesOf c new gs) (sym stands.chain) are;
    members = stands.members;
    count = stands.count;
    chain_kept = stands.chain_kept;
  }

  -- beside the chain of the state
  beside : (places : Places) (s : State) → Stands (held_of genesis opened_on live chain txs places) s → ArePlacesOf s.chain places s.followers
  beside places s stands = subst (λ (c : List Block). ArePlacesOf c places s.followers) stands.chain stands.followers

  still : (old new : Places) (s : State) → new ≡ old → Stands (held_of genesis opened_on live chain txs old) s → Stands (held_of genesis opened_on live chain txs new) s
  still old new s same stands = subst (λ (p : Places). Stands (held_of genesis opened_on live chain txs p) s) (sym same) stands

  -- ---- a follower is opened

  abbrev pub OpenSteps : Places → Held → Result FollowerId OpenFollowerFault → Type 0
  OpenSteps new now result = (s : State) → Stands now s → (t : State) × Step (network_held now verifies) s Open (open_reply_of result) t × Stands (held_of genesis opened_on live chain txs new) t

  pub opened : (old new : Places) (now : Held) (result : Result FollowerId OpenFollowerFault) → held_of genesis opened_on live chain txs old ≡ now → IfOk result (λ id. IsOpened old id.number new) → IfErr result (IsOpenFault old) → OnErr result (new ≡ old) → OpenSteps new now result
  opened old new now (Ok id) view ok fault err = subst (λ (h : Held). OpenSteps new h (Ok id)) view (λ s stands.
      let are = beside old s stands in (
        record s { followers = with_opened s.followers },
        record { is_free = ok.is_free ∙ sym (the_lengths.free s.chain old s.followers are); few = ok.few; after = refl },
        followed old new s (with_opened s.followers) stands (subst (λ (p : Places). ArePlacesOf s.chain p (with_opened s.followers)) (sym ok.after) (the_lengths.opened s.chain old s.followers are)),
      ))
  opened old new now (Err open'.TooManyFollowers) view ok fault err = subst (λ (h : Held). OpenSteps new h (Err open'.TooManyFollowers)) view
      (λ s stands. (s, (subst (λ n. follower_limit ≤ n) (sym (the_lengths.free s.chain old s.followers (beside old s stands))) fault, refl), still old new s err stands))
  opened old new now (Err open'.OutOfMemory) view ok fault err = subst (λ (h : Held). OpenSteps new h (Err open'.OutOfMemory)) view (λ s stands. (s, refl, still old new s err stands))

  pub want_at_open : (old : Places) (now : Held) (result : Result FollowerId OpenFollowerFault) → held_of genesis opened_on live chain txs old ≡ now → IfErr result (IsOpenFault old) → IfErr result (IsWantAtOpen now)
  want_at_open old now (Ok id) view fault = tt
  want_at_open old now (Err open'.TooManyFollowers) view fault = λ is. absurd cc
  want_at_open old now (Err open'.OutOfMemory) view fault = λ is. subst (λ (h : Held). free_id h.followers < follower_limit) view fault

  -- ---- a follower is told what comes next

  abbrev pub NextSteps : {S : Type 0} → Places → ℕ → Held → Result (Option (Instruction S)) NextFault → Type 0
  NextSteps new id now result = (s : State) → Stands now s → (t : State) × Step (network_held now verifies) s (Next id) (next_reply_of result) t × Stands (held_of genesis opened_on live chain txs new) t

  pub instructed : {S : Type 0} (old new : Places) (id : ℕ) (now : Held) (height : ℕ) (place : Place) (instruction : Option (Instruction S)) → held_of genesis opened_on live chain txs old ≡ now → height ≡ length chain → follower_of old id ≡ Some place
      → IsDueOf chain (due_of height place) (instruction_of instruction) → new ≡ slice_set old id (Some (place_after height place)) → NextSteps new id now (Ok instruction)
  instructed old new id now height place instruction view high open_at step after = subst (λ (h : Held). NextSteps new id h (Ok instruction)) view (λ s stands.
      let are = beside old s stands in
      let here : height ≡ length s.chain = high ∙ ap length stands.chain in
      let step_here : IsDueOf s.chain (due_of (length s.chain) place) (instruction_of instruction) =
      subst (λ n. IsDueOf s.chain (due_of n place) (instruction_of instruction)) here (subst (λ (c : List Block). IsDueOf c (due_of height place) (instruction_of instruction)) stands.chain step) in
      let told = the_lengths.next s.chain old s.followers id place are open_at (instruction_of instruction) step_here in
      let becomes : new ≡ slice_set old id (Some (place_after (length s.chain) place)) = after ∙ ap (λ n. slice_set old id (Some (place_after n place))) here in (
        record s { followers = slice_set s.followers id (Some told.1) },
        record { old = told.0; new = told.1; is_open = told.2; next = told.3; after = refl },
        followed old new s (slice_set s.followers id (Some told.1)) stands (subst (λ (p : Places). ArePlacesOf s.chain p (slice_set s.followers id (Some told.1))) (sym becomes) told.4),
      ))

  -- from what the two calls on the follower's place say
  pub instructed_by : {S : Type 0} (old new : Places) (id : ℕ) (now : Held) (height : ℕ) (shown : List Block) (step told : Option code.Due) (instruction : Option (Instruction S)) → held_of genesis opened_on live chain txs old ≡ now → height ≡ length now.chain → shown ≡ chain
      → (place : Place) × (follower_of old id ≡ Some place) × (step ≡ due_of height place) → IsDueOf shown step (instruction_of instruction) → IsMovedOn old id height told new → NextSteps new id now (Ok instruction)
  instructed_by old new id now height shown step told instruction view high same due is stepped =
      let one : due.0 ≡ stepped.place = same_Some due.0 stepped.place (sym due.1 ∙ stepped.is_open) in
      instructed old new id now height stepped.place instruction view (high ∙ sym (ap (λ (h : Held). length h.chain) view)) stepped.is_open
      (subst (λ (x : Option code.Due). IsDueOf chain x (instruction_of instruction)) (due.2 ∙ ap (due_of height) one) (subst (λ (c : List Block). IsDueOf c step (instruction_of instruction)) same is)) stepped.after

  pub next_unknown : {S : Type 0} (old new : Places) (id : ℕ) (now : Held) (result : Result (Option (Instruction S)) NextFault) → held_of genesis opened_on live chain txs old ≡ now → IsErrAnd result (λ e. e ≡ next.UnknownFollower) → follower_of old id ≡ None → new ≡ old → NextSteps new id now result
  next_unknown old new id now (Ok i) view is nobody same = absurd is
  next_unknown {S} old new id now (Err e) view is nobody same = subst (λ (f : NextFault). NextSteps {S = S} new id now (Err f)) (sym is) (subst (λ (h : Held). NextSteps {S = S} new id h (Err next.UnknownFollower)) view
      (λ s stands. (s, (the_lengths.nobody s.chain old s.followers id (beside old s stands) nobody, refl), still old new s same stands)))

  -- a step that may be taken may be looked at
  pub peek_of : {S : Type 0} (new : Places) (id : ℕ) (now : Held) (result : Result (Option (Instruction S)) NextFault) → NextSteps new id now result → Peeks verifies now id (next_reply_of result)
  peek_of new id now result steps = λ s stands. let on = steps s stands in (on.0, on.1)

  pub peek_nothing : {S : Type 0} (id : ℕ) (now : Held) (result : Result (Option (Instruction S)) NextFault) → IsErrAnd result (λ e. e ≡ next.OutOfMemory) → Peeks verifies now id (next_reply_of result)
  peek_nothing id now (Ok i) is = absurd is
  peek_nothing {S} id now (Err e) is = subst (λ (f : NextFault). Peeks verifies now id (next_reply_of {S = S} (Err f))) (sym is) (λ s stands. (s, refl))

  pub peeked : {S : Type 0} (old : Places) (id : ℕ) (now : Held) (height : ℕ) (shown : List Block) (step : Option code.Due) (instruction : Option (Instruction S)) → held_of genesis opened_on live chain txs old ≡ now → height ≡ length now.chain → shown ≡ chain
      → (place : Place) × (follower_of old id ≡ Some place) × (step ≡ due_of height place) → IsDueOf shown step (instruction_of instruction) → Peeks verifies now id (next_reply_of (Ok instruction))
  peeked {S} old id now height shown step instruction view high same due is =
      let new = slice_set old id (Some (place_after height due.0)) in
      peek_of new id now (Ok instruction) (instructed old new id now height due.0 instruction view (high ∙ sym (ap (λ (h : Held). length h.chain) view)) due.1
      (subst (λ (x : Option code.Due). IsDueOf chain x (instruction_of instruction)) due.2 (subst (λ (c : List Block). IsDueOf c step (instruction_of instruction)) same is)) refl)

  -- memory is asked for only where a block comes next
  add_is_due : (height : ℕ) (place : Place) (after : ℕ) (back more : Bool) → nat_lt place.agreed place.told ≡ back → nat_lt place.told height ≡ more
      → (if back then Some (RollBack place.agreed) else if more then Some (Add place.told) else None) ≡ Some (Add after) → (place.told ≤ place.agreed) × (place.told < height)
  add_is_due height place after true more back_is more_is is = absurd (let e : Some (RollBack place.agreed) ≡ Some (Add after) = is in cc)
  add_is_due height place after false true back_is more_is is = (ltb-false place.agreed place.told back_is, ltb-true place.told height more_is)
  add_is_due height place after false false back_is more_is is = absurd (let e : None ≡ Some (Add after) = is in cc)

  pub want_at_next : {S : Type 0} (old : Places) (id : ℕ) (now : Held) (height : ℕ) (step : Option code.Due) (result : Result (Option (Instruction S)) NextFault) → held_of genesis opened_on live chain txs old ≡ now → height ≡ length now.chain
      → (place : Place) × (follower_of old id ≡ Some place) × (step ≡ due_of height place) → (after : ℕ) × (step ≡ Some (Add after)) → IfErr result (IsWantAtNext now id)
  want_at_next old id now height step (Ok i) view high due add = tt
  want_at_next old id now height step (Err e) view high due add = λ is. subst (λ (h : Held). (s : State) → Stands h s → HasDue s id) view (λ s stands.
      let place = due.0 in
      let there = the_lengths.is_open s.chain old s.followers id place (beside old s stands) due.1 in
      let tests = add_is_due height place add.0 (nat_lt place.agreed place.told) (nat_lt place.told height) refl refl (sym due.2 ∙ add.1) in
      let long : height ≡ length s.chain = high ∙ (sym (ap (λ (h : Held). length h.chain) view) ∙ ap length stands.chain) in
      let told = there.2.told in
      let agreed : length there.0.agreed ≡ place.agreed = ap length there.2.agreed ∙ length-take-le place.agreed s.chain there.2.within in
      let at : length there.0.told < length s.chain = let below = tests.1 in omega arith in
      let b = there_is s.chain (length there.0.told) at in
      (there.0, b.0, there.1, (let enough = tests.0 in omega arith, b.1)))

  -- ---- a follower is set to a point

  abbrev pub ForwardSteps : Places → ℕ → List Place' → Held → Result (Option Point) UnknownFollower → Type 0
  ForwardSteps new id points now result = (s : State) → Stands now s → (t : State) × Step (network_held now verifies) s (Forward id points) (forward_reply_of result) t × Stands (held_of genesis opened_on live chain txs new) t

  pub forward_unknown : (old new : Places) (id : ℕ) (points : List Place') (now : Held) (unknown : UnknownFollower) → held_of genesis opened_on live chain txs old ≡ now → follower_of old id ≡ None → new ≡ old → ForwardSteps new id points now (Err unknown)
  forward_unknown old new id points now unknown view nobody same = subst (λ (h : Held). ForwardSteps new id points h (Err unknown)) view
      (λ s stands. (s, (the_lengths.nobody s.chain old s.followers id (beside old s stands) nobody, refl), still old new s same stands))

  pub forward_nowhere : (old new : Places) (id : ℕ) (points : List Place') (now : Held) (place : Place) → held_of genesis opened_on live chain txs old ≡ now → follower_of old id ≡ Some place → IsFirstOn chain points None → new ≡ old → ForwardSteps new id points now (Ok None)
  forward_nowhere old new id points now place view open_at first same = subst (λ (h : Held). ForwardSteps new id points h (Ok None)) view (λ s stands.
      let there = the_lengths.is_open s.chain old s.followers id place (beside old s stands) open_at in
      (s, record { old = there.0; is_open = there.1; first = subst (λ (c : List Block). IsFirstOn c points None) stands.chain first; after = refl }, still old new s same stands))

  first_is_on : (points : List Place') (found : Place') → IsFirstOn chain points (Some found) → IsOn chain found
  first_is_on [] found first = absurd (let e : Some found ≡ None = first in cc)
  first_is_on (p ∷ ps) found (inl here) = let same : found ≡ p = (let e : Some found ≡ Some p = here.1 in cc) in subst (IsOn chain) (sym same) here.0
  first_is_on (p ∷ ps) found (inr later) = first_is_on ps found later.1

  -- a point on a linked chain is at one of its blocks
  on_within : (point : Place') → IsLinked genesis_tip chain → IsOn chain point → point.number ≤ length chain
  on_within point linked is = elim (cases_lt (length chain) point.number) [
    | inl past ↦
        let whole : take point.number chain ≡ chain = take_all point.number chain (omega arith) in
        let number : (tip_point chain).number ≡ point.number = ap (λ (p : Place'). p.number) (sym (ap tip_point whole) ∙ is) in
        let count = tip_number genesis_tip chain linked in
        absurd (omega arith)
    | inr within ↦ within
  ]

  pub forwarded : (old new : Places) (id : ℕ) (points : List Place') (now : Held) (place : Place) (found : Point) → held_of genesis opened_on live chain txs old ≡ now → IsLinked genesis_tip chain → follower_of old id ≡ Some place → IsFirstOn chain points (Some (point_of found))
      → new ≡ slice_set old id (Some (standing found.number)) → ForwardSteps new id points now (Ok (Some found))
  forwarded old new id points now place found view linked open_at first after = subst (λ (h : Held). ForwardSteps new id points h (Ok (Some found))) view (λ s stands.
      let are = beside old s stands in
      let there = the_lengths.is_open s.chain old s.followers id place are open_at in
      let within : found.number ≤ length s.chain = subst (λ (c : List Block). found.number ≤ length c) stands.chain (on_within (point_of found) linked (first_is_on points (point_of found) first)) in
      let gs = slice_set s.followers id (Some (standing_at (take found.number s.chain))) in (
        record s { followers = gs },
        record { old = there.0; is_open = there.1; first = subst (λ (c : List Block). IsFirstOn c points (Some (point_of found))) stands.chain first; after = refl },
        followed old new s gs stands (subst (λ (p : Places). ArePlacesOf s.chain p gs) (sym after) (the_lengths.forwarded s.chain old s.followers id found.number within are)),
      ))

  -- from what the search for the point says
  pub forwarded_to : (old new : Places) (id : ℕ) (points : List Place') (now : Held) (shown : List Block) (point : Point) (result : Option Point) → held_of genesis opened_on live chain txs old ≡ now → IsLinked genesis_tip chain → shown ≡ chain
      → IsFirstOn shown points (option_map point_of result) → result ≡ Some point → IsForwarded old id point.number new → ForwardSteps new id points now (Ok (Some point))
  forwarded_to old new id points now shown point result view linked same first is ok =
      forwarded old new id points now ok.place point view linked ok.is_open
      (subst (λ (c : List Block). IsFirstOn c points (Some (point_of point))) same (subst (λ (r : Option Point). IsFirstOn shown points (option_map point_of r)) is first)) ok.after

  pub forwarded_nowhere : (old new : Places) (id : ℕ) (points : List Place') (now : Held) (shown : List Block) (result : Option Point) → held_of genesis opened_on live chain txs old ≡ now → shown ≡ chain
      → IsFirstOn shown points (option_map point_of result) → result ≡ None → (place : Place) × (follower_of old id ≡ Some place) → new ≡ old → ForwardSteps new id points now (Ok result)
  forwarded_nowhere old new id points now shown result view same first is open_at stays =
      subst (λ (r : Option Point). ForwardSteps new id points now (Ok r)) (sym is) (forward_nowhere old new id points now open_at.0 view open_at.1
      (subst (λ (c : List Block). IsFirstOn c points None) same (subst (λ (r : Option Point). IsFirstOn shown points (option_map point_of r)) is first)) stays)

  -- ---- a follower is closed

  abbrev pub CloseSteps : Places → ℕ → Held → Result (Unit {0}) UnknownFollower → Type 0
  CloseSteps new id now result = (s : State) → Stands now s → (t : State) × Step (network_held now verifies) s (Close id) (close_reply_of result) t × Stands (held_of genesis opened_on live chain txs new) t

  pub closed : (old new : Places) (id : ℕ) (now : Held) (result : Result (Unit {0}) UnknownFollower) → held_of genesis opened_on live chain txs old ≡ now → OnOk result (IsClosed old id new) → OnErr result (follower_of old id ≡ None) → OnErr result (new ≡ old) → CloseSteps new id now result
  closed old new id now (Ok done) view ok unknown err = subst (λ (h : Held). CloseSteps new id h (Ok done)) view (λ s stands.
      let are = beside old s stands in
      let there = the_lengths.is_open s.chain old s.followers id ok.place are ok.is_open in (
        record s { followers = slice_set s.followers id None },
        record { old = there.0; is_open = there.1; after = refl },
        followed old new s (slice_set s.followers id None) stands (subst (λ (p : Places). ArePlacesOf s.chain p (slice_set s.followers id None)) (sym ok.after) (the_lengths.closed s.chain old s.followers id are)),
      ))
  closed old new id now (Err e) view ok unknown err = subst (λ (h : Held). CloseSteps new id h (Err e)) view
      (λ s stands. (s, (the_lengths.nobody s.chain old s.followers id (beside old s stands) unknown, refl), still old new s err stands))
