-- A run of the core, one event after the other.
use Rattle.std.proofs.Common.{◌≡◌, ℕ, ◌+◌, ◌<◌, ◌++◌, List, [], ◌∷◌, length, take, get_or, refl, sym, ap, subst, ◌∙◌}
use Rattle.std.proofs.lemmas.List.{take_more}
use Rattle.std.specs.Prelude.{◌↔◌, Contains}
use Rattle.model.specs.Block.{Block}
use Rattle.model.specs.Chain.{IsOpening}
use Rattle.model.specs.Signature.{Verifies}
use Rattle.model.specs.Ledger.{Network, network_on}
use Rattle.model.specs.History.{State, opening, IsRun, ChainTheorem}
use Rattle.model.proofs.Lists.{all_from_members}
use Rattle.model.proofs.LegalHistories.{none_live_at_start}
use Rattle.model.proofs.ToldChains.{theorem_of_legal}
use Rattle.chain_core.specs.declared.event.RawEvent.{RawEvent}
use Rattle.chain_core.specs.declared.event.Reply.{Reply}
use Rattle.chain_core.specs.Views.{history_of, AreRepliesTo}
use Rattle.chain_core.specs.Calls.{IsCall, AreCalls}
use Rattle.chain_core.specs.Held.{Held, Stands, opening_held, network_held}

-- a core before anything came stands for the opening state
pub opening_stands : (network : Network) → IsOpening network → Stands (opening_held network.genesis network.opened) (opening network)
opening_stands network opens =
    let none = none_live_at_start network opens.valid in
    record {
      chain = refl;
      mempool = refl;
      followers = tt;
      members = λ verifies b. subst (λ (bs : List Block). Contains [] b ↔ Contains bs b) (sym none) ((λ member. member), (λ member. member));
      count = λ verifies. sym (ap length none);
      chain_kept = all_from_members (Contains network.opened) network.opened (λ b member. member);
    }

-- one call more
pub calls_more : {S : Type 0} (verifies : Verifies) (old : Held) (es : List RawEvent) (rs : List (Reply S)) (mid : Held) (e : RawEvent) (r : Reply S) (new : Held) → AreCalls verifies old es rs mid → IsCall verifies mid e r new → AreCalls verifies old (es ++ e ∷ []) (rs ++ r ∷ []) new
calls_more verifies old [] [] mid e r new so_far call = (new, subst (λ (h : Held). IsCall verifies h e r new) so_far call, refl)
calls_more verifies old [] (y ∷ ys) mid e r new so_far call = absurd so_far
calls_more verifies old (x ∷ xs) [] mid e r new so_far call = absurd so_far
calls_more verifies old (x ∷ xs) (y ∷ ys) mid e r new so_far call = (so_far.0, so_far.1, calls_more verifies so_far.0 xs ys mid e r new so_far.2 call)

pub calls_with : {S : Type 0} (verifies : Verifies) (old : Held) (events : List RawEvent) (i : ℕ) (e : RawEvent) (replies : List (Reply S)) (r : Reply S) (mid new : Held) → i < length events → e ≡ get_or events i e → AreCalls verifies old (take i events) replies mid → IsCall verifies mid e r new
    → AreCalls verifies old (take (i + 1) events) (replies ++ r ∷ []) new
calls_with verifies old events i e replies r mid new below at so_far call =
    let here : take (i + 1) events ≡ take i events ++ e ∷ [] = take_more events i e below ∙ ap (λ (x : RawEvent). take i events ++ x ∷ []) (sym at) in
    subst (λ (es : List RawEvent). AreCalls verifies old es (replies ++ r ∷ []) new) (sym here) (calls_more verifies old (take i events) replies mid e r new so_far call)

-- each has a reply of its kind
pub kinds_of : {S : Type 0} (verifies : Verifies) (old : Held) (es : List RawEvent) (rs : List (Reply S)) (new : Held) → AreCalls verifies old es rs new → AreRepliesTo es rs
kinds_of verifies old [] [] new calls = tt
kinds_of verifies old [] (y ∷ ys) new calls = absurd calls
kinds_of verifies old (x ∷ xs) [] new calls = absurd calls
kinds_of verifies old (x ∷ xs) (y ∷ ys) new calls = (calls.1.kind, kinds_of verifies calls.0 xs ys new calls.2)

-- what a core made of events, for every state that it stood for
abbrev pub Ran : {S : Type 0} → Verifies → Held → List RawEvent → List (Reply S) → Held → Type 0
Ran verifies old events replies new = (s : State) → Stands old s → (t : State) × IsRun (network_held old verifies) s (history_of events replies) t × Stands new t

pub ran_of : {S : Type 0} (verifies : Verifies) (old : Held) (es : List RawEvent) (rs : List (Reply S)) (new : Held) → AreCalls verifies old es rs new → Ran verifies old es rs new
ran_of verifies old [] [] new calls s stands = (s, refl, subst (λ (h : Held). Stands h s) (sym calls) stands)
ran_of verifies old [] (y ∷ ys) new calls s stands = absurd calls
ran_of verifies old (x ∷ xs) [] new calls s stands = absurd calls
ran_of verifies old (x ∷ xs) (y ∷ ys) new calls s stands =
    let first = calls.1.step s stands in
    let rest = ran_of verifies calls.0 xs ys new calls.2 first.0 first.2 in
    (rest.0, (first.0, first.1, subst (λ (n : Network). IsRun n first.0 (history_of xs ys) rest.0) (λ i. network_on (calls.1.start.genesis i) verifies (calls.1.start.opened i)) rest.1), rest.2)

-- a run from a core before anything came
pub theorem_of : {S : Type 0} (network : Network) (old : Held) (events : List RawEvent) (replies : List (Reply S)) (new : Held) → IsOpening network → old ≡ opening_held network.genesis network.opened → Ran network.verifies old events replies new
    → (t : State) × ChainTheorem network (history_of events replies) t × Stands new t
theorem_of network old events replies new opens opened ran =
    let from : Ran network.verifies (opening_held network.genesis network.opened) events replies new = subst (λ (h : Held). Ran network.verifies h events replies new) opened ran in
    let done = from (opening network) (opening_stands network opens) in
    (done.0, theorem_of_legal network (history_of events replies) done.0 opens done.1, done.2)
