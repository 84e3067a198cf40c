-- The texts of a core's blocks that are never rolled back only grow.
use Rattle.std.proofs.Common.{◌≡◌, ℕ, List, [], ◌∷◌, ◌++◌, length, drop, sym, ap, subst, ◌∙◌, append_assoc, append-nil}
use Rattle.std.proofs.lemmas.List.{map-append, take-append-drop}
use Rattle.model.specs.Signature.{Verifies}
use Rattle.model.specs.Block.{Block, block_text}
use Rattle.model.specs.Ledger.{network_on}
use Rattle.model.specs.Chain.{immutable_part, BeginsWith}
use Rattle.model.specs.History.{State, Event, Reply}
use Rattle.model.proofs.Chains.{begins_with_whole, begins_earlier}
use Rattle.model.proofs.LegalHistories.{step_goes_on}
use Rattle.chain_core.specs.Held.{Held, Stands, network_held}
use Rattle.chain_core.specs.Immutable.{texts_of, immutable_texts}
use Rattle.chain_core.specs.Steps.{Steps, KeepsStart}
use Rattle.flushing.specs.Courses.{Act, Came, Flushed, IsCourse}
use Rattle.flushing.specs.Texts.{Begins}

-- the texts of a chain begin those of one that begins with it
texts_begin : (before after : List Block) → BeginsWith after before → Begins (texts_of before) (texts_of after)
texts_begin before after begins =
    let rest = drop (length before) after in
    let whole : after ≡ before ++ rest = sym (take-append-drop (length before) after) ∙ ap (λ (bs : List Block). bs ++ rest) begins in
    record { later = texts_of rest; are = ap texts_of whole ∙ map-append block_text before rest }

-- texts begin themselves
pub begins_itself : (texts : List (List ℕ)) → Begins texts texts
begins_itself texts = record { later = []; are = sym (append-nil texts) }

-- what begins texts begins all that these begin
pub begins_further : (first middle all : List (List ℕ)) → Begins first middle → Begins middle all → Begins first all
begins_further first middle all a b = record {
  later = a.later ++ b.later;
  are = b.are ∙ (ap (λ (l : List (List ℕ)). l ++ b.later) a.are ∙ append_assoc first a.later b.later);
}

-- through one event
pub grows : (verifies : Verifies) (before after : Held) (state : State) (event : Event) (reply : Reply) → Stands before state → Steps verifies before event reply after → KeepsStart before after
    → Begins (immutable_texts verifies before) (immutable_texts verifies after)
grows verifies before after state event reply stands steps start =
    let network = network_held before verifies in
    let on = steps state stands in
    let goes = step_goes_on network state event reply on.0 on.1 in
    let longer : BeginsWith (immutable_part network on.0.chain) (immutable_part network state.chain) =
    begins_earlier network state.chain on.0.chain (immutable_part network on.0.chain) goes.not_shorter goes.begins (begins_with_whole (immutable_part network on.0.chain)) in
    let texts = texts_begin (immutable_part network state.chain) (immutable_part network on.0.chain) longer in
    let old : immutable_texts verifies before ≡ texts_of (immutable_part network state.chain) = ap (λ (c : List Block). texts_of (immutable_part network c)) stands.chain in
    let new : immutable_texts verifies after ≡ texts_of (immutable_part network on.0.chain) =
    λ i. texts_of (immutable_part (network_on (start.genesis i) verifies (start.opened i)) (on.2.chain i)) in
    record {
      later = texts.later;
      are = new ∙ (texts.are ∙ ap (λ (l : List (List ℕ)). l ++ texts.later) (sym old));
    }

-- what begins them before an event begins them after it
pub begins_after : (verifies : Verifies) (before after : Held) (state : State) (event : Event) (reply : Reply) (log : List (List ℕ)) → Stands before state → Steps verifies before event reply after → KeepsStart before after → Begins log (immutable_texts verifies before)
    → Begins log (immutable_texts verifies after)
begins_after verifies before after state event reply log stands steps start begins =
    begins_further log (immutable_texts verifies before) (immutable_texts verifies after) begins (grows verifies before after state event reply stands steps start)

-- through every list of events and flushes
pub begins_through : (verifies : Verifies) (before after : Held) (state : State) (acts : List Act) (log left : List (List ℕ)) → Stands before state → IsCourse verifies before log acts after left → Begins log (immutable_texts verifies before) → Begins left (immutable_texts verifies after)
begins_through verifies before after state [] log left stands course begins =
    subst (λ (l : List (List ℕ)). Begins l (immutable_texts verifies after)) (sym course.1) (subst (λ (h : Held). Begins log (immutable_texts verifies h)) (sym course.0) begins)
begins_through verifies before after state (Came event reply ∷ acts) log left stands course begins =
    let next = course.0 in
    let steps = course.1 in
    begins_through verifies next after (steps state stands).0 acts log left (steps state stands).2 course.3 (begins_after verifies before next state event reply log stands steps course.2 begins)
begins_through verifies before after state (Flushed texts ∷ acts) log left stands course begins =
    begins_through verifies before after state acts texts left stands course.1 (course.0 begins).1

-- the texts themselves, through every list of events and flushes
pub grows_through : (verifies : Verifies) (before after : Held) (state : State) (acts : List Act) (log left : List (List ℕ)) → Stands before state → IsCourse verifies before log acts after left → Begins (immutable_texts verifies before) (immutable_texts verifies after)
grows_through verifies before after state [] log left stands course = record {
  later = [];
  are = ap (immutable_texts verifies) course.0 ∙ sym (append-nil (immutable_texts verifies before));
}
grows_through verifies before after state (Came event reply ∷ acts) log left stands course =
    let next = course.0 in
    let steps = course.1 in
    let longer : Begins (immutable_texts verifies before) (immutable_texts verifies next) = grows verifies before next state event reply stands steps course.2 in
    let longest : Begins (immutable_texts verifies next) (immutable_texts verifies after) = grows_through verifies next after (steps state stands).0 acts log left (steps state stands).2 course.3 in
    begins_further (immutable_texts verifies before) (immutable_texts verifies next) (immutable_texts verifies after) longer longest
grows_through verifies before after state (Flushed texts ∷ acts) log left stands course =
    grows_through verifies before after state acts texts left stands course.1
