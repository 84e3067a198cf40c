-- The blocks of a shared core that are never rolled back.
use Rattle.std.proofs.Common.{◌≡◌, ℕ, List, [], ◌∷◌, ◌++◌, length, drop, refl, sym, ap, ◌∙◌, subst}
use Rattle.std.proofs.lemmas.List.{map-append, take-append-drop}
use Rattle.model.specs.Signature.{Verifies}
use Rattle.model.specs.Block.{Block, block_text}
use Rattle.model.specs.Ledger.{Network}
use Rattle.shared.specs.Starts.{Start, network_from}
use Rattle.model.specs.Chain.{IsOpening, immutable_part, BeginsWith}
use Rattle.model.specs.History.{State, Entry, opening, IsRun, IsLegal}
use Rattle.model.specs.Journal.{JournalEntry, Journal, history_of, BeginsWithSeen}
use Rattle.model.proofs.Chains.{begins_with_whole, begins_earlier}
use Rattle.model.proofs.LegalHistories.{opening_sound, run_one, run_goes_on}
use Rattle.chain_core.specs.Held.{Held}
use Rattle.chain_core.specs.Immutable.{texts_of, immutable_texts}
use Rattle.shared.specs.Standing.{IsCoreOf}
use Rattle.shared.specs.Copies.{AreImmutableAfter, AreCopiesAfter}

-- what a core copies, said of its journal
pub copies_of : (verifies : Verifies) (start : Start) (journal seen : Journal) (held : Held) (from : ℕ) (copies : List (List ℕ)) → IsCoreOf verifies start journal held → seen ≡ journal → copies ≡ drop from (immutable_texts verifies held)
    → AreCopiesAfter (network_from start verifies) seen from copies
copies_of verifies start journal seen held from copies core same rest =
    let after : AreImmutableAfter (network_from start verifies) journal (immutable_texts verifies held) = record {
      legal = record { state = core.state; legal = core.legal; named = core.named };
      texts_are = λ i. texts_of (immutable_part (network_from (core.start_is i) verifies) (core.stands.chain i));
    } in
    record {
      texts = immutable_texts verifies held;
      are = subst (λ (j : Journal). AreImmutableAfter (network_from start verifies) j (immutable_texts verifies held)) (sym same) after;
      rest = rest;
    }

-- ---- one journal

-- a legal journal leaves one list of them
pub one_list : (network : Network) (journal : Journal) (a b : List (List ℕ)) → IsOpening network → AreImmutableAfter network journal a → AreImmutableAfter network journal b → a ≡ b
one_list network journal a b opens x y =
    let same = run_one network (opening network) (history_of journal) x.legal.state y.legal.state (opening_sound network opens) x.legal.legal y.legal.legal in
    x.texts_are ∙ (ap (λ (s : State). texts_of (immutable_part network s.chain)) same ∙ sym y.texts_are)

-- ---- a journal that goes on

split_run : (network : Network) (s : State) (es more : List Entry) (t : State) → IsRun network s (es ++ more) t → (mid : State) × IsRun network s es mid × IsRun network mid more t
split_run network s [] more t run = (s, refl, run)
split_run network s (e ∷ es) more t run = let rest = split_run network run.0 es more t run.2 in (rest.0, (run.0, run.1, rest.1), rest.2)

-- the texts of a chain's immutable part begin those of a later one's
texts_begin : (before after : List Block) → BeginsWith after before → (later : List (List ℕ)) × (texts_of after ≡ texts_of before ++ later)
texts_begin before after begins =
    let rest = drop (length before) after in
    let whole : after ≡ before ++ rest = sym (take-append-drop (length before) after) ∙ ap (λ (bs : List Block). bs ++ rest) begins in
    (texts_of rest, ap texts_of whole ∙ map-append block_text before rest)

-- those after a beginning of a legal journal begin those after all of it
pub later_list : (network : Network) (before after : Journal) (a b : List (List ℕ)) → IsOpening network → BeginsWithSeen after before → AreImmutableAfter network before a → AreImmutableAfter network after b
    → (later : List (List ℕ)) × (b ≡ a ++ later)
later_list network before after a b opens begins x y =
    let since = begins.0 in
    let history : history_of after ≡ history_of before ++ history_of since = ap history_of begins.1 ∙ map-append (λ (e : JournalEntry). e.entry) before since in
    let whole : IsLegal network (history_of before ++ history_of since) y.legal.state = subst (λ (es : List Entry). IsLegal network es y.legal.state) history y.legal.legal in
    let parts = split_run network (opening network) (history_of before) (history_of since) y.legal.state whole in
    let same : parts.0 ≡ x.legal.state = run_one network (opening network) (history_of before) parts.0 x.legal.state (opening_sound network opens) parts.1 x.legal.legal in
    let run : IsRun network x.legal.state (history_of since) y.legal.state = subst (λ (m : State). IsRun network m (history_of since) y.legal.state) same parts.2 in
    let on = run_goes_on network x.legal.state (history_of since) y.legal.state run in
    let grows : BeginsWith (immutable_part network y.legal.state.chain) (immutable_part network x.legal.state.chain) =
    begins_earlier network x.legal.state.chain y.legal.state.chain (immutable_part network y.legal.state.chain) on.not_shorter on.begins (begins_with_whole (immutable_part network y.legal.state.chain)) in
    let texts = texts_begin (immutable_part network x.legal.state.chain) (immutable_part network y.legal.state.chain) grows in
    (texts.0, y.texts_are ∙ (texts.1 ∙ ap (λ (t : List (List ℕ)). t ++ texts.0) (sym x.texts_are)))
