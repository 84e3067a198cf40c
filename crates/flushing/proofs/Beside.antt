-- What goes onto a log beside a core that threads share.
use Rattle.std.proofs.Common.{◌≡◌, ℕ, List, [], ◌++◌, length, drop, Result, Ok, Err, refl, sym, ap, subst, ◌∙◌, append_assoc, append-nil, arith}
use Rattle.std.specs.Prelude.{OnOk}
use Rattle.std.proofs.lemmas.List.{take_all}
use Rattle.immlog.specs.OpenLog.{GoesOn}
use Rattle.model.specs.Ledger.{Network}
use Rattle.model.specs.Chain.{IsOpening, immutable_length, immutable_part}
use Rattle.model.specs.History.{opening}
use Rattle.model.specs.Journal.{Journal, Knowledge, BeginsWithSeen, IsLegalJournal}
use Rattle.chain_core.specs.Immutable.{texts_of}
use Rattle.shared.specs.Copies.{AreImmutableAfter, AreCopiesAfter}
use Rattle.shared.proofs.ForCallers.{one_list, later_list}
use Rattle.flushing.specs.Texts.{Begins}
use Rattle.flushing.specs.Sharing.{BeginAfter}
use Rattle.flushing.proofs.OnLogs.{with_the_rest}

-- no texts begin those after any legal journal
pub nothing_begins : (network : Network) (journal : Journal) (first : List (List ℕ)) → IsLegalJournal network journal → first ≡ [] → BeginAfter network journal first
nothing_begins network journal first legal none =
    let texts = texts_of (immutable_part network legal.state.chain) in
    record {
      texts = texts;
      are = record { legal = legal; texts_are = refl };
      begins = record { later = texts; are = ap (λ (f : List (List ℕ)). f ++ texts) (sym none) };
    }

-- those that begin the texts after a journal begin those after a longer one
pub begin_later : (network : Network) → IsOpening network → (before after : Journal) (first all : List (List ℕ)) → BeginsWithSeen after before → BeginAfter network before first → AreImmutableAfter network after all → Begins first all
begin_later network opens before after first all seen begins are =
    let on = later_list network before after begins.texts all opens seen begins.are are in
    record {
      later = begins.begins.later ++ on.0;
      are = on.1 ∙ (ap (λ (l : List (List ℕ)). l ++ on.0) begins.begins.are ∙ append_assoc first begins.begins.later on.0);
    }

-- what is there, and copies of what isn't, are all
pub all_after : (network : Network) → IsOpening network → (before after : Journal) (first copies all : List (List ℕ)) (from : ℕ) → BeginsWithSeen after before → BeginAfter network before first → from ≡ length first → AreCopiesAfter network after from copies → AreImmutableAfter network after all
    → first ++ copies ≡ all
all_after network opens before after first copies all from seen begins count copied are =
    let same : copied.texts ≡ all = one_list network after copied.texts all opens copied.are are in
    let rest : copies ≡ drop from all = copied.rest ∙ ap (drop from) same in
    ap (λ (l : List (List ℕ)). first ++ l) rest ∙ with_the_rest first all from (begin_later network opens before after first all seen begins are) count

-- the same where the caller has seen nothing more
pub begin_still : (network : Network) → IsOpening network → (before after : Knowledge) (first all : List (List ℕ)) → after ≡ before → BeginAfter network before.seen first → AreImmutableAfter network after.seen all → Begins first all
begin_still network opens before after first all same begins are =
    begin_later network opens before.seen after.seen first all ([], ap (λ (k : Knowledge). k.seen) same ∙ sym (append-nil before.seen)) begins are

-- what the log has of old and new ones begins all
pub begin_on : (network : Network) (journal : Journal) (old copies new all : List (List ℕ)) → old ++ copies ≡ all → AreImmutableAfter network journal all → GoesOn old copies new → BeginAfter network journal new
begin_on network journal old copies new all row are on = record {
  texts = all;
  are = are;
  begins = record {
    later = on.next;
    are = sym row ∙ (ap (λ (l : List (List ℕ)). old ++ l) on.begins ∙ (sym (append_assoc old on.first on.next) ∙ ap (λ (l : List (List ℕ)). l ++ on.next) (sym on.are)));
  };
}

pub ok_weaker : {T E : Type 0} (r : Result T E) (P Q : Type 0) → (P → Q) → OnOk r P → OnOk r Q
ok_weaker (Ok x) P Q weaker holds = weaker holds
ok_weaker (Err e) P Q weaker holds = tt

-- all that a shared core was opened on stays
opened_stays : (network : Network) → immutable_part network network.opened ≡ network.opened
opened_stays network = take_all (immutable_length network network.opened) network.opened (omega arith)

-- the texts of the blocks that it was opened on begin those after any legal journal
pub opened_begins : (network : Network) (journal : Journal) (first : List (List ℕ)) → IsOpening network → IsLegalJournal network journal → texts_of network.opened ≡ first → BeginAfter network journal first
opened_begins network journal first opens legal is =
    let texts = texts_of (immutable_part network legal.state.chain) in
    let all : AreImmutableAfter network journal texts = record { legal = legal; texts_are = refl } in
    let none : IsLegalJournal network [] = record { state = opening network; legal = refl; named = tt } in
    let start : BeginAfter network [] first = record {
      texts = first;
      are = record { legal = none; texts_are = sym is ∙ ap texts_of (sym (opened_stays network)) };
      begins = record { later = []; are = sym (append-nil first) };
    } in
    record { texts = texts; are = all; begins = begin_later network opens [] journal first texts (journal, refl) start all }
