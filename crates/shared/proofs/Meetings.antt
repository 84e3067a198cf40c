-- Callers who are told what the journal has.
use Rattle.std.proofs.Common.{◌≡◌, ◌≤◌, ℕ, ◌+◌, ◌++◌, [], ◌∷◌, length, cond, Bool, true, refl, sym, ap, ◌∙◌, subst, arith, append-nil}
use Rattle.std.proofs.lemmas.Bool.{le-ltb}
use Rattle.std.proofs.lemmas.List.{length-append}
use Rattle.model.specs.Signature.{Verifies}
use Rattle.shared.specs.Starts.{Start, network_from}
use Rattle.model.specs.Journal.{Journal, Knowledge, BeginsWithSeen, IsLegalJournal, IsMeeting, IsLook, height_of}
use Rattle.shared.specs.Heights.{Role, Calls, SeatView, copy_of, with_copy, longer, with_news, knowledge_of, height_after, IsLooked, IsCompared, KnowsCalls}
use Rattle.shared.specs.Meeting.{IsTold, IsStillWriter, IsInformed}
use Rattle.shared.proofs.Calls.{height_of_legal}

-- of a journal and a beginning of it the journal is the longer
pub longer_all : (journal seen : Journal) → BeginsWithSeen journal seen → longer seen journal ≡ journal
longer_all journal seen begins =
    let sizes : length journal ≡ length (seen ++ begins.0) = ap length begins.1 in
    let below : length seen ≤ length journal = omega (arith, length-append seen begins.0) in
    ap (λ (b : Bool). cond b seen journal) (le-ltb (length journal) (length seen) below)

no_entries : (journal : Journal) → length journal ≡ 0 → journal ≡ []
no_entries [] none = refl
no_entries (x ∷ xs) none = absurd (omega arith)

-- two journals that begin with one another
pub begins_both : (xs ys : Journal) → BeginsWithSeen xs ys → BeginsWithSeen ys xs → xs ≡ ys
begins_both xs ys a b =
    let rest_is : a.0 ≡ [] = no_entries a.0 (
    let m = ap length a.1 in
    let n = ap length b.1 in
    let p = length-append ys a.0 in
    let q = length-append xs b.0 in
    omega arith
    ) in
    a.1 ∙ (ap (λ (j : Journal). ys ++ j) rest_is ∙ append-nil ys)

-- the writer after a note was laid beside what it has seen, and a look
pub measured_of : (writer laid compared : SeatView) (note : SeatView) (found : ℕ) → writer.writes ≡ true → laid ≡ with_copy writer note → IsCompared laid found compared → IsStillWriter writer compared
measured_of writer laid compared note found right is looked =
    record {
      right = ap (λ (u : SeatView). u.writes) looked.same ∙ (ap (λ (u : SeatView). u.writes) is ∙ right);
      role = ap (λ (u : SeatView). u.role) looked.same ∙ ap (λ (u : SeatView). u.role) is;
      seen = ap (λ (u : SeatView). u.seen) looked.same ∙ ap (λ (u : SeatView). u.seen) is;
    }

pub measured_begins : (writer laid compared v note : SeatView) (found : ℕ) → note ≡ copy_of v → laid ≡ with_copy writer note → IsCompared laid found compared → BeginsWithSeen writer.seen v.seen
measured_begins writer laid compared v note found of is looked =
    subst (λ (x : Journal × Journal). BeginsWithSeen x.0 x.1) (λ i. (ap (λ (u : SeatView). u.seen) is i, (ap (λ (u : SeatView). u.before) is ∙ ap (λ (u : SeatView). u.seen) of) i)) looked.begins

-- the seat, after it learned from the writer, looked, and the writer has seen no less
pub told_of : (verifies : Verifies) (writer v first same news w last : SeatView) (found : ℕ) → BeginsWithSeen writer.seen v.seen → first.seen ≡ writer.seen → same ≡ v → news ≡ with_news same (copy_of first) → IsLooked verifies news found w
    → last.seen ≡ writer.seen → BeginsWithSeen last.seen w.seen → IsTold verifies writer v w
told_of verifies writer v first same news w last found begins first_is still learned looked last_is back =
    let told : news ≡ record v { seen = writer.seen; before = v.seen } =
    learned ∙ ((λ i. with_news (still i) (copy_of first)) ∙ ap (λ (j : Journal). record v { seen = j; before = v.seen }) (ap (λ (j : Journal). longer v.seen j) first_is ∙ longer_all writer.seen v.seen begins)) in
    let seen : w.seen ≡ writer.seen =
    begins_both w.seen writer.seen (subst (λ (j : Journal). BeginsWithSeen w.seen j) (ap (λ (u : SeatView). u.seen) told) looked.seen) (subst (λ (j : Journal). BeginsWithSeen j w.seen) last_is back) in
    let height : found ≡ height_after v.start writer.seen = looked.height_is ∙ (λ i. height_after ((ap (λ (u : SeatView). u.start) told) i) (seen i)) in
    record {
      same = looked.same ∙ ((λ i. record (told i) { seen = seen i; loads = (told i).loads + 1; last = height i }));
      begins = begins;
      legal = subst (λ (x : Start × Journal). IsLegalJournal (network_from x.0 verifies) x.1) (λ i. (ap (λ (u : SeatView). u.start) told i, seen i)) looked.legal;
      calls = subst (λ (x : SeatView × Journal). KnowsCalls x.0.role x.1 x.0.calls) (λ i. (told i, seen i)) looked.calls;
    }

pub still_on : (a b c d : SeatView) → IsStillWriter a b → c ≡ b → IsStillWriter c d → IsStillWriter a d
still_on a b c d one same two =
    record {
      right = two.right;
      role = two.role ∙ (ap (λ (u : SeatView). u.role) same ∙ one.role);
      seen = two.seen ∙ (ap (λ (u : SeatView). u.seen) same ∙ one.seen);
    }

pub informed_of : (verifies : Verifies) (start : Start) (number : ℕ) (writer v w : SeatView) (journal : Journal) → IsTold verifies writer v w → v.start ≡ start → v.role ≡ Calls number → writer.seen ≡ journal
    → IsInformed (network_from start verifies) journal (knowledge_of number v) (knowledge_of number w)
informed_of verifies start number writer v w journal told here role all =
    let seen : w.seen ≡ journal = ap (λ (u : SeatView). u.seen) told.same ∙ all in
    let legal : IsLegalJournal (network_from start verifies) w.seen =
    subst (λ (x : Start × Journal). IsLegalJournal (network_from x.0 verifies) x.1) (λ i. (here i, (all ∙ sym seen) i)) told.legal in
    let height : height_of (network_from start verifies) journal ≡ height_after start w.seen = ap (height_after start) (sym seen) in
    let calls : w.calls ≡ v.calls = ap (λ (u : SeatView). u.calls) told.same in
    record {
      look = record {
        seen = subst (λ (j : Journal). BeginsWithSeen j v.seen) (all ∙ sym seen) told.begins;
        legal = legal;
        height_is = height ∙ height_of_legal start verifies w.seen legal.state legal.legal;
        loads = ap (λ (u : SeatView). u.loads) told.same;
        last = ap (λ (u : SeatView). u.last) told.same ∙ (λ i. height_after (here i) (all i));
        caller = refl;
        calls = calls;
        each_once = subst (λ (x : Role × Journal). KnowsCalls x.0 x.1 v.calls) (λ i. (role i, (all ∙ sym seen) i)) told.calls ∙ sym calls;
      };
      seen = seen;
    }

pub met_of : (verifies : Verifies) (start : Start) (journal now : Journal) (a b a' b' : Knowledge) → IsInformed (network_from start verifies) journal a a' → IsInformed (network_from start verifies) now b b' → now ≡ journal → IsMeeting (network_from start verifies) a b a' b'
met_of verifies start journal now a b a' b' one other still =
    record {
      height = height_of (network_from start verifies) journal;
      one = one.look;
      other = subst (λ (j : Journal). IsLook (network_from start verifies) b (height_of (network_from start verifies) j) b') still other.look;
      same = one.seen ∙ sym (other.seen ∙ still);
    }
