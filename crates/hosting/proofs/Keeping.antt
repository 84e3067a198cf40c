-- What flushes, one after the other, do to a log.
use Rattle.std.proofs.Common.{◌≡◌, ℕ, ◌≤◌, Bool, true, false, List, ◌++◌, length, refl, sym, ap, ◌∙◌, subst, append_assoc, arith}
use Rattle.std.proofs.lemmas.List.{length-append}
use Rattle.model.specs.Disk.{Moment, Leaves, LeavesSince}
use Rattle.model.specs.Ledger.{Network}
use Rattle.model.specs.Chain.{IsOpening}
use Rattle.model.specs.Journal.{Journal, BeginsWithSeen}
use Rattle.model.specs.Log.{OpensToBeginning, IsLogOf}
use Rattle.model.proofs.LogTexts.{opens_to_beginning}
use Rattle.shared.specs.Copies.{AreImmutableAfter}
use Rattle.shared.proofs.ForCallers.{one_list, later_list}
use Rattle.immlog.proofs.ForCallers.{since_now, since_same, since_then, since_weaker}
use Rattle.flushing.specs.Texts.{Begins}
use Rattle.flushing.specs.Sharing.{BeginAfter}
use Rattle.flushing.proofs.ForCallers.{begins_itself, begins_further}
use Rattle.hosting.specs.Keeping.{IsKept}

-- a log of a beginning of some blocks is one of a beginning of more, with fewer that are sure
opens_to_more : (least many : ℕ) (first all : List (List ℕ)) (bytes : List ℕ) → least ≤ many → Begins first all → OpensToBeginning many first bytes → OpensToBeginning least all bytes
opens_to_more least many first all bytes fewer longer opens = record {
  opened = opens.opened;
  next = opens.next ++ longer.later;
  opens = opens.opens;
  begins = longer.are ∙ (ap (λ (l : List (List ℕ)). l ++ longer.later) opens.begins ∙ append_assoc opens.opened opens.next longer.later);
  enough = omega (arith, fewer, opens.enough);
  sound = opens.sound;
}

left_more : (least many : ℕ) (first all : List (List ℕ)) (m : Moment) → least ≤ many → Begins first all → Leaves (OpensToBeginning many first) m → Leaves (OpensToBeginning least all) m
left_more least many first all m fewer longer left bytes may = opens_to_more least many first all bytes fewer longer (left bytes may)

since_more : (least many : ℕ) (first all : List (List ℕ)) (past new_past : List Moment) (m : Moment) → least ≤ many → Begins first all → LeavesSince past new_past m (OpensToBeginning many first) → LeavesSince past new_past m (OpensToBeginning least all)
since_more least many first all past new_past m fewer longer =
    since_weaker (Leaves (OpensToBeginning many first)) (Leaves (OpensToBeginning least all)) past new_past m (λ n. left_more least many first all n fewer longer)

same_many : (n : ℕ) → n ≤ n
same_many n = omega arith

not_fewer : (had has : List (List ℕ)) → Begins had has → length had ≤ length has
not_fewer had has stay = omega (arith, length-append had stay.later, ap length stay.are)

-- what a log that is at rest leaves
pub left_at_rest : (blocks : List (List ℕ)) (m : Moment) → Leaves (IsLogOf (length blocks) blocks) m → Leaves (OpensToBeginning (length blocks) blocks) m
left_at_rest blocks m left bytes may = opens_to_beginning (length blocks) blocks bytes (left bytes may)

-- before the first flush
pub kept_at_first : (network : Network) (journal : Journal) (blocks : List (List ℕ)) (past : List Moment) (m : Moment) → BeginAfter network journal blocks → Leaves (OpensToBeginning (length blocks) blocks) m → IsKept network journal blocks blocks past past m
kept_at_first network journal blocks past m begins left =
    let now = left_more (length blocks) (length blocks) blocks begins.texts m (same_many (length blocks)) begins.begins left in
    record {
      texts = begins.texts;
      are = begins.are;
      begins = begins.begins;
      stay = begins_itself blocks;
      crash = since_now (Leaves (OpensToBeginning (length blocks) begins.texts)) past m now;
      crash_now = now;
    }

-- one flush, of a log that is broken or not
pub kept_by_flush : (network : Network) → IsOpening network → (journal : Journal) (had has first : List (List ℕ)) (past new_past : List Moment) (m n : Moment) (broken : Bool)
    → (broken ≡ true → (has ≡ had) × (n ≡ m) × (new_past ≡ past))
    → (broken ≡ false → (all : List (List ℕ)) → AreImmutableAfter network journal all → LeavesSince past new_past n (OpensToBeginning (length had) all))
    → (broken ≡ false → (all : List (List ℕ)) → AreImmutableAfter network journal all → Leaves (OpensToBeginning (length has) all) n)
    → BeginAfter network journal has → Begins had has → BeginAfter network journal first → Leaves (OpensToBeginning (length had) first) m
    → IsKept network journal had has past new_past n
kept_by_flush network opens journal had has first past new_past m n false same crash now begins stay known left = record {
  texts = begins.texts;
  are = begins.are;
  begins = begins.begins;
  stay = stay;
  crash = crash refl begins.texts begins.are;
  crash_now = now refl begins.texts begins.are;
}
kept_by_flush network opens journal had has first past new_past m n true same crash now begins stay known left =
    let is = same refl in
    let one = one_list network journal known.texts begins.texts opens known.are begins.are in
    let longer : Begins first begins.texts = subst (Begins first) one known.begins in
    let before = left_more (length had) (length had) first begins.texts m (same_many (length had)) longer left in
    record {
      texts = begins.texts;
      are = begins.are;
      begins = begins.begins;
      stay = stay;
      crash = since_same (Leaves (OpensToBeginning (length had) begins.texts)) past new_past m n is.1 is.2 before;
      crash_now = subst (λ (l : List (List ℕ)). Leaves (OpensToBeginning (length l) begins.texts) n) (sym is.0) (subst (Leaves (OpensToBeginning (length had) begins.texts)) (sym is.1) before);
    }

-- what was kept, and then one flush more
pub kept_on : (network : Network) → IsOpening network → (before after : Journal) → BeginsWithSeen after before → (had mid has : List (List ℕ)) (past middle new_past : List Moment) (m n : Moment) → BeginAfter network after has → IsKept network before had mid past middle m
    → ((first : List (List ℕ)) → BeginAfter network after first → Leaves (OpensToBeginning (length mid) first) m → IsKept network after mid has middle new_past n) → IsKept network after had has past new_past n
kept_on network opens before after seen had mid has past middle new_past m n begins first flushed =
    let on = later_list network before after first.texts begins.texts opens seen first.are begins.are in
    let longer : Begins first.texts begins.texts = record { later = on.0; are = on.1 } in
    let next = flushed first.texts (record { texts = begins.texts; are = begins.are; begins = longer }) first.crash_now in
    let all = one_list network after begins.texts next.texts opens begins.are next.are in
    record {
      texts = next.texts;
      are = next.are;
      begins = next.begins;
      stay = begins_further had mid has first.stay next.stay;
      crash = since_then (Leaves (OpensToBeginning (length had) next.texts)) past middle new_past m n
          (since_more (length had) (length had) first.texts next.texts past middle m (same_many (length had)) (subst (Begins first.texts) all longer) first.crash)
          (since_more (length had) (length mid) next.texts next.texts middle new_past n (not_fewer had mid first.stay) (begins_itself next.texts) next.crash);
      crash_now = next.crash_now;
    }
