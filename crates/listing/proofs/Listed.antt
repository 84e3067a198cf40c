-- A log that is listed, one record after the other.
use Rattle.std.proofs.Common.{◌≡◌, ◌≢◌, ◌⊎◌, inl, inr, ℕ, suc, ◌+◌, List, [], ◌∷◌, ◌++◌, length, take, drop, Option, Some, None, Result, Ok, Err, refl, sym, ap, ◌∙◌, subst, arith, append_assoc, append-nil, length-append}
use Rattle.std.specs.Prelude.{IfSome, IfErr, OnOk}
use Rattle.std.specs.List.{AllByRecursion}
use Rattle.std.specs.Io.KnownBytes.{Appends}
use Rattle.std.proofs.lemmas.List.{take_all, take-append-le}
use Rattle.model.specs.Log.{IsLogBlock, body_of, records, IsClosed}
use Rattle.model.proofs.Lists.{all_push}
use Rattle.model.proofs.LogTexts.{length-body_of, records-push}
use Rattle.immlog.specs.Left.{IsLogEnd}
use Rattle.immlog.specs.Walks.{IsPart}
use Rattle.immlog.specs.declared.part.LogEnd.{LogEnd}
use Rattle.immlog.specs.declared.part.LogEnd.TheVariants as ends
use Rattle.immlog.specs.declared.part.LogPart.TheVariants as parts
use Rattle.telling.specs.declared.form.Form.{Form}
use Rattle.listing.specs.Listings.{IsLogIn, PrintsLog, IsListFault}
use Rattle.telling.specs.Shown.{IsRecordIn}
use Rattle.listing.specs.Parts.{lead_text, rest_text, IsPartOfLog, ArePartsOfLog, EndsInVain}
use Rattle.listing.proofs.Wholes.{whole_log}
use Rattle.listing.specs.declared.list_fault.ListFault.{ListFault}
use Rattle.listing.specs.declared.list_fault.ListFault.TheVariants as faults

-- ---- what is written

pub appends_none : (o : Option (List ℕ)) → Appends o o []
appends_none None = tt
appends_none (Some bytes) = sym (append-nil bytes)

pub appends_on : (o m n : Option (List ℕ)) (a b : List ℕ) → Appends o m a → Appends m n b → Appends o n (a ++ b)
appends_on None m n a b p q = tt
appends_on (Some xs) None n a b p q = elim p [ ]
appends_on (Some xs) (Some ys) None a b p q = elim q [ ]
appends_on (Some xs) (Some ys) (Some zs) a b p q = q ∙ (ap (λ (l : List ℕ). l ++ b) p ∙ append_assoc xs a b)

-- ---- the parts

-- with that of one record more
pub parts_push : (form : Form) (blocks : List (List ℕ)) (number place : ℕ) (block text more : List ℕ) → ArePartsOfLog form number place blocks text → IsPartOfLog form (number + length blocks) (place + length (records blocks)) block more → ArePartsOfLog form number place (blocks ++ block ∷ []) (text ++ more)
parts_push form [] number place block text more none one =
    let numbers : number + 0 ≡ number = omega arith in
    let places : place + 0 ≡ place = omega arith in
    let here : IsPartOfLog form number place block more = subst (λ (p : ℕ × ℕ). IsPartOfLog form p.0 p.1 block more) (λ i. (numbers i, places i)) one in
    (more, [], here, refl, ap (λ (l : List ℕ). l ++ more) none ∙ sym (append-nil more))
parts_push form (b ∷ bs) number place block text more (first, rest, head, tail, joined) one =
    let size : length (records (b ∷ bs)) ≡ 37 + length b + length (records bs) = let l = length-body_of b in omega (arith, l, length-append (body_of b) (records bs)) in
    let numbers : number + length (b ∷ bs) ≡ suc number + length bs = omega arith in
    let places : place + length (records (b ∷ bs)) ≡ place + (37 + length b) + length (records bs) = omega (arith, size) in
    let behind = parts_push form bs (suc number) (place + (37 + length b)) block rest more tail (subst (λ (p : ℕ × ℕ). IsPartOfLog form p.0 p.1 block more) (λ i. (numbers i, places i)) one) in
    (first, rest ++ more, head, behind, ap (λ (l : List ℕ). l ++ more) joined ∙ append_assoc first rest more)

-- a record that was printed behind its comma
pub part_printed : {T : Type 0} (r : Result T ListFault) (form : Form) (number place : ℕ) (block text : List ℕ) (old mid new : Option (List ℕ)) → IsRecordIn form number place block text → Appends old mid (lead_text form number)
    → OnOk r (Appends mid new text) → OnOk r ((part : List ℕ) × IsPartOfLog form number place block part × Appends old new part)
part_printed (Ok x) form number place block text old mid new is comma printed = (lead_text form number ++ text, (text, is, refl), appends_on old mid new (lead_text form number) text comma printed)
part_printed (Err fault) form number place block text old mid new is comma printed = tt

-- ---- so far

-- the records before this one were listed: which one it is, where it begins, and what was written
pub record IsListing (form : Form) (bytes : List ℕ) (left : Option (List ℕ)) (number place : ℕ) (old now : Option (List ℕ)) : Type 0 where
  pub blocks : List (List ℕ)
  pub rest : List ℕ
  pub shown : List ℕ
  pub text : bytes ≡ records blocks ++ rest
  pub sizes : AllByRecursion IsLogBlock blocks
  pub left_is : left ≡ Some rest
  pub number_is : number ≡ 1 + length blocks
  pub place_is : place ≡ length (records blocks)
  pub are : ArePartsOfLog form 1 0 blocks shown
  pub printed : Appends old now shown

none_yet : (form : Form) (bytes : List ℕ) (old : Option (List ℕ)) → IsListing form bytes (Some bytes) 1 0 old old
none_yet form bytes old = record { blocks = []; rest = bytes; shown = []; text = refl; sizes = tt; left_is = refl; number_is = refl; place_is = refl; are = refl; printed = appends_none old }

pub starts : (form : Form) (o old : Option (List ℕ)) → IfSome o (λ bytes. IsListing form bytes o 1 0 old old)
starts form None old = tt
starts form (Some bytes) old = none_yet form bytes old

some_weaker : (P Q : List ℕ → Type 0) (o : Option (List ℕ)) → ((bytes : List ℕ) → P bytes → Q bytes) → IfSome o P → IfSome o Q
some_weaker P Q None weaker holds = tt
some_weaker P Q (Some bytes) weaker holds = weaker bytes holds

rest_of : (P : List ℕ → Type 0) (m : Option (List ℕ)) (rest : List ℕ) → m ≡ Some rest → IfSome m P → P rest
rest_of P None rest is holds = absurd cc
rest_of P (Some bytes) rest is holds = let same : bytes ≡ rest = cc in subst P same holds

-- one more
one_more : (form : Form) (bytes : List ℕ) (m n : Option (List ℕ)) (number place len next : ℕ) (room : List ℕ) (block : List ℕ) (old mid new : Option (List ℕ))
    → IsListing form bytes m number place old mid → IfSome m (λ rest. IsPart rest n room (parts.Record len)) → ((b : List ℕ) → take len room ≡ body_of b → block ≡ b)
    → next ≡ place + (1 + len) → (part : List ℕ) × IsPartOfLog form number place block part × Appends mid new part → IsListing form bytes n (number + 1) next old new
one_more form bytes m n number place len next room block old mid new so_far here block_is next_is wrote =
    let part = rest_of (λ rest. IsPart rest n room (parts.Record len)) m so_far.rest so_far.left_is here in
    let taken = part.2 in
    let is : block ≡ taken.block = block_is taken.block taken.held in
    let from_start : place ≡ 0 + length (records so_far.blocks) = let p = so_far.place_is in omega arith in
    let one : IsPartOfLog form (1 + length so_far.blocks) (0 + length (records so_far.blocks)) taken.block wrote.0 = subst (λ (p : ℕ × (ℕ × List ℕ)). IsPartOfLog form p.0 p.1.0 p.1.1 wrote.0) (λ i. (so_far.number_is i, (from_start i, is i))) wrote.1 in
    let rows : records (so_far.blocks ++ taken.block ∷ []) ≡ records so_far.blocks ++ 1 ∷ (body_of taken.block ++ []) = sym (append-nil (records (so_far.blocks ++ taken.block ∷ []))) ∙ records-push so_far.blocks taken.block [] in
    let many : length (records (so_far.blocks ++ taken.block ∷ [])) ≡ length (records so_far.blocks) + length (1 ∷ (body_of taken.block ++ [])) = ap length rows ∙ length-append (records so_far.blocks) (1 ∷ (body_of taken.block ++ [])) in
    let last : length (body_of taken.block ++ []) ≡ length (body_of taken.block) + 0 = length-append (body_of taken.block) [] in
    record {
      blocks = so_far.blocks ++ taken.block ∷ [];
      rest = taken.more;
      shown = so_far.shown ++ wrote.0;
      text = so_far.text ∙ (ap (λ (l : List ℕ). records so_far.blocks ++ l) (part.1 ∙ ap (λ (l : List ℕ). 1 ∷ l) taken.text) ∙ sym (records-push so_far.blocks taken.block taken.more));
      sizes = all_push IsLogBlock so_far.blocks taken.block so_far.sizes taken.size;
      left_is = taken.left;
      number_is = let n = so_far.number_is in omega (arith, length-append so_far.blocks (taken.block ∷ []));
      place_is = let p = so_far.place_is in let l = taken.long in omega (arith, many, last, length-body_of taken.block);
      are = parts_push form so_far.blocks 1 0 taken.block so_far.shown wrote.0 so_far.are one;
      printed = appends_on old mid new so_far.shown wrote.0 so_far.printed wrote.2;
    }

pub more_listed : (form : Form) (o m n : Option (List ℕ)) (number place len next : ℕ) (room block : List ℕ) (old mid new : Option (List ℕ))
    → IfSome o (λ bytes. IsListing form bytes m number place old mid) → IfSome m (λ rest. IsPart rest n room (parts.Record len)) → ((b : List ℕ) → take len room ≡ body_of b → block ≡ b)
    → next ≡ place + (1 + len) → (part : List ℕ) × IsPartOfLog form number place block part × Appends mid new part → IfSome o (λ bytes. IsListing form bytes n (number + 1) next old new)
more_listed form o m n number place len next room block old mid new so_far here block_is next_is wrote =
    some_weaker (λ bytes. IsListing form bytes m number place old mid) (λ bytes. IsListing form bytes n (number + 1) next old new) o
    (λ bytes l. one_more form bytes m n number place len next room block old mid new l here block_is next_is wrote) so_far

-- ---- the end

module _ (form : Form) (m n : Option (List ℕ)) (number place : ℕ) (room : List ℕ) (end : LogEnd) (old mid new : Option (List ℕ)) where
  end_listed : (bytes : List ℕ) → IsListing form bytes m number place old mid → IfSome m (λ rest. IsPart rest n room (parts.End end)) → end ≢ ends.Foreign → Appends mid new (rest_text form number end) → PrintsLog form bytes old new
  end_listed bytes so_far here left wrote =
      let part = rest_of (λ rest. IsPart rest n room (parts.End end)) m so_far.rest so_far.left_is here in
      record {
        blocks = so_far.blocks;
        rest = so_far.rest;
        end = end;
        text = so_far.shown ++ rest_text form number end;
        parts = so_far.text;
        sizes = so_far.sizes;
        is_end = part.1;
        is_left = left;
        is = subst (λ (n : ℕ). IsLogIn form so_far.blocks end (so_far.shown ++ rest_text form n end)) (sym so_far.number_is) (whole_log form so_far.blocks end so_far.shown so_far.are left);
        printed = appends_on old mid new so_far.shown (rest_text form number end) so_far.printed wrote;
      }

  pub all_listed : (o : Option (List ℕ)) → IfSome o (λ bytes. IsListing form bytes m number place old mid) → IfSome m (λ rest. IsPart rest n room (parts.End end)) → (end ≢ ends.Foreign) × Appends mid new (rest_text form number end) → IfSome o (λ bytes. PrintsLog form bytes old new)
  all_listed o so_far here wrote =
      some_weaker (λ bytes. IsListing form bytes m number place old mid) (λ bytes. PrintsLog form bytes old new) o
      (λ bytes l. end_listed bytes l here wrote.0 wrote.1) so_far

-- ---- what is no log

no_records : (blocks : List (List ℕ)) → 0 ≡ length (records blocks) → records blocks ≡ []
no_records [] none = refl
no_records (block ∷ blocks) none = absurd (omega arith)

vain_listed : (form : Form) (bytes : List ℕ) (m n : Option (List ℕ)) (number place : ℕ) (room : List ℕ) (old mid : Option (List ℕ)) → IsListing form bytes m number place old mid → IfSome m (λ rest. IsPart rest n room parts.Vain) → IsListFault bytes (faults.Damaged place)
vain_listed form bytes m n number place room old mid so_far here =
    let vain = rest_of (λ rest. IsPart rest n room parts.Vain) m so_far.rest so_far.left_is here in
    inl (record {
      blocks = so_far.blocks;
      rest = vain.rest;
      text = so_far.text ∙ ap (λ (l : List ℕ). records so_far.blocks ++ l) vain.text;
      sizes = so_far.sizes;
      place_is = so_far.place_is;
      spoilt = vain.none;
    })

pub all_vain : (form : Form) (o m n : Option (List ℕ)) (number place : ℕ) (room : List ℕ) (old mid : Option (List ℕ)) → IfSome o (λ bytes. IsListing form bytes m number place old mid) → IfSome m (λ rest. IsPart rest n room parts.Vain) → IfSome o (λ bytes. IsListFault bytes (faults.Damaged place))
all_vain form o m n number place room old mid so_far here =
    some_weaker (λ bytes. IsListing form bytes m number place old mid) (λ bytes. IsListFault bytes (faults.Damaged place)) o (λ bytes l. vain_listed form bytes m n number place room old mid l here) so_far

-- an end that is none of a log
foreign_listed : (form : Form) (bytes : List ℕ) (m n : Option (List ℕ)) (number place : ℕ) (room : List ℕ) (end : LogEnd) (old mid : Option (List ℕ)) (fault : ListFault) → IsListing form bytes m number place old mid → IfSome m (λ rest. IsPart rest n room (parts.End end)) → EndsInVain end place fault → IsListFault bytes fault
foreign_listed form bytes m n number place room ends.Foreign old mid faults.NoLog so_far here is =
    let part = rest_of (λ rest. IsPart rest n room (parts.End ends.Foreign)) m so_far.rest so_far.left_is here in
    let all : bytes ≡ so_far.rest = so_far.text ∙ ap (λ (l : List ℕ). l ++ so_far.rest) (no_records so_far.blocks (sym is.1 ∙ so_far.place_is)) in
    subst (λ (l : List ℕ). IsClosed l × (IsLogEnd l → ⊥)) (sym all) part
foreign_listed form bytes m n number place room ends.Foreign old mid (faults.Damaged at) so_far here is =
    let part = rest_of (λ rest. IsPart rest n room (parts.End ends.Foreign)) m so_far.rest so_far.left_is here in
    subst (λ (p : ℕ). IsListFault bytes (faults.Damaged p)) (sym is.1.1)
    (inr (record {
      blocks = so_far.blocks;
      rest = so_far.rest;
      text = so_far.text;
      sizes = so_far.sizes;
      some = λ none. is.1.0 (so_far.place_is ∙ ap (λ (l : List (List ℕ)). length (records l)) none);
      place_is = so_far.place_is;
      closed = part.0;
      bad = part.1;
    }))
foreign_listed form bytes m n number place room end old mid faults.WriteFailed so_far here is = tt
foreign_listed form bytes m n number place room ends.Clean old mid faults.NoLog so_far here is = let e = is.0 in absurd (cc e)
foreign_listed form bytes m n number place room ends.Torn old mid faults.NoLog so_far here is = let e = is.0 in absurd (cc e)
foreign_listed form bytes m n number place room ends.Clean old mid (faults.Damaged at) so_far here is = let e = is.0 in absurd (cc e)
foreign_listed form bytes m n number place room ends.Torn old mid (faults.Damaged at) so_far here is = let e = is.0 in absurd (cc e)
foreign_listed form bytes m n number place room end old mid faults.ReadFailed so_far here is = absurd is
foreign_listed form bytes m n number place room end old mid faults.OutOfMemory so_far here is = absurd is

pub all_foreign : {T : Type 0} (form : Form) (o m n : Option (List ℕ)) (number place : ℕ) (room : List ℕ) (end : LogEnd) (old mid : Option (List ℕ)) (r : Result T ListFault) → IfSome o (λ bytes. IsListing form bytes m number place old mid) → IfSome m (λ rest. IsPart rest n room (parts.End end)) → IfErr r (EndsInVain end place) → IfErr r (λ fault. IfSome o (λ bytes. IsListFault bytes fault))
all_foreign form o m n number place room end old mid (Ok x) so_far here is = tt
all_foreign form o m n number place room end old mid (Err fault) so_far here is =
    some_weaker (λ bytes. IsListing form bytes m number place old mid) (λ bytes. IsListFault bytes fault) o (λ bytes l. foreign_listed form bytes m n number place room end old mid fault l here is) so_far

-- a fault that isn't what the bytes are
pub all_outside : (o : Option (List ℕ)) (fault : ListFault) → (fault ≡ faults.WriteFailed) ⊎ (fault ≡ faults.OutOfMemory) → IfSome o (λ bytes. IsListFault bytes fault)
all_outside None fault is = tt
all_outside (Some bytes) fault (inl is) = subst (IsListFault bytes) (sym is) tt
all_outside (Some bytes) fault (inr is) = subst (IsListFault bytes) (sym is) tt

-- ---- what the calls answered

pub read_fails : (o : Option (List ℕ)) → IfSome o (λ bytes. IsListFault bytes faults.ReadFailed)
read_fails None = tt
read_fails (Some bytes) = tt

pub no_memory : (o : Option (List ℕ)) → IfSome o (λ bytes. IsListFault bytes faults.OutOfMemory)
no_memory None = tt
no_memory (Some bytes) = tt

pub end_answered : {T : Type 0} (form : Form) (r : Result T ListFault) (o m n : Option (List ℕ)) (number place : ℕ) (room : List ℕ) (end : LogEnd) (old mid new : Option (List ℕ)) → IfSome o (λ bytes. IsListing form bytes m number place old mid) → IfSome m (λ rest. IsPart rest n room (parts.End end)) → OnOk r ((end ≢ ends.Foreign) × Appends mid new (rest_text form number end)) → OnOk r (IfSome o (λ bytes. PrintsLog form bytes old new))
end_answered form (Ok x) o m n number place room end old mid new so_far here wrote = all_listed form m n number place room end old mid new o so_far here wrote
end_answered form (Err fault) o m n number place room end old mid new so_far here wrote = tt

-- ---- a fault that is handed on

pub refused_listed : {T E : Type 0} {Q : E → Type 0} (r : Result T E) → (e : E) × (r ≡ Err e) × Q e → (P : Type 0) → OnOk r P
refused_listed (Ok x) is P = let p = is.1 in absurd (cc p)
refused_listed (Err e) is P = tt

-- ---- the room

-- after a read into all of it, the room has what was read
pub room_is : (len : ℕ) (read items : List ℕ) → length read ≡ len → take len (read ++ drop (length read) items) ≡ read
room_is len read items whole = take-append-le len read (drop (length read) items) (omega (arith, whole)) ∙ take_all len read (omega (arith, whole))
