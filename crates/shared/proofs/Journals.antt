-- Journals: what they begin with, and whose calls stand in them.
use Rattle.std.proofs.Common.{◌≡◌, ◌≢◌, ℕ, zero, suc, ◌<◌, ◌==◌, List, [], ◌∷◌, ◌++◌, length, cond, ltb, Bool, true, false, Some, None, refl, sym, ap, ◌∙◌, append_assoc, append-nil, eq-eqb, ne_eqb, arith}
use Rattle.std.specs.Prelude.{slice_get}
use Rattle.std.proofs.lemmas.List.Elements.{filter-append}
use Rattle.std.proofs.lemmas.Option.{same_Some}
use Rattle.model.specs.Journal.{JournalEntry, Journal, calls_of, BeginsWithSeen}
use Rattle.shared.specs.Heights.{longer}

pub begins_all : (journal : Journal) → BeginsWithSeen journal journal
begins_all journal = ([], sym (append-nil journal))

pub begins_nothing : (journal : Journal) → BeginsWithSeen journal []
begins_nothing journal = (journal, refl)

pub begins_longer : (journal more seen : Journal) → BeginsWithSeen journal seen → BeginsWithSeen (journal ++ more) seen
begins_longer journal more seen begins = (begins.0 ++ more, ap (λ (j : Journal). j ++ more) begins.1 ∙ append_assoc seen begins.0 more)

-- of two beginnings the longer one is a beginning
begins_either : (journal a b : Journal) (t : Bool) → BeginsWithSeen journal a → BeginsWithSeen journal b → BeginsWithSeen journal (cond t a b)
begins_either journal a b true one other = one
begins_either journal a b false one other = other

pub begins_longer_of : (journal a b : Journal) → BeginsWithSeen journal a → BeginsWithSeen journal b → BeginsWithSeen journal (longer a b)
begins_longer_of journal a b = begins_either journal a b (ltb (length b) (length a))

-- ---- whose call an entry is

of_push : (caller : ℕ) (journal : Journal) (e : JournalEntry) → calls_of caller (journal ++ e ∷ []) ≡ calls_of caller journal ++ cond (e.caller == caller) (e ∷ []) []
of_push caller journal e = filter-append (λ (x : JournalEntry). x.caller == caller) journal (e ∷ [])

pub calls_own : (caller : ℕ) (journal : Journal) (e : JournalEntry) → e.caller ≡ caller → calls_of caller (journal ++ e ∷ []) ≡ calls_of caller journal ++ e ∷ []
calls_own caller journal e own = of_push caller journal e ∙ ap (λ (b : Bool). calls_of caller journal ++ cond b (e ∷ []) []) (eq-eqb e.caller caller own)

pub calls_other : (caller : ℕ) (journal : Journal) (e : JournalEntry) → e.caller ≢ caller → calls_of caller (journal ++ e ∷ []) ≡ calls_of caller journal
calls_other caller journal e other =
    of_push caller journal e ∙ (ap (λ (b : Bool). calls_of caller journal ++ cond b (e ∷ []) []) (ne_eqb e.caller caller other) ∙ append-nil (calls_of caller journal))

-- ---- seats by the numbers of their callers

pub seat_stays : (seats more : List ℕ) (caller by : ℕ) → slice_get seats caller ≡ Some by → slice_get (seats ++ more) caller ≡ Some by
seat_stays [] more caller by at = absurd (let e : None ≡ Some by = at in cc)
seat_stays (x ∷ xs) more zero by at = at
seat_stays (x ∷ xs) more (suc c) by at = seat_stays xs more c by at

pub seat_last : (seats : List ℕ) (by : ℕ) → slice_get (seats ++ by ∷ []) (length seats) ≡ Some by
seat_last [] by = refl
seat_last (x ∷ xs) by = seat_last xs by

pub seat_below : (seats : List ℕ) (caller by : ℕ) → slice_get seats caller ≡ Some by → caller < length seats
seat_below [] caller by at = absurd (let e : None ≡ Some by = at in cc)
seat_below (x ∷ xs) zero by at = omega arith
seat_below (x ∷ xs) (suc c) by at = let h = seat_below xs c by at in omega arith

pub one_seat : (seats : List ℕ) (caller a b : ℕ) → slice_get seats caller ≡ Some a → slice_get seats caller ≡ Some b → a ≡ b
one_seat seats caller a b at bt = same_Some a b (sym at ∙ bt)
