-- Each step of a seat keeps the rule of the height.
use Rattle.std.proofs.Common.{◌≡◌, ◌≢◌, ℕ, zero, suc, ◌+◌, List, [], ◌∷◌, ◌++◌, length, set, true, false, Some, refl, sym, ap, ◌∙◌, subst, inl, inr, ⊎_elim, arith}
use Rattle.std.specs.Prelude.{◌⊎◌, slice_get, slice_index, slice_set}
use Rattle.std.proofs.lemmas.List.{length_push}
use mathlib.Core.Option.{some, some-injective, some-ne-none}
use lib.ListN.{get_elem?}
use Rattle.atomic_table.specs.Table.{Me, Allows, Splits, Joins, opening, keeps}
use Rattle.atomic_table.proofs.Lists.{at_set}
use Rattle.model.specs.Signature.{Verifies}
use Rattle.shared.specs.Starts.{Start, network_from}
use Rattle.model.specs.Journal.{JournalEntry, Journal, calls_of, BeginsWithSeen, IsLegalJournal}
use Rattle.shared.specs.Heights.{height_after, Role, Deals, Calls, Carries, Spent, SeatView, first_view, without_right, note_of, with_note, copy_of, with_copy, with_news, spent_view, next_role, has_dealt, dealt_role, new_caller, FitsRole, Fits, IsKept, KnowsCalls, IsLooked, IsCompared, with_entry, IsWritten}
use Rattle.shared.proofs.Journals.{begins_all, begins_nothing, begins_longer, begins_longer_of, calls_own, calls_other, seat_stays, seat_last, seat_below, one_seat}
use Rattle.shared.proofs.Views.{AllFit, off, fits_set, fits_push}

-- ---- the opening

pub begins : {S : Type 0} (verifies : Verifies) (start : Start) → IsLegalJournal (network_from start verifies) []
    → IsKept {S = S} verifies start (opening (length start.opened ∷ []) [] (first_view start))
begins verifies start legal =
    record {
      log = [];
      writer = 0;
      dealer = 0;
      seats = [];
      legal = legal;
      word = refl;
      unknown = λ caller le. refl;
      fits = one;
    }
  where
    one : AllFit start [] 0 0 [] (first_view start ∷ [])
    one zero v at serves =
        subst (Fits start [] 0 0 [] 0) (some-injective _ _ at)
        (record { start_is = refl; seen = begins_nothing []; before = begins_nothing []; right = λ yes. (refl, refl); role = (refl, refl) })
    one (suc by) v at serves = absurd (some-ne-none v (sym at))

-- ---- the right goes by a note

pub lends : {S : Type 0} (verifies : Verifies) (start : Start) (id : ℕ) (v : SeatView) → v.writes ≡ true → (v.role ≡ Spent → ⊥)
    → Splits {S = S} (IsKept verifies start) id v (without_right v) (note_of v)
lends verifies start id v writes serves s kept at =
    let mine = kept.fits id v at serves in
    let views = set s.views id (without_right v) in
    record {
      log = kept.log;
      writer = length views;
      dealer = kept.dealer;
      seats = kept.seats;
      legal = kept.legal;
      word = kept.word;
      unknown = kept.unknown;
      fits = fits_push start kept.log (length views) kept.dealer kept.seats views (note_of v)
          (fits_set start kept.log (length views) kept.dealer kept.seats s.views id (without_right v)
          (λ by u apart was still.
          let fit = kept.fits by u was still in
          record { start_is = fit.start_is; seen = fit.seen; before = fit.before; right = λ yes. absurd (apart ((fit.right yes).0 ∙ sym (mine.right writes).0)); role = fit.role })
          (λ still. record { start_is = mine.start_is; seen = mine.seen; before = mine.before; right = λ yes. absurd (off yes); role = mine.role }))
          (λ still. record { start_is = mine.start_is; seen = mine.seen; before = begins_nothing kept.log; right = λ yes. (refl, (mine.right writes).1); role = tt });
    }

pub takes_in : {S : Type 0} (verifies : Verifies) (start : Start) (id : ℕ) (v : SeatView) (other : ℕ) (note : SeatView) → (v.role ≡ Spent → ⊥) → note.writes ≡ true → (note.role ≡ Spent → ⊥)
    → Joins {S = S} (IsKept verifies start) id v other note (with_note v note) spent_view
takes_in verifies start id v other note serves writes carries s kept at apart there =
    record {
      log = kept.log;
      writer = id;
      dealer = kept.dealer;
      seats = kept.seats;
      legal = kept.legal;
      word = kept.word;
      unknown = kept.unknown;
      fits = fits_set start kept.log id kept.dealer kept.seats (set s.views id w) other spent_view
          (λ by u far now still. ⊎_elim
          (λ (x : (by ≡ id) × (w ≡ u)). subst (λ (y : ℕ × SeatView). Fits start kept.log id kept.dealer kept.seats y.0 y.1) (λ i. (sym x.0 i, x.1 i)) taken)
          (λ (x : (by ≢ id) × (get_elem? s.views by ≡ some u)).
          let fit = kept.fits by u x.1 still in
          record { start_is = fit.start_is; seen = fit.seen; before = fit.before; right = λ yes. absurd (far ((fit.right yes).0 ∙ sym (theirs.right writes).0)); role = fit.role })
          (at_set s.views id by w u now))
          (λ still. absurd (still refl));
    }
  where
    w : SeatView
    w = with_note v note

    elsewhere : ((other ≡ id) × (w ≡ note)) ⊎ ((other ≢ id) × (get_elem? s.views other ≡ some note)) → get_elem? s.views other ≡ some note
    elsewhere (inl here) = absurd (apart here.0)
    elsewhere (inr far) = far.1

    mine : Fits start kept.log kept.writer kept.dealer kept.seats id v
    mine = kept.fits id v at serves

    theirs : Fits start kept.log kept.writer kept.dealer kept.seats other note
    theirs = kept.fits other note (elsewhere (at_set s.views id other w note there)) carries

    taken : Fits start kept.log id kept.dealer kept.seats id w
    taken = record { start_is = mine.start_is; seen = theirs.seen; before = mine.seen; right = λ yes. (refl, (theirs.right writes).1); role = mine.role }

-- ---- a caller gets its number

role_stays : (log : Journal) (dealer : ℕ) (seats : List ℕ) (new by : ℕ) (calls : Journal) (role : Role) → by ≢ dealer → FitsRole log dealer seats by calls role → FitsRole log dealer (seats ++ new ∷ []) by calls role
role_stays log dealer seats new by calls (Deals next) other fits = absurd (other fits.0)
role_stays log dealer seats new by calls (Calls caller) other fits = (seat_stays seats (new ∷ []) caller by fits.0, fits.1)
role_stays log dealer seats new by calls Carries other fits = tt
role_stays log dealer seats new by calls Spent other fits = tt

pub deals : {S : Type 0} (verifies : Verifies) (start : Start) (id : ℕ) (v : SeatView) (next : ℕ) → v.role ≡ Deals next
    → Splits {S = S} (IsKept verifies start) id v (has_dealt v) (new_caller v)
deals verifies start id v next dealing s kept at =
    record {
      log = kept.log;
      writer = kept.writer;
      dealer = kept.dealer;
      seats = seats;
      legal = kept.legal;
      word = kept.word;
      unknown = λ caller above. kept.unknown caller (let n = length_push kept.seats new in omega arith);
      fits = fits_push start kept.log kept.writer kept.dealer seats views (new_caller v)
          (fits_set start kept.log kept.writer kept.dealer seats s.views id (has_dealt v)
          (λ by u apart was still.
          let fit = kept.fits by u was still in
          record { start_is = fit.start_is; seen = fit.seen; before = fit.before; right = fit.right; role = role_stays kept.log kept.dealer kept.seats new by u.calls u.role (λ e. apart (e ∙ sym role.0)) fit.role })
          (λ still. record {
            start_is = mine.start_is;
            seen = mine.seen;
            before = mine.before;
            right = mine.right;
            role = subst (λ (r : Role). FitsRole kept.log kept.dealer seats id v.calls (next_role r)) (sym dealing) (role.0, (let n = role.1 in let l = length_push kept.seats new in omega arith));
          }))
          (λ still. record {
            start_is = mine.start_is;
            seen = mine.seen;
            before = begins_nothing kept.log;
            right = λ yes. absurd (off yes);
            role = subst (λ (r : Role). FitsRole kept.log kept.dealer seats new [] (dealt_role r)) (sym dealing)
                (subst (λ (n : ℕ). slice_get seats n ≡ Some new) (sym role.1) (seat_last kept.seats new), kept.unknown next (let n = role.1 in omega arith));
          });
    }
  where
    views : List SeatView
    views = set s.views id (has_dealt v)

    new : ℕ
    new = length views

    seats : List ℕ
    seats = kept.seats ++ new ∷ []

    serves : v.role ≡ Spent → ⊥
    serves spent = let e : Deals next ≡ Spent = sym dealing ∙ spent in absurd (cc)

    mine : Fits start kept.log kept.writer kept.dealer kept.seats id v
    mine = kept.fits id v at serves

    role : (id ≡ kept.dealer) × (next ≡ length kept.seats)
    role = subst (FitsRole kept.log kept.dealer kept.seats id v.calls) dealing mine.role

-- ---- looks

knows : (log : Journal) (dealer : ℕ) (seats : List ℕ) (by : ℕ) (calls : Journal) (role : Role) → FitsRole log dealer seats by calls role → KnowsCalls role log calls
knows log dealer seats by calls (Deals next) fits = tt
knows log dealer seats by calls (Calls caller) fits = fits.1
knows log dealer seats by calls Carries fits = tt
knows log dealer seats by calls Spent fits = tt

-- the word is what the rule says, and stays
word_is : (words : List ℕ) (height : ℕ) → words ≡ height ∷ [] → slice_index words 0 ≡ height
word_is words height is = ap (λ (ws : List ℕ). slice_index ws 0) is

word_stays : (words : List ℕ) (height : ℕ) → words ≡ height ∷ [] → slice_set words 0 (slice_index words 0) ≡ height ∷ []
word_stays words height is = ap (λ (ws : List ℕ). slice_set ws 0 (slice_index ws 0)) is

pub looks : {S : Type 0} (verifies : Verifies) (start : Start) (slots id : ℕ) (me : Me S SeatView) → (me.0.role ≡ Spent → ⊥)
    → Allows (IsKept verifies start) slots id me 0 (λ n. n) (λ n after. IsLooked verifies me.0 n after.0 × (after.1 ≡ me.1))
looks verifies start slots id me serves s kept homes at fits64 = (
  w,
  keeps,
  tt,
  record {
    log = kept.log;
    writer = kept.writer;
    dealer = kept.dealer;
    seats = kept.seats;
    legal = kept.legal;
    word = word_stays s.words (height_after start kept.log) kept.word;
    unknown = kept.unknown;
    fits = fits_set start kept.log kept.writer kept.dealer kept.seats s.views id w
        (λ by u apart was still. kept.fits by u was still)
        (λ still. record { start_is = mine.start_is; seen = begins_all kept.log; before = mine.before; right = λ yes. ((mine.right yes).0, refl); role = mine.role });
  },
  (
    record {
      same = refl;
      seen = mine.seen;
      legal = subst (λ (g : Start). IsLegalJournal (network_from g verifies) kept.log) (sym mine.start_is) kept.legal;
      height_is = word_is s.words (height_after start kept.log) kept.word ∙ ap (λ (x : Start). height_after x kept.log) (sym mine.start_is);
      calls = knows kept.log kept.dealer kept.seats id me.0.calls me.0.role mine.role;
    },
    refl,
  ),
)
  where
    v : SeatView
    v = me.0

    mine : Fits start kept.log kept.writer kept.dealer kept.seats id v
    mine = kept.fits id v at serves

    w : SeatView
    w = record {
      start = v.start;
      role = v.role;
      writes = v.writes;
      seen = kept.log;
      before = v.before;
      calls = v.calls;
      loads = v.loads + 1;
      last = slice_index s.words 0;
    }

pub compares : {S : Type 0} (verifies : Verifies) (start : Start) (slots id : ℕ) (me : Me S SeatView) → (me.0.role ≡ Spent → ⊥) → me.0.writes ≡ true
    → Allows (IsKept verifies start) slots id me 0 (λ n. n) (λ n after. IsCompared me.0 n after.0 × (after.1 ≡ me.1))
compares verifies start slots id me serves writes s kept homes at fits64 =
    let mine = kept.fits id me.0 at serves in
    let w : SeatView = record me.0 { loads = me.0.loads + 1; last = slice_index s.words 0 } in (
      w,
      keeps,
      tt,
      record {
        log = kept.log;
        writer = kept.writer;
        dealer = kept.dealer;
        seats = kept.seats;
        legal = kept.legal;
        word = word_stays s.words (height_after start kept.log) kept.word;
        unknown = kept.unknown;
        fits = fits_set start kept.log kept.writer kept.dealer kept.seats s.views id w
            (λ by u apart was still. kept.fits by u was still)
            (λ still. record { start_is = mine.start_is; seen = mine.seen; before = mine.before; right = mine.right; role = mine.role });
      },
      (
        record {
          same = refl;
          begins = subst (λ (j : Journal). BeginsWithSeen j me.0.before) (sym (mine.right writes).1) mine.before;
          height_is = word_is s.words (height_after start kept.log) kept.word ∙ (λ i. height_after (sym mine.start_is i) (sym (mine.right writes).1 i));
        },
        refl,
      ),
    )

-- ---- a store

role_after : (log : Journal) (dealer : ℕ) (seats : List ℕ) (by id : ℕ) (calls : Journal) (role : Role) (e : JournalEntry) → by ≢ id → slice_get seats e.caller ≡ Some id → FitsRole log dealer seats by calls role
    → FitsRole (log ++ e ∷ []) dealer seats by calls role
role_after log dealer seats by id calls (Deals next) e apart own fits = fits
role_after log dealer seats by id calls (Calls caller) e apart own fits =
    (fits.0, calls_other caller log e (λ same. apart (one_seat seats caller by id fits.0 (subst (λ (c : ℕ). slice_get seats c ≡ Some id) same own))) ∙ fits.1)
role_after log dealer seats by id calls Carries e apart own fits = tt
role_after log dealer seats by id calls Spent e apart own fits = tt

pub writes_entry : {S : Type 0} (verifies : Verifies) (start : Start) (slots id : ℕ) (me : Me S SeatView) (e : JournalEntry) (new : ℕ) → me.0.writes ≡ true → me.0.role ≡ Calls e.caller
    → IsLegalJournal (network_from start verifies) (me.0.seen ++ e ∷ []) → new ≡ height_after start (me.0.seen ++ e ∷ [])
    → Allows (IsKept verifies start) slots id me 0 (λ n. new) (λ n after. IsWritten e me.0 after.0 × (after.1 ≡ me.1))
writes_entry verifies start slots id me e new writes calling legal height s kept homes at fits64 = (
  w,
  keeps,
  tt,
  record {
    log = log;
    writer = kept.writer;
    dealer = kept.dealer;
    seats = kept.seats;
    legal = subst (λ (j : Journal). IsLegalJournal (network_from start verifies) (j ++ e ∷ [])) whole legal;
    word = ap (λ (ws : List ℕ). slice_set ws 0 new) kept.word ∙ ap (λ (n : ℕ). n ∷ []) (height ∙ ap (λ (j : Journal). height_after start (j ++ e ∷ [])) whole);
    unknown = λ caller above. calls_other caller kept.log e (λ same. let b = seat_below kept.seats e.caller id role.0 in omega arith) ∙ kept.unknown caller above;
    fits = fits_set start log kept.writer kept.dealer kept.seats s.views id w
        (λ by u apart was still.
        let fit = kept.fits by u was still in
        record {
          start_is = fit.start_is;
          seen = begins_longer kept.log (e ∷ []) u.seen fit.seen;
          before = begins_longer kept.log (e ∷ []) u.before fit.before;
          right = λ yes. absurd (apart ((fit.right yes).0 ∙ sym (mine.right writes).0));
          role = role_after kept.log kept.dealer kept.seats by id u.calls u.role e apart role.0 fit.role;
        })
        (λ still. record {
          start_is = mine.start_is;
          seen = subst (BeginsWithSeen log) (sym grown) (begins_all log);
          before = begins_longer kept.log (e ∷ []) v.before mine.before;
          right = λ yes. ((mine.right yes).0, grown);
          role = subst (FitsRole log kept.dealer kept.seats id (v.calls ++ e ∷ [])) (sym calling) (role.0, known);
        });
  },
  ((refl, subst (λ (r : Role). KnowsCalls r (v.seen ++ e ∷ []) (v.calls ++ e ∷ [])) (sym calling) (ap (calls_of e.caller) grown ∙ known)), refl),
)
  where
    v : SeatView
    v = me.0

    serves : v.role ≡ Spent → ⊥
    serves spent = let f : Calls e.caller ≡ Spent = sym calling ∙ spent in absurd (cc)

    mine : Fits start kept.log kept.writer kept.dealer kept.seats id v
    mine = kept.fits id v at serves

    role : (slice_get kept.seats e.caller ≡ Some id) × (calls_of e.caller kept.log ≡ v.calls)
    role = subst (FitsRole kept.log kept.dealer kept.seats id v.calls) calling mine.role

    whole : v.seen ≡ kept.log
    whole = (mine.right writes).1

    log : Journal
    log = kept.log ++ e ∷ []

    grown : v.seen ++ e ∷ [] ≡ log
    grown = ap (λ (j : Journal). j ++ e ∷ []) whole

    known : calls_of e.caller log ≡ v.calls ++ e ∷ []
    known = calls_own e.caller kept.log e refl ∙ ap (λ (j : Journal). j ++ e ∷ []) role.1

    w : SeatView
    w = with_entry v e

-- ---- notes without the right

pub copies : {S : Type 0} (verifies : Verifies) (start : Start) (id : ℕ) (v : SeatView) → (v.role ≡ Spent → ⊥)
    → Splits {S = S} (IsKept verifies start) id v v (copy_of v)
copies verifies start id v serves s kept at =
    let mine = kept.fits id v at serves in
    record {
      log = kept.log;
      writer = kept.writer;
      dealer = kept.dealer;
      seats = kept.seats;
      legal = kept.legal;
      word = kept.word;
      unknown = kept.unknown;
      fits = fits_push start kept.log kept.writer kept.dealer kept.seats (set s.views id v) (copy_of v)
          (fits_set start kept.log kept.writer kept.dealer kept.seats s.views id v
          (λ by u apart was still. kept.fits by u was still)
          (λ still. mine))
          (λ still. record { start_is = mine.start_is; seen = mine.seen; before = begins_nothing kept.log; right = λ yes. absurd (off yes); role = tt });
    }

-- a seat takes a note in that has no right, and fits as it then is
joins_as : {S : Type 0} (verifies : Verifies) (start : Start) (id : ℕ) (v : SeatView) (other : ℕ) (note w : SeatView) → (v.role ≡ Spent → ⊥) → (note.role ≡ Spent → ⊥)
    → ((log : Journal) (writer dealer : ℕ) (seats : List ℕ) → Fits start log writer dealer seats id v → Fits start log writer dealer seats other note → Fits start log writer dealer seats id w)
    → Joins {S = S} (IsKept verifies start) id v other note w spent_view
joins_as verifies start id v other note w serves carries fit s kept at apart there =
    record {
      log = kept.log;
      writer = kept.writer;
      dealer = kept.dealer;
      seats = kept.seats;
      legal = kept.legal;
      word = kept.word;
      unknown = kept.unknown;
      fits = fits_set start kept.log kept.writer kept.dealer kept.seats (set s.views id w) other spent_view
          (λ by u far now still. ⊎_elim
          (λ (x : (by ≡ id) × (w ≡ u)). subst (λ (y : ℕ × SeatView). Fits start kept.log kept.writer kept.dealer kept.seats y.0 y.1) (λ i. (sym x.0 i, x.1 i)) taken)
          (λ (x : (by ≢ id) × (get_elem? s.views by ≡ some u)). kept.fits by u x.1 still)
          (at_set s.views id by w u now))
          (λ still. absurd (still refl));
    }
  where
    elsewhere : ((other ≡ id) × (w ≡ note)) ⊎ ((other ≢ id) × (get_elem? s.views other ≡ some note)) → get_elem? s.views other ≡ some note
    elsewhere (inl here) = absurd (apart here.0)
    elsewhere (inr far) = far.1

    taken : Fits start kept.log kept.writer kept.dealer kept.seats id w
    taken = fit kept.log kept.writer kept.dealer kept.seats (kept.fits id v at serves) (kept.fits other note (elsewhere (at_set s.views id other w note there)) carries)

pub lays : {S : Type 0} (verifies : Verifies) (start : Start) (id : ℕ) (v : SeatView) (other : ℕ) (note : SeatView) → (v.role ≡ Spent → ⊥) → (note.role ≡ Spent → ⊥)
    → Joins {S = S} (IsKept verifies start) id v other note (with_copy v note) spent_view
lays verifies start id v other note serves carries =
    joins_as verifies start id v other note (with_copy v note) serves carries
    (λ log writer dealer seats mine theirs. record { start_is = mine.start_is; seen = mine.seen; before = theirs.seen; right = mine.right; role = mine.role })

pub learns : {S : Type 0} (verifies : Verifies) (start : Start) (id : ℕ) (v : SeatView) (other : ℕ) (note : SeatView) → (v.role ≡ Spent → ⊥) → (note.role ≡ Spent → ⊥) → v.writes ≡ false
    → Joins {S = S} (IsKept verifies start) id v other note (with_news v note) spent_view
learns verifies start id v other note serves carries reads =
    joins_as verifies start id v other note (with_news v note) serves carries
    (λ log writer dealer seats mine theirs. record { start_is = mine.start_is; seen = begins_longer_of log v.seen note.seen mine.seen theirs.seen; before = mine.seen; right = λ yes. absurd (off (sym reads ∙ yes)); role = mine.role })
