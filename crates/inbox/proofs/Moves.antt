-- Each step of a pass keeps the rule of the inbox, and what its looks tell.
use Rattle.std.proofs.Common.{◌≡◌, ◌≢◌, ℕ, zero, suc, ◌<◌, ◌≤◌, List, [], ◌∷◌, ◌++◌, length, set, Some, refl, sym, ap, ◌∙◌, subst, ⊎_elim, append_assoc, append-nil, lt_of_not-le, arith}
use Rattle.std.specs.Prelude.{slice_get}
use Rattle.std.specs.List.{AllByRecursion}
use Rattle.std.proofs.lemmas.List.{length_push}
use mathlib.Core.Option.{some, some-injective, some-ne-none}
use lib.ListN.{get_elem?}
use Rattle.atomic_table.proofs.Lists.{at_set}
use Rattle.crossbeam_queue.specs.Fifo.{Pushes, Pops, Forks, Merges, Learns}
use Rattle.inbox.specs.Arrivals.{Arrival, came_of, BeginsWith, IsToldOf}
use Rattle.inbox.specs.Rule.{Role, Takes, Sends, Carries, Spent, PassView, fresh_view, first_view, with_sent, with_taken, next_role, has_dealt, dealt_role, new_peer, told_by, note_of, as_it_is, with_note, spent_view, FitsRole, Fits, IsKept, IsSent, IsHeldOf, IsDealt, IsTaken, IsAllTaken, HasHeard}
use Rattle.inbox.proofs.Lists.{begins_all, begins_nothing, begins_longer, came_append, came_own, came_other, came_begins, came_of_it, told_longer, told_append, end_stays, end_last, end_below, one_end, positive}
use Rattle.inbox.proofs.Views.{AllFit, fits_set, fits_push}

-- ---- the opening

-- a pass that did nothing
nothing_fits : (log taken : List Arrival) (ends : List ℕ) (by : ℕ) (role : Role) → FitsRole log taken ends by [] [] role → Fits log taken ends by (fresh_view role)
nothing_fits log taken ends by role fits = record { role = fits; mine = begins_nothing taken; told = tt; heard = begins_nothing taken }

pub begins : IsKept [] (first_view ∷ [])
begins =
    record {
      log = [];
      taken = [];
      ends = 0 ∷ [];
      whole = refl;
      nobody = refl;
      later = λ peer le. refl;
      fits = one;
    }
  where
    one : AllFit [] [] (0 ∷ []) (first_view ∷ [])
    one zero v at =
        subst (Fits [] [] (0 ∷ []) 0) (some-injective _ _ at) (nothing_fits [] [] (0 ∷ []) 0 (Takes 1) (refl, refl, refl))
    one (suc by) v at = absurd (some-ne-none v (sym at))

-- ---- a peer gets its number

role_stays : (log taken : List Arrival) (ends : List ℕ) (new by id : ℕ) (sent : List (List ℕ)) (mine : List Arrival) (role : Role) → by ≢ id → slice_get ends 0 ≡ Some id → FitsRole log taken ends by sent mine role
    → FitsRole log taken (ends ++ new ∷ []) by sent mine role
role_stays log taken ends new by id sent mine (Takes next) other taker fits = absurd (other (one_end ends 0 by id fits.0 taker))
role_stays log taken ends new by id sent mine (Sends peer) other taker fits = (fits.0, end_stays ends (new ∷ []) peer by fits.1, fits.2)
role_stays log taken ends new by id sent mine Carries other taker fits = tt
role_stays log taken ends new by id sent mine Spent other taker fits = tt

pub deals : (id : ℕ) (v : PassView) (next : ℕ) → v.role ≡ Takes next → Forks IsKept id v (has_dealt v) (new_peer v)
deals id v next dealing items views kept at =
    record {
      log = kept.log;
      taken = kept.taken;
      ends = ends;
      whole = kept.whole;
      nobody = kept.nobody;
      later = λ peer above. kept.later peer (let n = length_push kept.ends new in omega arith);
      fits = fits_push kept.log kept.taken ends after (new_peer v)
          (fits_set kept.log kept.taken ends views id (has_dealt v)
          (λ by u apart was.
          let fit = kept.fits by u was in
          record { role = role_stays kept.log kept.taken kept.ends new by id u.sent u.taken u.role apart role.0 fit.role; mine = fit.mine; told = fit.told; heard = fit.heard })
          (record {
            role = subst (λ (r : Role). FitsRole kept.log kept.taken ends id v.sent v.taken (next_role r)) (sym dealing)
                (end_stays kept.ends (new ∷ []) 0 id role.0, (let n = role.1 in let l = length_push kept.ends new in omega arith), role.2);
            mine = mine.mine;
            told = mine.told;
            heard = mine.heard;
          }))
          (nothing_fits kept.log kept.taken ends new (dealt_role v.role)
          (subst (λ (r : Role). FitsRole kept.log kept.taken ends new [] [] (dealt_role r)) (sym dealing) (
            (let n = role.1 in let b = end_below kept.ends 0 id role.0 in omega arith),
            subst (λ (n : ℕ). slice_get ends n ≡ Some new) (sym role.1) (end_last kept.ends new),
            sym (kept.later next (let n = role.1 in omega arith)),
          )));
    }
  where
    after : List PassView
    after = set views id (has_dealt v)

    new : ℕ
    new = length after

    ends : List ℕ
    ends = kept.ends ++ new ∷ []

    mine : Fits kept.log kept.taken kept.ends id v
    mine = kept.fits id v at

    role : (slice_get kept.ends 0 ≡ Some id) × (next ≡ length kept.ends) × (v.taken ≡ kept.taken)
    role = subst (FitsRole kept.log kept.taken kept.ends id v.sent v.taken) dealing mine.role

-- ---- notes

told_fits : (log taken : List Arrival) (ends : List ℕ) (by : ℕ) (sent : List (List ℕ)) (mine : List Arrival) (role : Role) → FitsRole log taken ends by sent mine role → AllByRecursion (IsToldOf log) (told_by role sent)
told_fits log taken ends by sent mine (Takes next) fits = tt
told_fits log taken ends by sent mine (Sends peer) fits = (subst (λ (l : List (List ℕ)). BeginsWith l sent) fits.2 (begins_all sent), tt)
told_fits log taken ends by sent mine Carries fits = tt
told_fits log taken ends by sent mine Spent fits = tt

pub tells : (id : ℕ) (v : PassView) → Forks IsKept id v (as_it_is v) (note_of v)
tells id v items views kept at =
    let mine = kept.fits id v at in
    let after = set views id v in
    record {
      log = kept.log;
      taken = kept.taken;
      ends = kept.ends;
      whole = kept.whole;
      nobody = kept.nobody;
      later = kept.later;
      fits = fits_push kept.log kept.taken kept.ends after (note_of v)
          (fits_set kept.log kept.taken kept.ends views id v (λ by u apart was. kept.fits by u was) mine)
          (record {
            role = tt;
            mine = begins_nothing kept.taken;
            told = told_fits kept.log kept.taken kept.ends id v.sent v.taken v.role mine.role;
            heard = mine.mine;
          });
    }

pub hears : (id : ℕ) (v : PassView) (other : ℕ) (note : PassView) → Merges IsKept id v other note (with_note v note) spent_view
hears id v other note items views kept at apart there =
    record {
      log = kept.log;
      taken = kept.taken;
      ends = kept.ends;
      whole = kept.whole;
      nobody = kept.nobody;
      later = kept.later;
      fits = fits_set kept.log kept.taken kept.ends (set views id w) other spent_view
          (λ by u far now. heard by u now)
          (nothing_fits kept.log kept.taken kept.ends other Spent tt);
    }
  where
    w : PassView
    w = with_note v note

    mine : Fits kept.log kept.taken kept.ends id v
    mine = kept.fits id v at

    was : get_elem? views other ≡ some note
    was = ⊎_elim (λ x. absurd (apart x.0)) (λ x. x.1) (at_set views id other w note there)

    theirs : Fits kept.log kept.taken kept.ends other note
    theirs = kept.fits other note was

    heard : AllFit kept.log kept.taken kept.ends (set views id w)
    heard = fits_set kept.log kept.taken kept.ends views id w
        (λ by u far before. kept.fits by u before)
        (record { role = mine.role; mine = mine.mine; told = told_append kept.log v.told note.told mine.told theirs.told; heard = theirs.heard })

-- ---- pushes

role_sent : (log taken : List Arrival) (ends : List ℕ) (by id : ℕ) (sent : List (List ℕ)) (mine : List Arrival) (role : Role) (x : Arrival) → by ≢ id → slice_get ends x.peer ≡ Some id → FitsRole log taken ends by sent mine role
    → FitsRole (log ++ x ∷ []) taken ends by sent mine role
role_sent log taken ends by id sent mine (Takes next) x apart own fits = fits
role_sent log taken ends by id sent mine (Sends peer) x apart own fits =
    (fits.0, fits.1, fits.2 ∙ sym (came_other peer log x (λ same. apart (one_end ends peer by id fits.1 (subst (λ (c : ℕ). slice_get ends c ≡ Some id) same own)))))
role_sent log taken ends by id sent mine Carries x apart own fits = tt
role_sent log taken ends by id sent mine Spent x apart own fits = tt

pub sends : (n id : ℕ) (v : PassView) (x : Arrival) → v.role ≡ Sends x.peer → Pushes IsKept n id v x (IsSent v x)
sends n id v x sending items views room kept at = (
  w,
  record {
    log = log;
    taken = kept.taken;
    ends = kept.ends;
    whole = ap (λ (l : List Arrival). l ++ x ∷ []) kept.whole ∙ append_assoc kept.taken items (x ∷ []);
    nobody = came_other 0 kept.log x (λ none. let p = role.0 in omega arith) ∙ kept.nobody;
    later = λ peer above. came_other peer kept.log x (λ same. let b = end_below kept.ends x.peer id role.1 in omega arith) ∙ kept.later peer above;
    fits = fits_set log kept.taken kept.ends views id w
        (λ by u apart was.
        let fit = kept.fits by u was in
        record {
          role = role_sent kept.log kept.taken kept.ends by id u.sent u.taken u.role x apart role.1 fit.role;
          mine = fit.mine;
          told = told_longer kept.log (x ∷ []) u.told fit.told;
          heard = fit.heard;
        })
        (record {
          role = subst (FitsRole log kept.taken kept.ends id w.sent v.taken) (sym sending)
              (role.0, role.1, ap (λ (l : List (List ℕ)). l ++ x.bytes ∷ []) role.2 ∙ sym (came_own x.peer kept.log x refl));
          mine = mine.mine;
          told = told_longer kept.log (x ∷ []) v.told mine.told;
          heard = mine.heard;
        });
  },
  refl,
)
  where
    w : PassView
    w = with_sent v x.bytes

    log : List Arrival
    log = kept.log ++ x ∷ []

    mine : Fits kept.log kept.taken kept.ends id v
    mine = kept.fits id v at

    role : (0 < x.peer) × (slice_get kept.ends x.peer ≡ Some id) × (v.sent ≡ came_of x.peer kept.log)
    role = subst (FitsRole kept.log kept.taken kept.ends id v.sent v.taken) sending mine.role

held_of : (log taken items : List Arrival) (ends : List ℕ) (by : ℕ) (sent : List (List ℕ)) (mine : List Arrival) (role : Role) → log ≡ taken ++ items → FitsRole log taken ends by sent mine role → IsHeldOf role sent items
held_of log taken items ends by sent mine (Takes next) whole fits = tt
held_of log taken items ends by sent mine (Sends peer) whole fits = (came_of peer taken, fits.2 ∙ (ap (came_of peer) whole ∙ came_append peer taken items))
held_of log taken items ends by sent mine Carries whole fits = tt
held_of log taken items ends by sent mine Spent whole fits = tt

pub finds_full : (id : ℕ) (v : PassView) → Learns IsKept id v (IsHeldOf v.role v.sent)
finds_full id v items views kept at = held_of kept.log kept.taken items kept.ends id v.sent v.taken v.role kept.whole (kept.fits id v at).role

-- ---- pops

role_taken : (log taken : List Arrival) (ends : List ℕ) (by id : ℕ) (sent : List (List ℕ)) (mine : List Arrival) (role : Role) (x : Arrival) → by ≢ id → slice_get ends 0 ≡ Some id → FitsRole log taken ends by sent mine role
    → FitsRole log (taken ++ x ∷ []) ends by sent mine role
role_taken log taken ends by id sent mine (Takes next) x apart taker fits = absurd (apart (one_end ends 0 by id fits.0 taker))
role_taken log taken ends by id sent mine (Sends peer) x apart taker fits = fits
role_taken log taken ends by id sent mine Carries x apart taker fits = tt
role_taken log taken ends by id sent mine Spent x apart taker fits = tt

pub takes : (id : ℕ) (v : PassView) (next : ℕ) → v.role ≡ Takes next → Pops IsKept id v (IsTaken v)
takes id v next taking x items views kept at = (
  w,
  record {
    log = kept.log;
    taken = taken;
    ends = kept.ends;
    whole = kept.whole ∙ sym (append_assoc kept.taken (x ∷ []) items);
    nobody = kept.nobody;
    later = kept.later;
    fits = fits_set kept.log taken kept.ends views id w
        (λ by u apart was.
        let fit = kept.fits by u was in
        record {
          role = role_taken kept.log kept.taken kept.ends by id u.sent u.taken u.role x apart role.0 fit.role;
          mine = begins_longer kept.taken (x ∷ []) u.taken fit.mine;
          told = fit.told;
          heard = begins_longer kept.taken (x ∷ []) u.heard fit.heard;
        })
        (record {
          role = subst (FitsRole kept.log taken kept.ends id v.sent w.taken) (sym taking) (role.0, role.1, grown);
          mine = subst (λ (l : List Arrival). BeginsWith l w.taken) grown (begins_all w.taken);
          told = mine.told;
          heard = begins_longer kept.taken (x ∷ []) v.heard mine.heard;
        });
  },
  (refl, subst (λ (r : Role). IsDealt r x.peer) (sym taking) (positive x.peer not_nobody, subst (λ (n : ℕ). x.peer < n) (sym role.1) (lt_of_not-le not_later))),
)
  where
    w : PassView
    w = with_taken v x

    taken : List Arrival
    taken = kept.taken ++ x ∷ []

    mine : Fits kept.log kept.taken kept.ends id v
    mine = kept.fits id v at

    role : (slice_get kept.ends 0 ≡ Some id) × (next ≡ length kept.ends) × (v.taken ≡ kept.taken)
    role = subst (FitsRole kept.log kept.taken kept.ends id v.sent v.taken) taking mine.role

    grown : v.taken ++ x ∷ [] ≡ kept.taken ++ x ∷ []
    grown = ap (λ (l : List Arrival). l ++ x ∷ []) role.2

    not_nobody : x.peer ≡ 0 → ⊥
    not_nobody zero_is = came_of_it kept.taken x items (ap (λ (p : ℕ). came_of p (kept.taken ++ x ∷ items)) zero_is ∙ (ap (came_of 0) (sym kept.whole) ∙ kept.nobody))

    not_later : length kept.ends ≤ x.peer → ⊥
    not_later above = came_of_it kept.taken x items (ap (came_of x.peer) (sym kept.whole) ∙ kept.later x.peer above)

pub finds_empty : (id : ℕ) (v : PassView) (next : ℕ) → v.role ≡ Takes next → Learns IsKept id v (IsAllTaken v)
finds_empty id v next taking items views kept at none =
    let mine = kept.fits id v at in
    let role = subst (FitsRole kept.log kept.taken kept.ends id v.sent v.taken) taking mine.role in
    let all : kept.log ≡ v.taken = kept.whole ∙ (ap (λ (l : List Arrival). kept.taken ++ l) none ∙ (append-nil kept.taken ∙ sym role.2)) in
    subst (λ (l : List Arrival). AllByRecursion (IsToldOf l) v.told) all mine.told

-- ---- a look after a note

has_heard : (log taken items heard : List Arrival) (ends : List ℕ) (by : ℕ) (sent : List (List ℕ)) (mine : List Arrival) (role : Role) → log ≡ taken ++ items → BeginsWith taken heard → FitsRole log taken ends by sent mine role → HasHeard role sent heard
has_heard log taken items heard ends by sent mine (Takes next) whole starts fits = tt
has_heard log taken items heard ends by sent mine (Sends peer) whole starts fits =
    subst (λ (l : List (List ℕ)). BeginsWith l (came_of peer heard)) (sym fits.2)
    (came_begins peer log heard (subst (λ (l : List Arrival). BeginsWith l heard) (sym whole) (begins_longer taken items heard starts)))
has_heard log taken items heard ends by sent mine Carries whole starts fits = tt
has_heard log taken items heard ends by sent mine Spent whole starts fits = tt

pub compares : (id : ℕ) (v : PassView) → Learns IsKept id v (λ items. HasHeard v.role v.sent v.heard)
compares id v items views kept at =
    let fit = kept.fits id v at in
    has_heard kept.log kept.taken items v.heard kept.ends id v.sent v.taken v.role kept.whole fit.heard fit.role
