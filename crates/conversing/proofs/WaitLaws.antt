-- Notices to those who wait, place by place.
use Rattle.std.proofs.Common.{◌≡◌, ◌≢◌, ◌⊎◌, inl, inr, ℕ, zero, suc, ◌+◌, ◌≤◌, Bool, true, false, cond, is_some, List, [], ◌∷◌, ◌++◌, Option, None, Some, length, set, length-set, replicate, refl, sym, ◌∙◌, ap, subst, arith, append-nil, option_to_list, MatchOption, OnSome, IfSome}
use Rattle.std.proofs.lemmas.Option.{none-some, same_Some}
use Rattle.std.proofs.lemmas.Bool.{false≢true}
use Rattle.conversing.specs.declared.station.Notice.{Notice}
use Rattle.conversing.specs.Waiting.{WaitsAt, IsQuietBelow, IsQuiet, HasNotice, NobodyIsForgotten, OnlyWhoWaited, TellsNotice, Told}

-- where nobody waits, nobody does at a place
pub nobody_waits : (n place : ℕ) → WaitsAt (replicate n false) place → ⊥
nobody_waits zero place here = none-some true here
nobody_waits (suc n) zero here = false≢true (same_Some false true here)
nobody_waits (suc n) (suc place) here = nobody_waits n place here

-- who waits after one has left waited before, at another place
pub still_waits : (waits : List Bool) (place other : ℕ) → WaitsAt (set waits place false) other → (other ≢ place) × WaitsAt waits other
still_waits [] place other here = absurd (none-some true here)
still_waits (w ∷ ws) zero zero here = absurd (false≢true (same_Some false true here))
still_waits (w ∷ ws) zero (suc other) here = (λ e. absurd (omega arith), here)
still_waits (w ∷ ws) (suc place) zero here = (λ e. absurd (omega arith), here)
still_waits (w ∷ ws) (suc place) (suc other) here =
    let it = still_waits ws place other here in
    (λ e. it.0 (omega arith), it.1)

-- who waits at another place waits still
pub waits_on : (waits : List Bool) (place other : ℕ) (v : Bool) → other ≢ place → WaitsAt waits other → WaitsAt (set waits place v) other
waits_on [] place other v else' here = here
waits_on (w ∷ ws) zero zero v else' here = absurd (else' refl)
waits_on (w ∷ ws) zero (suc other) v else' here = here
waits_on (w ∷ ws) (suc place) zero v else' here = here
waits_on (w ∷ ws) (suc place) (suc other) v else' here = waits_on ws place other v (λ e. else' (ap (λ (n : ℕ). suc n) e)) here

-- at this place or at another
here_or_not : (place other : ℕ) → (other ≡ place) ⊎ (other ≢ place)
here_or_not zero zero = inl refl
here_or_not zero (suc other) = inr (λ e. absurd (omega arith))
here_or_not (suc place) zero = inr (λ e. absurd (omega arith))
here_or_not (suc place) (suc other) = elim (here_or_not place other) [
  | inl e ↦ inl (ap (λ (n : ℕ). suc n) e)
  | inr e ↦ inr (λ f. e (omega arith))
]

has_more : (place : ℕ) (notices : List Notice) (more : List Notice) → HasNotice place notices → HasNotice place (notices ++ more)
has_more place (n ∷ ns) more (inl e) = inl e
has_more place (n ∷ ns) more (inr h) = inr (has_more place ns more h)
has_more place [] more h = absurd h

has_last : (place : ℕ) (notices : List Notice) (notice : Notice) → notice.place ≡ place → HasNotice place (notices ++ notice ∷ [])
has_last place [] notice e = inl e
has_last place (n ∷ ns) notice e = inr (has_last place ns notice e)

one_more_waited : (before : List Bool) (notices : List Notice) (notice : Notice) → OnlyWhoWaited before notices → WaitsAt before notice.place → OnlyWhoWaited before (notices ++ notice ∷ [])
one_more_waited before [] notice all here = (here, tt)
one_more_waited before (n ∷ ns) notice all here = (all.0, one_more_waited before ns notice all.1 here)

module _ {S : Type 0} (has_news : S → ℕ → Bool) (tells : S → ℕ → S → List ℕ → Type 0) where
  one_more_told : (before mid after : S) (notices : List Notice) (notice : Notice) → Told tells before notices mid → TellsNotice tells mid notice after → Told tells before (notices ++ notice ∷ []) after
  one_more_told before mid after [] notice so_far step = (after, subst (λ (s : S). TellsNotice tells s notice after) so_far step, refl)
  one_more_told before mid after (n ∷ ns) notice so_far step = (so_far.0, so_far.1, one_more_told so_far.0 mid after ns notice so_far.2 step)

  -- what was done at the places so far
  pub record IsDoneBelow (many : ℕ) (start now : S) (before waits : List Bool) (notices : List Notice) : Type 0 where
    pub quiet : IsQuietBelow many (has_news now) waits
    pub length_is : length waits ≡ length before
    pub waited : (place : ℕ) → WaitsAt waits place → WaitsAt before place
    pub forgotten : NobodyIsForgotten before waits notices
    pub only : OnlyWhoWaited before notices
    pub told : Told tells start notices now

  pub nothing_done : (start : S) (before : List Bool) (notices : List Notice) → notices ≡ [] → IsDoneBelow 0 start start before before notices
  nothing_done start before notices none = rw none (record {
    quiet = λ place below. absurd (omega arith);
    length_is = refl;
    waited = λ place here. here;
    forgotten = λ place here. inl here;
    only = tt;
    told = refl;
  })

  -- at one place more
  pub done_more : (place : ℕ) (start mid now : S) (before waits waits' : List Bool) (notices notices' : List Notice) (notice : Option Notice)
      → IsDoneBelow place start mid before waits notices
      → (WaitsAt waits' place → has_news now place ≡ false)
      → ((other : ℕ) → other ≢ place → has_news now other ≡ has_news mid other)
      → waits' ≡ cond (is_some notice) (set waits place false) waits
      → OnSome notice (WaitsAt waits place)
      → IfSome notice (λ n. n.place ≡ place)
      → MatchOption notice (now ≡ mid) (λ n. TellsNotice tells mid n now)
      → notices' ≡ notices ++ option_to_list notice
      → IsDoneBelow (place + 1) start now before waits' notices'
  done_more place start mid now before waits waits' notices notices' None so_far quiet others is was at_place told put =
      subst (λ (ns : List Notice). IsDoneBelow (place + 1) start now before waits' ns) (sym (put ∙ append-nil notices)) (rw is (record {
        quiet = λ other below here. elim (here_or_not place other) [
          | inl e ↦ subst (λ (p : ℕ). has_news now p ≡ false) (sym e) (quiet (subst (λ (ws : List Bool). WaitsAt ws place) (sym is) (subst (WaitsAt waits) e here)))
          | inr e ↦ others other e ∙ so_far.quiet other (omega arith) here
        ];
        length_is = so_far.length_is;
        waited = so_far.waited;
        forgotten = so_far.forgotten;
        only = so_far.only;
        told = subst (Told tells start notices) (sym told) so_far.told;
      }))
  done_more place start mid now before waits waits' notices notices' (Some notice) so_far quiet others is was at_place told put =
      subst (λ (ns : List Notice). IsDoneBelow (place + 1) start now before waits' ns) (sym put) (rw is (record {
        quiet = λ other below here.
            let (ne, waited) = still_waits waits place other here in
            others other ne ∙ so_far.quiet other (omega arith) waited;
        length_is = length-set waits place false ∙ so_far.length_is;
        waited = λ other here. so_far.waited other (still_waits waits place other here).1;
        forgotten = λ other here. elim (so_far.forgotten other here) [
          | inl waiting ↦ elim (here_or_not place other) [
            | inl e ↦ inr (has_last other notices notice (at_place ∙ sym e))
            | inr e ↦ inl (waits_on waits place other false e waiting)
          ]
          | inr told ↦ inr (has_more other notices (notice ∷ []) told)
        ];
        only = one_more_waited before notices notice so_far.only (so_far.waited notice.place (subst (WaitsAt waits) (sym at_place) was));
        told = one_more_told start mid now notices notice so_far.told told;
      }))

  -- what holds for as many places as there are holds for more
  pub all_done : (many : ℕ) (start now : S) (before waits : List Bool) (notices : List Notice) → length before ≤ many → IsDoneBelow many start now before waits notices → IsQuiet (has_news now) waits
  all_done many start now before waits notices past done = λ place below here. done.quiet place (omega (arith, done.length_is)) here

  -- one who asks: told, he waits no longer; and else there is nothing
  pub quiet_without : (old new : S) (waits : List Bool) (place : ℕ) → IsQuiet (has_news old) waits → ((other : ℕ) → other ≢ place → has_news new other ≡ has_news old other) → IsQuiet (has_news new) (set waits place false)
  quiet_without old new waits place quiet others = λ other below here.
      let (ne, waited) = still_waits waits place other here in
      others other ne ∙ quiet other (omega (arith, length-set waits place false)) waited
