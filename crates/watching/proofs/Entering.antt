-- The histories of owners.
use Rattle.std.proofs.Common.{◌≡◌, ℕ, zero, suc, ◌<◌, Bool, true, false, cond, List, [], ◌∷◌, ◌++◌, Option, Some, None, refl, sym, ap, ◌∙◌, subst, arith}
use Rattle.std.specs.Prelude.{if◌then◌else◌, nat_eq, unwrap_or}
use Rattle.std.specs.FinMap as finite
use Rattle.std.specs.FinMap.{IsAntisymmetric, nat_cmp-IsAntisymmetric}
use Rattle.std.specs.Ordering.{eq_by_cmp, is_eq, nat_cmp, ordering_then}
use Rattle.std.specs.declared.cmp.Ordering.{Ordering}
use Rattle.std.specs.declared.cmp.Ordering.TheVariants.{Less, Equal, Greater}
use Rattle.std.specs.Cmp.{IsTotalOrder, Equal-is, tied_itself, back_total, unsigned_Decides}
use Rattle.std.proofs.lemmas.Cmp.{nat_cmp_total, on_total, then_total}
use Rattle.std.proofs.lemmas.Bool.{false_from_ne_true}
use Rattle.std.proofs.lemmas.Option.{same_Some}
use Rattle.watching.specs.Owned.{owner_cmp}
use Rattle.watching.specs.Histories.{Inclusion, inclusion_cmp, History, Histories, history_at, NoneEmpty, with_entry, with_entries}
use Rattle.watching.specs.Changes.{restored, with_history}
use Rattle.watching.proofs.Owning.{owners_total, owners_same}
use Rattle.watching.proofs.Changing.{as_it_was, placing_undone}

-- ---- the order of inclusions

pub inclusions_total : IsTotalOrder inclusion_cmp
inclusions_total =
    then_total (on_total (λ (m : Inclusion). m.number) (back_total nat_cmp_total))
    (then_total (on_total (λ (m : Inclusion). m.slot) (back_total nat_cmp_total)) (on_total (λ (m : Inclusion). m.index) (back_total nat_cmp_total)))

both_equal : (r s : Ordering) → ordering_then r s ≡ Equal → (r ≡ Equal) × (s ≡ Equal)
both_equal Less s e = absurd cc
both_equal Equal s e = (refl, e)
both_equal Greater s e = absurd cc

pub inclusions_same : IsAntisymmetric inclusion_cmp
inclusions_same x y e =
    let first = both_equal (nat_cmp y.number x.number) (ordering_then (nat_cmp y.slot x.slot) (nat_cmp y.index x.index)) e in
    let second = both_equal (nat_cmp y.slot x.slot) (nat_cmp y.index x.index) first.1 in
    let number : x.number ≡ y.number = sym (nat_cmp-IsAntisymmetric y.number x.number first.0) in
    let slot : x.slot ≡ y.slot = sym (nat_cmp-IsAntisymmetric y.slot x.slot second.0) in
    let index : x.index ≡ y.index = sym (nat_cmp-IsAntisymmetric y.index x.index second.1) in
    λ i. record { number = number i; slot = slot i; index = index i }

-- ---- an owner's history is set

pub at_history : (hs : Histories) (o : List ℕ) (h : History) (q : List ℕ) → finite.get (with_history hs o h) q ≡ cond (eq_by_cmp owner_cmp q o) (if nat_eq (finite.len h) 0 then None else Some h) (finite.get hs q)
at_history hs o h q =
    elim (nat_eq (finite.len h) 0) as (λ b. finite.get (if b then finite.remove hs o else finite.insert hs o h) q ≡ cond (eq_by_cmp owner_cmp q o) (if b then None else Some h) (finite.get hs q)) [
      | true ↦ finite.get-remove owners_total hs o q
      | false ↦ finite.get-insert owners_total hs o h q
    ]

none_there : (n : ℕ) → nat_eq n 0 ≡ true → n ≡ 0
none_there n h = (unsigned_Decides n 0).0 h

some_there : (n : ℕ) → nat_eq n 0 ≡ false → 0 < n
some_there zero h = absurd cc
some_there (suc n) h = omega arith

not_zero : (n : ℕ) → 0 < n → nat_eq n 0 ≡ false
not_zero n some = false_from_ne_true (nat_eq n 0) (λ none. let is = none_there n none in omega (arith, some, is))

own_is : (r : Option History) → ((h : History) → r ≡ Some h → 0 < finite.len h) → (if nat_eq (finite.len (unwrap_or r finite.empty)) 0 then None else Some (unwrap_or r finite.empty)) ≡ r
own_is None some = ap (λ (n : ℕ). if nat_eq n 0 then None else Some finite.empty) (finite.len-empty inclusion_cmp (List ℕ))
own_is (Some h) some = ap (λ (b : Bool). if b then None else Some h) (not_zero (finite.len h) (some h refl))

pub same_owner : (a b : List ℕ) → eq_by_cmp owner_cmp a b ≡ true → a ≡ b
same_owner a b tie = owners_same a b ((Equal-is (owner_cmp a b)).0 tie)

-- an owner that is given its own history again
own_again : (hs : Histories) (o : List ℕ) → NoneEmpty hs → with_history hs o (history_at hs o) ≡ hs
own_again hs o none = finite.same_map owners_total owners_same (with_history hs o (history_at hs o)) hs (λ q.
    at_history hs o (history_at hs o) q
    ∙ as_it_was (eq_by_cmp owner_cmp q o) (finite.get hs q) _ (finite.get hs q) (λ tie. own_is (finite.get hs o) (none o) ∙ ap (finite.get hs) (sym (same_owner q o tie))) (λ _. refl))

either : {X : Type 0} (t : Bool) (a b r : X) → cond t a (cond t b r) ≡ cond t a r
either true a b r = refl
either false a b r = refl

-- the last one counts
set_twice : (hs : Histories) (o : List ℕ) (h g : History) → with_history (with_history hs o h) o g ≡ with_history hs o g
set_twice hs o h g = finite.same_map owners_total owners_same (with_history (with_history hs o h) o g) (with_history hs o g) (λ q.
    let of_g : Option History = if nat_eq (finite.len g) 0 then None else Some g in
    let of_h : Option History = if nat_eq (finite.len h) 0 then None else Some h in
    at_history (with_history hs o h) o g q
    ∙ ap (λ (r : Option History). cond (eq_by_cmp owner_cmp q o) of_g r) (at_history hs o h q)
    ∙ either (eq_by_cmp owner_cmp q o) of_g of_h (finite.get hs q)
    ∙ sym (at_history hs o g q))

own_set : (h : History) (b : Bool) → (b ≡ true → finite.len h ≡ 0) → unwrap_or (if b then None else Some h) finite.empty ≡ h
own_set h true none = sym (finite.empty_of_len h (none refl))
own_set h false none = refl

pub history_set : (hs : Histories) (o : List ℕ) (h : History) → history_at (with_history hs o h) o ≡ h
history_set hs o h =
    let tie : eq_by_cmp owner_cmp o o ≡ true = ap is_eq (tied_itself owners_total o) in
    ap (λ (r : Option History). unwrap_or r finite.empty) (at_history hs o h o)
    ∙ ap (λ (t : Bool). unwrap_or (cond t (if nat_eq (finite.len h) 0 then None else Some h) (finite.get hs o)) finite.empty) tie
    ∙ own_set h (nat_eq (finite.len h) 0) (none_there (finite.len h))

-- no owner gets an empty one
given_is : (t b : Bool) (h g : History) (r : Option History) → (b ≡ false → 0 < finite.len h) → (r ≡ Some g → 0 < finite.len g) → cond t (if b then None else Some h) r ≡ Some g → 0 < finite.len g
given_is true true h g r some old is = absurd cc
given_is true false h g r some old is = subst (λ (x : History). 0 < finite.len x) (same_Some h g is) (some refl)
given_is false b h g r some old is = old is

pub none_empty_set : (hs : Histories) (o : List ℕ) (h : History) → NoneEmpty hs → NoneEmpty (with_history hs o h)
none_empty_set hs o h none q g is =
    given_is (eq_by_cmp owner_cmp q o) (nat_eq (finite.len h) 0) h g (finite.get hs q) (some_there (finite.len h)) (none q g) (sym (at_history hs o h q) ∙ is)

pub removed_is : (hs : Histories) (o : List ℕ) (h : History) → finite.len h ≡ 0 → finite.remove hs o ≡ with_history hs o h
removed_is hs o h none = sym (ap (λ (b : Bool). if b then finite.remove hs o else finite.insert hs o h) ((unsigned_Decides (finite.len h) 0).1 none))

pub inserted_is : (hs : Histories) (o : List ℕ) (h : History) → (finite.len h ≡ 0 → ⊥) → finite.insert hs o h ≡ with_history hs o h
inserted_is hs o h some = sym (ap (λ (b : Bool). if b then finite.remove hs o else finite.insert hs o h) (false_from_ne_true (nat_eq (finite.len h) 0) (λ none. some (none_there (finite.len h) none))))

pub none_empty_at_first : NoneEmpty finite.empty
none_empty_at_first q g is = absurd (let no : None ≡ Some g = sym (finite.get-empty owner_cmp q) ∙ is in cc)

-- ---- a transaction is entered

same_to : (m : Inclusion) → eq_by_cmp inclusion_cmp m m ≡ true
same_to m = ap is_eq (tied_itself inclusions_total m)

-- a history with a transaction isn't empty
some_entered : (h : History) (m : Inclusion) (id : List ℕ) → nat_eq (finite.len (finite.insert h m id)) 0 ≡ false
some_entered h m id =
    let more = finite.insert h m id in
    false_from_ne_true (nat_eq (finite.len more) 0) (λ none.
    let nothing : more ≡ finite.empty = finite.empty_of_len more (none_there (finite.len more) none) in
    let there : finite.get more m ≡ Some id = finite.get-insert inclusions_total h m id m ∙ ap (λ (t : Bool). cond t (Some id) (finite.get h m)) (same_to m) in
    let clash : Some id ≡ None = sym there ∙ ap (λ (g : History). finite.get g m) nothing ∙ finite.get-empty inclusion_cmp m in
    cc)

pub entered : (m : Inclusion) (id owner : List ℕ) (hs : Histories) → with_history hs owner (finite.insert (history_at hs owner) m id) ≡ with_entry m id owner hs
entered m id owner hs =
    let more = finite.insert (history_at hs owner) m id in
    ap (λ (b : Bool). if b then finite.remove hs owner else finite.insert hs owner more) (some_entered (history_at hs owner) m id)

pub entry_undone : (hs : Histories) (owner : List ℕ) (m : Inclusion) (id : List ℕ) (before : Option (List ℕ)) → NoneEmpty hs → before ≡ finite.get (history_at hs owner) m
    → with_history (with_entry m id owner hs) owner (restored (history_at (with_entry m id owner hs) owner) m before) ≡ hs
entry_undone hs owner m id before none is =
    let h = history_at hs owner in
    let more = finite.insert h m id in
    ap (λ (w : Histories). with_history w owner (restored (history_at w owner) m before)) (sym (entered m id owner hs))
    ∙ ap (λ (g : History). with_history (with_history hs owner more) owner (restored g m before)) (history_set hs owner more)
    ∙ ap (λ (g : History). with_history (with_history hs owner more) owner g) (placing_undone inclusions_total inclusions_same h m id before is)
    ∙ set_twice hs owner more h ∙ own_again hs owner none

as_before : (t : Bool) (id : List ℕ) (r : Option (List ℕ)) → (t ≡ true → r ≡ Some id) → cond t (Some id) r ≡ r
as_before true id r is = sym (is refl)
as_before false id r is = refl

-- an owner whose history has something has that history
its_own : (r : Option History) (m : Inclusion) (id : List ℕ) → finite.get (unwrap_or r finite.empty) m ≡ Some id → r ≡ Some (unwrap_or r finite.empty)
its_own None m id there = absurd (let no : None ≡ Some id = sym (finite.get-empty inclusion_cmp m) ∙ there in cc)
its_own (Some h) m id there = refl

as_held : (t : Bool) (h : History) (r : Option History) → (t ≡ true → r ≡ Some h) → cond t (Some h) r ≡ r
as_held true h r is = sym (is refl)
as_held false h r is = refl

-- what is entered already
pub entered_already : (m : Inclusion) (id owner : List ℕ) (hs : Histories) → finite.get (history_at hs owner) m ≡ Some id → hs ≡ with_entry m id owner hs
entered_already m id owner hs there =
    let h = history_at hs owner in
    let same : finite.insert h m id ≡ h = finite.same_map inclusions_total inclusions_same (finite.insert h m id) h (λ q.
    finite.get-insert inclusions_total h m id q
    ∙ as_before (eq_by_cmp inclusion_cmp q m) id (finite.get h q) (λ tie. ap (finite.get h) (inclusions_same q m ((Equal-is (inclusion_cmp q m)).0 tie)) ∙ there)) in
    let held : finite.insert hs owner h ≡ hs = finite.same_map owners_total owners_same (finite.insert hs owner h) hs (λ q.
    finite.get-insert owners_total hs owner h q
    ∙ as_held (eq_by_cmp owner_cmp q owner) h (finite.get hs q) (λ tie. ap (finite.get hs) (same_owner q owner tie) ∙ its_own (finite.get hs owner) m id there)) in
    sym (ap (finite.insert hs owner) same ∙ held)

pub entries_append : (m : Inclusion) (id : List ℕ) (xs ys : List (List ℕ)) (hs : Histories) → with_entries m id (xs ++ ys) hs ≡ with_entries m id ys (with_entries m id xs hs)
entries_append m id [] ys hs = refl
entries_append m id (x ∷ xs) ys hs = entries_append m id xs ys (with_entry m id x hs)
