-- How the outputs of owners follow all outputs.
use Rattle.std.proofs.Common.{◌≡◌, ℕ, Bool, true, false, cond, List, Option, Some, None, Result, Ok, Err, refl, sym, ap, subst, ◌∙◌}
use Rattle.std.specs.Prelude.{if◌then◌else◌, nat_eq, bytes_eq, unwrap_or, IfOk}
use Rattle.std.specs.FinMap as finite
use Rattle.std.specs.FinMap.{IsAntisymmetric, nat_cmp-IsAntisymmetric, slice_cmp-IsAntisymmetric}
use Rattle.std.specs.Ordering.{eq_by_cmp, is_eq}
use Rattle.std.specs.Cmp.{IsTotalOrder, Equal-is, tied_itself, unsigned_Decides}
use Rattle.std.proofs.lemmas.Bool.{false_from_ne_true}
use Rattle.std.proofs.lemmas.Cmp.{nat_list_cmp_total}
use Rattle.std.proofs.lemmas.Slice.Eq.{bytes_eq-Decides}
use Rattle.model.specs.Transaction.{Input, Output, input_cmp, address_bytes}
use Rattle.model.specs.Utxo.{Utxo, output_at}
use Rattle.model.proofs.Unspent.{inputs_total, same_pairs, same_from, same_to, at_inserted}
use Rattle.watching.specs.Owned.{owner_cmp, Owned, owned_at, with_owned, IsGiven, only_of, AreOwned}

-- ---- the order of owners

pub owners_total : IsTotalOrder owner_cmp
owners_total = nat_list_cmp_total

pub owners_same : IsAntisymmetric owner_cmp
owners_same = slice_cmp-IsAntisymmetric nat_cmp-IsAntisymmetric

same_owner : (a b : List ℕ) → eq_by_cmp owner_cmp a b ≡ true → a ≡ b
same_owner a b tie = owners_same a b ((Equal-is (owner_cmp a b)).0 tie)

other_owner : (a b : List ℕ) → eq_by_cmp owner_cmp b a ≡ false → bytes_eq a b ≡ false
other_owner a b other = false_from_ne_true (bytes_eq a b) (λ same.
    let is : a ≡ b = (bytes_eq-Decides a b).0 same in
    let tie : eq_by_cmp owner_cmp b a ≡ true = subst (λ (x : List ℕ). eq_by_cmp owner_cmp b x ≡ true) (sym is) (ap is_eq (tied_itself owners_total b)) in
    let clash : true ≡ false = sym tie ∙ other in
    cc)

-- ---- what an owner is given

given_some : (t : Bool) (outputs : Utxo) (old : Option Utxo) → unwrap_or (cond t (Some outputs) old) finite.empty ≡ (if t then outputs else unwrap_or old finite.empty)
given_some true outputs old = refl
given_some false outputs old = refl

pub put_given : (owned : Owned) (owner : List ℕ) (outputs : Utxo) → IsGiven owned owner outputs (finite.insert owned owner outputs)
put_given owned owner outputs other =
    ap (λ (o : Option Utxo). unwrap_or o finite.empty) (finite.get-insert owners_total owned owner outputs other)
    ∙ given_some (eq_by_cmp owner_cmp other owner) outputs (finite.get owned other)

given_none : (t : Bool) (outputs : Utxo) (old : Option Utxo) → outputs ≡ finite.empty → unwrap_or (cond t None old) finite.empty ≡ (if t then outputs else unwrap_or old finite.empty)
given_none true outputs old none = sym none
given_none false outputs old none = refl

pub none_given : (owned : Owned) (owner : List ℕ) (outputs : Utxo) → outputs ≡ finite.empty → IsGiven owned owner outputs (finite.remove owned owner)
none_given owned owner outputs none other =
    ap (λ (o : Option Utxo). unwrap_or o finite.empty) (finite.get-remove owners_total owned owner other)
    ∙ given_none (eq_by_cmp owner_cmp other owner) outputs (finite.get owned other) none

set_is : (owned : Owned) (owner : List ℕ) (outputs : Utxo) (t : Bool) → (t ≡ true → outputs ≡ finite.empty)
    → IsGiven owned owner outputs (if t then finite.remove owned owner else finite.insert owned owner outputs)
set_is owned owner outputs true none = none_given owned owner outputs (none refl)
set_is owned owner outputs false none = put_given owned owner outputs

pub set_given : (owned new : Owned) (owner : List ℕ) (outputs : Utxo) → new ≡ with_owned owned owner outputs → IsGiven owned owner outputs new
set_given owned new owner outputs is =
    subst (IsGiven owned owner outputs) (sym is)
    (set_is owned owner outputs (nat_eq (finite.len outputs) 0) (λ none. finite.empty_of_len outputs ((unsigned_Decides (finite.len outputs) 0).0 none)))

pub set_none : (owned : Owned) (owner : List ℕ) (outputs : Utxo) → outputs ≡ finite.empty → finite.remove owned owner ≡ with_owned owned owner outputs
set_none owned owner outputs none =
    let nothing : finite.len outputs ≡ 0 = ap (λ (u : Utxo). finite.len u) none ∙ finite.len-empty input_cmp Output in
    sym (ap (λ (b : Bool). if b then finite.remove owned owner else finite.insert owned owner outputs) ((unsigned_Decides (finite.len outputs) 0).1 nothing))

pub set_some : (owned : Owned) (owner : List ℕ) (outputs : Utxo) → (outputs ≡ finite.empty → ⊥) → finite.insert owned owner outputs ≡ with_owned owned owner outputs
set_some owned owner outputs some =
    sym (ap (λ (b : Bool). if b then finite.remove owned owner else finite.insert owned owner outputs)
    (false_from_ne_true (nat_eq (finite.len outputs) 0) (λ none. some (finite.empty_of_len outputs ((unsigned_Decides (finite.len outputs) 0).0 none)))))

-- ---- an output more, and an output less

only_less : (owner : List ℕ) (t : Bool) (o : Option Output) → cond t None (only_of owner o) ≡ only_of owner (cond t None o)
only_less owner true o = refl
only_less owner false o = refl

only_more : (owner : List ℕ) (t : Bool) (x : Output) (o : Option Output) → bytes_eq (address_bytes x.address) owner ≡ true → cond t (Some x) (only_of owner o) ≡ only_of owner (cond t (Some x) o)
only_more owner true x o same = sym (ap (λ (b : Bool). if b then Some x else None) same)
only_more owner false x o same = refl

not_of : (owner : List ℕ) (x : Output) → bytes_eq (address_bytes x.address) owner ≡ false → only_of owner (Some x) ≡ None
not_of owner x other = ap (λ (b : Bool). if b then Some x else None) other

others_less : (owner : List ℕ) (t : Bool) (o : Option Output) (x : Output) → (t ≡ true → o ≡ Some x) → only_of owner (Some x) ≡ None → only_of owner o ≡ only_of owner (cond t None o)
others_less owner true o x here none = ap (only_of owner) (here refl) ∙ none
others_less owner false o x here none = refl

others_more : (owner : List ℕ) (t : Bool) (o : Option Output) (x : Output) → (t ≡ true → o ≡ None) → only_of owner (Some x) ≡ None → only_of owner o ≡ only_of owner (cond t (Some x) o)
others_more owner true o x here none = ap (only_of owner) (here refl) ∙ sym none
others_more owner false o x here none = refl

pub none_owned : AreOwned finite.empty finite.empty
none_owned owner input =
    ap (λ (o : Option Utxo). output_at (unwrap_or o finite.empty) input) (finite.get-empty owner_cmp owner)
    ∙ finite.get-empty input_cmp input ∙ ap (only_of owner) (sym (finite.get-empty input_cmp input))

pub less_owned : (owned new : Owned) (all : Utxo) (input : Input) (x : Output) → output_at all input ≡ Some x → AreOwned owned all
    → IsGiven owned (address_bytes x.address) (finite.remove (owned_at owned (address_bytes x.address)) input) new → AreOwned new (finite.remove all input)
less_owned owned new all input x there are given owner q =
    let mine = address_bytes x.address in
    let left : Utxo = finite.remove (owned_at owned mine) input in
    let tie = eq_by_cmp input_cmp q input in
    let removed : output_at (finite.remove all input) q ≡ cond tie None (output_at all q) = finite.get-remove inputs_total all input q in
    ap (λ (u : Utxo). output_at u q) (given owner) ∙
    elim (eq_by_cmp owner_cmp owner mine) as (λ t. eq_by_cmp owner_cmp owner mine ≡ t → output_at (if t then left else owned_at owned owner) q ≡ only_of owner (output_at (finite.remove all input) q)) [
      | true ↦ λ same.
          finite.get-remove inputs_total (owned_at owned mine) input q
          ∙ ap (λ (o : Option Output). cond tie None o) (are mine q)
          ∙ only_less mine tie (output_at all q)
          ∙ ap (only_of mine) (sym removed)
          ∙ ap (λ (o : List ℕ). only_of o (output_at (finite.remove all input) q)) (sym (same_owner owner mine same))
      | false ↦ λ other.
          are owner q
          ∙ others_less owner tie (output_at all q) x (λ here. ap (output_at all) (same_from q input here) ∙ there) (not_of owner x (other_owner mine owner other))
          ∙ ap (only_of owner) (sym removed)
    ] refl

pub more_owned : (owned new : Owned) (all : Utxo) (input : Input) (x : Output) → output_at all input ≡ None → AreOwned owned all
    → IsGiven owned (address_bytes x.address) (finite.insert (owned_at owned (address_bytes x.address)) input x) new → AreOwned new (finite.insert all input x)
more_owned owned new all input x free are given owner q =
    let mine = address_bytes x.address in
    let more : Utxo = finite.insert (owned_at owned mine) input x in
    let tie = eq_by_cmp input_cmp q input in
    let inserted : output_at (finite.insert all input x) q ≡ cond tie (Some x) (output_at all q) = at_inserted all input x q in
    ap (λ (u : Utxo). output_at u q) (given owner) ∙
    elim (eq_by_cmp owner_cmp owner mine) as (λ t. eq_by_cmp owner_cmp owner mine ≡ t → output_at (if t then more else owned_at owned owner) q ≡ only_of owner (output_at (finite.insert all input x) q)) [
      | true ↦ λ same.
          at_inserted (owned_at owned mine) input x q
          ∙ ap (λ (o : Option Output). cond tie (Some x) o) (are mine q)
          ∙ only_more mine tie x (output_at all q) ((bytes_eq-Decides mine mine).1 refl)
          ∙ ap (only_of mine) (sym inserted)
          ∙ ap (λ (o : List ℕ). only_of o (output_at (finite.insert all input x) q)) (sym (same_owner owner mine same))
      | false ↦ λ other.
          are owner q
          ∙ others_more owner tie (output_at all q) x (λ here. ap (output_at all) (same_from q input here) ∙ free) (not_of owner x (other_owner mine owner other))
          ∙ ap (only_of owner) (sym inserted)
    ] refl

-- ---- all outputs

as_was : (t : Bool) (o : Option Output) → (t ≡ true → o ≡ None) → o ≡ cond t None o
as_was true o none = none refl
as_was false o none = refl

-- where nothing stands there, nothing is removed
pub none_removed : (u : Utxo) (input : Input) → output_at u input ≡ None → u ≡ finite.remove u input
none_removed u input none = same_pairs u (finite.remove u input) (λ q.
    as_was (eq_by_cmp input_cmp q input) (output_at u q) (λ here. ap (output_at u) (same_from q input here) ∙ none)
    ∙ sym (finite.get-remove inputs_total u input q))

-- and nothing stands there afterwards
pub removed_free : (u : Utxo) (input : Input) → output_at (finite.remove u input) input ≡ None
removed_free u input = finite.get-remove inputs_total u input input ∙ ap (λ (t : Bool). cond t None (output_at u input)) (same_to input)

either_way : (t : Bool) (x : Output) (o : Option Output) → cond t (Some x) (cond t None o) ≡ cond t (Some x) o
either_way true x o = refl
either_way false x o = refl

-- an output that is removed before another is put in its place
pub removed_before : (u : Utxo) (input : Input) (x : Output) → finite.insert (finite.remove u input) input x ≡ finite.insert u input x
removed_before u input x = same_pairs (finite.insert (finite.remove u input) input x) (finite.insert u input x) (λ q.
    at_inserted (finite.remove u input) input x q
    ∙ ap (λ (o : Option Output). cond (eq_by_cmp input_cmp q input) (Some x) o) (finite.get-remove inputs_total u input q)
    ∙ either_way (eq_by_cmp input_cmp q input) x (output_at u q) ∙ sym (at_inserted u input x q))

-- the same owner, and the same outputs
pub given_as : (old new : Owned) (a b : List ℕ) (u v : Utxo) → a ≡ b → u ≡ v → IsGiven old a u new → IsGiven old b v new
given_as old new a b u v same are given =
    subst (λ (o : List ℕ). IsGiven old o v new) same (subst (λ (w : Utxo). IsGiven old a w new) are given)

-- what is made is the other, too
pub ok_as : {X E : Type 0} (r : Result X E) (a b : X) → a ≡ b → IfOk r (λ x. x ≡ a) → IfOk r (λ x. x ≡ b)
ok_as (Ok x) a b same is = is ∙ same
ok_as (Err e) a b same is = tt

pub ok_map : {X E : Type 0} (r : Result X E) (P Q : X → Type 0) → ((x : X) → P x → Q x) → IfOk r P → IfOk r Q
ok_map (Ok x) P Q follows is = follows x is
ok_map (Err e) P Q follows is = tt
