-- Who holds an asset, told owner by owner.
use Rattle.std.proofs.Common.{◌≡◌, ℕ, ◌+◌, ℤ, pos, ◌+ℤ◌, Bool, true, false, cond, not, List, [], ◌∷◌, ◌++◌, map, Option, Some, None, refl, sym, ap, subst, ◌∙◌, to_z, of_z, arith, is_some}
use Rattle.std.specs.Prelude.{T, ◌<◌, ◌≢◌, filter, filter_map, nat_eq, bytes_eq, unwrap_or, if◌then◌else◌, Contains}
use Rattle.std.specs.List.{AllByRecursion, cons_option}
use Rattle.std.specs.List.Sorted.{IsStrictlySortedBy}
use Rattle.std.specs.Int.RustNames.{unsigned_abs}
use Rattle.std.specs.Cmp.{unsigned_Decides, Equal-is, tied_itself}
use Rattle.std.specs.Ordering.{eq_by_cmp, is_eq, is_lt}
use Rattle.std.specs.declared.cmp.Ordering.{Ordering}
use Rattle.std.specs.declared.cmp.Ordering.TheVariants.{Less}
use Rattle.std.specs.FinMap as finite
use Rattle.std.specs.FinMap.{find, is_sorted}
use Rattle.std.specs.FinMap.Entries.{below_all, is_some-find}
use Rattle.std.proofs.lemmas.Bool.{false_from_ne_true}
use Rattle.std.proofs.lemmas.Int.{to_z-of_z}
use Rattle.std.proofs.lemmas.List.{nil_from_length}
use Rattle.std.proofs.lemmas.List.Elements.{All-from_recursion}
use Rattle.std.proofs.lemmas.List.Kept.{IsStrictlySortedBy-filter}
use Rattle.std.proofs.lemmas.Map.Views.{Contains-from_any}
use Rattle.std.proofs.lemmas.Slice.Eq.{bytes_eq-Decides}
use mir.Syntax.{w128}
use mir.Val.{SFits}
use Rattle.model.specs.Value.{Asset, Ada, Named, Token, Policy, Value, amount_of, named_amount, policy_amount}
use Rattle.model.specs.Transaction.{Input, Output, input_cmp, address_bytes}
use Rattle.model.specs.Utxo.{Utxo, outputs_of, sum_of}
use Rattle.model.proofs.Lists.{contains_filter}
use Rattle.model.proofs.UtxoSums.{first, second, less}
use Rattle.utxo_rules.specs.Entries.{has_address, pairs_with}
use Rattle.watching.specs.Histories.{owner_of}
use Rattle.watching.specs.Owned.{owner_cmp, Owned, AreOwned}
use Rattle.watching.specs.Balances.{outputs_of_owner}
use Rattle.watching.specs.Holders.{held_by, Holds, owners_of_amounts, AreHolders}
use Rattle.watching.specs.HoldersTold.{much_in, holder_with, holders_among}
use Rattle.watching.proofs.Owning.{owners_total, owners_same}
use Rattle.watching.proofs.Sifted.{owner_entries}

-- ---- one owner

pub amount_is : (sum is : ℤ) (amount : ℕ) → SFits w128 sum → amount ≡ unsigned_abs (to_z w128 (of_z w128 sum)) → sum ≡ is → amount ≡ unsigned_abs is
amount_is sum is amount fits abs same = abs ∙ ap unsigned_abs (to_z-of_z w128 sum fits ∙ same)

pub told_none : (asset : Asset) (outputs : List Output) → much_in asset outputs ≡ 0 → None ≡ holder_with asset outputs
told_none asset [] none = refl
told_none asset (o ∷ os) none =
    sym (ap (λ (b : Bool). if b then None else Some (owner_of o, much_in asset (o ∷ os))) ((unsigned_Decides (much_in asset (o ∷ os)) 0).1 none))

some_there : (asset : Asset) (o : Output) (os : List Output) (amount : ℕ) → amount ≡ much_in asset (o ∷ os) → (amount ≡ 0 → ⊥) → Some (owner_of o, amount) ≡ holder_with asset (o ∷ os)
some_there asset o os amount is some =
    let much = much_in asset (o ∷ os) in
    ap (λ (n : ℕ). Some (owner_of o, n)) is
    ∙ sym (ap (λ (b : Bool). if b then None else Some (owner_of o, much)) (false_from_ne_true (nat_eq much 0) (λ none. some (is ∙ (unsigned_Decides much 0).0 none))))

pub told_some : (asset : Asset) (o : Output) (os outputs : List Output) (amount : ℕ) → outputs ≡ o ∷ os → amount ≡ much_in asset outputs → (amount ≡ 0 → ⊥) → Some (owner_of o, amount) ≡ holder_with asset outputs
told_some asset o os outputs amount are is some =
    some_there asset o os amount (is ∙ ap (much_in asset) are) some ∙ ap (holder_with asset) (sym are)

-- ---- one after the other

-- who was told, and who is still to be told, are all of them
abbrev pub IsPartTold : Asset → List (List ℕ × Utxo) → List (List ℕ × ℕ) → List (List ℕ × Utxo) → Type 0
IsPartTold asset pairs told rest =
    told ++ filter_map (λ e. holder_with asset (outputs_of e.1)) rest ≡ filter_map (λ e. holder_with asset (outputs_of e.1)) pairs

-- ---- no sum is below nothing

abbrev pub IsWhole : ℤ → Type 0
IsWhole z = (n : ℕ) × (z ≡ pos n)

both_whole : (y z : ℤ) → IsWhole y → IsWhole z → IsWhole (y +ℤ z)
both_whole y z a b = (a.0 + b.0, ap (λ (x : ℤ). x +ℤ z) a.1 ∙ ap (λ (x : ℤ). pos a.0 +ℤ x) b.1)

pub if_whole : (b : Bool) (z : ℤ) → IsWhole z → IsWhole (if b then z else pos 0)
if_whole true z whole = whole
if_whole false z whole = (0, refl)

pub named_whole : (name : List ℕ) (ts : List (Token ℕ)) → IsWhole (named_amount pos name ts)
named_whole name [] = (0, refl)
named_whole name (t ∷ ts) = both_whole _ _ (if_whole (bytes_eq name t.name) (pos t.quantity) (t.quantity, refl)) (named_whole name ts)

pub policy_whole : (policy name : List ℕ) (ps : List (Policy ℕ)) → IsWhole (policy_amount pos policy name ps)
policy_whole policy name [] = (0, refl)
policy_whole policy name (p ∷ ps) = both_whole _ _ (if_whole (bytes_eq policy p.id) (named_amount pos name p.tokens) (named_whole name p.tokens)) (policy_whole policy name ps)

amount_whole : (asset : Asset) (value : Value) → IsWhole (amount_of asset value)
amount_whole Ada value = (value.coin, refl)
amount_whole (Named policy name) value = policy_whole policy name value.assets

sum_whole : (asset : Asset) (os : List Output) → IsWhole (sum_of asset os)
sum_whole asset [] = (0, refl)
sum_whole asset (o ∷ os) = both_whole _ _ (amount_whole asset o.value) (sum_whole asset os)

much_is : (asset : Asset) (os : List Output) → sum_of asset os ≡ pos (much_in asset os)
much_is asset os = let whole = sum_whole asset os in whole.1 ∙ ap pos (sym (ap unsigned_abs whole.1))

-- ---- owners instead of their outputs

-- how much an owner holds, and the owner where it holds some
abbrev much_by : Asset → Utxo → (owner : List ℕ) → ℕ
much_by asset all owner = much_in asset (outputs_of_owner owner all)

abbrev holder_if : (none : Bool) → (owner : List ℕ) → ℕ → Option (List ℕ × ℕ)
holder_if none owner much = if none then None else Some (owner, much)

abbrev holder_by : Asset → Utxo → (owner : List ℕ) → Option (List ℕ × ℕ)
holder_by asset all owner = holder_if (nat_eq (much_by asset all owner) 0) owner (much_by asset all owner)

-- outputs of an owner tell whose they are
told_by : (asset : Asset) (owner : List ℕ) (ps : List (Input × Output)) →
    let os = map (λ (p : Input × Output). p.1) (pairs_with owner ps) in
    holder_with asset os ≡ holder_if (nat_eq (much_in asset os) 0) owner (much_in asset os)
told_by asset owner [] = refl
told_by asset owner (p ∷ ps) =
    let left = pairs_with owner ps in
    elim (has_address owner p) as (λ b. has_address owner p ≡ b →
    let os = map (λ (q : Input × Output). q.1) (cond b (p ∷ left) left) in
    holder_with asset os ≡ holder_if (nat_eq (much_in asset os) 0) owner (much_in asset os)) [
      | true ↦ λ is.
          let much = much_in asset (p.1 ∷ map (λ (q : Input × Output). q.1) left) in
          ap (λ (o : List ℕ). holder_if (nat_eq much 0) o much) ((bytes_eq-Decides (address_bytes p.1.address) owner).0 is)
      | false ↦ λ other. told_by asset owner ps
    ] refl

-- an owner that stands first is none of the later ones
none_below : (q : List ℕ) (es : List (List ℕ × Utxo)) → T (below_all owner_cmp q es) → find owner_cmp q es ≡ None
none_below q [] h = refl
none_below q (e ∷ es) h =
    ap (λ (r : Ordering). cond (is_eq r) (Some e.1) (find owner_cmp q es)) (less (owner_cmp q e.0) (first (is_lt (owner_cmp q e.0)) (below_all owner_cmp q es) h))
    ∙ none_below q es (second (is_lt (owner_cmp q e.0)) (below_all owner_cmp q es) h)

-- these are the outputs of each owner that is found
abbrev AreTheirs : (all : Utxo) → List (List ℕ × Utxo) → Type 0
AreTheirs all es = (owner : List ℕ) (outputs : Utxo) → find owner_cmp owner es ≡ Some outputs → outputs_of outputs ≡ outputs_of_owner owner all

first_found : (e : List ℕ × Utxo) (es : List (List ℕ × Utxo)) → find owner_cmp e.0 (e ∷ es) ≡ Some e.1
first_found e es = ap (λ (r : Ordering). cond (is_eq r) (Some e.1) (find owner_cmp e.0 es)) (tied_itself owners_total e.0)

later_found : (e : List ℕ × Utxo) (es : List (List ℕ × Utxo)) (owner : List ℕ) (outputs : Utxo) → T (is_sorted owner_cmp (e ∷ es)) → find owner_cmp owner es ≡ Some outputs → find owner_cmp owner (e ∷ es) ≡ Some outputs
later_found e es owner outputs h found =
    elim (eq_by_cmp owner_cmp owner e.0) as (λ t. eq_by_cmp owner_cmp owner e.0 ≡ t → cond t (Some e.1) (find owner_cmp owner es) ≡ Some outputs) [
      | true ↦ λ tie.
          let is : owner ≡ e.0 = owners_same owner e.0 ((Equal-is (owner_cmp owner e.0)).0 tie) in
          let missed : find owner_cmp owner es ≡ None = ap (λ (q : List ℕ). find owner_cmp q es) is ∙ none_below e.0 es (first (below_all owner_cmp e.0 es) (is_sorted owner_cmp es) h) in
          let clash : None ≡ Some outputs = sym missed ∙ found in
          cc
      | false ↦ λ apart. found
    ] refl

by_owners : (asset : Asset) (all : Utxo) (es : List (List ℕ × Utxo)) → T (is_sorted owner_cmp es) → AreTheirs all es
    → filter_map (λ e. holder_with asset (outputs_of e.1)) es ≡ filter_map (holder_by asset all) (map (λ e. e.0) es)
by_owners asset all [] h are = refl
by_owners asset all (e ∷ es) h are =
    let rest = filter_map (λ (e : List ℕ × Utxo). holder_with asset (outputs_of e.1)) es in
    ap (λ (o : Option (List ℕ × ℕ)). cons_option o rest) (ap (holder_with asset) (are e.0 e.1 (first_found e es)) ∙ told_by asset e.0 (finite.entries all))
    ∙ ap (cons_option (holder_by asset all e.0)) (by_owners asset all es (second (below_all owner_cmp e.0 es) (is_sorted owner_cmp es) h) (λ owner outputs found. are owner outputs (later_found e es owner outputs h found)))

-- ---- their order, their amounts, and that none is left out

all_below : (q : List ℕ) (es : List (List ℕ × Utxo)) → T (below_all owner_cmp q es) → AllByRecursion (λ k. owner_cmp q k ≡ Less) (map (λ e. e.0) es)
all_below q [] h = tt
all_below q (e ∷ es) h =
    (less (owner_cmp q e.0) (first (is_lt (owner_cmp q e.0)) (below_all owner_cmp q es) h), all_below q es (second (is_lt (owner_cmp q e.0)) (below_all owner_cmp q es) h))

owners_rise : (es : List (List ℕ × Utxo)) → T (is_sorted owner_cmp es) → IsStrictlySortedBy owner_cmp (map (λ e. e.0) es)
unfolding IsStrictlySortedBy
owners_rise [] h = tt
owners_rise (e ∷ es) h =
    (all_below e.0 es (first (below_all owner_cmp e.0 es) (is_sorted owner_cmp es) h), owners_rise es (second (below_all owner_cmp e.0 es) (is_sorted owner_cmp es) h))

-- the owner holds some
abbrev holds_some : Asset → Utxo → (owner : List ℕ) → Bool
holds_some asset all owner = not (nat_eq (much_by asset all owner) 0)

told_owners : (asset : Asset) (all : Utxo) (owners : List (List ℕ)) → owners_of_amounts (filter_map (holder_by asset all) owners) ≡ filter (holds_some asset all) owners
told_owners asset all [] = refl
told_owners asset all (o ∷ os) =
    let rest = filter_map (holder_by asset all) os in
    let left = filter (holds_some asset all) os in
    elim (nat_eq (much_by asset all o) 0) as (λ b. owners_of_amounts (cons_option (holder_if b o (much_by asset all o)) rest) ≡ cond (not b) (o ∷ left) left) [
      | true ↦ told_owners asset all os
      | false ↦ ap (λ (l : List (List ℕ)). o ∷ l) (told_owners asset all os)
    ]

each_holds : (asset : Asset) (all : Utxo) (owners : List (List ℕ)) → AllByRecursion (Holds asset all) (filter_map (holder_by asset all) owners)
each_holds asset all [] = tt
each_holds asset all (o ∷ os) =
    let rest = filter_map (holder_by asset all) os in
    let much = much_by asset all o in
    elim (nat_eq much 0) as (λ b. nat_eq much 0 ≡ b → AllByRecursion (Holds asset all) (cons_option (holder_if b o much) rest)) [
      | true ↦ λ none. each_holds asset all os
      | false ↦ λ some.
          let not_none : much ≡ 0 → ⊥ = λ none. (let clash : false ≡ true = sym some ∙ (unsigned_Decides much 0).1 none in cc) in
          let more : 0 < much = omega (arith, not_none) in
          ((more, much_is asset (outputs_of_owner o all)), each_holds asset all os)
    ] refl

some_held : (asset : Asset) (all : Utxo) (owner : List ℕ) → held_by asset owner all ≢ pos 0 → holds_some asset all owner ≡ true
some_held asset all owner some =
    ap not (false_from_ne_true (nat_eq (much_by asset all owner) 0) (λ none. some (much_is asset (outputs_of_owner owner all) ∙ ap pos ((unsigned_Decides (much_by asset all owner) 0).0 none))))

found_among : (owner : List ℕ) (es : List (List ℕ × Utxo)) (outputs : Utxo) → find owner_cmp owner es ≡ Some outputs → Contains (map (λ e. e.0) es) owner
found_among owner es outputs found =
    Contains-from_any {eq = eq_by_cmp owner_cmp} (λ a b tie. owners_same a b ((Equal-is (owner_cmp a b)).0 tie)) owner (map (λ (e : List ℕ × Utxo). e.0) es)
    (sym (is_some-find owner_cmp owner es) ∙ ap is_some found)

-- ---- all of them

found_are_theirs : (owned : Owned) (all : Utxo) → AreOwned owned all → AreTheirs all (finite.entries owned)
found_are_theirs owned all are owner outputs found =
    let there : finite.get owned owner ≡ Some outputs = finite.get-entries owned owner ∙ found in
    ap (λ (o : Option Utxo). outputs_of (unwrap_or o finite.empty)) (sym there)
    ∙ ap (λ (ps : List (Input × Output)). map (λ (p : Input × Output). p.1) ps) (owner_entries owned all owner are)

-- who isn't kept has no output
not_kept : (owned : Owned) (all : Utxo) (owner : List ℕ) → AreOwned owned all → finite.get owned owner ≡ None → outputs_of_owner owner all ≡ []
not_kept owned all owner are missed =
    ap (λ (ps : List (Input × Output)). map (λ (p : Input × Output). p.1) ps) (sym (owner_entries owned all owner are))
    ∙ ap (λ (o : Option Utxo). outputs_of (unwrap_or o finite.empty)) missed
    ∙ ap (λ (ps : List (Input × Output)). map (λ (p : Input × Output). p.1) ps) (nil_from_length (finite.entries finite.empty) (sym (finite.len-entries finite.empty) ∙ finite.len-empty input_cmp Output))

kept : (asset : Asset) (owned : Owned) (all : Utxo) (owner : List ℕ) → AreOwned owned all → held_by asset owner all ≢ pos 0 → Contains (finite.keys owned) owner
kept asset owned all owner are some =
    elim (finite.get owned owner) as (λ (o : Option Utxo). finite.get owned owner ≡ o → Contains (finite.keys owned) owner) [
      | None ↦ λ missed. absurd (some (ap (sum_of asset) (not_kept owned all owner are missed)))
      | Some outputs ↦ λ there. found_among owner (finite.entries owned) outputs (sym (finite.get-entries owned owner) ∙ there)
    ] refl

pub are_holders : (asset : Asset) (owned : Owned) (all : Utxo) → AreOwned owned all → AreHolders asset all (holders_among asset owned)
are_holders asset owned all are =
    let owners = finite.keys owned in
    let sorted = finite.entries_sorted owned in
    let told = told_owners asset all owners in
    subst (AreHolders asset all) (sym (by_owners asset all (finite.entries owned) sorted (found_are_theirs owned all are))) (record {
      in_order = subst (IsStrictlySortedBy owner_cmp) (sym told) (IsStrictlySortedBy-filter owner_cmp (holds_some asset all) owners (owners_rise (finite.entries owned) sorted));
      hold = All-from_recursion (Holds asset all) (filter_map (holder_by asset all) owners) (each_holds asset all owners);
      all = λ owner some. subst (λ (l : List (List ℕ)). Contains l owner) (sym told) (contains_filter (holds_some asset all) owners owner (kept asset owned all owner are some) (some_held asset all owner some));
    })
