-- Which outputs are watched, by what they hold.
use Rattle.std.proofs.Common.{◌≡◌, ◌≢◌, ℕ, ◌+◌, ℤ, pos, ◌+ℤ◌, Bool, true, false, ◌||◌, List, [], ◌∷◌, refl, sym, ap, ◌∙◌, arith}
use Rattle.std.specs.Prelude.{bytes_eq, if◌then◌else◌}
use Rattle.std.specs.List.{list_any, AllByRecursion}
use Rattle.std.specs.Int.RustNames.{unsigned_abs}
use Rattle.std.specs.FinSet as set
use Rattle.std.proofs.lemmas.Bool.{false_from_ne_true}
use Rattle.std.proofs.lemmas.Slice.Eq.{bytes_eq-Decides}
use Rattle.model.specs.Value.{Token, Policy, IsPolicy, named_amount, policy_amount}
use Rattle.watching.specs.Which.{ByteStrings, All, Addresses, Policies, WatchedAreMeant}
use Rattle.watching.proofs.Holding.{IsWhole, named_whole, policy_whole, if_whole}

-- ---- whole numbers

some_first : (n : ℕ) (y z : ℤ) → n ≢ 0 → IsWhole y → IsWhole z → (pos n +ℤ y) +ℤ z ≢ pos 0
some_first n y z some a b none =
    let sum : (pos n +ℤ y) +ℤ z ≡ pos ((n + a.0) + b.0) = ap (λ (x : ℤ). (pos n +ℤ x) +ℤ z) a.1 ∙ ap (λ (x : ℤ). pos (n + a.0) +ℤ x) b.1 in
    let zero : (n + a.0) + b.0 ≡ 0 = ap unsigned_abs (sym sum ∙ none) in
    some (omega (arith, zero))

some_later : (y z : ℤ) → IsWhole y → IsWhole z → z ≢ pos 0 → y +ℤ z ≢ pos 0
some_later y z a b some none =
    let sum : y +ℤ z ≡ pos (a.0 + b.0) = ap (λ (x : ℤ). x +ℤ z) a.1 ∙ ap (λ (x : ℤ). pos a.0 +ℤ x) b.1 in
    let zero : a.0 + b.0 ≡ 0 = ap unsigned_abs (sym sum ∙ none) in
    let second : b.0 ≡ 0 = omega (arith, zero) in
    some (b.1 ∙ ap pos second)

-- ---- the policies of a value

-- some of an asset of one of these policies
abbrev IsHeld : ByteStrings → List (Policy ℕ) → Type 0
IsHeld policies ps = (policy : List ℕ) × (name : List ℕ) × (set.contains policies policy ≡ true) × (policy_amount pos policy name ps ≢ pos 0)

itself : (bytes : List ℕ) → bytes_eq bytes bytes ≡ true
itself bytes = (bytes_eq-Decides bytes bytes).1 refl

-- a policy of which there is something
first_held : (p : Policy ℕ) (ps : List (Policy ℕ)) (ts : List (Token ℕ)) → p.tokens ≡ ts → ts ≢ [] → AllByRecursion (λ t. t.quantity ≢ 0) ts → (name : List ℕ) × (policy_amount pos p.id name (p ∷ ps) ≢ pos 0)
first_held p ps [] is some all = absurd (some refl)
first_held p ps (t ∷ ts) is some all =
    let rest = policy_amount pos p.id t.name ps in
    let others = named_amount pos t.name ts in
    let amount : policy_amount pos p.id t.name (p ∷ ps) ≡ (pos t.quantity +ℤ others) +ℤ rest =
    ap (λ (b : Bool). (if b then named_amount pos t.name p.tokens else pos 0) +ℤ rest) (itself p.id)
    ∙ ap (λ (l : List (Token ℕ)). named_amount pos t.name l +ℤ rest) is
    ∙ ap (λ (b : Bool). ((if b then pos t.quantity else pos 0) +ℤ others) +ℤ rest) (itself t.name) in
    (t.name, λ none. some_first t.quantity others rest all.0 (named_whole t.name ts) (policy_whole p.id t.name ps) (sym amount ∙ none))

quantities : (ts : List (Token ℕ)) (IsName : Token ℕ → Type 0) → AllByRecursion (λ t. IsName t × (t.quantity ≢ 0)) ts → AllByRecursion (λ t. t.quantity ≢ 0) ts
quantities [] IsName all = tt
quantities (t ∷ ts) IsName all = (all.0.1, quantities ts IsName all.1)

held_from : (policies : ByteStrings) (ps : List (Policy ℕ)) → AllByRecursion (IsPolicy (λ q. q ≢ 0)) ps → list_any (λ p. set.contains policies p.id) ps ≡ true → IsHeld policies ps
held_from policies [] all any = absurd (let no : false ≡ true = any in cc)
held_from policies (p ∷ ps) all any =
    elim (set.contains policies p.id) as (λ b. set.contains policies p.id ≡ b → (b || list_any (λ p. set.contains policies p.id) ps) ≡ true → IsHeld policies (p ∷ ps)) [
      | true ↦ λ there _.
          let held = first_held p ps p.tokens refl all.0.not_empty (quantities p.tokens _ all.0.tokens) in
          (p.id, held.0, there, held.1)
      | false ↦ λ _ later.
          let held = held_from policies ps all.1 later in
          (held.0, held.1, held.2, some_later _ _ (if_whole (bytes_eq held.0 p.id) (named_amount pos held.1 p.tokens) (named_whole held.1 p.tokens)) (policy_whole held.0 held.1 ps) held.3)
    ] refl any

held_to : (policies : ByteStrings) (policy name : List ℕ) (ps : List (Policy ℕ)) → set.contains policies policy ≡ true → policy_amount pos policy name ps ≢ pos 0 → list_any (λ p. set.contains policies p.id) ps ≡ true
held_to policies policy name [] there some = absurd (some refl)
held_to policies policy name (p ∷ ps) there some =
    elim (set.contains policies p.id) as (λ b. set.contains policies p.id ≡ b → (b || list_any (λ p. set.contains policies p.id) ps) ≡ true) [
      | true ↦ λ _. refl
      | false ↦ λ missed.
          let apart : bytes_eq policy p.id ≡ false = false_from_ne_true (bytes_eq policy p.id) (λ same.
          let is : policy ≡ p.id = (bytes_eq-Decides policy p.id).0 same in
          let clash : true ≡ false = sym there ∙ ap (set.contains policies) is ∙ missed in
          cc) in
          held_to policies policy name ps there (λ none. some
          (ap (λ (b : Bool). (if b then named_amount pos name p.tokens else pos 0) +ℤ policy_amount pos policy name ps) apart ∙ ap (λ (z : ℤ). pos 0 +ℤ z) none))
    ] refl

pub watched_are_meant : WatchedAreMeant
watched_are_meant All output is = (λ _. tt, λ _. refl)
watched_are_meant (Addresses addresses) output is = (λ there. there, λ there. there)
watched_are_meant (Policies policies) output is = (held_from policies output.value.assets is, λ held. held_to policies held.0 held.1 output.value.assets held.2 held.3)
