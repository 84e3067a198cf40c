-- Steps that find something, and what they find for each element of a list.
use Rattle.std.proofs.Common.{◌≡◌, ℕ, List, [], ◌∷◌, length, Option, Some, None, suc, refl, ap, subst}
use Rattle.std.specs.Prelude.{Result, Ok, Err, ok_or}
use Rattle.std.specs.List.{AllByRecursion}
use Rattle.genesis.specs.declared.genesis_fault.GenesisFault.{GenesisFault}
use Rattle.std.proofs.lemmas.Option.{same_Some, none-some}
use Rattle.genesis.specs.declared.genesis_fault.GenesisFault.TheVariants as faults
use Rattle.genesis.specs.Steps.{◌>>=◌, each, Paired, or_fault, Gives}

-- what was found on the way
pub on_the_way : {A B : Type 0} (found : Option A) (f : A → Option B) (y : B) → (found >>= f) ≡ Some y → (x : A) × (found ≡ Some x) × (f x ≡ Some y)
on_the_way None f y is = absurd (none-some y is)
on_the_way (Some x) f y is = (x, refl, is)

-- what an answer was, where nothing would have been a fault
pub no_fault : {A : Type 0} (found : Option A) (fault : GenesisFault) (x : A) → ok_or found fault ≡ Ok x → found ≡ Some x
no_fault {A} None fault x is = absurd (let e : ◌≡◌ {A = Result A GenesisFault} (Err fault) (Ok x) = is in cc)
no_fault {A} (Some y) fault x is = (let e : ◌≡◌ {A = Result A GenesisFault} (Ok y) (Ok x) = is in let same : y ≡ x = cc in ap Some same)

-- a fault that was told at a step is the fault of the whole
refused : {A B : Type 0} (found : Option A) (first fault : GenesisFault) (next : A → Result B GenesisFault) → ok_or found first ≡ Err fault → or_fault first found next ≡ Err fault
refused {A} {B} None first fault next is =
    let e : ◌≡◌ {A = Result A GenesisFault} (Err first) (Err fault) = is in
    let same : first ≡ fault = cc in
    ap (λ (f : GenesisFault). Err f) same
refused {A} (Some x) first fault next is = absurd (let e : ◌≡◌ {A = Result A GenesisFault} (Ok x) (Err fault) = is in cc)

pub refused_so : {A B X Y : Type 0} (view : X → A) (view' : Y → B) (found : Option A) (first fault : GenesisFault) (next : A → Result B GenesisFault) → Gives view (Err fault) (ok_or found first) → Gives view' (Err fault) (or_fault first found next)
refused_so view view' found first faults.OutOfMemory next gives = tt
refused_so view view' found first fault next gives = refused found first fault next gives

module _ {A B : Type 0} (f : A → Option B) where
  -- what was found, for each element
  pub each_found : (xs : List A) (ys : List B) → each f xs ≡ Some ys → Paired (λ x y. f x ≡ Some y) xs ys
  each_found [] [] is = tt
  each_found [] (y ∷ ys) is = absurd (let e : ◌≡◌ {A = Option (List B)} (Some []) (Some (y ∷ ys)) = is in cc)
  each_found (x ∷ xs) ys is =
      let (y, here, after) = on_the_way (f x) _ ys is in
      let (zs, there, made) = on_the_way (each f xs) _ ys after in
      subst (λ (ws : List B). Paired (λ x y. f x ≡ Some y) (x ∷ xs) ws) (same_Some _ _ made) (here, each_found xs zs there)

  -- where something is found for each element, it is for the list
  pub all_found : (xs : List A) → AllByRecursion (λ x. (y : B) × (f x ≡ Some y)) xs → (ys : List B) × (each f xs ≡ Some ys)
  all_found [] all = ([], refl)
  all_found (x ∷ xs) all =
      let (y, here) = all.0 in
      let (ys, there) = all_found xs all.1 in
      (y ∷ ys, rw (here, there) refl)

-- facts of pairs
pub paired_weaker : {A B : Type 0} (R S : A → B → Type 0) (xs : List A) (ys : List B) → ((x : A) (y : B) → R x y → S x y) → Paired R xs ys → Paired S xs ys
paired_weaker R S [] [] weaker all = tt
paired_weaker R S (x ∷ xs) (y ∷ ys) weaker all = (weaker x y all.0, paired_weaker R S xs ys weaker all.1)
paired_weaker R S [] (y ∷ ys) weaker all = all
paired_weaker R S (x ∷ xs) [] weaker all = all

pub paired_first : {A B : Type 0} (R : A → B → Type 0) (P : A → Type 0) (xs : List A) (ys : List B) → ((x : A) (y : B) → R x y → P x) → Paired R xs ys → AllByRecursion P xs
paired_first R P [] [] each all = tt
paired_first R P (x ∷ xs) (y ∷ ys) each all = (each x y all.0, paired_first R P xs ys each all.1)
paired_first R P [] (y ∷ ys) each all = absurd all
paired_first R P (x ∷ xs) [] each all = absurd all

pub paired_second : {A B : Type 0} (R : A → B → Type 0) (P : B → Type 0) (xs : List A) (ys : List B) → ((x : A) (y : B) → R x y → P y) → Paired R xs ys → AllByRecursion P ys
paired_second R P [] [] each all = tt
paired_second R P (x ∷ xs) (y ∷ ys) each all = (each x y all.0, paired_second R P xs ys each all.1)
paired_second R P [] (y ∷ ys) each all = absurd all
paired_second R P (x ∷ xs) [] each all = absurd all

pub paired_through : {A B C : Type 0} (R : A → B → Type 0) (S : B → C → Type 0) (T : A → C → Type 0) (xs : List A) (ys : List B) (zs : List C) → ((x : A) (y : B) (z : C) → R x y → S y z → T x z) → Paired R xs ys → Paired S ys zs → Paired T xs zs
paired_through R S T [] [] [] both r s = tt
paired_through R S T (x ∷ xs) (y ∷ ys) (z ∷ zs) both r s = (both x y z r.0 s.0, paired_through R S T xs ys zs both r.1 s.1)
paired_through R S T [] (y ∷ ys) zs both r s = absurd r
paired_through R S T (x ∷ xs) [] zs both r s = absurd r
paired_through R S T [] [] (z ∷ zs) both r s = absurd s
paired_through R S T (x ∷ xs) (y ∷ ys) [] both r s = absurd s

pub paired_length : {A B : Type 0} (R : A → B → Type 0) (xs : List A) (ys : List B) → Paired R xs ys → length xs ≡ length ys
paired_length R [] [] all = refl
paired_length R (x ∷ xs) (y ∷ ys) all = ap (λ (n : ℕ). suc n) (paired_length R xs ys all.1)
paired_length R [] (y ∷ ys) all = absurd all
paired_length R (x ∷ xs) [] all = absurd all
