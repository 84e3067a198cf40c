-- What a reading doesn't give, from what its first step that may want memory doesn't give.
use Rattle.std.proofs.Common.{◌≡◌, ℕ, Bool, true, false, List, [], length, not, ◌==◌, Option, Some, Result, Ok, Err, IfErr, sym, ap, subst, ◌∙◌}
use Rattle.cbor.specs.declared.fault.CborFault.{CborFault}
use Rattle.cbor.specs.declared.fault.CborFault.TheVariants as faults
use Rattle.cbor.specs.Reading.{◌>>=◌, head_at}
use Rattle.cbor.specs.Gives.{IfWant, GivesNo}
use Rattle.cbor.specs.Shapes.{Reading, FieldsReading, such_at, as_at, both_at, members_at, array_at, nonempty_at, key_at, field_at, optional_field_at, fields_at, as_fields_at, record_at}
use Rattle.cbor.proofs.Steps.{bind_some, some_is, guard-true}

-- what holds whatever the fault is
pub if_want : (fault : CborFault) {P : Type 0} → P → IfWant fault P
if_want faults.Malformed p = tt
if_want faults.OutOfMemory p = p

-- what follows of it
pub want_map : (fault : CborFault) {P Q : Type 0} → (P → Q) → IfWant fault P → IfWant fault Q
want_map faults.Malformed f w = tt
want_map faults.OutOfMemory f w = f w

-- what holds anyway holds where memory was wanting
pub wants_anyway : {T : Type 0} (r : Result T CborFault) (P : Type 0) → P → IfErr r (λ fault. IfWant fault P)
wants_anyway (Ok x) P p = tt
wants_anyway (Err fault) P p = if_want fault p

-- the first step is not known
no_first : {A B : Type 0} (o : Option A) (f : A → Option B) (P : A → Type 0) (Q : B → Type 0) → ((x : A) (y : B) → f x ≡ Some y → Q y → P x) → GivesNo P o → GivesNo Q (o >>= f)
no_first o f P Q back none y e q =
    let b = bind_some o f y e in
    none b.0 b.1 (back b.0 y b.2 q)

-- the first step gave this
no_second : {A B : Type 0} (o : Option A) (f : A → Option B) (x : A) (Q : B → Type 0) → o ≡ Some x → GivesNo Q (f x) → GivesNo Q (o >>= f)
no_second o f x Q is none y e q =
    let b = bind_some o f y e in
    none y (ap f (some_is x b.0 (sym is ∙ b.1)) ∙ b.2) q

module _ {A B : Type 0} where
  -- as data of another type
  pub no_as : (to : A → B) (read : Reading A) (Q : B × List ℕ → Type 0) (bytes : List ℕ) → GivesNo (λ x. Q (to x.0, x.1)) (read bytes) → GivesNo Q (as_at to read bytes)
  unfolding as_at
  no_as to read Q bytes none = no_first (read bytes) _ (λ x. Q (to x.0, x.1)) Q (λ x y e q. subst Q (sym (some_is (to x.0, x.1) y e)) q) none

  pub no_as_fields : (to : A → B) (fields : FieldsReading A) (Q : B × ℕ × List ℕ → Type 0) (left : ℕ) (bytes : List ℕ) → GivesNo (λ x. Q (to x.0, x.1, x.2)) (fields left bytes) → GivesNo Q (as_fields_at to fields left bytes)
  unfolding as_fields_at
  no_as_fields to fields Q left bytes none = no_first (fields left bytes) _ (λ x. Q (to x.0, x.1, x.2)) Q (λ x y e q. subst Q (sym (some_is (to x.0, x.1, x.2) y e)) q) none

  -- one reading, and another of what stands after it
  pub no_both_first : (first : Reading A) (second : Reading B) (P : A → Type 0) (Q : (A × B) × List ℕ → Type 0) (bytes : List ℕ) → ((a : A) (b : B) (rest : List ℕ) → Q ((a, b), rest) → P a) → GivesNo (λ x. P x.0) (first bytes) → GivesNo Q (both_at first second bytes)
  unfolding both_at
  no_both_first first second P Q bytes back none =
      no_first (first bytes) _ (λ x. P x.0) Q (λ x y e q.
      let b = bind_some (second x.1) (λ b. Some ((x.0, b.0), b.1)) y e in
      back x.0 b.0.0 b.0.1 (subst Q (sym (some_is ((x.0, b.0.0), b.0.1) y b.2)) q)) none

  pub no_both_second : (first : Reading A) (second : Reading B) (Q : (A × B) × List ℕ → Type 0) (bytes : List ℕ) (a : A) (rest : List ℕ) → first bytes ≡ Some (a, rest) → GivesNo (λ x. Q ((a, x.0), x.1)) (second rest) → GivesNo Q (both_at first second bytes)
  unfolding both_at
  no_both_second first second Q bytes a rest is none =
      no_second (first bytes) _ (a, rest) Q is
      (no_first (second rest) (λ b. Some ((a, b.0), b.1)) (λ x. Q ((a, x.0), x.1)) Q (λ x y e q. subst Q (sym (some_is ((a, x.0), x.1) y e)) q) none)

  -- entries, and others after them
  pub no_fields_first : (first : FieldsReading A) (second : FieldsReading B) (P : A → Type 0) (Q : (A × B) × ℕ × List ℕ → Type 0) (left : ℕ) (bytes : List ℕ) → ((a : A) (b : B) (n : ℕ) (rest : List ℕ) → Q ((a, b), n, rest) → P a)
      → GivesNo (λ x. P x.0) (first left bytes) → GivesNo Q (fields_at first second left bytes)
  unfolding fields_at
  no_fields_first first second P Q left bytes back none =
      no_first (first left bytes) _ (λ x. P x.0) Q (λ x y e q.
      let b = bind_some (second x.1 x.2) (λ b. Some ((x.0, b.0), b.1, b.2)) y e in
      back x.0 b.0.0 b.0.1 b.0.2 (subst Q (sym (some_is ((x.0, b.0.0), b.0.1, b.0.2) y b.2)) q)) none

  pub no_fields_second : (first : FieldsReading A) (second : FieldsReading B) (Q : (A × B) × ℕ × List ℕ → Type 0) (left : ℕ) (bytes : List ℕ) (a : A) (n : ℕ) (rest : List ℕ) → first left bytes ≡ Some (a, n, rest)
      → GivesNo (λ x. Q ((a, x.0), x.1, x.2)) (second n rest) → GivesNo Q (fields_at first second left bytes)
  unfolding fields_at
  no_fields_second first second Q left bytes a n rest is none =
      no_second (first left bytes) _ (a, n, rest) Q is
      (no_first (second n rest) (λ b. Some ((a, b.0), b.1, b.2)) (λ x. Q ((a, x.0), x.1, x.2)) Q (λ x y e q. subst Q (sym (some_is ((a, x.0), x.1, x.2) y e)) q) none)

module _ {A : Type 0} where
  -- an array of `count` members
  pub no_array : (count : ℕ) (read : Reading A) (Q : A × List ℕ → Type 0) (bytes members : List ℕ) → members_at count bytes ≡ Some members → GivesNo Q (read members) → GivesNo Q (array_at count read bytes)
  unfolding array_at
  no_array count read Q bytes members is none = no_second (members_at count bytes) read members Q is none

  -- a map of entries
  pub no_record : (fields : FieldsReading A) (Q : A → Type 0) (bytes : List ℕ) (left : ℕ) (rest : List ℕ) → head_at 5 bytes ≡ Some (left, rest) → GivesNo (λ x. Q x.0) (fields left rest) → GivesNo (λ x. Q x.0) (record_at fields bytes)
  unfolding record_at
  no_record fields Q bytes left rest is none =
      no_second (head_at 5 bytes) _ (left, rest) (λ x. Q x.0) is
      (no_first (fields left rest) _ (λ x. Q x.0) (λ x. Q x.0) (λ x y e q.
      let g = guard-true (x.1 == 0) (λ all. Some (x.0, x.2)) y e in
      subst (λ (z : A × List ℕ). Q z.0) (sym (some_is (x.0, x.2) y g.1)) q) none)

  -- the entry of this number
  pub no_field : (key : ℕ) (read : Reading A) (Q : A → Type 0) (left : ℕ) (bytes : List ℕ) (n : ℕ) (text : List ℕ) → key_at key left bytes ≡ Some (n, text) → GivesNo (λ x. Q x.0) (read text) → GivesNo (λ x. Q x.0) (field_at key read left bytes)
  unfolding field_at
  no_field key read Q left bytes n text is none =
      no_second (key_at key left bytes) _ (n, text) (λ x. Q x.0) is
      (no_first (read text) (λ v. Some (v.0, n, v.1)) (λ x. Q x.0) (λ x. Q x.0) (λ x y e q. subst (λ (z : A × ℕ × List ℕ). Q z.0) (sym (some_is (x.0, n, x.1) y e)) q) none)

  pub no_optional_field : (key : ℕ) (read : Reading A) (Q : Option A → Type 0) (left : ℕ) (bytes : List ℕ) (n : ℕ) (text : List ℕ) → key_at key left bytes ≡ Some (n, text) → GivesNo (λ x. Q (Some x.0)) (read text)
      → GivesNo (λ x. Q x.0) (optional_field_at key read left bytes)
  unfolding optional_field_at
  no_optional_field key read Q left bytes n text is none = rw is
      (no_first (read text) (λ v. Some (Some v.0, n, v.1)) (λ x. Q (Some x.0)) (λ x. Q x.0) (λ x y e q. subst (λ (z : Option A × ℕ × List ℕ). Q z.0) (sym (some_is (Some x.0, n, x.1) y e)) q) none)

  -- what another reading gives, where it passes a test
  pub no_such : (test : A → Bool) (read : Reading A) (Q : A → Type 0) (bytes : List ℕ) → GivesNo (λ x. Q x.0) (read bytes) → GivesNo (λ x. Q x.0) (such_at test read bytes)
  unfolding such_at
  no_such test read Q bytes none =
      no_first (read bytes) _ (λ x. Q x.0) (λ x. Q x.0) (λ x y e q.
      let g = guard-true (test x.0) (λ passes. Some (x.0, x.1)) y e in
      subst (λ (z : A × List ℕ). Q z.0) (sym (some_is (x.0, x.1) y g.1)) q) none

  -- a list that is not empty
  pub no_empty : (read : Reading (List A)) (bytes : List ℕ) → GivesNo (λ x. x.0 ≡ []) (nonempty_at read bytes)
  unfolding nonempty_at such_at
  no_empty read bytes y e none =
      let b = bind_some (read bytes) _ y e in
      let g = guard-true (not (length b.0.0 == 0)) (λ passes. Some (b.0.0, b.0.1)) y b.2 in
      let empty : b.0.0 ≡ [] = ap (λ (z : List A × List ℕ). z.0) (some_is (b.0.0, b.0.1) y g.1) ∙ none in
      let same : false ≡ true = sym (ap (λ (xs : List A). not (length xs == 0)) empty) ∙ g.0 in
      absurd cc
