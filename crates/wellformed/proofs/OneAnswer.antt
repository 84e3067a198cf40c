-- One answer alone is right.
use Rattle.std.proofs.Common.{◌≡◌, ℕ, suc, ◌<◌, List, [], ◌∷◌, ◌++◌, length, take, Some, None, refl, sym, ap, ◌∙◌, subst, arith, inl, inr}
use Rattle.std.proofs.lemmas.Bool.{cases_lt}
use Rattle.model.specs.Cbor.{Item, Spells}
use Rattle.wellformed.specs.declared.misfit.Misfit.{Misfit}
use Rattle.wellformed.specs.declared.misfit.Misfit.TheVariants.{Ends, Initial, Argument, Trailing, Order}
use Rattle.wellformed.specs.Misfits.{IsWhole, IsBeginning, IsPlace, late_key, EndsEarly, BeginsNoItem, HasShorterForm, GoesOnBehind, HasLateKey, IsMisfitOf}
use Rattle.wellformed.proofs.Verdicts.{first_bytes, whole_ends, not_inside, same_whole, no_text}

-- no place stands before another one
not_before : (bytes : List ℕ) (m n : ℕ) → IsPlace bytes m → IsPlace bytes n → m < n → ⊥
not_before bytes m n p q lt =
    let within = q.within in
    p.longest (omega (arith, lt)) (first_bytes (suc m) n bytes (omega (arith, lt)) within q.begins)

one_place : (bytes : List ℕ) (m n : ℕ) → IsPlace bytes m → IsPlace bytes n → m ≡ n
one_place bytes m n p q =
    elim (cases_lt m n) [
      | inl lt ↦ absurd (not_before bytes m n p q lt)
      | inr ge ↦ elim (cases_lt n m) [
        | inl lt ↦ absurd (not_before bytes n m q p lt)
        | inr le ↦ omega (arith, ge, le)
      ]
    ]

-- bytes that end early have no place inside
all_or_part : (bytes : List ℕ) (place : ℕ) → EndsEarly bytes → IsPlace bytes place → place < length bytes → ⊥
all_or_part bytes place e p lt = omega (arith, one_place bytes (length bytes) place e.place p, lt)

late_whole : (bytes : List ℕ) (place : ℕ) → HasLateKey bytes place → IsWhole bytes
late_whole bytes place l = record { item = l.item; formed = l.formed; spelled = l.spelled }

-- whole bytes have no place inside
late_or_part : (bytes : List ℕ) (m n : ℕ) → HasLateKey bytes m → IsPlace bytes n → n < length bytes → ⊥
late_or_part bytes m n l p lt = not_inside bytes n p lt (late_whole bytes m l)

-- at one place one thing alone is wrong
initial_or_argument : (bytes : List ℕ) (m n : ℕ) → BeginsNoItem bytes m → HasShorterForm bytes n → ⊥
initial_or_argument bytes m n a b =
    let same = one_place bytes n m b.place_is a.place_is in
    a.top_may_not (subst (λ (k : ℕ). IsBeginning (take k bytes ++ 255 ∷ [])) same b.top_may)

initial_or_trailing : (bytes : List ℕ) (m n : ℕ) → BeginsNoItem bytes m → GoesOnBehind bytes n → ⊥
initial_or_trailing bytes m n a b =
    let same = one_place bytes m n a.place_is b.place_is in
    whole_ends (take n bytes) 0 [] b.whole (subst (λ (k : ℕ). IsBeginning (take k bytes ++ 0 ∷ [])) same a.zero_may)

argument_or_trailing : (bytes : List ℕ) (m n : ℕ) → HasShorterForm bytes m → GoesOnBehind bytes n → ⊥
argument_or_trailing bytes m n a b =
    let same = one_place bytes m n a.place_is b.place_is in
    whole_ends (take n bytes) 255 [] b.whole (subst (λ (k : ℕ). IsBeginning (take k bytes ++ 255 ∷ [])) same a.top_may)

-- one key is the first late one
one_key : (bytes : List ℕ) (m n : ℕ) → HasLateKey bytes m → HasLateKey bytes n → m ≡ n
one_key bytes m n a b =
    let p = a.formed in
    let q = b.formed in
    let same = same_whole bytes a.item b.item p.in_range q.in_range a.spelled b.spelled in
    same_some m n (sym a.late ∙ ap late_key same ∙ b.late)
  where
    same_some : (m n : ℕ) → Some m ≡ Some n → m ≡ n
    same_some m n e = cc

pub one_misfit : (bytes : List ℕ) (a b : Misfit) → IsMisfitOf bytes a → IsMisfitOf bytes b → a ≡ b
one_misfit bytes Ends Ends p q = refl
one_misfit bytes Ends (Initial n) p q = absurd (all_or_part bytes n p q.place_is q.inside)
one_misfit bytes Ends (Argument n) p q = absurd (all_or_part bytes n p q.place_is q.inside)
one_misfit bytes Ends (Trailing n) p q = absurd (all_or_part bytes n p q.place_is q.inside)
one_misfit bytes Ends (Order n) p q = absurd (p.not_whole (late_whole bytes n q))
one_misfit bytes (Initial m) Ends p q = absurd (all_or_part bytes m q p.place_is p.inside)
one_misfit bytes (Initial m) (Initial n) p q = ap Initial (one_place bytes m n p.place_is q.place_is)
one_misfit bytes (Initial m) (Argument n) p q = absurd (initial_or_argument bytes m n p q)
one_misfit bytes (Initial m) (Trailing n) p q = absurd (initial_or_trailing bytes m n p q)
one_misfit bytes (Initial m) (Order n) p q = absurd (late_or_part bytes n m q p.place_is p.inside)
one_misfit bytes (Argument m) Ends p q = absurd (all_or_part bytes m q p.place_is p.inside)
one_misfit bytes (Argument m) (Initial n) p q = absurd (initial_or_argument bytes n m q p)
one_misfit bytes (Argument m) (Argument n) p q = ap Argument (one_place bytes m n p.place_is q.place_is)
one_misfit bytes (Argument m) (Trailing n) p q = absurd (argument_or_trailing bytes m n p q)
one_misfit bytes (Argument m) (Order n) p q = absurd (late_or_part bytes n m q p.place_is p.inside)
one_misfit bytes (Trailing m) Ends p q = absurd (all_or_part bytes m q p.place_is p.inside)
one_misfit bytes (Trailing m) (Initial n) p q = absurd (initial_or_trailing bytes n m q p)
one_misfit bytes (Trailing m) (Argument n) p q = absurd (argument_or_trailing bytes n m q p)
one_misfit bytes (Trailing m) (Trailing n) p q = ap Trailing (one_place bytes m n p.place_is q.place_is)
one_misfit bytes (Trailing m) (Order n) p q = absurd (late_or_part bytes n m q p.place_is p.inside)
one_misfit bytes (Order m) Ends p q = absurd (q.not_whole (late_whole bytes m p))
one_misfit bytes (Order m) (Initial n) p q = absurd (late_or_part bytes m n p q.place_is q.inside)
one_misfit bytes (Order m) (Argument n) p q = absurd (late_or_part bytes m n p q.place_is q.inside)
one_misfit bytes (Order m) (Trailing n) p q = absurd (late_or_part bytes m n p q.place_is q.inside)
one_misfit bytes (Order m) (Order n) p q = ap Order (one_key bytes m n p q)

-- so this is told and nothing else
pub only_this : (bytes : List ℕ) (a : Misfit) → IsMisfitOf bytes a → (b : Misfit) → IsMisfitOf bytes b → Some a ≡ Some b
only_this bytes a p b q = ap (λ (m : Misfit). Some m) (one_misfit bytes a b p q)

-- and nothing where an item has the text
pub nothing_else : (bytes : List ℕ) → ((item : Item) × Spells item bytes) → (b : Misfit) → IsMisfitOf bytes b → None ≡ Some b
nothing_else bytes s b q = absurd (no_text bytes b q s.0 s.1)
