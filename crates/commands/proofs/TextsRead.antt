-- The bytes of a text that a reader gave.
use Rattle.std.proofs.Common.{◌≡◌, ℕ, ◌+◌, ◌≤◌, Bool, List, length, take, Option, Some, None, Result, Ok, Err, subst, ap, arith, length-take, take_all}
use Rattle.std.specs.Prelude.{IfOk, IfSome, option_map}
use Rattle.commands.specs.TextFile.{AreBytesOf}

-- what is made of what was read is made of what the reader had
pub of_reader : {B E : Type 0} (items : B → List ℕ) (binary : Bool) (known : Option (List ℕ)) (read : List ℕ) (end : Result B E) → IfSome known (λ all. read ≡ all) → IfOk end (λ b. AreBytesOf binary read (items b)) → IfOk end (λ b. IfSome known (λ all. AreBytesOf binary all (items b)))
of_reader items binary known read (Err e) same made = tt
of_reader items binary None read (Ok b) same made = tt
of_reader items binary (Some all) read (Ok b) same made = subst (λ (r : List ℕ). AreBytesOf binary r (items b)) same made

-- so few bytes were read that the reader had no more
pub small_of : {B E : Type 0} (most : ℕ) (known : Option (List ℕ)) (read : List ℕ) (end : Result B E) → IfSome known (λ all. read ≡ all) → length read ≤ most → IfOk end (λ _. IfSome known (λ all. length all ≤ most))
small_of most known read (Err e) same few = tt
small_of most None read (Ok b) same few = tt
small_of most (Some all) read (Ok b) same few = subst (λ (l : List ℕ). length l ≤ most) same few

all_taken : (most : ℕ) (all : List ℕ) → length (take (most + 1) all) ≤ most → take (most + 1) all ≡ all
all_taken most all few = take_all (most + 1) all (omega (arith, few, length-take (most + 1) all))

-- where one more than so many might have been read, all was
pub of_input : {B E : Type 0} (items : B → List ℕ) (binary : Bool) (most : ℕ) (known : Option (List ℕ)) (end : Result B E) → IfOk end (λ b. IfSome (option_map (take (most + 1)) known) (λ read. AreBytesOf binary read (items b)))
    → IfOk end (λ _. IfSome (option_map (take (most + 1)) known) (λ read. length read ≤ most)) → IfOk end (λ b. IfSome known (λ read. AreBytesOf binary read (items b)))
of_input items binary most known (Err e) made few = tt
of_input items binary most None (Ok b) made few = tt
of_input items binary most (Some all) (Ok b) made few = subst (λ (r : List ℕ). AreBytesOf binary r (items b)) (all_taken most all few) made

-- the same of a reader of which as much might be read
pub of_limited : {B E : Type 0} (items : B → List ℕ) (binary : Bool) (most limit : ℕ) (known inner : Option (List ℕ)) (end : Result B E) → limit ≡ most + 1 → inner ≡ known
    → IfOk end (λ b. IfSome (option_map (take limit) inner) (λ read. AreBytesOf binary read (items b))) → IfOk end (λ _. IfSome (option_map (take limit) inner) (λ read. length read ≤ most)) → IfOk end (λ b. IfSome known (λ read. AreBytesOf binary read (items b)))
of_limited items binary most limit known inner end as_much same made few =
    let limited : option_map (take limit) inner ≡ option_map (take (most + 1)) known = ap (λ (p : ℕ × Option (List ℕ)). option_map (take p.0) p.1) (λ i. (as_much i, same i)) in
    of_input items binary most known end
    (subst (λ (o : Option (List ℕ)). IfOk end (λ b. IfSome o (λ read. AreBytesOf binary read (items b)))) limited made)
    (subst (λ (o : Option (List ℕ)). IfOk end (λ _. IfSome o (λ read. length read ≤ most))) limited few)

-- what is done with these bytes is done with those of what was read
pub done_with : (Does : List ℕ → Type 0) (binary : Bool) (known : Option (List ℕ)) (bytes : List ℕ) → IfSome known (λ read. AreBytesOf binary read bytes) → Does bytes → IfSome known (λ read. (b : List ℕ) × AreBytesOf binary read b × Does b)
done_with Does binary None bytes are does = tt
done_with Does binary (Some read) bytes are does = (bytes, are, does)
