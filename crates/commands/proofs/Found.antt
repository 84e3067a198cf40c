-- The subcommand that was found, from its name and its rows.
use Rattle.std.proofs.Common.{◌≡◌, ℕ, true, List, Option, Some, None, option_map, Result, Ok, Err, refl, rules}
use Rattle.std.specs.Prelude.{bytes_eq, IfSome, IfOk}
use Rattle.std.proofs.lemmas.Slice.Eq.{bytes_eq-Decides}
use Rattle.clap.specs.Words.{Text, Row, TriesOne}
use Rattle.commands.specs.JobView.{IsNumberOf, IsOptionalNumber}

pub name_and_rows : {B : Type 0} (name : B → Text) (rows : B → List Row) (found : Option B) (n m : Text) (r : List Row) → n ≡ m → Some n ≡ option_map name found
    → Some r ≡ option_map (λ (p : Text × List Row). p.1) (option_map {U = Text × List Row} (λ b. (name b, rows b)) found) → option_map {U = Text × List Row} (λ b. (name b, rows b)) found ≡ Some (m, r)
name_and_rows name rows None n m r same p q = cc
name_and_rows name rows (Some b) n m r same p q = cc

-- texts that are equal are the same
pub same_text : (a b : Text) → true ≡ bytes_eq a b → a ≡ b
same_text a b h = search (rules, bytes_eq-Decides a b, h)

-- what holds of it, if there is one, with what follows from that
pub some_weaker : {X : Type 0} (P Q : X → Type 0) (r : Option X) → ((x : X) → P x → Q x) → IfSome r P → IfSome r Q
some_weaker P Q None weaker holds = tt
some_weaker P Q (Some x) weaker holds = weaker x holds

-- the same of what was made, if it was
pub ok_weaker : {X E : Type 0} (P Q : X → Type 0) (r : Result X E) → ((x : X) → P x → Q x) → IfOk r P → IfOk r Q
ok_weaker P Q (Ok x) weaker holds = weaker x holds
ok_weaker P Q (Err e) weaker holds = tt

-- a text that is there, with what is known of it
pub there : {P : Text → Type 0} {N : Type 0} (text : Option Text) (n : N) → (text ≡ None → Some n ≡ None) → ((t : Text) → text ≡ Some t → P t) → (t : Text) × (text ≡ Some t) × P t
there None n some known = let bad : Some n ≡ None = some refl in cc
there (Some t) n some known = (t, refl, known t refl)

-- what was read, without a fault
abbrev ok_of : (E : Type 0) → Option ℕ → Result (Option ℕ) E
ok_of E read = Ok read

-- a number that was read, where a text is there
pub optional : {E : Type 0} (gives : List ℕ → Result ℕ E → Type 0) (text : Option Text) (read : Option ℕ) → (text ≡ None → ok_of E read ≡ ok_of E None) → ((t : Text) → text ≡ Some t → TriesOne gives t (Ok read))
    → ((t : Text) (n : ℕ) → gives t (Ok n) → IsNumberOf t n) → IsOptionalNumber text read
optional gives None read none some more = let same = none refl in cc
optional gives (Some t) None none some more = some t refl
optional gives (Some t) (Some n) none some more = more t n (some t refl)
