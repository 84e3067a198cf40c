-- What a writer has still to write of a state's text.
use Rattle.std.specs.Prelude.{◌≡◌, ℕ, ◌≤◌, ◌<◌, List, [], ◌∷◌, ◌++◌, length, Option, Some, None, refl}
use Rattle.std.specs.List.{AllByRecursion}
use Rattle.std.specs.Coded.{Coded, code_by, coded×, coded_list, coded_option}
use Rattle.model.specs.Transaction.{Input, Output}
use Rattle.model.specs.Codes.{coded_input, coded_output}
use Rattle.snapshot.specs.Snapshot.{Front, part_limit, pair_text, texts_of, IsPair, AreParts, AreWhole}
use Rattle.snapshot.specs.Begun.{coded_front}

-- what the first part says, where it isn't written yet, and the outputs that aren't
pub record ToWrite : Type 0 where
  pub front : Option Front
  pub pairs : List (Input × Output)

abbrev pub coded_to_write : Coded ToWrite
coded_to_write =
    code_by _ (coded× (coded_option coded_front) (coded_list (coded× coded_input coded_output)))
    (λ w. (w.front, w.pairs))
    (λ p. record { front = p.0; pairs = p.1 })
    (λ _. refl)

abbrev pub AreLeftOf : Option Front → List (Input × Output) → (parts : List (List ℕ)) → Type 0
AreLeftOf None pairs parts = AreParts pairs parts
AreLeftOf (Some h) pairs parts = AreWhole h pairs parts

-- these parts are still to be written
abbrev pub AreLeft : ToWrite → (parts : List (List ℕ)) → Type 0
AreLeft w parts = AreLeftOf w.front w.pairs parts

-- this part is the next one: the parts that were to be written are this one and those that still are
pub record IsNext (old new : ToWrite) (part : List ℕ) : Type 0 where
  pub goes_on : (parts : List (List ℕ)) → AreLeft new parts → AreLeft old (part ∷ parts)
  pub only : (parts : List (List ℕ)) → AreLeft old parts
      → (more : List (List ℕ)) × (parts ≡ part ∷ more) × AreLeft new more

-- the part has the first of these outputs, or none, those that are left come after them, and it is no longer than a
-- part may be
pub record IsFilled (before now : List (Input × Output)) (part : List ℕ) : Type 0 where
  pub here : List (Input × Output)
  pub split : before ≡ here ++ now
  pub text : part ≡ texts_of here
  pub each : AllByRecursion IsPair here
  pub within : length part ≤ part_limit

-- the next of these outputs is too long for a part
abbrev pub NextIsTooLong : List (Input × Output) → Type 0
NextIsTooLong [] = ⊥
NextIsTooLong (pair ∷ pairs) = part_limit < length (pair_text pair)
