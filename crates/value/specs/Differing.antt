-- Names and policies that differ.
use Rattle.std.specs.Prelude.{◌≢◌, List, [], ◌∷◌}
use Rattle.std.specs.List.{AllByRecursion}
use Rattle.model.specs.Value.{Token, Policy}

-- no two tokens have one name
abbrev pub NamesDiffer : {Q : Type 0} → List (Token Q) → Type 0
NamesDiffer [] = Unit
NamesDiffer (t ∷ ts) = AllByRecursion (λ u. u.name ≢ t.name) ts × NamesDiffer ts

-- no two policies have one identifier, and no two tokens of a policy one name
abbrev pub PoliciesDiffer : {Q : Type 0} → List (Policy Q) → Type 0
PoliciesDiffer [] = Unit
PoliciesDiffer (p ∷ ps) = NamesDiffer p.tokens × AllByRecursion (λ q. q.id ≢ p.id) ps × PoliciesDiffer ps
