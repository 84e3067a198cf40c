-- Items dealt in turns into shares, and gathered again.
use Rattle.std.specs.Prelude.{List, [], ◌∷◌, ◌++◌}

-- one more item for the share whose turn it is, which is the first; its next turn comes after those of the others
abbrev pub dealt : {X : Type 0} → X → List (List X) → List (List X)
dealt x [] = []
dealt x (share ∷ others) = others ++ (share ++ x ∷ []) ∷ []

-- all items, one after the other
abbrev pub all_dealt : {X : Type 0} → List X → List (List X) → List (List X)
all_dealt [] shares = shares
all_dealt (x ∷ xs) shares = all_dealt xs (dealt x shares)
