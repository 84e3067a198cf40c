-- Items dealt in turns are gathered in their first order.
use Rattle.std.proofs.Common.{◌≡◌, ◌≢◌, ℕ, ◌+◌, ◌<◌, ◌≤◌, List, [], ◌∷◌, ◌++◌, length, map, replicate, zero, suc, reverse, Option, Some, refl, sym, ◌∙◌, ap, length-append, append_assoc, arith}
use Rattle.std.proofs.lemmas.List.{reverse-append, reverse-reverse}
use Rattle.witness_pool.specs.Dealing.{dealt, all_dealt}

-- the last of some items is dealt last
pub dealt_last : {X : Type 0} (xs : List X) (x : X) (shares : List (List X)) → all_dealt (xs ++ x ∷ []) shares ≡ dealt x (all_dealt xs shares)
dealt_last [] x shares = refl
dealt_last (y ∷ ys) x shares = dealt_last ys x (dealt y shares)

not_none : {X : Type 0} (xs : List X) (x : X) → (xs ++ x ∷ []) ≢ []
not_none [] x = λ e. cc
not_none (y ∷ ys) x = λ e. cc

some_dealt : {X : Type 0} (x : X) (shares : List (List X)) → shares ≢ [] → dealt x shares ≢ []
some_dealt x [] some = absurd (some refl)
some_dealt x (share ∷ others) some = not_none others (share ++ x ∷ [])

-- where there are shares there are after the dealing
pub some_shares : {X : Type 0} (xs : List X) (shares : List (List X)) → shares ≢ [] → all_dealt xs shares ≢ []
some_shares [] shares some = some
some_shares (x ∷ xs) shares some = some_shares xs (dealt x shares) (some_dealt x shares some)

-- the last of items that aren't none
pub last_of : {X : Type 0} (xs : List X) → 0 < length xs → (before : List X) × (x : X) × (xs ≡ before ++ x ∷ [])
last_of [] some = absurd (omega (arith, some))
last_of (x ∷ []) some = ([], x, refl)
last_of (x ∷ y ∷ ys) some = let rest = last_of (y ∷ ys) (omega arith) in (x ∷ rest.0, rest.1, ap (λ (l : List _). x ∷ l) rest.2)

-- these items are gathered already, the last one first, and those before them are still dealt
abbrev pub IsGathering : {X : Type 0} → (xs : List X) → (start shares : List (List X)) → (all : List X) → (count counter : ℕ) → Type 0
IsGathering xs start shares all count counter = (left done : List _) × (xs ≡ left ++ done) × (all ≡ reverse done) × (shares ≡ all_dealt left start) × (length left + counter ≡ count)

-- one more
pub gathered_one : {X : Type 0} (xs : List X) (start shares new : List (List X)) (all more : List X) (count counter : ℕ) (item : Option X) → start ≢ [] → IsGathering xs start shares all count counter → counter < count
    → ((x : X) (before : List (List X)) → before ≢ [] → shares ≡ dealt x before → (item ≡ Some x) × (new ≡ before)) → ((x : X) → item ≡ Some x → more ≡ all ++ x ∷ []) → IsGathering xs start new more count (counter + 1)
gathered_one xs start shares new all more count counter item some (left, done, whole, gathered, dealt_so, counted) below taken pushed =
    let last = last_of left (omega (arith, counted, below)) in
    let here = taken last.1 (all_dealt last.0 start) (some_shares last.0 start some) (dealt_so ∙ ap (λ (l : List _). all_dealt l start) last.2 ∙ dealt_last last.0 last.1 start) in
    let long : length left ≡ length last.0 + 1 = ap length last.2 ∙ length-append last.0 (last.1 ∷ []) in (
      last.0,
      last.1 ∷ done,
      whole ∙ ap (λ (l : List _). l ++ done) last.2 ∙ append_assoc last.0 (last.1 ∷ []) done,
      pushed last.1 here.0 ∙ ap (λ (l : List _). l ++ last.1 ∷ []) gathered ∙ sym (reverse-append (last.1 ∷ []) done),
      here.1,
      omega (arith, long, counted),
    )

-- all
pub gathered_all : {X : Type 0} (xs : List X) (start shares : List (List X)) (all : List X) (count counter : ℕ) → IsGathering xs start shares all count counter → count ≤ counter → reverse all ≡ xs
gathered_all xs start shares all count counter ([], done, whole, gathered, dealt_so, counted) end = ap reverse gathered ∙ reverse-reverse done ∙ sym whole
gathered_all xs start shares all count counter (x ∷ left, done, whole, gathered, dealt_so, counted) end = absurd (omega (arith, counted, end))

-- ---- seen by a view

map_one : {X Y : Type 0} (f : X → Y) (xs : List X) (x : X) → map f (xs ++ x ∷ []) ≡ map f xs ++ f x ∷ []
map_one f [] x = refl
map_one f (y ∷ ys) x = ap (λ (l : List _). f y ∷ l) (map_one f ys x)

one_dealt : {X Y : Type 0} (f : X → Y) (x : X) (shares : List (List X)) → map (map f) (dealt x shares) ≡ dealt (f x) (map (map f) shares)
one_dealt f x [] = refl
one_dealt f x (share ∷ others) = map_one (map f) others (share ++ x ∷ []) ∙ ap (λ (l : List _). map (map f) others ++ l ∷ []) (map_one f share x)

-- what is dealt, seen by a view
pub map_dealt : {X Y : Type 0} (f : X → Y) (xs : List X) (shares : List (List X)) → map (map f) (all_dealt xs shares) ≡ all_dealt (map f xs) (map (map f) shares)
map_dealt f [] shares = refl
map_dealt f (x ∷ xs) shares = map_dealt f xs (dealt x shares) ∙ ap (all_dealt (map f xs)) (one_dealt f x shares)

pub none_seen : {X Y : Type 0} (f : X → Y) (n : ℕ) → map (map f) (replicate n []) ≡ replicate n []
none_seen f zero = refl
none_seen f (suc n) = ap (λ (l : List (List _)). [] ∷ l) (none_seen f n)

pub some_replicated : {X : Type 0} (n : ℕ) → 1 ≤ n → replicate {A = List X} n [] ≢ []
some_replicated zero le = absurd (omega (arith, le))
some_replicated (suc n) le = λ e. cc

pub seen_twice : {X Y Z : Type 0} (f : Y → Z) (g : X → Y) (xs : List X) → map (λ (x : X). f (g x)) xs ≡ map f (map g xs)
seen_twice f g [] = refl
seen_twice f g (x ∷ xs) = ap (λ (l : List _). f (g x) ∷ l) (seen_twice f g xs)
