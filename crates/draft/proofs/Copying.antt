-- What is made of one after the other, as a loop does.
use Rattle.std.proofs.Common.{◌≡◌, ℕ, ◌+◌, ◌<◌, ◌≤◌, List, [], ◌∷◌, ◌++◌, length, take, get_or, map, refl, sym, ap, ◌∙◌}
use Rattle.std.proofs.lemmas.List.{map-append, take_more, take_all}

module _ {A B E : Type 0} (told : B → E) (make : A → E) where
  -- one more
  pub one_made : (made new : List B) (all : List A) (i : ℕ) (d : A) (b : B) → i < length all → told b ≡ make (get_or all i d) → new ≡ made ++ b ∷ [] → map told made ≡ map make (take i all) → map told new ≡ map make (take (i + 1) all)
  one_made made new all i d b lt same pushed part =
      ap (map told) pushed ∙ map-append told made (b ∷ []) ∙ (λ k. part k ++ same k ∷ []) ∙ sym (map-append make (take i all) (get_or all i d ∷ [])) ∙ ap (map make) (sym (take_more all i d lt))

  -- all of them
  pub all_made : (made : List B) (all : List A) (i : ℕ) → length all ≤ i → map told made ≡ map make (take i all) → map told made ≡ map make all
  all_made made all i le part = part ∙ ap (map make) (take_all i all le)

-- what is made in two steps
pub two_steps : {A B C : Type 0} (f : B → C) (g : A → B) (xs : List A) → map (λ x. f (g x)) xs ≡ map f (map g xs)
two_steps f g [] = refl
two_steps f g (x ∷ xs) = ap (λ (ys : List _). f (g x) ∷ ys) (two_steps f g xs)
