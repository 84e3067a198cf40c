-- Bytes that are written in parts.
use Rattle.std.proofs.Common.{◌≡◌, ℕ, List, [], ◌∷◌, ◌++◌, length, take, drop, Option, Some, None, refl, sym, ◌∙◌, ap, subst, append_assoc, append-nil, rules, arith}
use Rattle.std.proofs.lemmas.List.{take-append-drop}
use Rattle.std.specs.Io.KnownBytes.{Appends, Keeps}
use Rattle.scenario.specs.Print.{AppendsUpTo}

-- nothing is appended
pub appends_none : (known : Option (List ℕ)) → Appends known known []
appends_none None = tt
appends_none (Some xs) = search rules

-- one part behind another
pub appends_both : (old mid new : Option (List ℕ)) (xs ys : List ℕ) → Appends old mid xs → Appends mid new ys → Appends old new (xs ++ ys)
appends_both None mid new xs ys p q = tt
appends_both (Some a) None new xs ys p q = elim p [ ]
appends_both (Some a) (Some b) None xs ys p q = elim q [ ]
appends_both (Some a) (Some b) (Some d) xs ys p q = q ∙ ap (λ (l : List ℕ). l ++ ys) p ∙ append_assoc a xs ys

-- what is kept behind a part
pub appends_kept : (old mid new : Option (List ℕ)) (xs : List ℕ) → Appends old mid xs → Keeps mid new → Appends old new xs
appends_kept None mid new xs p q = tt
appends_kept (Some a) None new xs p q = elim p [ ]
appends_kept (Some a) (Some b) None xs p q = elim q [ ]
appends_kept (Some a) (Some b) (Some d) xs p q = q ∙ p

-- before the first write
pub none_written : (known : Option (List ℕ)) (bytes : List ℕ) → AppendsUpTo known known bytes bytes
none_written known bytes = record { part = []; begins = refl; written = appends_none known }

-- after a write
pub more_written : (old mid new : Option (List ℕ)) (bytes rest : List ℕ) (n : ℕ) (left : List ℕ) → AppendsUpTo old mid bytes rest → Appends mid new (take n rest) → left ≡ drop n rest → AppendsUpTo old new bytes left
more_written old mid new bytes rest n left so_far more is = rw is (record {
  part = so_far.part ++ take n rest;
  begins = so_far.begins ∙ ap (λ (l : List ℕ). so_far.part ++ l) (sym (take-append-drop n rest)) ∙ sym (append_assoc so_far.part (take n rest) (drop n rest));
  written = appends_both old mid new so_far.part (take n rest) so_far.written more;
})

-- after a write that failed
pub still_written : (old mid new : Option (List ℕ)) (bytes rest : List ℕ) → AppendsUpTo old mid bytes rest → Keeps mid new → AppendsUpTo old new bytes rest
still_written old mid new bytes rest so_far kept = record { part = so_far.part; begins = so_far.begins; written = appends_kept old mid new so_far.part so_far.written kept }

-- all is written
pub all_written : (old new : Option (List ℕ)) (bytes rest : List ℕ) → AppendsUpTo old new bytes rest → length rest ≡ 0 → Appends old new bytes
all_written old new bytes [] so_far none = subst (Appends old new) (sym (so_far.begins ∙ append-nil so_far.part)) so_far.written
all_written old new bytes (x ∷ xs) so_far none = absurd (omega arith)
