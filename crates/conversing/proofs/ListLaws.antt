-- Lists that a loop appends, one element after the other.
use Rattle.std.proofs.Common.{◌≡◌, ℕ, ◌+◌, ◌<◌, ◌≤◌, List, [], ◌++◌, length, get_or, drop, map, Result, Ok, Err, is_ok, cond, OnOk, codes, sym, ap, ◌∙◌, append_assoc, append-nil}
use Rattle.std.proofs.lemmas.List.{drop_all, drop_more}
use Rattle.conversing.specs.Found.{led, list_text}

module _ {A : Type 0} (text : A → List ℕ) (start : List ℕ) (xs : List A) where
  -- with what is still to be appended it is the whole
  abbrev pub IsPartListed : (line separator : List ℕ) → ℕ → Type 0
  IsPartListed line separator i = line ++ led separator (map text (drop i xs)) ≡ (start ++ codes "[") ++ led [] (map text xs)

  pub none_listed : (line separator : List ℕ) → line ≡ start ++ codes "[" → separator ≡ [] → IsPartListed line separator 0
  none_listed line separator begun none =
      ap (λ (l : List ℕ). l ++ led separator (map text xs)) begun ∙ ap (λ (s : List ℕ). (start ++ codes "[") ++ led s (map text xs)) none

  pub one_listed : (line mid more separator next : List ℕ) (i : ℕ) (d : A) → i < length xs → mid ≡ line ++ separator → more ≡ mid ++ text (get_or xs i d) → next ≡ codes "," → IsPartListed line separator i → IsPartListed more next (i + 1)
  one_listed line mid more separator next i d lt parted put comma part =
      let x = get_or xs i d in
      let rest = map text (drop (i + 1) xs) in
      let here : led separator (map text (drop i xs)) ≡ (separator ++ text x) ++ led (codes ",") rest = ap (λ (ys : List A). led separator (map text ys)) (drop_more xs i d lt) in
      let now : more ++ led next rest ≡ ((line ++ separator) ++ text x) ++ led (codes ",") rest =
      ap (λ (l : List ℕ). l ++ led next rest) (put ∙ ap (λ (l : List ℕ). l ++ text x) parted) ∙ ap (λ (s : List ℕ). ((line ++ separator) ++ text x) ++ led s rest) comma in
      let apart : ((line ++ separator) ++ text x) ++ led (codes ",") rest ≡ line ++ ((separator ++ text x) ++ led (codes ",") rest) =
      ap (λ (l : List ℕ). l ++ led (codes ",") rest) (append_assoc line separator (text x)) ∙ append_assoc line (separator ++ text x) (led (codes ",") rest) in
      now ∙ apart ∙ ap (λ (l : List ℕ). line ++ l) (sym here) ∙ part

  pub all_listed : {T E : Type 0} (r : Result T E) (line last separator : List ℕ) (i : ℕ) → length xs ≤ i → last ≡ cond (is_ok r) (line ++ codes "]") line → IsPartListed line separator i → OnOk r (last ≡ start ++ list_text (map text xs))
  all_listed (Err e) line last separator i le closed part = tt
  all_listed (Ok x) line last separator i le closed part =
      let whole : line ≡ (start ++ codes "[") ++ led [] (map text xs) =
      sym (append-nil line) ∙ ap (λ (ys : List A). line ++ led separator (map text ys)) (sym (drop_all i xs le)) ∙ part in
      closed ∙ ap (λ (l : List ℕ). l ++ codes "]") whole
      ∙ append_assoc (start ++ codes "[") (led [] (map text xs)) (codes "]") ∙ append_assoc start (codes "[") (led [] (map text xs) ++ codes "]")
