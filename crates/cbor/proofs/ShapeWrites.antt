-- Writing entries one after the other, as a loop does.
use Rattle.std.proofs.Common.{◌≡◌, ℕ, suc, ◌+◌, ◌<◌, ◌≤◌, List, [], ◌∷◌, ◌++◌, length, drop, get_or, map, refl, sym, ap, ◌∙◌, append-nil, append_assoc, add-one, drop-cons, arith}
use Rattle.std.proofs.lemmas.List.{take_at, take-append-drop, drop_all, length-append}
use Rattle.model.specs.Cbor.{Item, Bytes, head, text_of, pairs_of, pairs_text, pairs_count, map_of}
pub use Rattle.model.proofs.Results.{on_err as whatever_err}
use Rattle.cbor.specs.Texts.{Keeps}

-- the members from a place on
pub drop_here : {A : Type 0} (xs : List A) (i : ℕ) (x : A) → i < length xs → x ≡ get_or xs i x → drop i xs ≡ x ∷ drop (i + 1) xs
drop_here {A} xs i x h is = let e : drop i xs ≡ get_or xs i x ∷ drop (i + 1) xs = rw (add-one, drop-cons xs i x) refl in e ∙ ap (λ (y : A). y ∷ drop (i + 1) xs) (sym is)

-- what has more after it stands in front still
pub kept : (old more new : List ℕ) → new ≡ old ++ more → Keeps old new
kept old more new e = rw e (take_at old more (length old) refl)

-- and so does what stood in front before
pub kept_on : (old mid new : List ℕ) → Keeps old mid → Keeps mid new → Keeps old new
kept_on old mid new first second =
    let a : mid ≡ old ++ drop (length old) mid = sym (take-append-drop (length old) mid) ∙ ap (λ (t : List ℕ). t ++ drop (length old) mid) first in
    let b : new ≡ mid ++ drop (length mid) new = sym (take-append-drop (length mid) new) ∙ ap (λ (t : List ℕ). t ++ drop (length mid) new) second in
    kept old (drop (length old) mid ++ drop (length mid) new) new (b ∙ ap (λ (t : List ℕ). t ++ drop (length mid) new) a ∙ append_assoc old (drop (length old) mid) (drop (length mid) new))

-- nothing after it
pub kept_same : (old new : List ℕ) → new ≡ old → Keeps old new
kept_same old new e = kept old [] new (e ∙ sym (append-nil old))

-- a byte string that was written under another name
pub string_written : (before after written name : List ℕ) → after ≡ before ++ text_of (Bytes written) → written ≡ name → after ≡ before ++ text_of (Bytes name)
string_written before after written name h same = h ∙ ap (λ (n : List ℕ). before ++ text_of (Bytes n)) same

-- two maps in turn
pub map_twice : {A B C : Type 0} (f : B → C) (g : A → B) (xs : List A) → map f (map g xs) ≡ map (λ x. f (g x)) xs
map_twice f g [] = refl
map_twice f g (x ∷ xs) = ap (λ t. f (g x) ∷ t) (map_twice f g xs)

module _ {E : Type 0} (pair : E → Item × Item) where
  -- the first `i` of these entries were written after bytes
  pub record IsPartWritten (before now : List ℕ) (es : List E) (i : ℕ) : Type 0 where
    pub whole : now ++ pairs_text (pairs_of (map pair (drop i es))) ≡ before ++ pairs_text (pairs_of (map pair es))
    pub keeps : Keeps before now

  -- the text from an entry on
  text_from : (es : List E) (i : ℕ) (e : E) → i < length es → e ≡ get_or es i e
      → pairs_text (pairs_of (map pair (drop i es))) ≡ text_of (pair e).0 ++ (text_of (pair e).1 ++ pairs_text (pairs_of (map pair (drop (i + 1) es))))
  text_from es i e lt is = ap (λ (xs : List E). pairs_text (pairs_of (map pair xs))) (drop_here es i e lt is)

  -- nothing yet
  pub none_written : (before : List ℕ) (es : List E) → IsPartWritten before before es 0
  none_written before es = record { whole = refl; keeps = kept_same before before refl }

  -- one more
  pub one_written : (before now mid after : List ℕ) (es : List E) (i : ℕ) (e : E) → i < length es → e ≡ get_or es i e → mid ≡ now ++ text_of (pair e).0 → after ≡ mid ++ text_of (pair e).1 → IsPartWritten before now es i → IsPartWritten before after es (i + 1)
  one_written before now mid after es i e lt is key value part =
      let rest = pairs_text (pairs_of (map pair (drop (i + 1) es))) in
      let k = text_of (pair e).0 in
      let v = text_of (pair e).1 in
      let whole : after ++ rest ≡ now ++ (k ++ (v ++ rest)) = ap (λ (t : List ℕ). t ++ rest) (value ∙ ap (λ (t : List ℕ). t ++ v) key) ∙ append_assoc (now ++ k) v rest ∙ append_assoc now k (v ++ rest) in
      record {
        whole = whole ∙ ap (λ (t : List ℕ). now ++ t) (sym (text_from es i e lt is)) ∙ part.whole;
        keeps = kept_on before now after part.keeps (kept_on now mid after (kept now k mid key) (kept mid v after value));
      }

  -- all of them
  pub all_written : (before now : List ℕ) (es : List E) (i : ℕ) → length es ≤ i → IsPartWritten before now es i → now ≡ before ++ pairs_text (pairs_of (map pair es))
  all_written before now es i le part =
      sym (append-nil now) ∙ ap (λ (xs : List E). now ++ pairs_text (pairs_of (map pair xs))) (sym (drop_all i es le)) ∙ part.whole

  -- as many entries are written as there are
  count_is : (es : List E) → pairs_count (pairs_of (map pair es)) ≡ length es
  count_is [] = refl
  count_is (e ∷ es) = ap suc (count_is es)

  -- a head that counts the entries, and the entries
  pub map_written : (es : List E) (n : ℕ) (before headed after : List ℕ) → length es ≡ n → headed ≡ before ++ head 5 n → after ≡ headed ++ pairs_text (pairs_of (map pair es)) → after ≡ before ++ text_of (map_of (map pair es))
  map_written es n before headed after len h a =
      let counted : n ≡ pairs_count (pairs_of (map pair es)) = sym len ∙ sym (count_is es) in
      a ∙ ap (λ (t : List ℕ). t ++ pairs_text (pairs_of (map pair es))) (h ∙ ap (λ (n : ℕ). before ++ head 5 n) counted) ∙ append_assoc before (head 5 (pairs_count (pairs_of (map pair es)))) (pairs_text (pairs_of (map pair es)))

  -- ---- lack of room

  -- what is written and what is still to write are as long as the whole
  pub lengths : (before now : List ℕ) (es : List E) (i : ℕ) → IsPartWritten before now es i → length now + length (pairs_text (pairs_of (map pair (drop i es)))) ≡ length before + length (pairs_text (pairs_of (map pair es)))
  lengths before now es i part = sym (length-append now (pairs_text (pairs_of (map pair (drop i es))))) ∙ ap length part.whole ∙ length-append before (pairs_text (pairs_of (map pair es)))

  -- where a key does not fit, the entries do not
  pub key_lacks_room : (before now written : List ℕ) (es : List E) (i : ℕ) (e : E) (old cap : ℕ) → i < length es → e ≡ get_or es i e → IsPartWritten before now es i → length written ≡ length (text_of (pair e).0) → old ≤ cap → cap < length now + length written
      → old < length before + length (pairs_text (pairs_of (map pair es)))
  key_lacks_room before now written es i e old cap lt is part same le lacks =
      let k = text_of (pair e).0 in
      let after = text_of (pair e).1 ++ pairs_text (pairs_of (map pair (drop (i + 1) es))) in
      omega (arith, lengths before now es i part, ap length (text_from es i e lt is), length-append k after, same)

  -- where a value does not fit, the entries do not
  pub value_lacks_room : (before now mid : List ℕ) (es : List E) (i : ℕ) (e : E) (old cap : ℕ) → i < length es → e ≡ get_or es i e → IsPartWritten before now es i → mid ≡ now ++ text_of (pair e).0 → old ≤ cap → cap < length mid + length (text_of (pair e).1)
      → old < length before + length (pairs_text (pairs_of (map pair es)))
  value_lacks_room before now mid es i e old cap lt is part key le lacks =
      let k = text_of (pair e).0 in
      let v = text_of (pair e).1 in
      let rest = pairs_text (pairs_of (map pair (drop (i + 1) es))) in
      omega (arith, lengths before now es i part, ap length (text_from es i e lt is), length-append k (v ++ rest), length-append v rest, ap length key, length-append now k)

  -- where the head of a map does not fit, the map does not
  pub head_lacks_room : (es : List E) (n old len : ℕ) → length es ≡ n → old < len + length (head 5 n) → old < len + length (text_of (map_of (map pair es)))
  head_lacks_room es n old len same lacks =
      let counted : pairs_count (pairs_of (map pair es)) ≡ n = count_is es ∙ same in
      let long : length (text_of (map_of (map pair es))) ≡ length (head 5 n) + length (pairs_text (pairs_of (map pair es))) =
      length-append (head 5 (pairs_count (pairs_of (map pair es)))) (pairs_text (pairs_of (map pair es))) ∙ ap (λ (k : ℕ). length (head 5 k) + length (pairs_text (pairs_of (map pair es)))) counted in
      omega (arith, long)

  -- where the entries of a map do not fit, the map does not
  pub entries_lack_room : (before headed : List ℕ) (es : List E) (n old cap : ℕ) → length es ≡ n → headed ≡ before ++ head 5 n → old ≤ cap → cap < length headed + length (pairs_text (pairs_of (map pair es))) → old < length before + length (text_of (map_of (map pair es)))
  entries_lack_room before headed es n old cap same head_is le lacks =
      let counted : pairs_count (pairs_of (map pair es)) ≡ n = count_is es ∙ same in
      let long : length (text_of (map_of (map pair es))) ≡ length (head 5 n) + length (pairs_text (pairs_of (map pair es))) =
      length-append (head 5 (pairs_count (pairs_of (map pair es)))) (pairs_text (pairs_of (map pair es))) ∙ ap (λ (k : ℕ). length (head 5 k) + length (pairs_text (pairs_of (map pair es)))) counted in
      omega (arith, long, ap length head_is, length-append before (head 5 n))
