-- Writing like items one after the other, as a loop does.
use Rattle.std.proofs.Common.{◌≡◌, ℕ, suc, ◌+◌, ◌<◌, ◌≤◌, List, [], ◌∷◌, ◌++◌, length, drop, get_or, map, refl, sym, ap, ◌∙◌, append-nil, append_assoc, arith}
use Rattle.std.proofs.lemmas.List.{drop_all, length-append}
use Rattle.model.specs.Cbor.{Item, head, text_of, items_of, items_text, items_count, array_of}
use Rattle.cbor.specs.Texts.{Keeps}
use Rattle.cbor.proofs.ShapeWrites.{drop_here, kept, kept_on, kept_same}

module _ {E : Type 0} (item : E → Item) where
  -- the first `i` of these items were written after bytes
  pub record IsListPartWritten (before now : List ℕ) (es : List E) (i : ℕ) : Type 0 where
    pub whole : now ++ items_text (items_of (map item (drop i es))) ≡ before ++ items_text (items_of (map item es))
    pub keeps : Keeps before now

  -- the text from an item on
  text_from : (es : List E) (i : ℕ) (e : E) → i < length es → e ≡ get_or es i e → items_text (items_of (map item (drop i es))) ≡ text_of (item e) ++ items_text (items_of (map item (drop (i + 1) es)))
  text_from es i e lt is = ap (λ (xs : List E). items_text (items_of (map item xs))) (drop_here es i e lt is)

  -- nothing yet
  pub no_item_written : (before : List ℕ) (es : List E) → IsListPartWritten before before es 0
  no_item_written before es = record { whole = refl; keeps = kept_same before before refl }

  -- one more
  pub one_item_written : (before now after : List ℕ) (es : List E) (i : ℕ) (e : E) → i < length es → e ≡ get_or es i e → after ≡ now ++ text_of (item e) → IsListPartWritten before now es i → IsListPartWritten before after es (i + 1)
  one_item_written before now after es i e lt is written part =
      let rest = items_text (items_of (map item (drop (i + 1) es))) in
      let t = text_of (item e) in
      let whole : after ++ rest ≡ now ++ (t ++ rest) = ap (λ (x : List ℕ). x ++ rest) written ∙ append_assoc now t rest in
      record {
        whole = whole ∙ ap (λ (x : List ℕ). now ++ x) (sym (text_from es i e lt is)) ∙ part.whole;
        keeps = kept_on before now after part.keeps (kept now t after written);
      }

  -- all of them
  pub all_items_written : (before now : List ℕ) (es : List E) (i : ℕ) → length es ≤ i → IsListPartWritten before now es i → now ≡ before ++ items_text (items_of (map item es))
  all_items_written before now es i le part =
      sym (append-nil now) ∙ ap (λ (xs : List E). now ++ items_text (items_of (map item xs))) (sym (drop_all i es le)) ∙ part.whole

  -- as many items are written as there are
  pub items_counted : (es : List E) → items_count (items_of (map item es)) ≡ length es
  items_counted [] = refl
  items_counted (e ∷ es) = ap suc (items_counted es)

  -- a head that counts the items, and the items
  pub list_written : (es : List E) (n : ℕ) (before headed after : List ℕ) → length es ≡ n → headed ≡ before ++ head 4 n → after ≡ headed ++ items_text (items_of (map item es)) → after ≡ before ++ text_of (array_of (map item es))
  list_written es n before headed after len h a =
      let counted : n ≡ items_count (items_of (map item es)) = sym len ∙ sym (items_counted es) in
      a ∙ ap (λ (t : List ℕ). t ++ items_text (items_of (map item es))) (h ∙ ap (λ (n : ℕ). before ++ head 4 n) counted) ∙ append_assoc before (head 4 (items_count (items_of (map item es)))) (items_text (items_of (map item es)))

  -- ---- lack of room

  -- where an item does not fit, the items do not
  pub item_lacks_room : (before now : List ℕ) (es : List E) (i : ℕ) (e : E) (old cap : ℕ) → i < length es → e ≡ get_or es i e → IsListPartWritten before now es i → old ≤ cap → cap < length now + length (text_of (item e))
      → old < length before + length (items_text (items_of (map item es)))
  item_lacks_room before now es i e old cap lt is part le lacks =
      let t = text_of (item e) in
      let rest = items_text (items_of (map item (drop (i + 1) es))) in
      let from = items_text (items_of (map item (drop i es))) in
      let all = items_text (items_of (map item es)) in
      let lengths : length now + length from ≡ length before + length all = sym (length-append now from) ∙ ap length part.whole ∙ length-append before all in
      omega (arith, lengths, ap length (text_from es i e lt is), length-append t rest)

  -- where the head of an array does not fit, the array does not
  pub array_head_lacks_room : (es : List E) (n old len : ℕ) → length es ≡ n → old < len + length (head 4 n) → old < len + length (text_of (array_of (map item es)))
  array_head_lacks_room es n old len same lacks =
      let counted : items_count (items_of (map item es)) ≡ n = items_counted es ∙ same in
      let long : length (text_of (array_of (map item es))) ≡ length (head 4 n) + length (items_text (items_of (map item es))) =
      length-append (head 4 (items_count (items_of (map item es)))) (items_text (items_of (map item es))) ∙ ap (λ (k : ℕ). length (head 4 k) + length (items_text (items_of (map item es)))) counted in
      omega (arith, long)

  -- where the items of an array do not fit, the array does not
  pub items_lack_room : (before headed : List ℕ) (es : List E) (n old cap : ℕ) → length es ≡ n → headed ≡ before ++ head 4 n → old ≤ cap → cap < length headed + length (items_text (items_of (map item es))) → old < length before + length (text_of (array_of (map item es)))
  items_lack_room before headed es n old cap same head_is le lacks =
      let counted : items_count (items_of (map item es)) ≡ n = items_counted es ∙ same in
      let long : length (text_of (array_of (map item es))) ≡ length (head 4 n) + length (items_text (items_of (map item es))) =
      length-append (head 4 (items_count (items_of (map item es)))) (items_text (items_of (map item es))) ∙ ap (λ (k : ℕ). length (head 4 k) + length (items_text (items_of (map item es)))) counted in
      omega (arith, long, ap length head_is, length-append before (head 4 n))
