-- A whole log in a form, from the parts that were printed.
use Rattle.std.proofs.Common.{◌≡◌, ◌≢◌, ℕ, suc, ◌+◌, ◌≤◌, ◌^◌, Bool, true, false, List, [], ◌∷◌, ◌++◌, length, Option, Some, None, refl, sym, ap, ◌∙◌, subst, arith, rules, append_assoc, append-nil, decimal}
use Rattle.std.specs.Prelude.{codes, nat_lt, if◌then◌else◌, option_map, option_and_then}
use Rattle.json.specs.Json as json
use Rattle.json.specs.Lex.{tokens}
use Rattle.json.specs.Token.{Token}
use Rattle.json.specs.Tree.{json_tokens, depth, items_depth, HasNumbers, ItemsHaveNumbers}
use Rattle.json.proofs.Printed.Decimals.{IsNumber-decimal}
use Rattle.json.proofs.Printed.Tokens.{tokens-print}
use Rattle.json.proofs.Printed.Trees.{ArePrintable-json_tokens, value-json_tokens}
use Rattle.serde_json.specs.Data.{Data, number, string, unsigned, object, array, Items, no_items, item, no_members, put}
use Rattle.serde_json.specs.Read.{read, of_json, of_items, of_members}
use Rattle.serde_json.specs.Written.{outline, items_outline, compact_text, items_text}
use Rattle.serde_json.proofs.Texts.{print-outline}
use Rattle.serde_json.proofs.OnLiterals.{serde_json_on_literals}
use Rattle.model.specs.Block.{Block, block_hash_of}
use Rattle.immlog.specs.declared.part.LogEnd.{LogEnd}
use Rattle.immlog.specs.declared.part.LogEnd.TheVariants.{Clean, Torn, Foreign}
use Rattle.showing.specs.Records.{AreLinesOfRecord}
use Rattle.describing.specs.Documents.{document_text}
use Rattle.describing.specs.Parts.{json_of_number, json_of_given, json_of_given_bytes}
use Rattle.describing.specs.Records.{number_of, slot_of, json_of_record, IsRecordText}
use Rattle.telling.specs.declared.form.Form.{Form}
use Rattle.telling.specs.declared.form.Form.TheVariants.{Lines, Json}
use Rattle.listing.specs.Listings.{AreLinesOfRecords, AreRecordsAsJson, end_name, json_of_log, IsLogIn}
use Rattle.listing.specs.Parts.{front_text, lead_text, back_text, rest_text, ArePartsOfLog}

-- ---- lines

lines_of_parts : (blocks : List (List ℕ)) (nth place : ℕ) (shown : List ℕ) → ArePartsOfLog Lines nth place blocks shown → AreLinesOfRecords nth place blocks shown
lines_of_parts [] nth place shown none = none
lines_of_parts (b ∷ bs) nth place shown (first, rest, part, others, joined) =
    (first, rest, subst (AreLinesOfRecord nth place b) (sym part.2) part.1, lines_of_parts bs (suc nth) (place + (37 + length b)) rest others, joined)

-- no line stands before the records
no_front : (later : Bool) (text : List ℕ) → (if later then [] else front_text Lines) ++ text ≡ text
no_front true text = refl
no_front false text = refl

-- ---- what is read back

-- the JSON of a part, which has no list and no object
record IsFlat (d : Data) : Type 0 where
  numbers : HasNumbers (outline d)
  nests : depth (outline d) ≡ 0

number_flat : (n : ℕ) → IsFlat (json_of_number n)
number_flat n = by_test (nat_lt n (2 ^ 53)) refl
  where
    by_test : (b : Bool) → nat_lt n (2 ^ 53) ≡ b → IsFlat (if b then number (unsigned n) else string (decimal n))
    by_test true is = record { numbers = IsNumber-decimal n (search (rules, is)); nests = refl }
    by_test false is = record { numbers = tt; nests = refl }

given_flat : (o : Option ℕ) → IsFlat (json_of_given o)
given_flat None = record { numbers = tt; nests = refl }
given_flat (Some n) = number_flat n

given_bytes_flat : (o : Option (List ℕ)) → IsFlat (json_of_given_bytes o)
given_bytes_flat None = record { numbers = tt; nests = refl }
given_bytes_flat (Some hash) = record { numbers = tt; nests = refl }

record_numbers : (nth place size : ℕ) (found : Option Block) → HasNumbers (outline (json_of_record nth place size found))
record_numbers nth place size found =
    ((given_bytes_flat (option_map block_hash_of found)).numbers, ((given_flat (option_map number_of found)).numbers, ((number_flat place).numbers, ((number_flat nth).numbers, ((number_flat size).numbers, ((given_flat (option_map slot_of found)).numbers, tt))))))

record_nests : (nth place size : ℕ) (found : Option Block) → depth (outline (json_of_record nth place size found)) ≤ 1
record_nests nth place size found =
    omega (arith, (given_bytes_flat (option_map block_hash_of found)).nests, (given_flat (option_map number_of found)).nests, (number_flat place).nests, (number_flat nth).nests, (number_flat size).nests, (given_flat (option_map slot_of found)).nests)

-- what is made of a value and the tokens behind it
abbrev whole : Option (json.Json × List Token) → Option Data
whole read_json = option_and_then of_json (option_and_then (λ p. json.if_last p.0 p.1) read_json)

-- what is read in the text of a value
text_read : (d : Data) → HasNumbers (outline d) → depth (outline d) ≤ 127 → read (compact_text d) ≡ of_json (outline d)
text_read d numbers nests =
    let lexed : tokens (compact_text d) ≡ json_tokens (outline d) = ap tokens (sym (print-outline d)) ∙ tokens-print (json_tokens (outline d)) (ArePrintable-json_tokens (outline d) numbers) in
    ap whole (ap (json.value 127) (lexed ∙ sym (append-nil (json_tokens (outline d)))) ∙ value-json_tokens (outline d) 127 [] nests)

-- ---- the records as JSON

-- the records behind others
record AreBack (nth place : ℕ) (blocks : List (List ℕ)) (shown : List ℕ) : Type 0 where
  all : Items
  are : AreRecordsAsJson nth place blocks all
  text : items_text true all ≡ shown ++ 93 ∷ []
  numbers : ItemsHaveNumbers (items_outline all)
  nests : items_depth (items_outline all) ≤ 1
  reads : of_items (items_outline all) ≡ Some all

one_back : (nth place : ℕ) (block text : List ℕ) (is : IsRecordText nth place block text) → HasNumbers (outline is.json) × (depth (outline is.json) ≤ 1) × (of_json (outline is.json) ≡ Some is.json)
one_back nth place block text is =
    let d = json_of_record nth place (length block) is.of_record.found in
    let same : d ≡ is.json = sym is.of_record.is in
    let numbers = subst (λ (x : Data). HasNumbers (outline x)) same (record_numbers nth place (length block) is.of_record.found) in
    let nests = subst (λ (x : Data). depth (outline x) ≤ 1) same (record_nests nth place (length block) is.of_record.found) in
    (numbers, nests, sym (text_read is.json numbers (omega (arith, nests))) ∙ ap read (sym is.text_is) ∙ is.reads_back)

joined_texts : (comma text rest : List ℕ) → comma ++ (text ++ (rest ++ 93 ∷ [])) ≡ ((comma ++ text) ++ rest) ++ 93 ∷ []
joined_texts comma text rest = simp append_assoc

later_is : (nth : ℕ) → 2 ≤ nth → nat_lt 1 nth ≡ true
later_is nth some = search (rules, some)

lead_is : (nth : ℕ) → 2 ≤ nth → lead_text Json nth ≡ codes ","
lead_is nth some = ap (λ (later : Bool). if later then codes "," else front_text Json) (later_is nth some)

rest_is : (nth : ℕ) (end : LogEnd) → 2 ≤ nth → rest_text Json nth end ≡ back_text Json end
rest_is nth end some = ap (λ (later : Bool). (if later then [] else front_text Json) ++ back_text Json end) (later_is nth some)

back_of_parts : (blocks : List (List ℕ)) (nth place : ℕ) (shown : List ℕ) → 2 ≤ nth → ArePartsOfLog Json nth place blocks shown → AreBack nth place blocks shown
back_of_parts [] nth place shown some none = record { all = no_items; are = refl; text = ap (λ (l : List ℕ). l ++ 93 ∷ []) (sym none); numbers = tt; nests = omega arith; reads = refl }
back_of_parts (b ∷ bs) nth place shown some (first, rest, (text, is, part), others, joined) =
    let (numbers, nests, back) = one_back nth place b text is in
    let behind = back_of_parts bs (suc nth) (place + (37 + length b)) rest (omega (arith, some)) others in
    let begins : first ≡ codes "," ++ text = part ∙ ap (λ (l : List ℕ). l ++ text) (lead_is nth some) in
    let here : codes "," ++ (compact_text is.json ++ items_text true behind.all) ≡ codes "," ++ (text ++ (rest ++ 93 ∷ [])) = ap (λ (l : List ℕ × List ℕ). codes "," ++ (l.0 ++ l.1)) (λ i. (sym is.text_is i, behind.text i)) in
    record {
      all = item is.json behind.all;
      are = (is.json, behind.all, is.of_record, behind.are, refl);
      text = here ∙ joined_texts (codes ",") text rest ∙ ap (λ (l : List ℕ). (l ++ rest) ++ 93 ∷ []) (sym begins) ∙ ap (λ (l : List ℕ). l ++ 93 ∷ []) (sym joined);
      numbers = (numbers, behind.numbers);
      nests = let n = behind.nests in omega (arith, nests, n);
      reads = ap (λ (o : Option Data × Option Items). option_and_then (λ d. option_map (item d) o.1) o.0) (λ i. (back i, behind.reads i));
    }

-- all records, with what a document begins with
record AreAll (blocks : List (List ℕ)) (shown : List ℕ) : Type 0 where
  all : Items
  are : AreRecordsAsJson 1 0 blocks all
  inner : List ℕ
  text : items_text false all ≡ inner ++ 93 ∷ []
  front : (end : LogEnd) → shown ++ rest_text Json (1 + length blocks) end ≡ (front_text Json ++ inner) ++ back_text Json end
  numbers : ItemsHaveNumbers (items_outline all)
  nests : items_depth (items_outline all) ≤ 1
  reads : of_items (items_outline all) ≡ Some all

all_of_parts : (blocks : List (List ℕ)) (shown : List ℕ) → ArePartsOfLog Json 1 0 blocks shown → AreAll blocks shown
all_of_parts [] shown none =
    record { all = no_items; are = refl; inner = []; text = refl; front = λ end. ap (λ (l : List ℕ). l ++ rest_text Json 1 end) none; numbers = tt; nests = omega arith; reads = refl }
all_of_parts (b ∷ bs) shown (first, rest, (text, is, part), others, joined) =
    let (numbers, nests, back) = one_back 1 0 b text is in
    let behind = back_of_parts bs 2 (0 + (37 + length b)) rest (omega arith) others in
    let here : compact_text is.json ++ items_text true behind.all ≡ text ++ (rest ++ 93 ∷ []) = ap (λ (l : List ℕ × List ℕ). l.0 ++ l.1) (λ i. (sym is.text_is i, behind.text i)) in
    let all_of_it : shown ≡ front_text Json ++ (text ++ rest) = joined ∙ ap (λ (l : List ℕ). l ++ rest) part ∙ append_assoc (front_text Json) text rest in
    record {
      all = item is.json behind.all;
      are = (is.json, behind.all, is.of_record, behind.are, refl);
      inner = text ++ rest;
      text = here ∙ sym (append_assoc text rest (93 ∷ []));
      front = λ end. ap (λ (l : List ℕ). shown ++ l) (rest_is (1 + length (b ∷ bs)) end (omega arith)) ∙ ap (λ (l : List ℕ). l ++ back_text Json end) all_of_it;
      numbers = (numbers, behind.numbers);
      nests = let n = behind.nests in omega (arith, nests, n);
      reads = ap (λ (o : Option Data × Option Items). option_and_then (λ d. option_map (item d) o.1) o.0) (λ i. (back i, behind.reads i));
    }

-- ---- the document

closed : (shown last : List ℕ) → shown ++ 93 ∷ (last ++ 10 ∷ []) ≡ ((shown ++ 93 ∷ []) ++ last) ++ 10 ∷ []
closed shown last = simp append_assoc

whole_text : (end : LogEnd) (all : Items) (shown : List ℕ) → end ≢ Foreign → items_text false all ≡ shown ++ 93 ∷ [] → (front_text Json ++ shown) ++ back_text Json end ≡ document_text (json_of_log all end)
unfolding serde_json_on_literals
whole_text Clean all shown is texts =
    ap (λ (l : List ℕ). codes "{\"blocks\":[" ++ l) (closed shown (codes ",\"end\":\"clean\"}") ∙ ap (λ (l : List ℕ). (l ++ codes ",\"end\":\"clean\"}") ++ 10 ∷ []) (sym texts))
whole_text Torn all shown is texts =
    ap (λ (l : List ℕ). codes "{\"blocks\":[" ++ l) (closed shown (codes ",\"end\":\"torn\"}") ∙ ap (λ (l : List ℕ). (l ++ codes ",\"end\":\"torn\"}") ++ 10 ∷ []) (sym texts))
whole_text Foreign all shown is texts = absurd (is refl)

whole_reads : (end : LogEnd) (all : Items) → of_items (items_outline all) ≡ Some all → of_json (outline (json_of_log all end)) ≡ Some (json_of_log all end)
whole_reads end all reads =
    ap (λ (o : Option Items). option_map object (option_and_then (λ d. of_members (json.member (codes "end") (json.string (end_name end)) json.no_members) (put (codes "blocks") d no_members)) (option_map array o))) reads

log_nests : (end : LogEnd) (all : Items) → items_depth (items_outline all) ≤ 1 → depth (outline (json_of_log all end)) ≤ 127
log_nests end all nests = omega (arith, nests)

-- what was printed is the log in the form
pub whole_log : (form : Form) (blocks : List (List ℕ)) (end : LogEnd) (shown : List ℕ) → ArePartsOfLog form 1 0 blocks shown → end ≢ Foreign → IsLogIn form blocks end (shown ++ rest_text form (1 + length blocks) end)
whole_log Lines blocks end shown are is = (shown, lines_of_parts blocks 1 0 shown are, ap (λ (l : List ℕ). shown ++ l) (no_front (nat_lt 1 (1 + length blocks)) (back_text Lines end)))
whole_log Json blocks end shown are is =
    let back = all_of_parts blocks shown are in
    let d = json_of_log back.all end in
    let text : shown ++ rest_text Json (1 + length blocks) end ≡ document_text d = back.front end ∙ whole_text end back.all back.inner is back.text in
    let has : HasNumbers (outline d) = (back.numbers, (tt, tt)) in
    (back.all, back.are, text, record { value_text = compact_text d; ends = text; reads = text_read d has (log_nests end back.all back.nests) ∙ whole_reads end back.all back.reads })
