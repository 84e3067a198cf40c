-- What a document says, where the value is known and plain.
use Rattle.std.proofs.Common.{◌≡◌, ℕ, List, length, Some, ◌≤◌, false, Result, Ok, Err, String, Global, string_bytes, subst, ap, ◌∙◌, sym, arith}
use Rattle.std.specs.Prelude.{IfOk, OnOk, Option}
use Rattle.model.specs.Block.{Block}
use Rattle.std.proofs.lemmas.Result.{IfOk-weaker}
use Rattle.serde_json.specs.Data.{Data, Members, depth}
use Rattle.serde_json.specs.Read.{max_depth}
use Rattle.serde_json.specs.Written.{has_float}
use Rattle.serde_json.specs.Written.{compact_text}
use Rattle.serde_json.specs.Read.{read}
use Rattle.describing.specs.Documents.{document_text, IsReadAs}
use Rattle.describing.specs.Assembled.{facts_members, put_all}
use Rattle.describing.specs.Records.{json_of_record, IsFound, IsRecordAsJson, IsRecordText}
use Rattle.describing.proofs.Plain.{IsPlain}

module _ {E : Type 0} (r : Result (String Global) E) (json d : Data) (is : json ≡ d) (levels : ℕ) (p : IsPlain levels d) where
  pub text_told : IfOk r (λ t. has_float json ≡ false → string_bytes t ≡ document_text json) → IfOk r (λ t. string_bytes t ≡ document_text d)
  text_told told = IfOk-weaker r _ _ (λ t h. h (ap has_float is ∙ p.whole) ∙ ap document_text is) told

  pub read_back : levels ≤ max_depth → IfOk r (λ t. depth json ≤ max_depth → IsReadAs (string_bytes t) json) → IfOk r (λ t. IsReadAs (string_bytes t) d)
  read_back le told =
      let nests : depth d ≤ max_depth = omega (arith, p.nests) in
      let back : depth json ≤ max_depth = subst (λ (j : Data). depth j ≤ max_depth) (sym is) nests in
      IfOk-weaker r _ _ (λ t h. subst (λ (j : Data). IsReadAs (string_bytes t) j) is (h back)) told

-- what holds where a premise does
pub where_held : {A E : Type 0} (P : Type 0) (Q : A → Type 0) (r : Result A E) → (P → IfOk r Q) → IfOk r (λ x. P → Q x)
where_held P Q (Ok x) h = h
where_held P Q (Err e) h = tt

-- the text of a record's JSON, which is plain
pub record_told : {E : Type 0} (r : Result (String Global) E) (number place : ℕ) (bytes : List ℕ) (json : Data) (is : IsRecordAsJson number place bytes json)
    → IsPlain 1 (json_of_record number place (length bytes) is.found)
    → IfOk r (λ t. has_float json ≡ false → string_bytes t ≡ compact_text json) → IfOk r (λ t. depth json ≤ max_depth → read (string_bytes t) ≡ Some json)
    → IfOk r (λ t. IsRecordText number place bytes (string_bytes t))
record_told (Err e) number place bytes json is p told back = tt
record_told (Ok t) number place bytes json is p told back =
    let nests : depth (json_of_record number place (length bytes) is.found) ≤ max_depth = omega (arith, p.nests) in
    record {
      json = json;
      of_record = is;
      text_is = told (ap has_float is.is ∙ p.whole);
      reads_back = back (subst (λ (d : Data). depth d ≤ max_depth) (sym is.is) nests);
    }

-- what was put into the object of a record is told of what was found
pub facts_put : {T E : Type 0} (r : Result T E) (bytes : List ℕ) (old new : Members) (found : Option Block) → IsFound bytes found
    → OnOk r (new ≡ put_all (facts_members found) old) → OnOk r ((f : Option Block) × IsFound bytes f × (new ≡ put_all (facts_members f) old))
facts_put (Err e) bytes old new found is put = tt
facts_put (Ok x) bytes old new found is put = (found, is, put)
