-- Entries of an index, and rows of blocks that are put on the disk one after the other.
use Rattle.std.proofs.Common.{◌≡◌, ℕ, zero, suc, ◌+◌, ◌<◌, ◌≤◌, List, [], ◌∷◌, ◌++◌, length, take, drop, get_or, slice_get, None, Some, refl, sym, ◌∙◌, ap, subst, arith, append_assoc, length-append, Vec}
use Rattle.std.proofs.lemmas.List.{take-append-drop, take_all}
use Rattle.std.specs.declared.alloc.Global.{Global}
use Rattle.std.specs.List.{AllByRecursion}
use Rattle.sha2.specs.Sha256.{sha256}
use Rattle.model.specs.Disk.{Moment, Leaves, LeavesSince}
use Rattle.model.specs.Log.{IsLogBlock, body_of, records, at_rest, IsLogOf}
use Rattle.model.proofs.Lists.{all_append}
use Rattle.model.proofs.LogTexts.{length-body_of}
use Rattle.immlog.specs.Views.{lists_of}
use Rattle.immlog.specs.Index.{AreEntriesOf, IsBeginOf}
use Rattle.immlog.specs.OpenLog.{GoesOn}
use Rattle.immlog.specs.declared.index.IndexEntry.{IndexEntry}
use Rattle.immlog.proofs.Moments.{since_weaker}
use Rattle.immlog.proofs.Rows.{row_at, row_more, size_at, fewer_sure, length-lists_of}

-- ---- entries

-- one more block, whose record begins where the others end
pub entries_more : (place : ℕ) (blocks : List (List ℕ)) (entries : List IndexEntry) (block : List ℕ) (entry : IndexEntry) → AreEntriesOf place blocks entries → entry.place ≡ place + length (records blocks) → entry.digest ≡ sha256 block
    → AreEntriesOf place (blocks ++ block ∷ []) (entries ++ entry ∷ [])
entries_more place [] [] block entry are at same = (let e : entry.place ≡ place = omega (arith, at) in e, same, refl)
entries_more place [] (e ∷ entries) block entry are at same = cc
entries_more place (b ∷ blocks) [] block entry are at same = absurd are
entries_more place (b ∷ blocks) (e ∷ entries) block entry are at same =
    let body = length-body_of b in
    let long : length (body_of b ++ records blocks) ≡ length (body_of b) + length (records blocks) = length-append (body_of b) (records blocks) in
    (are.0, are.1, entries_more (place + (37 + length b)) blocks entries block entry are.2 (omega (arith, at, body, long)) same)

-- there are as many entries as blocks
pub entries_count : (place : ℕ) (blocks : List (List ℕ)) (entries : List IndexEntry) → AreEntriesOf place blocks entries → length entries ≡ length blocks
entries_count place [] entries are = ap length are
entries_count place (b ∷ blocks) [] are = absurd are
entries_count place (b ∷ blocks) (e ∷ entries) are = ap (λ (n : ℕ). suc n) (entries_count (place + (37 + length b)) blocks entries are.2)

-- the block of an entry, and where its record ends
pub record IsEntryOf (place : ℕ) (blocks : List (List ℕ)) (n : ℕ) (entry : IndexEntry) (end : ℕ) : Type 0 where
  pub block : List ℕ
  pub is_block : slice_get blocks n ≡ Some block
  pub place_is : entry.place ≡ place + length (records (take n blocks))
  pub digest : entry.digest ≡ sha256 block
  pub end_is : end ≡ entry.place + (37 + length block)

one_record : (b : List ℕ) (bs : List (List ℕ)) → length (records (b ∷ bs)) ≡ 37 + length b + length (records bs)
one_record b bs =
    let body = length-body_of b in
    let long = length-append (body_of b) (records bs) in
    omega arith

first_end : (place : ℕ) (b : List ℕ) (bs : List (List ℕ)) (es : List IndexEntry) (all end : ℕ) → AreEntriesOf (place + (37 + length b)) bs es → all ≡ place + length (records (b ∷ bs)) → IsBeginOf es 0 all end → end ≡ place + (37 + length b)
first_end place b [] [] all end are is begin = let e = begin.1 refl in omega (arith, is, e, one_record b [])
first_end place b [] (e ∷ es) all end are is begin = absurd (let no : e ∷ es ≡ [] = are in cc)
first_end place b (x ∷ xs) [] all end are is begin = absurd are
first_end place b (x ∷ xs) (e ∷ es) all end are is begin = begin.0 e refl ∙ are.0

pub entry_of : (place : ℕ) (blocks : List (List ℕ)) (entries : List IndexEntry) (n : ℕ) (entry : IndexEntry) (all end : ℕ) → AreEntriesOf place blocks entries → slice_get entries n ≡ Some entry → all ≡ place + length (records blocks) → IsBeginOf entries (suc n) all end → IsEntryOf place blocks n entry end
entry_of place [] [] n entry all end are at is begin = absurd (let no : None ≡ Some entry = at in cc)
entry_of place [] (e ∷ es) n entry all end are at is begin = absurd (let no : e ∷ es ≡ [] = are in cc)
entry_of place (b ∷ bs) [] n entry all end are at is begin = absurd are
entry_of place (b ∷ bs) (e ∷ es) zero entry all end are at is begin =
    let same : Some e ≡ Some entry = at in
    let here : e ≡ entry = cc in
    let p = ap (λ (i : IndexEntry). i.place) (sym here) ∙ are.0 in
    record {
      block = b;
      is_block = refl;
      place_is = omega (arith, p);
      digest = ap (λ (i : IndexEntry). i.digest) (sym here) ∙ are.1;
      end_is = omega (arith, p, first_end place b bs es all end are.2 is begin);
    }
entry_of place (b ∷ bs) (e ∷ es) (suc n) entry all end are at is begin =
    let deep = entry_of (place + (37 + length b)) bs es n entry all end are.2 at (omega (arith, is, one_record b bs)) begin in
    record {
      block = deep.block;
      is_block = deep.is_block;
      place_is = omega (arith, deep.place_is, one_record b (take n bs));
      digest = deep.digest;
      end_is = deep.end_is;
    }

-- there is no entry where there is no block
pub none_of : (place : ℕ) (blocks : List (List ℕ)) (entries : List IndexEntry) (n : ℕ) → AreEntriesOf place blocks entries → slice_get entries n ≡ None → slice_get blocks n ≡ None
none_of place [] entries n are none = refl
none_of place (b ∷ bs) [] n are none = absurd are
none_of place (b ∷ bs) (e ∷ es) zero are none = absurd (let no : Some e ≡ None = none in cc)
none_of place (b ∷ bs) (e ∷ es) (suc n) are none = none_of (place + (37 + length b)) bs es n are.2 none

-- the gate behind the records of a log at rest
pub gate_is : (blocks : List (List ℕ)) (bytes : List ℕ) (gate : ℕ) → bytes ≡ at_rest blocks → gate + 1 ≡ length bytes → gate ≡ 0 + length (records blocks)
gate_is blocks bytes gate rest place =
    let long : length bytes ≡ length (records blocks) + 1 = ap length rest ∙ length-append (records blocks) (0 ∷ []) in
    omega (arith, long, place)

-- ---- rows

-- this is the next block, where the first `i` of a row are on the disk behind those before
pub record IsNext (old now : List (List ℕ)) (xs : List (Vec ℕ Global)) (i : ℕ) (block : List ℕ) : Type 0 where
  pub row : old ++ lists_of xs ≡ now ++ block ∷ drop (i + 1) (lists_of xs)
  pub more : now ++ block ∷ [] ≡ old ++ take (i + 1) (lists_of xs)
  pub long : length old ≤ length now
  pub size : IsLogBlock block
  pub sizes : AllByRecursion IsLogBlock (now ++ block ∷ drop (i + 1) (lists_of xs))

pub next_at : (old now : List (List ℕ)) (xs : List (Vec ℕ Global)) (i : ℕ) (x : Vec ℕ Global) (block : List ℕ) → AllByRecursion IsLogBlock old → AllByRecursion IsLogBlock (lists_of xs) → now ≡ old ++ take i (lists_of xs) → i < length xs → x ≡ get_or xs i x → block ≡ x.items → IsNext old now xs i block
next_at old now xs i x block known sizes counted below is text =
    let e = ap (λ (b : List ℕ). take i (lists_of xs) ++ b ∷ drop (i + 1) (lists_of xs)) (sym text) in
    let n = ap (λ (b : List ℕ). take i (lists_of xs) ++ b ∷ []) (sym text) in
    let row : old ++ lists_of xs ≡ now ++ block ∷ drop (i + 1) (lists_of xs) =
    ap (λ (l : List (List ℕ)). old ++ l) (row_at xs i x below is ∙ e) ∙ (sym (append_assoc old (take i (lists_of xs)) (block ∷ drop (i + 1) (lists_of xs))) ∙ ap (λ (l : List (List ℕ)). l ++ block ∷ drop (i + 1) (lists_of xs)) (sym counted)) in
    record {
      row = row;
      more = sym (ap (λ (l : List (List ℕ)). old ++ l) (row_more xs i x below is ∙ n) ∙ (sym (append_assoc old (take i (lists_of xs)) (block ∷ [])) ∙ ap (λ (l : List (List ℕ)). l ++ block ∷ []) (sym counted)));
      long = omega (arith, ap length counted, length-append old (take i (lists_of xs)));
      size = subst IsLogBlock (sym text) (size_at xs i x below is sizes);
      sizes = subst (AllByRecursion IsLogBlock) row (all_append IsLogBlock old (lists_of xs) known sizes);
    }

-- a put of the next block of a row
pub next_leaves : (done later all : List (List ℕ)) (block : List ℕ) (least : ℕ) (past new_past : List Moment) (m : Moment) → all ≡ done ++ block ∷ later → least ≤ length done → LeavesSince past new_past m (IsLogOf (length done) (done ++ block ∷ later)) → LeavesSince past new_past m (IsLogOf least all)
next_leaves done later all block least past new_past m row le holds =
    since_weaker (Leaves (IsLogOf (length done) (done ++ block ∷ later))) (Leaves (IsLogOf least all)) past new_past m
    (λ x leaves bytes left. fewer_sure (length done) least all bytes le (subst (λ (l : List (List ℕ)). IsLogOf (length done) l bytes) (sym row) (leaves bytes left)))
    holds

-- a beginning of the row is on the disk
pub goes_so_far : (old now : List (List ℕ)) (xs : List (Vec ℕ Global)) (i : ℕ) → now ≡ old ++ take i (lists_of xs) → GoesOn old (lists_of xs) now
goes_so_far old now xs i is = record { first = take i (lists_of xs); next = drop i (lists_of xs); are = is; begins = sym (take-append-drop i (lists_of xs)) }

-- all of it is
pub whole_row : (old : List (List ℕ)) (xs : List (Vec ℕ Global)) (i : ℕ) → length xs ≤ i → old ++ take i (lists_of xs) ≡ old ++ lists_of xs
whole_row old xs i le = ap (λ (l : List (List ℕ)). old ++ l) (take_all i (lists_of xs) (omega (arith, length-lists_of xs)))
