-- What a crash leaves in each step of putting a block.
use Rattle.std.proofs.Common.{◌≡◌, inl, inr, ℕ, suc, ◌+◌, ◌<◌, List, [], ◌∷◌, ◌++◌, length, refl, sym, ◌∙◌, ap, subst, arith, append_assoc, length-append}
use Rattle.std.proofs.lemmas.Bool.{cases_eq}
use Rattle.std.specs.List.{AllByRecursion}
use Rattle.std.specs.Int.{w32, to_be_bytes}
use Rattle.sha2.specs.Sha256.{sha256}
use Rattle.model.specs.Disk.{Moment, settled, touched, MayLeave, Leaves, HoldsSince, LeavesSince}
use Rattle.model.specs.Log.{IsLogBlock, body_of, records, at_rest, IsLogOf}
use Rattle.model.proofs.LogTexts.{records-push}
use Rattle.immlog.specs.Steps.{IsFixed, IsGateMoment, gate_written}
use Rattle.immlog.proofs.Moments.{since_weaker, torn_once}
use Rattle.immlog.proofs.Fronts.{fixed_left, gate_left, gate_written_is}

pub body_split : (block rest : List ℕ) → body_of block ++ rest ≡ to_be_bytes w32 (length block) ++ sha256 block ++ (block ++ rest)
unfolding body_of
body_split block rest = append_assoc (to_be_bytes w32 (length block) ++ sha256 block) block rest

-- the head and the tail of a record behind the disk's end
pub staged_text : (old head new block : List ℕ) → head ≡ old ++ (to_be_bytes w32 (length block) ++ sha256 block) → new ≡ head ++ (block ++ 0 ∷ []) → new ≡ old ++ (body_of block ++ 0 ∷ [])
staged_text old head new block is_head is_new =
    is_new ∙ (ap (λ (l : List ℕ). l ++ (block ++ 0 ∷ [])) is_head
    ∙ (append_assoc old (to_be_bytes w32 (length block) ++ sha256 block) (block ++ 0 ∷ []) ∙ ap (λ (l : List ℕ). old ++ l) (sym (body_split block (0 ∷ [])))))

-- while the record is written behind a closed gate
pub crash_fixed : (done next : List (List ℕ)) → AllByRecursion IsLogBlock (done ++ next) → (m : Moment) → IsFixed (at_rest done) m → Leaves (IsLogOf (length done) (done ++ next)) m
crash_fixed done next sizes m fixed bytes left =
    let is = fixed_left (at_rest done) m bytes fixed left in
    record {
      first = done;
      next = next;
      rest = 0 ∷ is.0;
      text = is.1 ∙ append_assoc (records done) (0 ∷ []) is.0;
      begins = refl;
      enough = omega arith;
      sizes = sizes;
      gate = inl (record { more = is.0; text = refl });
    }

-- behind any gate stands the whole record and a closed gate
pub crash_gate : (done later : List (List ℕ)) (block more bytes : List ℕ) (gate : ℕ) → AllByRecursion IsLogBlock (done ++ block ∷ later) → bytes ≡ records done ++ gate ∷ (body_of block ++ 0 ∷ more) → IsLogOf (length done) (done ++ block ∷ later) bytes
crash_gate done later block more bytes gate sizes text = elim (cases_eq gate 1) [
  | inl is ↦ record {
    first = done ++ block ∷ [];
    next = later;
    rest = 0 ∷ more;
    text = text ∙ (ap (λ (n : ℕ). records done ++ n ∷ (body_of block ++ 0 ∷ more)) is ∙ sym (records-push done block (0 ∷ more)));
    begins = sym (append_assoc done (block ∷ []) later);
    enough = let long : length (done ++ block ∷ []) ≡ length done + 1 = length-append done (block ∷ []) in omega arith;
    sizes = sizes;
    gate = inl (record { more = more; text = refl });
  }
  | inr shut ↦ record {
    first = done;
    next = block ∷ later;
    rest = gate ∷ (body_of block ++ 0 ∷ more);
    text = text;
    begins = refl;
    enough = omega arith;
    sizes = sizes;
    gate = inr (record { gate = gate; block = block; later = later; more = more; text = refl; half = shut; comes = refl });
  }
]

some_behind : (block more : List ℕ) → 0 < length (body_of block ++ 0 ∷ more)
some_behind block more =
    let long : length (body_of block ++ 0 ∷ more) ≡ length (body_of block) + suc (length more) = length-append (body_of block) (0 ∷ more) in omega arith

-- while a gate in front of a whole record is written
pub gate_leaves : (done later : List (List ℕ)) (block more bytes : List ℕ) (old place gate : ℕ) → AllByRecursion IsLogBlock (done ++ block ∷ later) → place ≡ length (records done) → bytes ≡ records done ++ old ∷ (body_of block ++ 0 ∷ more) → (m : Moment) → IsGateMoment place gate bytes m → Leaves (IsLogOf (length done) (done ++ block ∷ later)) m
gate_leaves done later block more bytes old place gate sizes at text m (inl before) left_bytes left =
    let settled_left : MayLeave (settled bytes) left_bytes = subst (λ (x : Moment). MayLeave x left_bytes) before left in
    crash_gate done later block more left_bytes old sizes (settled_left.whole refl ∙ text)
gate_leaves done later block more bytes old place gate sizes at text m (inr (inl torn)) left_bytes left =
    let torn_left : MayLeave (touched place (place + 1) (settled (records done ++ old ∷ (body_of block ++ 0 ∷ more)))) left_bytes =
    subst (λ (l : List ℕ). MayLeave (touched place (place + 1) (settled l)) left_bytes) text (torn_once place bytes left_bytes m torn left) in
    let is = gate_left (records done) (body_of block ++ 0 ∷ more) left_bytes old place at (some_behind block more) torn_left in
    crash_gate done later block (more ++ is.1) left_bytes is.0 sizes (is.2 ∙ ap (λ (l : List ℕ). records done ++ is.0 ∷ l) (append_assoc (body_of block) (0 ∷ more) is.1))
gate_leaves done later block more bytes old place gate sizes at text m (inr (inr written)) left_bytes left =
    let settled_left : MayLeave (settled (gate_written place gate bytes)) left_bytes = subst (λ (x : Moment). MayLeave x left_bytes) written left in
    crash_gate done later block more left_bytes gate sizes
    (settled_left.whole refl ∙ (ap (λ (l : List ℕ). gate_written place gate l) text ∙ gate_written_is (records done) (body_of block ++ 0 ∷ more) old place gate at))

-- ---- the two steps of a put, over the disk's moments

pub stage_leaves : (done later : List (List ℕ)) (block old : List ℕ) (past new_past : List Moment) (m : Moment) → AllByRecursion IsLogBlock (done ++ block ∷ later) → old ≡ at_rest done → HoldsSince past new_past m (IsFixed old) → LeavesSince past new_past m (IsLogOf (length done) (done ++ block ∷ later))
stage_leaves done later block old past new_past m sizes rest holds =
    since_weaker (IsFixed old) (Leaves (IsLogOf (length done) (done ++ block ∷ later))) past new_past m (λ x fixed. crash_fixed done (block ∷ later) sizes x (subst (λ (l : List ℕ). IsFixed l x) rest fixed)) holds

-- the staged record behind the gate
pub staged : (done : List (List ℕ)) (old new block : List ℕ) → old ≡ at_rest done → new ≡ old ++ (body_of block ++ 0 ∷ []) → new ≡ records done ++ 0 ∷ (body_of block ++ 0 ∷ [])
staged done old new block rest is =
    is ∙ (ap (λ (l : List ℕ). l ++ (body_of block ++ 0 ∷ [])) rest ∙ append_assoc (records done) (0 ∷ []) (body_of block ++ 0 ∷ []))

pub place_of_gate : (done : List (List ℕ)) (old : List ℕ) (gate : ℕ) → old ≡ at_rest done → gate + 1 ≡ length old → gate ≡ length (records done)
place_of_gate done old gate rest at =
    let long : length old ≡ length (records done) + 1 = ap length rest ∙ length-append (records done) (0 ∷ []) in omega arith

pub opening_leaves : (done later : List (List ℕ)) (block old new : List ℕ) (gate : ℕ) (past new_past : List Moment) (m : Moment) → AllByRecursion IsLogBlock (done ++ block ∷ later) → old ≡ at_rest done → gate + 1 ≡ length old → new ≡ old ++ (body_of block ++ 0 ∷ []) → HoldsSince past new_past m (IsGateMoment gate 1 new) → LeavesSince past new_past m (IsLogOf (length done) (done ++ block ∷ later))
opening_leaves done later block old new gate past new_past m sizes rest at is holds =
    since_weaker (IsGateMoment gate 1 new) (Leaves (IsLogOf (length done) (done ++ block ∷ later))) past new_past m
    (λ x moment. gate_leaves done later block [] new 0 gate 1 sizes (place_of_gate done old gate rest at) (staged done old new block rest is) x moment) holds

pub opened_text : (done : List (List ℕ)) (block old new : List ℕ) (gate : ℕ) → old ≡ at_rest done → gate + 1 ≡ length old → new ≡ old ++ (body_of block ++ 0 ∷ []) → gate_written gate 1 new ≡ at_rest (done ++ block ∷ [])
opened_text done block old new gate rest at is =
    ap (λ (l : List ℕ). gate_written gate 1 l) (staged done old new block rest is)
    ∙ (gate_written_is (records done) (body_of block ++ 0 ∷ []) 0 gate 1 (place_of_gate done old gate rest at) ∙ sym (records-push done block (0 ∷ [])))
