-- That blocks which no rollback reaches are read again: of whatever legal history, their texts are those of a valid chain.
use Rattle.std.proofs.Common.{◌≡◌, ◌≢◌, ℕ, ◌≤◌, true, false, List, [], ◌∷◌, ◌++◌, length, drop, Contains, refl, sym, ap, subst, ◌∙◌, append_assoc, inl, inr}
use Rattle.std.specs.Prelude.{Result, Ok, Err, IfErr, bytes_eq}
use Rattle.std.specs.List.{AllByRecursion}
use Rattle.std.proofs.lemmas.Bool.{cases_lt}
use Rattle.std.proofs.lemmas.List.{take-append-drop}
use Rattle.std.proofs.lemmas.Slice.Eq.{bytes_eq-Decides}
use Rattle.model.specs.Limits.{block_size_limit}
use Rattle.model.specs.Genesis.{Genesis}
use Rattle.model.specs.Signature.{Verifies}
use Rattle.model.specs.Block.{Block, SpellsBlock, block_text, body_hash_of}
use Rattle.model.specs.Ledger.{Network, Ledger, network_on, network_of, ledger_from, ledger_after_block, opening_ledger}
use Rattle.std.specs.Prelude.{Option, IsSome, option_and_then}
use Rattle.model.specs.Chain.{IsValidChain, IsOpening, immutable_part, immutable_length}
use Rattle.model.specs.History.{State, Entry, Event, Reply, Keeps, Discards, without_hash, IsRun, opening, TooLarge, BodyHashMismatch}
use Rattle.model.proofs.Lists.{all_of_member, all_from_members}
use Rattle.model.proofs.BlockTexts.{one_block, block_text_is}
use Rattle.model.proofs.Candidates.{state_of_valid, valid_of_state}
use Rattle.model.proofs.StatesAlong.{front_state}
use Rattle.model.proofs.LegalHistories.{Kind, Keeping, Discarding, Quiet, kind_of, legal_sound}
use Rattle.model.proofs.Discarding.{without_member}
use Rattle.block.specs.Read.{IsRead}
use Rattle.chain_core.specs.Immutable.{texts_of}
use Rattle.chain_core.specs.Reopening.{AreRead, IsFirstInvalid, IsReopenFault, WereImmutable}
use Rattle.chain_core.specs.declared.reopening.ReopenFault.{ReopenFault}
use Rattle.chain_core.specs.declared.reopening.ReopenFault.TheVariants.{InvalidBlock, OutOfMemory}
use Rattle.chain_core.proofs.OpenedOn.{spelled_all}

-- the block is read of its own text
abbrev IsReadAgain : Block → Type 0
IsReadAgain b = IsRead b (block_text b)

-- ---- what is kept was read

-- hashes that aren't told apart are the same
same_hashes : (xs ys : List ℕ) → (xs ≢ ys → ⊥) → xs ≡ ys
same_hashes xs ys same =
    elim (bytes_eq xs ys) as (λ t. bytes_eq xs ys ≡ t → xs ≡ ys) [
      | true ↦ λ e. (bytes_eq-Decides xs ys).0 e
      | false ↦ λ e. absurd (same (λ is. let f : false ≡ true = sym e ∙ (bytes_eq-Decides xs ys).1 is in cc))
    ] refl

keeps_read : (network : Network) (s : State) (bytes : List ℕ) (back added : ℕ) (t : State) → AllByRecursion IsReadAgain s.kept → Keeps network s bytes back added t → AllByRecursion IsReadAgain t.kept
keeps_read network s bytes back added t read keeps =
    let size : length bytes ≤ block_size_limit = elim (cases_lt block_size_limit (length bytes)) [
      | inl more ↦ absurd (keeps.not_refused TooLarge more)
      | inr within ↦ within
    ] in
    let body = same_hashes keeps.block.header.body_hash (body_hash_of keeps.block.transactions) (λ other. keeps.not_refused BodyHashMismatch (keeps.block, keeps.read, other)) in
    let one : IsReadAgain keeps.block = subst (IsRead keeps.block) (sym (block_text_is keeps.block bytes keeps.read)) (record { read = keeps.read; size = size; body = body }) in
    subst (AllByRecursion IsReadAgain) (sym keeps.kept) (one, read)

-- what is left where a block is discarded
discards_read : (network : Network) (s : State) (hash : List ℕ) (t : State) → AllByRecursion IsReadAgain s.kept → Discards network s hash t → AllByRecursion IsReadAgain t.kept
discards_read network s hash t read discards =
    subst (λ (u : State). AllByRecursion IsReadAgain u.kept) (sym discards.after)
    (all_from_members IsReadAgain (without_hash hash s.kept) (λ b member. all_of_member IsReadAgain s.kept b read (without_member hash s.kept b member).0))

kind_read : (network : Network) (s : State) (event : Event) (reply : Reply) (t : State) → AllByRecursion IsReadAgain s.kept → Kind network s event reply t → AllByRecursion IsReadAgain t.kept
kind_read network s event reply t read (Keeping bytes back added u keeps) = keeps_read network s bytes back added u read keeps
kind_read network s event reply t read (Discarding hash u discards) = discards_read network s hash u read discards
kind_read network s event reply t read (Quiet e r u quiet) = subst (AllByRecursion IsReadAgain) (sym quiet.kept) read

run_read : (network : Network) (s : State) (es : List Entry) (t : State) → AllByRecursion IsReadAgain s.kept → IsRun network s es t → AllByRecursion IsReadAgain t.kept
run_read network s [] t read run = subst (λ (u : State). AllByRecursion IsReadAgain u.kept) (sym run) read
run_read network s (e ∷ es) t read run = run_read network run.0 es t (kind_read network s e.event e.reply run.0 read (kind_of network s e.event e.reply run.0 run.1)) run.2

-- ---- texts of a chain

all_read_again : (chain : List Block) (texts : List (List ℕ)) → AreRead chain texts → AllByRecursion IsReadAgain chain
all_read_again [] [] are = tt
all_read_again [] (t ∷ ts) are = absurd are
all_read_again (x ∷ xs) [] are = absurd are
all_read_again (x ∷ xs) (t ∷ ts) are = (subst (IsRead x) (sym (block_text_is x t are.0.read)) are.0, all_read_again xs ts are.1)

-- the block whose text stands at a place
record IsTextAt (chain : List Block) (before : List (List ℕ)) (bytes : List ℕ) : Type 0 where
  front : List Block
  b : Block
  rest : List Block
  is : chain ≡ front ++ b ∷ rest
  texts : texts_of front ≡ before
  text : block_text b ≡ bytes

text_at : (chain : List Block) (before : List (List ℕ)) (bytes : List ℕ) (after : List (List ℕ)) → texts_of chain ≡ before ++ bytes ∷ after → IsTextAt chain before bytes
text_at [] [] bytes after is = absurd (let e : [] ≡ bytes ∷ after = is in cc)
text_at [] (t ∷ ts) bytes after is = absurd (let e : [] ≡ t ∷ (ts ++ bytes ∷ after) = is in cc)
text_at (c ∷ cs) [] bytes after is = record {
  front = [];
  b = c;
  rest = cs;
  is = refl;
  texts = refl;
  text = (let e : block_text c ∷ texts_of cs ≡ bytes ∷ after = is in cc);
}
text_at (c ∷ cs) (t ∷ ts) bytes after is =
    let e : block_text c ∷ texts_of cs ≡ t ∷ (ts ++ bytes ∷ after) = is in
    let tail : texts_of cs ≡ ts ++ bytes ∷ after = cc in
    let head : block_text c ≡ t = cc in
    let rest = text_at cs ts bytes after tail in
    record {
      front = c ∷ rest.front;
      b = rest.b;
      rest = rest.rest;
      is = ap (λ (bs : List Block). c ∷ bs) rest.is;
      texts = (λ i. head i ∷ rest.texts i);
      text = rest.text;
    }

-- a chain that was read of these texts is the one that has them
same_chain : (chain front : List Block) (texts : List (List ℕ)) → AreRead chain texts → texts_of front ≡ texts → AllByRecursion IsReadAgain front → chain ≡ front
same_chain [] [] [] are is read = refl
same_chain [] (y ∷ ys) [] are is read = absurd (let e : block_text y ∷ texts_of ys ≡ [] = is in cc)
same_chain [] front (t ∷ ts) are is read = absurd are
same_chain (x ∷ xs) front [] are is read = absurd are
same_chain (x ∷ xs) [] (t ∷ ts) are is read = absurd (let e : [] ≡ t ∷ ts = is in cc)
same_chain (x ∷ xs) (y ∷ ys) (t ∷ ts) are is read =
    let e : block_text y ∷ texts_of ys ≡ t ∷ ts = is in
    let head : block_text y ≡ t = cc in
    let tail : texts_of ys ≡ ts = cc in
    let one : x ≡ y = one_block x y t are.0.read (subst (SpellsBlock y) head read.0.read) in
    λ i. one i ∷ same_chain xs ys ts are.1 tail read.1 i

-- ---- chains of a network, whatever it was opened on

same_ledger : (genesis : Genesis) (verifies : Verifies) (opened other : List Block) (ledger : Ledger) (chain : List Block) → ledger_from (network_on genesis verifies opened) ledger chain ≡ ledger_from (network_on genesis verifies other) ledger chain
same_ledger genesis verifies opened other ledger [] = refl
same_ledger genesis verifies opened other ledger (b ∷ bs) =
    λ i. option_and_then (λ after. same_ledger genesis verifies opened other after bs i) (ledger_after_block (network_on genesis verifies opened) ledger b)

valid_on : (genesis : Genesis) (verifies : Verifies) (opened other chain : List Block) → IsValidChain (network_on genesis verifies opened) chain → IsValidChain (network_on genesis verifies other) chain
valid_on genesis verifies opened other chain valid = record {
  linked = valid.linked;
  sizes = valid.sizes;
  ledger = subst (λ (o : Option Ledger). IsSome o) (same_ledger genesis verifies opened other (opening_ledger genesis) chain) valid.ledger;
}

-- a beginning of a valid chain is valid
front_valid : (network : Network) (xs ys : List Block) → IsValidChain network (xs ++ ys) → IsValidChain network xs
front_valid network xs ys valid =
    let whole = state_of_valid network (xs ++ ys) valid in
    let front = front_state network xs ys whole.0 whole.1 in
    valid_of_state network xs front.0 front.1

all_front : (P : Block → Type 0) (xs ys : List Block) → AllByRecursion P (xs ++ ys) → AllByRecursion P xs
all_front P [] ys all = tt
all_front P (x ∷ xs) ys all = (all.0, all_front P xs ys all.1)

all_rest : (P : Block → Type 0) (xs ys : List Block) → AllByRecursion P (xs ++ ys) → AllByRecursion P ys
all_rest P [] ys all = all
all_rest P (x ∷ xs) ys all = all_rest P xs ys all.1

members_read : (kept chain : List Block) → AllByRecursion IsReadAgain kept → AllByRecursion (Contains kept) chain → AllByRecursion IsReadAgain chain
members_read kept [] read members = tt
members_read kept (b ∷ bs) read members = (all_of_member IsReadAgain kept b read members.0, members_read kept bs read members.1)

-- ---- what was immutable

never_invalid : (genesis : Genesis) (verifies : Verifies) (texts : List (List ℕ)) (number : ℕ) → WereImmutable (network_of genesis verifies) texts → IsFirstInvalid (network_of genesis verifies) texts number → ⊥
never_invalid genesis verifies texts number were first =
    let network : Network = network_on genesis verifies were.opened in
    let chain = were.state.chain in
    let opens : IsOpening network = record {
      valid = valid_on genesis verifies [] were.opened were.opened were.read.valid;
      spelled = spelled_all were.opened (texts_of were.opened) were.read.read;
    } in
    let sound = legal_sound network were.history were.state opens were.legal in
    let kept = run_read network (opening network) were.history were.state (all_read_again were.opened (texts_of were.opened) were.read.read) were.legal in
    let part = immutable_part network chain in
    let past = drop (immutable_length network chain) chain in
    let whole : part ++ past ≡ chain = take-append-drop (immutable_length network chain) chain in
    let texts_are : texts_of part ≡ first.before ++ first.bytes ∷ (first.after ++ were.later) =
    were.are ∙ (ap (λ (ts : List (List ℕ)). ts ++ were.later) first.all ∙ append_assoc first.before (first.bytes ∷ first.after) were.later) in
    let at = text_at part first.before first.bytes (first.after ++ were.later) texts_are in
    let chain_is : (at.front ++ at.b ∷ []) ++ (at.rest ++ past) ≡ chain =
    append_assoc at.front (at.b ∷ []) (at.rest ++ past) ∙ (sym (append_assoc at.front (at.b ∷ at.rest) past) ∙ (ap (λ (bs : List Block). bs ++ past) (sym at.is) ∙ whole)) in
    let read : AllByRecursion IsReadAgain ((at.front ++ at.b ∷ []) ++ (at.rest ++ past)) =
    subst (AllByRecursion IsReadAgain) (sym chain_is) (members_read were.state.kept chain kept sound.members) in
    let read_front = all_front IsReadAgain (at.front ++ at.b ∷ []) (at.rest ++ past) read in
    let same : first.chain ≡ at.front = same_chain first.chain at.front first.before first.is_chain.read at.texts (all_front IsReadAgain at.front (at.b ∷ []) read_front) in
    let next : IsRead at.b first.bytes = subst (IsRead at.b) at.text (all_rest IsReadAgain at.front (at.b ∷ []) read_front).0 in
    let valid : IsValidChain network (at.front ++ at.b ∷ []) = front_valid network (at.front ++ at.b ∷ []) (at.rest ++ past) (subst (IsValidChain network) (sym chain_is) sound.valid) in
    first.invalid at.b next (subst (λ (bs : List Block). IsValidChain (network_of genesis verifies) (bs ++ at.b ∷ [])) (sym same) (valid_on genesis verifies were.opened [] (at.front ++ at.b ∷ []) valid))

-- so no block of those is told
pub never_told : (genesis : Genesis) (verifies : Verifies) (texts : List (List ℕ)) (fault : ReopenFault) → IsReopenFault (network_of genesis verifies) texts fault → WereImmutable (network_of genesis verifies) texts → fault ≡ OutOfMemory
never_told genesis verifies texts (InvalidBlock number) is were = absurd (never_invalid genesis verifies texts number were is)
never_told genesis verifies texts OutOfMemory is were = refl

pub again_of : {T : Type 0} (genesis : Genesis) (verifies : Verifies) (texts : List (List ℕ)) (r : Result T ReopenFault) → IfErr r (IsReopenFault (network_of genesis verifies) texts) → IfErr r (λ fault. WereImmutable (network_of genesis verifies) texts → fault ≡ OutOfMemory)
again_of genesis verifies texts (Ok x) is = tt
again_of genesis verifies texts (Err fault) is = never_told genesis verifies texts fault is
