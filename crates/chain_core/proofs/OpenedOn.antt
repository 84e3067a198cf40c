-- The chain that a core is opened on, block after block.
use Rattle.std.proofs.Common.{◌≡◌, ℕ, ◌+◌, ◌<◌, List, [], ◌∷◌, ◌++◌, length, take, drop, get_or, refl, sym, ap, subst, ◌∙◌, arith, append_assoc}
use Rattle.std.specs.Prelude.{◌≤◌}
use Rattle.std.specs.Global.{Vec}
use Rattle.std.specs.List.{AllByRecursion}
use Rattle.std.proofs.lemmas.List.{take_more, map-append, length-map, take-append-drop, length-take, take-take}
use Rattle.model.specs.Signature.{Verifies}
use Rattle.model.specs.Block.{Block, SpellsBlock, block_text}
use Rattle.model.specs.Ledger.{Network}
use Rattle.model.specs.Chain.{BeginsWith, immutable_part, immutable_length}
use Rattle.model.specs.Applying.{LedgerState, BlockFault, HasFault, IsApplied, IsStateOf}
use Rattle.model.proofs.BlockTexts.{block_text_is}
use Rattle.model.proofs.AppliedBlocks.{no_fault, state_pop, one_state_of}
use Rattle.model.proofs.Candidates.{state_of_valid, valid_of_state}
use Rattle.block.specs.Read.{IsRead, IsReadFault}
use Rattle.block.specs.declared.fault.ReadFault.{ReadFault}
use Rattle.block.specs.declared.fault.ReadFault.TheVariants as read
use Rattle.block.proofs.ForCallers.{same_read, not_both}
use Rattle.ledger.specs.View.{fault_of}
use Rattle.ledger.specs.Judgement.{IsApplyFault}
use Rattle.ledger.specs.declared.block_fault.BlockFault as code
use Rattle.ledger.specs.declared.block_fault.ApplyFault.TheVariants.{Refused}
use Rattle.chain_core.specs.Immutable.{texts_of}
use Rattle.chain_core.specs.Reopening.{AreRead, IsReopenFault, IsNotNext, texts_in}
use Rattle.chain_core.specs.declared.reopening.ReopenFault.{ReopenFault}
use Rattle.chain_core.specs.declared.reopening.ReopenFault.TheVariants.{InvalidBlock, OutOfMemory}

-- ---- one block

-- bytes that are read as no block are read as none that has no fault
pub never_read : (verifies : Verifies) (s : LedgerState) (bytes : List ℕ) (e : ReadFault) → IsReadFault bytes e → (e ≡ read.OutOfMemory → ⊥)
    → (b : Block) → IsRead b bytes → (fault : BlockFault) × HasFault verifies s b fault
never_read verifies s bytes e fault known b is = absurd (known (not_both bytes b e is fault))

-- and those of a block that isn't applied are read as that one
pub never_fits : (verifies : Verifies) (s : LedgerState) (bytes : List ℕ) (block : Block) (e : code.BlockFault) → IsRead block bytes → IsApplyFault verifies s block (Refused e)
    → (b : Block) → IsRead b bytes → (fault : BlockFault) × HasFault verifies s b fault
never_fits verifies s bytes block e of first b is = (fault_of e, subst (λ (x : Block). HasFault verifies s x (fault_of e)) (same_read bytes block b of is) first.applies)

-- ---- those so far

-- with the next one
reads_push : (chain : List Block) (texts : List (List ℕ)) (b : Block) (bytes : List ℕ) → AreRead chain texts → IsRead b bytes → AreRead (chain ++ b ∷ []) (texts ++ bytes ∷ [])
reads_push [] [] b bytes are is = (is, tt)
reads_push [] (t ∷ ts) b bytes are is = absurd are
reads_push (x ∷ xs) [] b bytes are is = absurd are
reads_push (x ∷ xs) (t ∷ ts) b bytes are is = (are.0, reads_push xs ts b bytes are.1 is)

-- each is read of its own text, with the next one too
pub texts_push : (chain : List Block) (b : Block) (bytes : List ℕ) (more : List Block) → IsRead b bytes → more ≡ chain ++ b ∷ [] → texts_of more ≡ texts_of chain ++ bytes ∷ []
texts_push chain b bytes more read is =
    ap texts_of is ∙ (map-append block_text chain (b ∷ []) ∙ ap (λ (t : List ℕ). texts_of chain ++ t ∷ []) (block_text_is b bytes read.read))

pub reads_more : (chain : List Block) (b : Block) (bytes : List ℕ) (more : List Block) → AreRead chain (texts_of chain) → IsRead b bytes → more ≡ chain ++ b ∷ [] → AreRead more (texts_of more)
reads_more chain b bytes more are read is =
    subst (AreRead more) (sym (texts_push chain b bytes more read is))
    (subst (λ (bs : List Block). AreRead bs (texts_of chain ++ bytes ∷ [])) (sym is) (reads_push chain (texts_of chain) b bytes are read))

pub texts_more : (so_far : List (List ℕ)) (blocks : List (Vec ℕ)) (i : ℕ) (v : Vec ℕ) → so_far ≡ texts_in (take i blocks) → i < length blocks → v ≡ get_or blocks i v → so_far ++ v.items ∷ [] ≡ texts_in (take (i + 1) blocks)
texts_more so_far blocks i v are within is =
    let here : take i blocks ++ v ∷ [] ≡ take (i + 1) blocks = sym (take_more blocks i v within ∙ ap (λ (c : Vec ℕ). take i blocks ++ c ∷ []) (sym is)) in
    ap (λ (ts : List (List ℕ)). ts ++ v.items ∷ []) are ∙ (sym (map-append (λ (w : Vec ℕ). w.items) (take i blocks) (v ∷ [])) ∙ ap texts_in here)

-- each has its text
pub spelled_all : (chain : List Block) (texts : List (List ℕ)) → AreRead chain texts → AllByRecursion (λ b. SpellsBlock b (block_text b)) chain
spelled_all [] [] are = tt
spelled_all [] (t ∷ ts) are = absurd are
spelled_all (x ∷ xs) [] are = absurd are
spelled_all (x ∷ xs) (t ∷ ts) are = (subst (SpellsBlock x) (sym (block_text_is x t are.0.read)) are.0.read, spelled_all xs ts are.1)

-- ---- the first that can't come next

pub next_invalid : (network : Network) (chain : List Block) (s : LedgerState) (bytes : List ℕ) (e : ReopenFault) → AreRead chain (texts_of chain) → IsStateOf network chain s → IsNotNext network.verifies s (length chain + 1) bytes e
    → IsReopenFault network (texts_of chain ++ bytes ∷ []) e
next_invalid network chain s bytes OutOfMemory are is unfit = tt
next_invalid network chain s bytes (InvalidBlock n) are is unfit = record {
  before = texts_of chain;
  bytes = bytes;
  after = [];
  all = refl;
  counted = let count = length-map chain block_text in let same = unfit.0 in omega (arith, count, same);
  chain = chain;
  is_chain = record { read = are; valid = valid_of_state network chain s is };
  invalid = λ b read valid.
      let fault = unfit.1 b read in
      let whole = state_of_valid network (chain ++ b ∷ []) valid in
      let was = state_pop network chain b whole.0 whole.1 in
      let same = one_state_of network chain was.before s was.is is in
      no_fault network.verifies s b whole.0 fault.0 (subst (λ (x : LedgerState). IsApplied network.verifies x b whole.0) same was.applied) fault.1;
}

-- what is told of texts is told of them with more behind
pub fault_with_more : (network : Network) (texts more : List (List ℕ)) (e : ReopenFault) → IsReopenFault network texts e → IsReopenFault network (texts ++ more) e
fault_with_more network texts more OutOfMemory is = tt
fault_with_more network texts more (InvalidBlock n) is = record {
  before = is.before;
  bytes = is.bytes;
  after = is.after ++ more;
  all = ap (λ (ts : List (List ℕ)). ts ++ more) is.all ∙ append_assoc is.before (is.bytes ∷ is.after) more;
  counted = is.counted;
  chain = is.chain;
  is_chain = is.is_chain;
  invalid = is.invalid;
}

-- so what is told of a block is told of them all
pub fault_of_all : (network : Network) (so_far : List (List ℕ)) (blocks : List (Vec ℕ)) (i : ℕ) (v : Vec ℕ) (e : ReopenFault) → so_far ≡ texts_in (take i blocks) → i < length blocks → v ≡ get_or blocks i v
    → IsReopenFault network (so_far ++ v.items ∷ []) e → IsReopenFault network (texts_in blocks) e
fault_of_all network so_far blocks i v e are within here told =
    let front = take (i + 1) blocks in
    let rest = drop (i + 1) blocks in
    let whole : texts_in front ++ texts_in rest ≡ texts_in blocks = sym (map-append (λ (w : Vec ℕ). w.items) front rest) ∙ ap texts_in (take-append-drop (i + 1) blocks) in
    subst (λ (ts : List (List ℕ)). IsReopenFault network ts e) whole
    (fault_with_more network (texts_in front) (texts_in rest) e (subst (λ (ts : List (List ℕ)). IsReopenFault network ts e) (texts_more so_far blocks i v are within here) told))

-- ---- what is never rolled back

-- a chain that begins with the one that it was opened on has that in its immutable part
pub begins_opened : (network : Network) (chain : List Block) → BeginsWith chain network.opened → BeginsWith (immutable_part network chain) network.opened
begins_opened network chain begins =
    let opened = length network.opened in
    let count : length (take opened chain) ≡ opened = ap length begins in
    let taken = length-take opened chain in
    let within : opened ≤ length chain = omega (arith, count, taken) in
    take-take opened (immutable_length network chain) chain (omega (arith, within)) ∙ begins
