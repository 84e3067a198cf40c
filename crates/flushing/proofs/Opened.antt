-- A core that was opened on blocks.
use Rattle.std.proofs.Common.{◌≡◌, ℕ, List, [], ◌∷◌, ◌++◌, length, drop, refl, sym, ap, ap₂, subst, ◌∙◌}
use Rattle.std.proofs.lemmas.List.{map-append, take-append-drop}
use Rattle.model.specs.Signature.{Verifies}
use Rattle.model.specs.Block.{Block, block_text}
use Rattle.model.specs.Genesis.{Genesis}
use Rattle.model.specs.Ledger.{Network, network_of}
use Rattle.model.specs.Chain.{BeginsWith, immutable_part}
use Rattle.model.proofs.BlockTexts.{block_text_is}
use Rattle.std.specs.Prelude.{Result, Ok, Err, IfOk}
use Rattle.chain_core.specs.Held.{Held, network_held, opening_held}
use Rattle.chain_core.specs.declared.reopening.ReopenFault.{ReopenFault}
use Rattle.chain_core.specs.declared.reopening.ReopenFault.TheVariants.{InvalidBlock, OutOfMemory}
use Rattle.chain_core.specs.Reopening.{AreRead, IsChainOf, IsReopenFault}
use Rattle.chain_core.specs.Immutable.{texts_of, immutable_texts}
use Rattle.shared.specs.Opening.{AreCallers, IsOpenFault}
use Rattle.shared.specs.Starts.{IsUntouched}
use Rattle.shared.specs.declared.open_fault.OpenFault.{OpenFault}
use Rattle.shared.specs.declared.open_fault.OpenFault.TheVariants as opening
use Rattle.flushing.specs.Beginning.{IsSharedOnFault, TellsNoBlock, reopening_fault, opening_fault}
use Rattle.flushing.specs.Texts.{Begins}

-- blocks that are read of texts have these
pub texts_read : (chain : List Block) (texts : List (List ℕ)) → AreRead chain texts → texts_of chain ≡ texts
texts_read [] [] are = refl
texts_read [] (t ∷ ts) are = absurd are
texts_read (x ∷ xs) [] are = absurd are
texts_read (x ∷ xs) (t ∷ ts) are = ap₂ (λ (u : List ℕ) (us : List (List ℕ)). u ∷ us) (block_text_is x t are.0.read) (texts_read xs ts are.1)

-- the texts that a core was opened on are the first of its immutable ones
pub begins_on_opened : (verifies : Verifies) (core : Held) (first : List (List ℕ)) → texts_of core.opened ≡ first → BeginsWith (immutable_part (network_held core verifies) core.chain) core.opened → Begins first (immutable_texts verifies core)
begins_on_opened verifies core first is begins =
    let all = immutable_part (network_held core verifies) core.chain in
    let n = length core.opened in
    let parts : all ≡ core.opened ++ drop n all = sym (take-append-drop n all) ∙ ap (λ (bs : List Block). bs ++ drop n all) begins in
    record {
      later = texts_of (drop n all);
      are = ap texts_of parts ∙ (map-append block_text core.opened (drop n all) ∙ ap (λ (t : List (List ℕ)). t ++ texts_of (drop n all)) is);
    }

-- a core that was opened on these texts was opened on blocks that have them
pub opened_blocks : (network : Network) (genesis : Genesis) (r : Result Held ReopenFault) (texts blocks : List (List ℕ)) → IfOk r (λ core. (chain : List Block) × IsChainOf network texts chain × (core ≡ opening_held genesis chain)) → texts ≡ blocks
    → IfOk r (λ core. texts_of core.opened ≡ blocks)
opened_blocks network genesis (Ok core) texts blocks opened same = ap (λ (h : Held). texts_of h.opened) opened.2 ∙ (texts_read opened.0 texts opened.1.read ∙ same)
opened_blocks network genesis (Err e) texts blocks opened same = tt

-- and it is a valid chain of them
pub opened_chain : (network : Network) (genesis : Genesis) (r : Result Held ReopenFault) (texts blocks : List (List ℕ)) → IfOk r (λ core. (chain : List Block) × IsChainOf network texts chain × (core ≡ opening_held genesis chain)) → texts ≡ blocks
    → IfOk r (λ core. IsChainOf network blocks core.opened)
opened_chain network genesis (Ok core) texts blocks opened same =
    subst (λ (chain : List Block). IsChainOf network blocks chain) (sym (ap (λ (h : Held). h.opened) opened.2)) (subst (λ (t : List (List ℕ)). IsChainOf network t opened.0) same opened.1)
opened_chain network genesis (Err e) texts blocks opened same = tt

-- nothing is the first of whatever blocks
pub begins_with_none : (first all : List (List ℕ)) → first ≡ [] → Begins first all
begins_with_none first all none = record { later = all; are = ap (λ (f : List (List ℕ)). f ++ all) (sym none) }

-- ---- a shared core

-- nothing came to a core that was opened on them
pub untouched_of : (verifies : Verifies) (genesis : Genesis) (core : Held) (texts : List (List ℕ)) → core ≡ opening_held genesis core.opened → IsChainOf (network_of genesis verifies) texts core.opened → IsUntouched verifies core
untouched_of verifies genesis core texts is chain =
    let same : genesis ≡ core.genesis = sym (ap (λ (h : Held). h.genesis) is) in
    record {
      new = is ∙ ap (λ (g : Genesis). opening_held g core.opened) same;
      texts = texts;
      chain = subst (λ (g : Genesis). IsChainOf (network_of g verifies) texts core.opened) same chain;
    }

-- where none is opened, for a number of callers that may be
pub not_opened : (network : Network) (texts : List (List ℕ)) (callers : ℕ) (fault : ReopenFault) → AreCallers callers → IsReopenFault network texts fault → IsSharedOnFault network texts callers (reopening_fault fault)
not_opened network texts callers (InvalidBlock number) are is = (are, is)
not_opened network texts callers OutOfMemory are is = are

pub not_shared : (network : Network) (texts : List (List ℕ)) (callers : ℕ) (fault : OpenFault) → IsOpenFault callers fault → IsSharedOnFault network texts callers (opening_fault fault)
not_shared network texts callers opening.BadCallers is = is
not_shared network texts callers opening.OutOfMemory is = is

-- where the core's fault is OutOfMemory the shared one's tells of no block, nor does that of a shared core
pub reopening_tells_none : (fault : ReopenFault) → fault ≡ OutOfMemory → TellsNoBlock (reopening_fault fault)
reopening_tells_none fault is = subst (λ (f : ReopenFault). TellsNoBlock (reopening_fault f)) (sym is) tt

pub opening_tells_none : (fault : OpenFault) → TellsNoBlock (opening_fault fault)
opening_tells_none opening.BadCallers = tt
opening_tells_none opening.OutOfMemory = tt
