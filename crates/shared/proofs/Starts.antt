-- What a core that was opened begins from is sound.
use Rattle.std.proofs.Common.{◌≡◌, ℕ, List, [], ◌∷◌, refl, sym, subst}
use Rattle.std.specs.List.{AllByRecursion}
use Rattle.model.specs.Signature.{Verifies}
use Rattle.model.specs.Genesis.{Genesis}
use Rattle.model.specs.Block.{Block, SpellsBlock, block_text}
use Rattle.model.specs.Chain.{IsOpening}
use Rattle.model.proofs.BlockTexts.{block_text_is}
use Rattle.model.proofs.LegalHistories.{opens_nothing}
use Rattle.chain_core.specs.Held.{Held, opening_held}
use Rattle.chain_core.specs.Reopening.{AreRead}
use Rattle.shared.specs.Starts.{network_from, start_of, IsUntouched}

-- blocks that bytes are read as have texts
spelled_of : (blocks : List Block) (texts : List (List ℕ)) → AreRead blocks texts → AllByRecursion (λ b. SpellsBlock b (block_text b)) blocks
spelled_of [] texts read = tt
spelled_of (b ∷ bs) [] read = absurd read
spelled_of (b ∷ bs) (bytes ∷ more) read =
    (subst (λ (t : List ℕ). SpellsBlock b t) (sym (block_text_is b bytes read.0.read)) read.0.read, spelled_of bs more read.1)

pub opens_of : (verifies : Verifies) (held : Held) → IsUntouched verifies held → IsOpening (network_from (start_of held) verifies)
opens_of verifies held is =
    record {
      valid = record { linked = is.chain.valid.linked; sizes = is.chain.valid.sizes; ledger = is.chain.valid.ledger };
      spelled = spelled_of held.opened is.texts is.chain.read;
    }

-- a new core
pub untouched_new : (verifies : Verifies) (genesis : Genesis) (held : Held) → held ≡ opening_held genesis [] → IsUntouched verifies held
untouched_new verifies genesis held is =
    subst (IsUntouched verifies) (sym is) (record { new = refl; texts = []; chain = record { read = tt; valid = (opens_nothing genesis verifies).valid } })
