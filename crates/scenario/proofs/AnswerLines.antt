-- Lines that ask where a transaction stands, and how much an owner has.
use Rattle.std.proofs.Common.{◌≡◌, ◌≢◌, ℕ, zero, suc, ◌-◌, List, [], ◌∷◌, drop, length, Some, None, refl, sym, subst, ◌∙◌, arith}
use Rattle.model.specs.Transaction.{Address}
use Rattle.model.specs.Utxo.{Utxo}
use Rattle.model.specs.Block.{Block}
use Rattle.model.specs.Ledger.{Network, Ledger, ledger_of}
use Rattle.script.specs.Line.{Owner}
use Rattle.script.specs.Meaning.{PrintsBalance}
use Rattle.chain_core.specs.Numbers.{block_numbered}
use Rattle.scenario.specs.declared.session.Session.{Session}
use Rattle.scenario.specs.Balances.{IsBalanceText, outputs_of_address}
use Rattle.scenario.specs.Run.{Scene}
use Rattle.scenario.specs.SessionView.{Holds, Done}
use Rattle.scenario.proofs.BalanceSums.{first_left, none_left}

pub balance_acted : {S : Type 0} (network : Network) (s : Scene) (owner : Owner) (address : Address) (utxo : Utxo) (out : List ℕ) (session : Session S) → Holds session s → (ledger : Ledger) × (ledger_of network session.core.chain ≡ Some ledger) × (utxo ≡ ledger.utxo)
    → IsBalanceText (outputs_of_address address utxo) owner out → Done network s (PrintsBalance owner address) out session
balance_acted network s owner address utxo out session holds (ledger, folded, is) text = record {
  entries = [];
  scene = s;
  acts = (
    ledger,
    subst (λ (chain : List Block). ledger_of network chain ≡ Some ledger) holds.stands.chain folded,
    subst (λ (u : Utxo). IsBalanceText (outputs_of_address address u) owner out) is text,
    refl,
    refl,
  );
  holds = holds;
}

-- ---- the block of a number

one_less : (n : ℕ) → suc n - 1 ≡ n
one_less n = omega arith

pub numbered_some : (chain : List Block) (number : ℕ) (b : Block) (rest : List Block) → number ≢ 0 → drop (number - 1) chain ≡ b ∷ rest → block_numbered chain number ≡ Some b
numbered_some chain zero b rest some is = absurd (some refl)
numbered_some chain (suc n) b rest some is = first_left chain n b rest (subst (λ (k : ℕ). drop k chain ≡ b ∷ rest) (one_less n) is)

no_length : (xs : List Block) → length xs ≡ 0 → xs ≡ []
no_length [] is = refl
no_length (x ∷ xs) is = absurd (omega (arith, is))

pub numbered_none : (chain : List Block) (number : ℕ) (left : List Block) → number ≢ 0 → left ≡ drop (number - 1) chain → length left ≡ 0 → block_numbered chain number ≡ None
numbered_none chain number left some told none = at number some (sym told ∙ no_length left none)
  where
    at : (number : ℕ) → number ≢ 0 → drop (number - 1) chain ≡ [] → block_numbered chain number ≡ None
    at zero some is = absurd (some refl)
    at (suc n) some is = none_left chain n (subst (λ (k : ℕ). drop k chain ≡ []) (one_less n) is)
