-- The question what is unspent.
use Rattle.std.proofs.Common.{◌≡◌, ℕ, List, [], ◌++◌, Some, refl, sym, ap, subst, ◌∙◌}
use Rattle.std.specs.FinMap as finite
use Rattle.std.proofs.lemmas.Option.{same_Some}
use Rattle.model.specs.Utxo.{Utxo, outputs_of, coin_of}
use Rattle.model.specs.Block.{Block}
use Rattle.model.specs.Ledger.{Network, Ledger, ledger_of}
use Rattle.script.specs.Meaning.{PrintsUtxo}
use Rattle.scenario.specs.declared.session.Session.{Session}
use Rattle.scenario.specs.Print.{unspent_text, utxo_text}
use Rattle.scenario.specs.Run.{Scene}
use Rattle.scenario.specs.SessionView.{Holds, Done}

-- parts of one ledger
same_unspent : (a : Ledger) (utxo : Utxo) (pairs coin fees : ℕ) → utxo ≡ a.utxo → pairs ≡ finite.len utxo → coin ≡ coin_of (outputs_of utxo) → fees ≡ a.fees → unspent_text pairs coin fees ≡ utxo_text a
same_unspent a utxo pairs coin fees is is_pairs is_coin is_fees = rw (is_pairs, is_coin, is_fees, is) refl

pub utxo_acted : {S : Type 0} (network : Network) (s : Scene) (utxo : Utxo) (pairs coin fees : ℕ) (old out : List ℕ) (session : Session S) → Holds session s
    → (ledger : Ledger) × (ledger_of network session.core.chain ≡ Some ledger) × (utxo ≡ ledger.utxo)
    → (ledger : Ledger) × (ledger_of network session.core.chain ≡ Some ledger) × (fees ≡ ledger.fees)
    → pairs ≡ finite.len utxo → coin ≡ coin_of (outputs_of utxo) → old ≡ [] → out ≡ old ++ unspent_text pairs coin fees
    → Done network s PrintsUtxo out session
utxo_acted network s utxo pairs coin fees old out session holds (a, is_a, is_utxo) (b, is_b, is_fees) is_pairs is_coin empty printed =
    let same : b ≡ a = same_Some b a (sym is_b ∙ is_a) in
    let text : unspent_text pairs coin fees ≡ utxo_text a = same_unspent a utxo pairs coin fees is_utxo is_pairs is_coin (is_fees ∙ ap (λ (l : Ledger). l.fees) same) in
    record {
      entries = [];
      scene = s;
      acts = (a, subst (λ (c : List Block). ledger_of network c ≡ Some a) holds.stands.chain is_a, printed ∙ ap (λ (l : List ℕ). l ++ unspent_text pairs coin fees) empty ∙ text, refl, refl);
      holds = holds;
    }
