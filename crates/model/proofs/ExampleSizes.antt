-- The sizes of the transactions that are worked examples.
use Rattle.std.proofs.Common.{◌≡◌, ℕ, List, [], ◌∷◌, length, refl, ◌∙◌}
use Rattle.sha2.proofs.Facts256.{length-sha256}
use Rattle.model.specs.Cbor.{head, text_of}
use Rattle.model.specs.Script.{Script, item_of_script, script_hash_of}
use Rattle.model.specs.Transaction.{KeyWitness, IsKeyWitness, Transaction, item_of_body, item_of_transaction, size_of, key_hash_of, transaction_id_of}
use Rattle.model.specs.TransactionExamples.{payment, two_halves, always, never, minting, burning}
use Rattle.model.proofs.TextLengths.{length_of_text}

pub key_hash_length : (key : List ℕ) → length (key_hash_of key) ≡ 32
unfolding key_hash_of
key_hash_length key = length-sha256 key

script_hash_length : (script : Script) → length (script_hash_of script) ≡ 32
unfolding script_hash_of
script_hash_length script = length-sha256 (0 ∷ text_of (item_of_script script))

id_length : (t : Transaction) → length (transaction_id_of t) ≡ 32
unfolding transaction_id_of
id_length t = length-sha256 (text_of (item_of_body t))

module _ (w : KeyWitness) (is : IsKeyWitness w) where
  pub payment_size : size_of (payment w.key 910 290 (w ∷ [])) ≡ 190
  unfolding size_of head
  payment_size = length_of_text (item_of_transaction (payment w.key 910 290 (w ∷ []))) ∙ rw (key_hash_length w.key, is.key, is.signature) refl

  pub cheap_size : size_of (payment w.key 911 289 (w ∷ [])) ≡ 190
  unfolding size_of head
  cheap_size = length_of_text (item_of_transaction (payment w.key 911 289 (w ∷ []))) ∙ rw (key_hash_length w.key, is.key, is.signature) refl

  pub halves_size : (policy : List ℕ) → length policy ≡ 32 → size_of (two_halves w policy) ≡ 323
  unfolding size_of head
  halves_size policy long = length_of_text (item_of_transaction (two_halves w policy)) ∙ rw (key_hash_length w.key, is.key, is.signature, long) refl

  pub minting_size : size_of (minting w always (always ∷ [])) ≡ 273
  unfolding size_of head
  minting_size = length_of_text (item_of_transaction (minting w always (always ∷ []))) ∙ rw (key_hash_length w.key, is.key, is.signature, script_hash_length always) refl

  pub never_size : size_of (minting w never (never ∷ [])) ≡ 273
  unfolding size_of head
  never_size = length_of_text (item_of_transaction (minting w never (never ∷ []))) ∙ rw (key_hash_length w.key, is.key, is.signature, script_hash_length never) refl

  pub both_size : size_of (minting w always (always ∷ never ∷ [])) ≡ 276
  unfolding size_of head
  both_size = length_of_text (item_of_transaction (minting w always (always ∷ never ∷ []))) ∙ rw (key_hash_length w.key, is.key, is.signature, script_hash_length always) refl

  pub burning_size : (minted : Transaction) → size_of (burning minted w (always ∷ [])) ≡ 234
  unfolding size_of head
  burning_size minted =
      length_of_text (item_of_transaction (burning minted w (always ∷ []))) ∙ rw (key_hash_length w.key, is.key, is.signature, script_hash_length always, id_length minted) refl

  pub bare_size : (minted : Transaction) → size_of (burning minted w []) ≡ 229
  unfolding size_of head
  bare_size minted = length_of_text (item_of_transaction (burning minted w [])) ∙ rw (key_hash_length w.key, is.key, is.signature, script_hash_length always, id_length minted) refl

-- without a signature
pub unsigned_size : (key : List ℕ) → size_of (payment key 910 290 []) ≡ 87
unfolding size_of head
unsigned_size key = length_of_text (item_of_transaction (payment key 910 290 [])) ∙ rw (key_hash_length key) refl
