-- What a reader has at the end: a state, or a fault.
use Rattle.std.proofs.Common.{◌≡◌, ℕ, ◌+◌, List, [], ◌∷◌, length, Option, Some, None, refl, sym, ap, subst, ◌∙◌, arith, ◌≤◌, ◌<◌, inl, inr}
use Rattle.std.proofs.lemmas.Bool.{cases_lt}
use Rattle.std.specs.FinMap as finite
use Rattle.model.specs.Cbor.{Spells}
use Rattle.model.specs.Utxo.{Utxo}
use Rattle.snapshot.specs.Snapshot.{Snapshot, Front, front_of, item_of_front, IsFront, SpellsSnapshot}
use Rattle.snapshot.specs.Begun.{Begun, coin_in, IsReadTo, HasRead}
use Rattle.snapshot.specs.Faults.{IsUnfinished, IsMissingCoins, IsEndFault, UnlessOutOfMemory, IsNoText, IsOfNetwork}
use Rattle.snapshot.specs.declared.fault.SnapshotFault.{SnapshotFault}
use Rattle.snapshot.specs.declared.fault.SnapshotFault.TheVariants as faults
use Rattle.snapshot.proofs.Apart.{outputs_once}
use Rattle.snapshot.proofs.SnapshotTexts.{one_front}
use Rattle.snapshot.proofs.Resuming.{no_some, same_some}

-- what is at most so much, and not just that, is less
pub less_of : (a b : ℕ) → a ≤ b → (a ≡ b → ⊥) → a < b
less_of a b le differs = elim (cases_lt a b) [ inl lt ↦ lt | inr more ↦ absurd (differs (omega (arith, le, more))) ]

-- the state that was read
abbrev pub read_snapshot : Front → Utxo → Snapshot
read_snapshot h utxo = record { tip = h.tip; fees = h.fees; digest = h.digest; utxo = utxo }

front_is : (h : Front) (utxo : Utxo) → finite.len utxo ≡ h.count → h ≡ front_of (read_snapshot h utxo)
front_is h utxo counted = λ i. record { tip = h.tip; fees = h.fees; digest = h.digest; count = sym counted i }

pub snapshot_read : (b : Begun) (h : Front) → b.front ≡ Some h → finite.len b.utxo ≡ h.count → (read : List (List ℕ)) → HasRead b read → SpellsSnapshot (read_snapshot h b.utxo) read
snapshot_read b h is counted [] none = absurd (no_some h (sym none.front ∙ is))
snapshot_read b h is counted (first ∷ others) (g, have) =
    let same : g ≡ h = same_some g h (sym have.front ∙ is) in
    let fronts : g ≡ front_of (read_snapshot h b.utxo) = same ∙ front_is h b.utxo counted in
    record {
      shape = subst IsFront fronts have.is_front;
      text = (subst (λ (k : Front). Spells (item_of_front k) first) fronts have.spelled, have.outputs);
    }

-- with the digest of the network, which it has
pub network_read : (b : Begun) (h : Front) → b.front ≡ Some h → finite.len b.utxo ≡ h.count → (read : List (List ℕ)) → HasRead b read → SpellsSnapshot (record (read_snapshot h b.utxo) { digest = b.digest }) read
network_read b h is counted [] none = absurd (no_some h (sym none.front ∙ is))
network_read b h is counted (first ∷ others) (g, have) =
    let same : g ≡ h = same_some g h (sym have.front ∙ is) in
    let digest : h.digest ≡ b.digest = ap (λ (k : Front). k.digest) (sym same) ∙ have.digest in
    subst (λ (d : List ℕ). SpellsSnapshot (record (read_snapshot h b.utxo) { digest = d }) (first ∷ others)) digest (snapshot_read b h is counted (first ∷ others) (g, have))

-- ---- faults

-- what is read is what the state has
record Whole (b : Begun) (h : Front) (s : Snapshot) : Type 0 where
  front_is : h ≡ front_of s
  outputs : finite.entries b.utxo ≡ finite.entries s.utxo

whole : (b : Begun) (h : Front) (first : List ℕ) (others : List (List ℕ)) (s : Snapshot) → IsReadTo b h first others → SpellsSnapshot s (first ∷ others) → Whole b h s
whole b h first others s have spells = record {
  front_is = one_front h (front_of s) first have.spelled spells.text.0;
  outputs = outputs_once others (finite.entries b.utxo) (finite.entries s.utxo) have.outputs spells.text.1;
}

unfinished : (b : Begun) (front : Option Front) (read : List (List ℕ)) (s : Snapshot) → b.front ≡ front → IsUnfinished front (finite.len b.utxo) → HasRead b read → SpellsSnapshot s read → ⊥
unfinished b front [] s was is have spells = spells.text
unfinished b None (first ∷ others) s was is (h, have) spells = no_some h (sym was ∙ have.front)
unfinished b (Some g) (first ∷ others) s was is (h, have) spells =
    let w = whole b h first others s have spells in
    let same : g ≡ h = same_some g h (sym was ∙ have.front) in
    let counts : finite.len b.utxo ≡ g.count = finite.len-entries b.utxo ∙ ap length w.outputs ∙ sym (finite.len-entries s.utxo) ∙ sym (ap (λ (k : Front). k.count) w.front_is) ∙ sym (ap (λ (k : Front). k.count) same) in
    omega (arith, is, counts)

coins_missing : (b : Begun) (read : List (List ℕ)) (s : Snapshot) → IsMissingCoins b → HasRead b read → SpellsSnapshot s read → IsOfNetwork b s → ⊥
coins_missing b [] s is have spells holds = spells.text
coins_missing b (first ∷ others) s is (h, have) spells holds =
    let w = whole b h first others s have spells in
    let same : is.front ≡ h = same_some is.front h (sym is.read ∙ have.front) in
    let fees = ap (λ (k : Front). k.fees) (same ∙ w.front_is) in
    let coins : coin_in (finite.entries b.utxo) ≡ coin_in (finite.entries s.utxo) = ap coin_in w.outputs in
    let all : coin_in (finite.entries s.utxo) + s.fees ≡ b.supply = holds.supply in
    let less = is.missing in
    omega (arith, fees, coins, all, less)

-- FAULTS AT THE END ARE THOSE OF NO STATE
pub end_refuses : (b : Begun) (fault : SnapshotFault) → IsEndFault b fault → UnlessOutOfMemory fault (IsNoText b)
end_refuses b faults.Unfinished is = λ read s have spells holds. unfinished b b.front read s refl is have spells
end_refuses b faults.CoinsMissing is = λ read s have spells holds. coins_missing b read s is have spells holds
end_refuses b faults.NotAPart is = absurd is
end_refuses b faults.OtherNetwork is = absurd is
end_refuses b faults.RoomLeft is = absurd is
end_refuses b faults.WrongOrder is = absurd is
end_refuses b faults.TooMany is = absurd is
end_refuses b faults.CoinsOverSupply is = absurd is
end_refuses b faults.OutOfMemory is = tt
