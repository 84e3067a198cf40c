-- A state has one text, and a text is that of one state.
use Rattle.std.proofs.Common.{◌≡◌, ℕ, List, [], ◌∷◌, length, Option, Some, None, refl, sym, ap, ◌∙◌, arith}
use Rattle.std.specs.FinMap as finite
use Rattle.model.specs.Cbor.{Item, Unsigned, Bytes, Array, NextItem, NoItems, text_of, Spells}
use Rattle.model.specs.Block.{item_of_previous}
use Rattle.model.specs.Chain.{Tip}
use Rattle.model.proofs.ItemTexts.{one_item}
use Rattle.model.proofs.Members.{unsigned_is, bytes_is}
use Rattle.snapshot.specs.Snapshot.{Snapshot, Front, front_of, item_of_tip, item_of_front, AreWhole}
use Rattle.snapshot.specs.Laws.{EachHasOneText, EachIsOneSnapshot, EachHasAText}
use Rattle.snapshot.proofs.Filling.{parts_once, some_parts}
use Rattle.snapshot.proofs.Apart.{outputs_once}

-- what three and four members of equal arrays are
record SameThree (a b c x y z : Item) : Type 0 where
  first : a ≡ x
  second : b ≡ y
  third : c ≡ z

three_are : (a b c x y z : Item) → Array (NextItem a (NextItem b (NextItem c NoItems))) ≡ Array (NextItem x (NextItem y (NextItem z NoItems))) → SameThree a b c x y z
three_are a b c x y z e = record { first = cc; second = cc; third = cc }

record SameFour (a b c d x y z w : Item) : Type 0 where
  first : a ≡ x
  second : b ≡ y
  third : c ≡ z
  fourth : d ≡ w

four_are : (a b c d x y z w : Item) → Array (NextItem a (NextItem b (NextItem c (NextItem d NoItems)))) ≡ Array (NextItem x (NextItem y (NextItem z (NextItem w NoItems)))) → SameFour a b c d x y z w
four_are a b c d x y z w e = record { first = cc; second = cc; third = cc; fourth = cc }

same_previous : (a b : Option (List ℕ)) → item_of_previous a ≡ item_of_previous b → a ≡ b
same_previous None None e = refl
same_previous (Some x) (Some y) e = ap Some (bytes_is x y e)
same_previous None (Some y) e = absurd cc
same_previous (Some x) None e = absurd cc

same_tip : (a b : Tip) → item_of_tip a ≡ item_of_tip b → a ≡ b
same_tip a b e =
    let s = three_are (Unsigned a.number) (Unsigned a.slot) (item_of_previous a.hash) (Unsigned b.number) (Unsigned b.slot) (item_of_previous b.hash) e in
    let number = unsigned_is a.number b.number s.first in
    let slot = unsigned_is a.slot b.slot s.second in
    let hash = same_previous a.hash b.hash s.third in
    λ i. record { number = number i; slot = slot i; hash = hash i }

-- a first part is that of one head
pub same_front : (a b : Front) → item_of_front a ≡ item_of_front b → a ≡ b
same_front a b e =
    let s = four_are (item_of_tip a.tip) (Unsigned a.fees) (Bytes a.digest) (Unsigned a.count) (item_of_tip b.tip) (Unsigned b.fees) (Bytes b.digest) (Unsigned b.count) e in
    let tip = same_tip a.tip b.tip s.first in
    let fees = unsigned_is a.fees b.fees s.second in
    let digest = bytes_is a.digest b.digest s.third in
    let count = unsigned_is a.count b.count s.fourth in
    λ i. record { tip = tip i; fees = fees i; digest = digest i; count = count i }

pub one_front : (a b : Front) (first : List ℕ) → Spells (item_of_front a) first → Spells (item_of_front b) first → a ≡ b
one_front a b first one too = same_front a b (one_item (item_of_front a) (item_of_front b) first one too)

whole_once : (s : Snapshot) (a b : List (List ℕ)) → AreWhole (front_of s) (finite.entries s.utxo) a → AreWhole (front_of s) (finite.entries s.utxo) b → a ≡ b
whole_once s [] b one too = absurd one
whole_once s (p ∷ a) [] one too = absurd too
whole_once s (p ∷ a) (q ∷ b) one too =
    let first = one.0.spelled ∙ sym too.0.spelled in
    let others = parts_once (finite.entries s.utxo) a b one.1 too.1 in
    λ i. first i ∷ others i

pub each_has_one_text : EachHasOneText
each_has_one_text s a b one too = whole_once s a b one.text too.text

snapshot_once : (s t : Snapshot) (parts : List (List ℕ)) → AreWhole (front_of s) (finite.entries s.utxo) parts → AreWhole (front_of t) (finite.entries t.utxo) parts → s ≡ t
snapshot_once s t [] one too = absurd one
snapshot_once s t (first ∷ others) one too =
    let fronts = one_front (front_of s) (front_of t) first one.0 too.0 in
    let utxo = finite.same_entries_map s.utxo t.utxo (outputs_once others (finite.entries s.utxo) (finite.entries t.utxo) one.1 too.1) in
    λ i. record { tip = (fronts i).tip; fees = (fronts i).fees; digest = (fronts i).digest; utxo = utxo i }

pub each_is_one_snapshot : EachIsOneSnapshot
each_is_one_snapshot s t parts one too = snapshot_once s t parts one.text too.text

pub each_has_a_text : EachHasAText
each_has_a_text s front has fit =
    let outputs = some_parts (length (finite.entries s.utxo)) (finite.entries s.utxo) (omega arith) fit in
    (text_of (item_of_front (front_of s)) ∷ outputs.0, record { shape = front; text = (record { has_text = has; spelled = refl }, outputs.1) })
