use Rattle.std.proofs.Common.{◌≡◌, ◌-◌, ◌++◌, ◌+◌, ◌<◌, ◌≤◌, min, ◌∙◌, ℕ, List, length, take, drop, map, sym, ap, subst, append_assoc, arith}
use Rattle.std.proofs.lemmas.List.{map-append, length-append, length-take, length-drop, take-append-drop}
use Rattle.model.specs.Block.{Block, block_hash_of}
use Rattle.model.specs.Chain.{genesis_tip, IsLinked}
use Rattle.model.proofs.Chains.{linked_front}
use Rattle.block.specs.View.{bytes_of}
use Rattle.chain.specs.Chained.{Chained, chain_of}
use Rattle.chain.specs.Noted.{noted}
use Rattle.chain.proofs.Lists.{rest_of, same_sizes}
use Rattle.chain.proofs.chain.Chain.forget.Goals as goal

-- where not all leave, one stays
last_stays : (gone resident n up_to gone_now live_now : ℕ) → (0 < gone → 0 < resident) → up_to ≤ gone + resident - 1 → n ≡ up_to - gone → gone_now ≡ gone + min n resident → live_now ≡ resident - n → 0 < gone_now → 0 < live_now
last_stays gone resident n up_to gone_now live_now last within leaving grown left some = grind arith

pub invariant_of-self-2 : goal.invariant_of-self-2
invariant_of-self-2 g c =
    let n = c.saturating_sub-leaving.result in
    let gone = noted c.self.inside.gone.items in
    let resident = c.self.inside.resident.items in
    let hashes = c.self.inside.hashes.items in
    let size : length hashes ≡ length gone = same_sizes bytes_of block_hash_of hashes gone c.self.invariant.hashes in
    let more : noted c.note_all.new.gone.items ≡ gone ++ take n resident = c.note_all.ensures.gone ∙ ap (λ (l : List Block). gone ++ take n l) c.deref.ensures.value in
    let rest : c.truncate.new.self.items ≡ drop n resident = c.truncate.ensures.items ∙ ap (take (c.len-2.result - n)) c.rotate_left.ensures.items ∙ rest_of n c.len-2.result resident (c.len-2.ensures ∙ c.self.inside.resident.ok.0) in
    let whole : IsLinked genesis_tip (gone ++ resident) = subst (λ (x : Chained). IsLinked genesis_tip (chain_of x)) (sym c.self.view_is) c.requires.linked in
    let parts : gone ++ resident ≡ (gone ++ take n resident) ++ drop n resident = ap (λ (l : List Block). gone ++ l) (sym (take-append-drop n resident)) ∙ sym (append_assoc gone (take n resident) (drop n resident)) in
    record {
      hashes = c.note_all.ensures.hashes ∙ ap (λ (l : List (List ℕ)). l ++ map block_hash_of (take n c.deref.result.now)) (ap (map bytes_of) c.in_ok-reserve.ensures.items ∙ c.self.invariant.hashes)
          ∙ sym (map-append block_hash_of gone (take n c.deref.result.now)) ∙ ap (map block_hash_of) (sym c.note_all.ensures.gone);
      linked = subst (λ (l : List Block). IsLinked genesis_tip l) (sym more) (linked_front genesis_tip (gone ++ take n resident) (drop n resident) (subst (λ (l : List Block). IsLinked genesis_tip l) parts whole));
      last = λ some.
          let grown : length (noted c.note_all.new.gone.items) ≡ length gone + length (take n resident) = ap length more ∙ length-append gone (take n resident) in
          let taken = length-take n resident in
          let left : length c.truncate.new.self.items ≡ length resident - n = ap length rest ∙ length-drop n resident in
          let within : c.args.up_to ≤ length (gone ++ resident) - 1 = subst (λ (x : Chained). c.args.up_to ≤ length (chain_of x) - 1) (sym c.self.view_is) c.requires.within in
          let long = length-append gone resident in
          let leaving : n ≡ c.args.up_to - length gone = c.saturating_sub-leaving.ensures ∙ ap (λ (k : ℕ). c.args.up_to - k) (c.len.ensures ∙ c.self.inside.hashes.ok.0 ∙ size) in
          last_stays (length gone) (length resident) n c.args.up_to _ _ c.self.invariant.last (subst (λ (k : ℕ). c.args.up_to ≤ k - 1) long within) leaving (grown ∙ ap (λ (k : ℕ). length gone + k) taken) left some;
    }
