use Rattle.std.proofs.Common.{Bool, ℕ, ◌≡◌, ◌≢◌, ◌+◌, ◌-◌, List, [], ◌∷◌, true, false, length, Contains, refl, sym, ap, subst, ◌∙◌, arith}
use Rattle.std.specs.Prelude.{IfSome}
use Rattle.std.specs.List.{AllByRecursion}
use Rattle.std.proofs.lemmas.List.{length-append}
use Rattle.std.proofs.lemmas.Slice.Eq.{bytes_eq-Decides}
use Rattle.std.proofs.lemmas.List.Elements.{Contains-append_right}
use Rattle.model.specs.Block.{Block, block_hash_of}
use Rattle.model.specs.Ledger.{network_on}
use Rattle.model.proofs.Lists.{contains_first}
use Rattle.ident.specs.Kinds.{BlockHash}
use Rattle.blockstore.specs.Stored.{blocks_of}
use Rattle.ledgerdb.specs.Chains.{without_last, IsPreparedOf}
use Rattle.ledgerdb.specs.Values.{state_back}
use Rattle.ledgerdb.specs.Faults.{IsForkFault, IsFaultOnChain}
use Rattle.chain.specs.Chained.{chain_of}
use Rattle.chainsel.specs.Founds.{AreFound}
use Rattle.chainsel.proofs.Turns.{match_none, match_some}
use Rattle.chainsel.specs.Choices.{AreDeadInAll, IsSideInAll}
use Rattle.chainsel.proofs.Answering.{kept_by_number, kept_by_way, kept_by_death, IsLed, switched, one_dead, way_there}
use Rattle.chainsel.proofs.Founds.{one_found, found_fewer, way_fit}
use Rattle.chainsel.proofs.Sides.{if_some, side_at_hand, sifted_dead}
use Rattle.chainsel.specs.Sides.{IsSideOf}
use Rattle.chainsel.specs.Judged.{FindsDead}
use Rattle.chainsel.specs.declared.found.Found.{Found}
use Rattle.chainsel.proofs.search.search.Given as given
use Rattle.chainsel.proofs.search.search.Goals as goal
use Rattle.chainsel.proofs.search.search.Goals.{In-Some, In_ok-push-in-Err-Refused, In_ok-side-in-Err-Refused, then-eq-via-then-eq, then-eq-via-else-eq+in_ok-sift-in-Err-Refused+then-not-branch}

pub returns-then-number-len : goal.returns-then-number-len
returns-then-number-len g c =
    kept_by_number g.S.SigScheme.verifies (chain_of c.args.chain.now) c.args.store.now c.args.db.now c.args.new.now c.keep.result c.loop-side.found.hashes.items c.keep.ensures.choice c.keep.ensures.invalid c.loop-side.invariant.dead
    (subst (λ o. IfSome o (IsSideInAll g.S.SigScheme.verifies (chain_of c.args.chain.now) c.args.store.now c.args.db.now c.args.new.now)) (sym c.keep.ensures.side) c.loop-side.invariant.beside)
    c.in_ok-best.best.end.now c.in_ok-best.ensures.best (let e = c.number.ensures ∙ ap (λ (b : Block). b.header.number) c.block-in-loop-side.ensures in let le = c.if-number-len.true in let long = c.len.ensures in omega arith)

pub returns-in_default : goal.returns-in_default
returns-in_default g c =
    kept_by_way g.S.SigScheme.verifies (chain_of c.args.chain.now) c.args.store.now c.args.db.now c.args.new.now c.keep-in_default.result c.loop-side.found.hashes.items c.keep-in_default.ensures.choice c.keep-in_default.ensures.invalid
    c.loop-side.invariant.dead
    (subst (λ o. IfSome o (IsSideInAll g.S.SigScheme.verifies (chain_of c.args.chain.now) c.args.store.now c.args.db.now c.args.new.now)) (sym c.keep-in_default.ensures.side) c.loop-side.invariant.beside)
    c.args.immutable c.in_ok-best.best.end.now c.requires.immutable c.in_ok-best.ensures.descends (match_none _ _ c.in_ok-way.field-0 c.in_ok-way.ensures c.in_default.is)

-- a way leads there, past the chain
led : (g : given.Over) (c : In-Some g) → IsLed (chain_of c.args.chain.now) c.args.store.now c.args.db.now c.args.new.now c.loop-side.found.hashes.items c.in_ok-best.best.end.now c.args.immutable c.in-Some.way.keep c.in-Some.way.blocks.items
led g c = record {
  best = c.in_ok-best.ensures.best;
  longer = let e = c.number.ensures ∙ ap (λ (b : Block). b.header.number) c.block-in-loop-side.ensures in let not = c.if-number-len.false in let long = c.len.ensures in omega arith;
  immutable_at = c.requires.immutable;
  way = match_some _ _ c.in_ok-way.field-0 c.in-Some.way c.in_ok-way.ensures c.in-Some.is;
}

pub returns-in-Ok : goal.returns-in-Ok
returns-in-Ok g c =
    let chain = chain_of c.args.chain.now in
    let keep = c.in-Some.way.keep in
    let blocks = c.in-Some.way.blocks in
    let back = c.len-in-loop-side.result - keep in
    switched g.S.SigScheme.verifies chain c.args.store.now c.args.db.now c.args.new.now c.loop-side.found.hashes.items c.loop-side.invariant.dead c.in_ok-best.best.end.now c.args.immutable keep blocks.items (led g (goal.at.returns-in-Ok g c).In-Some)
    c.into_hashes.result (record { back = back; blocks = blocks; prepared = c.in-Ok.prepared }) c.loop-side.read c.into_hashes.ensures (ap (λ (n : ℕ). n - keep) c.len-in-loop-side.ensures) refl c.in-Ok.ensures.back (c.in-Ok.ensures.count ∙ ap length c.deref.ensures.value)
    (λ genesis opened database. subst (λ (bs : List Block). IsPreparedOf (network_on genesis g.S.SigScheme.verifies opened) (without_last back chain) bs c.in-Ok.prepared) c.deref.ensures.value (c.in-Ok.ensures.chain genesis opened chain database))

-- ---- a block of the way isn't applied

-- it is dead, beside those that were
dead_now : (g : given.Over) (c : In_ok-push-in-Err-Refused g) → IsLed (chain_of c.args.chain.now) c.args.store.now c.args.db.now c.args.new.now c.loop-side.found.hashes.items c.in_ok-best.best.end.now c.args.immutable c.in-Some.way.keep c.in-Some.way.blocks.items
    → AreDeadInAll g.S.SigScheme.verifies (chain_of c.args.chain.now) c.args.store.now c.args.db.now c.args.new.now c.push.new.self.hashes.items
dead_now g c is_led =
    let chain = chain_of c.args.chain.now in
    let store = c.args.store.now in
    let db = c.args.db.now in
    let new = c.args.new.now in
    let keep = c.in-Some.way.keep in
    let blocks = c.in-Some.way.blocks.items in
    subst (AreDeadInAll g.S.SigScheme.verifies chain store db new) (sym c.in_ok-push-in-Err-Refused.ensures)
    (one_dead g.S.SigScheme.verifies chain store db new c.loop-side.found.hashes.items c.loop-side.invariant.dead c.in_ok-best.best.end.now c.args.immutable keep blocks is_led c.in-Err-Refused.index c.in-Err-Refused.field-0-1 c.index.result.now c.hash-dead.result
    (λ genesis opened database.
    let network = network_on genesis g.S.SigScheme.verifies opened in
    subst (IsFaultOnChain network (without_last (length chain - keep) chain) blocks) c.in-Err-Refused.field-0-is
    (subst (λ (n : ℕ). IsFaultOnChain network (without_last (n - keep) chain) blocks c.in-Err-Refused.field-0) c.len-in-loop-side.ensures
    (subst (λ (bs : List Block). IsFaultOnChain network (without_last (c.len-in-loop-side.result - keep) chain) bs c.in-Err-Refused.field-0) c.deref.ensures.value (c.in-Err-Refused.ensures.chain_refused genesis opened chain database))))
    (sym c.index.ensures) c.hash-dead.ensures)

-- the state before it is one of blocks at hand
beside_now : (g : given.Over) (c : In_ok-side-in-Err-Refused g) → IsLed (chain_of c.args.chain.now) c.args.store.now c.args.db.now c.args.new.now c.loop-side.found.hashes.items c.in_ok-best.best.end.now c.args.immutable c.in-Some.way.keep c.in-Some.way.blocks.items
    → IfSome c.in_ok-side-in-Err-Refused.side (IsSideInAll g.S.SigScheme.verifies (chain_of c.args.chain.now) c.args.store.now c.args.db.now c.args.new.now)
beside_now g c is_led =
    let verifies = g.S.SigScheme.verifies in
    let chain = chain_of c.args.chain.now in
    let store = c.args.store.now in
    let db = c.args.db.now in
    let new = c.args.new.now in
    let way = c.deref-in-Err-Refused.result.now in
    if_some c.in_ok-side-in-Err-Refused.side (IsSideOf verifies db way) (IsSideInAll verifies chain store db new)
    (λ s is genesis opened ready.
    let there = way_there verifies chain store db new c.loop-side.found.hashes.items c.loop-side.invariant.dead c.in_ok-best.best.end.now c.args.immutable c.in-Some.way.keep c.in-Some.way.blocks.items is_led genesis opened ready in
    side_at_hand (network_on genesis verifies opened) chain store new way s (subst (AllByRecursion (Contains (new ∷ blocks_of store))) (sym c.deref-in-Err-Refused.ensures.value) there)
    (is genesis opened chain ready.settled.database))
    c.in_ok-side-in-Err-Refused.ensures

pub returns-then-eq : goal.returns-then-eq
returns-then-eq g c =
    let verifies = g.S.SigScheme.verifies in
    let chain = chain_of c.args.chain.now in
    let store = c.args.store.now in
    let db = c.args.db.now in
    let new = c.args.new.now in
    let dead = c.hash-dead.result in
    let is_led = led g (goal.at.returns-then-eq g c).In-Some in
    let all_dead = dead_now g (goal.at.returns-then-eq g c).In_ok-push-in-Err-Refused is_led in
    let beside = beside_now g (goal.at.returns-then-eq g c).In_ok-side-in-Err-Refused is_led in
    let still = subst (λ o. IfSome o (IsSideInAll verifies chain store db new)) (sym c.keep-then-eq.ensures.side) beside in
    elim c.then-eq.branch [
      | then-eq-via-then-eq w ↦
          let among : Contains c.push.new.self.hashes.items dead =
          subst (λ (hashes : List BlockHash). Contains hashes dead) (sym c.in_ok-push-in-Err-Refused.ensures)
          (Contains-append_right c.loop-side.found.hashes.items (dead ∷ []) dead (contains_first dead [])) in
          let named : dead.bytes ≡ block_hash_of new = (bytes_eq-Decides dead.bytes c.hash-hash.result.bytes).0 (sym w.if-eq.ensures) ∙ (c.hash-hash.ensures ∙ ap block_hash_of c.block.ensures) in
          kept_by_death verifies chain store db new c.keep-then-eq.result c.push.new.self.hashes.items c.keep-then-eq.ensures.choice (c.keep-then-eq.ensures.invalid ∙ ap (λ (f : Found). f.hashes.items) w.found-is)
          all_dead still dead among named
      | then-eq-via-else-eq+in_ok-sift-in-Err-Refused+then-not-branch w ↦
          let old = c.push.new.self.hashes.items in
          let more = w.sift.new.found.hashes.items in
          let noted = subst (λ (stays : Bool). FindsDead store new stays old more) w.if-not-branch.true w.in_ok-sift-in-Err-Refused.ensures.found in
          let among : Contains more noted.0 = subst (λ (hashes : List BlockHash). Contains hashes noted.0) (sym noted.2) (Contains-append_right old (noted.0 ∷ []) noted.0 (contains_first noted.0 [])) in
          kept_by_death verifies chain store db new c.keep-then-eq.result more c.keep-then-eq.ensures.choice (c.keep-then-eq.ensures.invalid ∙ ap (λ (f : Found). f.hashes.items) w.found-is)
          (sifted_dead verifies chain store db new c.in_ok-side-in-Err-Refused.side w.as_ref.result old more w.as_ref.ensures.value beside w.in_ok-sift-in-Err-Refused.ensures.dead all_dead) still noted.0 among noted.1
    ]

-- what was named is fit, and named once
found_now : (g : given.Over) (c : In_ok-push-in-Err-Refused g) → IsLed (chain_of c.args.chain.now) c.args.store.now c.args.db.now c.args.new.now c.loop-side.found.hashes.items c.in_ok-best.best.end.now c.args.immutable c.in-Some.way.keep c.in-Some.way.blocks.items
    → block_hash_of c.index.result.now ≢ block_hash_of c.args.new.now → AreFound c.args.store.now c.push.new.self.hashes.items
found_now g c is_led other =
    let store = c.args.store.now in
    let new = c.args.new.now in
    let end = c.in_ok-best.best.end.now in
    let keep = c.in-Some.way.keep in
    let blocks = c.in-Some.way.blocks.items in
    let old = c.loop-side.found.hashes.items in
    let b = c.index.result.now in
    let stops = subst (IsForkFault g.S.SigScheme.verifies (state_back c.args.db.now (c.len-in-loop-side.result - keep)) blocks) c.in-Err-Refused.field-0-is
    (subst (λ (bs : List Block). IsForkFault g.S.SigScheme.verifies (state_back c.args.db.now (c.len-in-loop-side.result - keep)) bs c.in-Err-Refused.field-0) c.deref.ensures.value c.in-Err-Refused.ensures.refused) in
    let fit = way_fit store old (chain_of c.args.chain.now) c.args.immutable new end keep blocks is_led.way c.in_ok-best.ensures.descends b (c.in-Err-Refused.index, stops.within, sym c.index.ensures) other in
    subst (AreFound store) (sym c.in_ok-push-in-Err-Refused.ensures) (one_found store old b c.hash-dead.result c.loop-side.invariant.found fit c.hash-dead.ensures)

pub loop-side-preserved : goal.loop-side-preserved
loop-side-preserved g c =
    let verifies = g.S.SigScheme.verifies in
    let chain = chain_of c.args.chain.now in
    let store = c.args.store.now in
    let db = c.args.db.now in
    let new = c.args.new.now in
    let other : block_hash_of c.index.result.now ≢ block_hash_of c.args.new.now = λ same. let e : false ≡ true = c.if-eq.ensures ∙ (bytes_eq-Decides c.hash-dead.result.bytes c.hash-hash.result.bytes).1 (c.hash-dead.ensures ∙ (same ∙ sym (c.hash-hash.ensures ∙ ap block_hash_of c.block.ensures))) in cc in
    let is_led = led g (goal.at.loop-side-preserved g c).In-Some in
    let dead = dead_now g (goal.at.loop-side-preserved g c).In_ok-push-in-Err-Refused is_led in
    let beside = beside_now g (goal.at.loop-side-preserved g c).In_ok-side-in-Err-Refused is_led in
    let old = c.push.new.self.hashes.items in
    let more = c.sift.new.found.hashes.items in
    let gains = subst (λ (stays : Bool). FindsDead store new stays old more) c.if-not-branch.false c.in_ok-sift-in-Err-Refused.ensures.found in
    record {
      found = gains.stays (found_now g (goal.at.loop-side-preserved g c).In_ok-push-in-Err-Refused is_led other);
      dead = sifted_dead verifies chain store db new c.in_ok-side-in-Err-Refused.side c.as_ref.result old more c.as_ref.ensures.value beside c.in_ok-sift-in-Err-Refused.ensures.dead dead;
      beside = beside;
    }

pub loop-side-smaller : goal.loop-side-smaller
loop-side-smaller g c =
    let other : block_hash_of c.index.result.now ≢ block_hash_of c.args.new.now = λ same. let e : false ≡ true = c.if-eq.ensures ∙ (bytes_eq-Decides c.hash-dead.result.bytes c.hash-hash.result.bytes).1 (c.hash-dead.ensures ∙ (same ∙ sym (c.hash-hash.ensures ∙ ap block_hash_of c.block.ensures))) in cc in
    let old = c.push.new.self.hashes.items in
    let more = c.sift.new.found.hashes.items in
    let gains = subst (λ (stays : Bool). FindsDead c.args.store.now c.args.new.now stays old more) c.if-not-branch.false c.in_ok-sift-in-Err-Refused.ensures.found in
    let most = found_fewer c.args.store.now more (gains.stays (found_now g (goal.at.loop-side-smaller g c).In_ok-push-in-Err-Refused (led g (goal.at.loop-side-smaller g c).In-Some) other)) in
    let longer = gains.longer in
    let long : length old ≡ length c.loop-side.found.hashes.items + 1 = ap length c.in_ok-push-in-Err-Refused.ensures ∙ length-append c.loop-side.found.hashes.items (c.hash-dead.result ∷ []) in
    omega (arith, most, long, longer)
