use Rattle.std.proofs.Common.{◌≡◌, ◌≤◌, ◌+◌, ◌-◌, ℕ, List, length, take, refl, ap, subst, ◌∙◌, sym, arith}
use Rattle.std.specs.Prelude.{IfSome, min, max}
use Rattle.model.specs.Block.{Block}
use Rattle.ledgerdb.specs.Chains.{without_last, IsPreparedOf}
use Rattle.ident.specs.Kinds.{BlockHash}
use Rattle.blockstore.specs.Stored.{Store}
use Rattle.chainsel.specs.Sides.{IsSide}
use Rattle.chainsel.proofs.ForCallers.{at_hand, if_some}
use Rattle.ledgerdb.specs.Values.{Database, depth, count}
use Rattle.chainsel.specs.Choices.{IsChoice}
use Rattle.chain.specs.Chained.{Chained, chain_of}
use Rattle.chain.specs.Indexed.{first_hashes}
use Rattle.chain_core.specs.declared.chain_db.ChainDb.{ChainDb}
use Rattle.chain_core.specs.ChainDbs.{IsTakenIn, IsBeside, network_db}
use Rattle.chain_core.proofs.Adding.{added_kept, added_at_switch, indexed_stays, room_at_switch}
use Rattle.ledgerdb.proofs.ForCallers.{prepared_count}
use Rattle.chain_core.proofs.PastHashes.{whole_indexed, indexed_same}
use Rattle.chain_core.proofs.InMemory.{none_gone}
use Rattle.chain_core.proofs.chain_db.ChainDb.add.Goals as goal

pub returns-in-Keep-clause-ok : goal.returns-in-Keep-clause-ok
returns-in-Keep-clause-ok g c =
    let old = c.args.self.now in
    let opened : List Block = take old.opened (chain_of old.chain) in
    let network = network_db c.args.genesis.now g.S.SigScheme.verifies old in
    let new = c.args.block in
    let choice = subst (IsChoice network (chain_of old.chain) old.store old.db new) c.in-Keep.is (c.in_ok-choice.ensures.choice c.args.genesis.now opened c.requires.ready) in
    let found = c.in_ok-choice.ensures.invalid c.args.genesis.now opened c.requires.ready in
    let taken = subst (λ (hs : List BlockHash). IsTakenIn old.store new hs c.insert.new.self.store) c.deref.ensures.value c.in_ok-insert-in-Keep.ensures.ok in
    let side = c.in_ok-choice.field-0.side in
    let inserted : c.keep_side.new.self.store ≡ c.insert.new.self.store = ap (λ (a : ChainDb g.row.S.Denot). a.store) c.keep_side.ensures.frame in
    let frame : c.keep_side.new.self ≡ record old { store = c.keep_side.new.self.store; db = c.keep_side.new.self.db } =
    subst (λ (a : ChainDb g.row.S.Denot). c.keep_side.new.self ≡ record a { store = c.keep_side.new.self.store; db = c.keep_side.new.self.db }) c.insert.ensures.frame
    (subst (λ (x : Store). c.keep_side.new.self ≡ record c.insert.new.self { store = x; db = c.keep_side.new.self.db }) (sym inserted) c.keep_side.ensures.frame) in
    let one : IfSome side (IsSide network (at_hand (chain_of old.chain) old.store new)) = if_some side _ _
    (λ s all. all c.args.genesis.now opened c.requires.ready) c.in_ok-choice.ensures.side in
    let beside = subst (λ (d : Database). IsBeside d side c.keep_side.new.self.db) (ap (λ (a : ChainDb g.row.S.Denot). a.db) c.insert.ensures.frame) c.keep_side.ensures.sides in
    added_kept network old new c.requires.whole c.requires.ready c.in_ok-choice.field-0.invalid.items found c.keep_side.new.self (record { back = 0; added = 0 }) side
    (subst (λ (x : Store). IsTakenIn old.store new c.in_ok-choice.field-0.invalid.items x) (sym inserted) taken) frame refl refl choice beside one

pub returns-clause-ok : goal.returns-clause-ok
returns-clause-ok g c =
    let old = c.args.self.now in
    let opened : List Block = take old.opened (chain_of old.chain) in
    let network = network_db c.args.genesis.now g.S.SigScheme.verifies old in
    let new = c.args.block in
    let is = subst (IsChoice network (chain_of old.chain) old.store old.db new) c.in-Switch.is (c.in_ok-choice.ensures.choice c.args.genesis.now opened c.requires.ready) in
    let found = c.in_ok-choice.ensures.invalid c.args.genesis.now opened c.requires.ready in
    let frame : c.insert-in-Switch.new.self ≡ record old { chain = c.make_ready.new.self.chain; store = c.insert-in-Switch.new.self.store; past = c.make_ready.new.self.past } =
    subst (λ (a : ChainDb g.row.S.Denot). c.insert-in-Switch.new.self ≡ record a { store = c.insert-in-Switch.new.self.store }) c.make_ready.ensures.frame c.insert-in-Switch.ensures.frame in
    let taken = subst (λ (x : Store). IsTakenIn x new c.in_ok-choice.field-0.invalid.items c.insert-in-Switch.new.self.store) (ap (λ (a : ChainDb g.row.S.Denot). a.store) c.make_ready.ensures.frame)
    (subst (λ (hs : List BlockHash). IsTakenIn c.make_ready.new.self.store new hs c.insert-in-Switch.new.self.store) c.deref-in-Switch.ensures.value c.in_ok-insert-in-Switch.ensures.ok) in
    added_at_switch network old new c.requires.whole c.requires.ready c.in_ok-choice.field-0.invalid.items found c.in-Switch.switch c.insert-in-Switch.new.self c.switch_to.new.self c.switch_to.result is taken
    (ap (λ (a : ChainDb g.row.S.Denot). (chain_of a.chain)) frame ∙ ap chain_of c.make_ready.ensures.chain) (ap (λ (a : ChainDb g.row.S.Denot). a.db) frame) c.switch_to.ensures.gone c.switch_to.ensures.chain c.switch_to.ensures.db c.switch_to.ensures.store
    c.in_ok-resynced-in-Switch.resynced (c.in_ok-resynced-in-Switch.ensures.resynced c.args.genesis.now opened (chain_of old.chain) c.in-Switch.switch.blocks.items c.requires.whole.settled.database (subst (λ (n : ℕ). IsPreparedOf network (without_last n (chain_of old.chain)) c.in-Switch.switch.blocks.items c.in-Switch.switch.prepared) (sym is.back) is.prepared))
    (ap (λ (a : ChainDb g.row.S.Denot). a.mempool) c.switch_to.ensures.frame ∙ (c.put.ensures ∙ ap (λ (a : ChainDb g.row.S.Denot). record a.mempool { waiting = c.in_ok-resynced-in-Switch.resynced }) frame))
    (subst (λ (hs : List (List ℕ)). c.switch_to.new.self.past.hashes ≡ first_hashes (max (length hs) (length (chain_of c.switch_to.new.self.chain) - depth c.switch_to.new.self.db)) (chain_of c.switch_to.new.self.chain))
    (ap (λ (a : ChainDb g.row.S.Denot). a.past.hashes) frame ∙ c.make_ready.ensures.past) c.switch_to.ensures.past)
    (ap (λ (a : ChainDb g.row.S.Denot). a.opened) c.switch_to.ensures.frame ∙ ap (λ (a : ChainDb g.row.S.Denot). a.opened) frame) c.switch_to.ensures.change

pub select-requires : goal.select-requires
select-requires g c = let e = none_gone c.args.self.now.chain c.requires.whole.gone in omega (arith, e)

pub switch_to-requires-clause-gone : goal.switch_to-requires-clause-gone
switch_to-requires-clause-gone g c =
    ap (λ (a : ChainDb g.row.S.Denot). a.chain.gone) c.insert-in-Switch.ensures.frame ∙ (ap (λ (ch : Chained). ch.gone) c.make_ready.ensures.chain ∙ c.requires.whole.gone)

pub switch_to-requires-clause-room : goal.switch_to-requires-clause-room
switch_to-requires-clause-room g c =
    subst (λ (ch : Chained). length ch.resident + length c.in-Switch.switch.blocks.items ≤ ch.room) (sym (ap (λ (a : ChainDb g.row.S.Denot). a.chain) c.insert-in-Switch.ensures.frame)) c.in_ok-resynced-in-Switch.ensures.room

pub switch_to-requires-clause-indexed : goal.switch_to-requires-clause-indexed
switch_to-requires-clause-indexed g c =
    let old = c.args.self.now in
    let frame : c.insert-in-Switch.new.self ≡ record old { chain = c.make_ready.new.self.chain; store = c.insert-in-Switch.new.self.store; past = c.make_ready.new.self.past } =
    subst (λ (a : ChainDb g.row.S.Denot). c.insert-in-Switch.new.self ≡ record a { store = c.insert-in-Switch.new.self.store }) c.make_ready.ensures.frame c.insert-in-Switch.ensures.frame in
    indexed_same old c.insert-in-Switch.new.self (ap (λ (a : ChainDb g.row.S.Denot). a.past.hashes) frame ∙ c.make_ready.ensures.past) (ap (λ (a : ChainDb g.row.S.Denot). chain_of a.chain) frame ∙ ap chain_of c.make_ready.ensures.chain)
    (whole_indexed (network_db c.args.genesis.now g.S.SigScheme.verifies old) old c.requires.whole)

pub switch_to-requires-clause-stays : goal.switch_to-requires-clause-stays
switch_to-requires-clause-stays g c =
    let old = c.args.self.now in
    let opened : List Block = take old.opened (chain_of old.chain) in
    let network = network_db c.args.genesis.now g.S.SigScheme.verifies old in
    let is = subst (IsChoice network (chain_of old.chain) old.store old.db c.args.block) c.in-Switch.is (c.in_ok-choice.ensures.choice c.args.genesis.now opened c.requires.ready) in
    let frame : c.insert-in-Switch.new.self ≡ record old { chain = c.make_ready.new.self.chain; store = c.insert-in-Switch.new.self.store; past = c.make_ready.new.self.past } =
    subst (λ (a : ChainDb g.row.S.Denot). c.insert-in-Switch.new.self ≡ record a { store = c.insert-in-Switch.new.self.store }) c.make_ready.ensures.frame c.insert-in-Switch.ensures.frame in
    let hashes : length c.insert-in-Switch.new.self.past.hashes ≡ length old.past.hashes = ap length (ap (λ (a : ChainDb g.row.S.Denot). a.past.hashes) frame ∙ c.make_ready.ensures.past) in
    let chain : length (chain_of c.insert-in-Switch.new.self.chain) ≡ length (chain_of old.chain) = ap length (ap (λ (a : ChainDb g.row.S.Denot). chain_of a.chain) frame ∙ ap chain_of c.make_ready.ensures.chain) in
    let stays = indexed_stays network old c.requires.whole c.in-Switch.switch.back is.within in
    omega (arith, hashes, chain, stays)

pub switch_to-requires-clause-past_room : goal.switch_to-requires-clause-past_room
switch_to-requires-clause-past_room g c =
    let old = c.args.self.now in
    let opened : List Block = take old.opened (chain_of old.chain) in
    let network = network_db c.args.genesis.now g.S.SigScheme.verifies old in
    let is = subst (IsChoice network (chain_of old.chain) old.store old.db c.args.block) c.in-Switch.is (c.in_ok-choice.ensures.choice c.args.genesis.now opened c.requires.ready) in
    let switch = c.in-Switch.switch in
    let frame : c.insert-in-Switch.new.self ≡ record old { chain = c.make_ready.new.self.chain; store = c.insert-in-Switch.new.self.store; past = c.make_ready.new.self.past } =
    subst (λ (a : ChainDb g.row.S.Denot). c.insert-in-Switch.new.self ≡ record a { store = c.insert-in-Switch.new.self.store }) c.make_ready.ensures.frame c.insert-in-Switch.ensures.frame in
    let hashes : length c.make_ready.new.self.past.hashes ≡ length old.past.hashes = ap length c.make_ready.ensures.past in
    let room = c.in_ok-resynced-in-Switch.ensures.past_room in
    let counted = prepared_count network (without_last switch.prepared.back (chain_of old.chain)) switch.blocks.items switch.prepared (subst (λ (n : ℕ). IsPreparedOf network (without_last n (chain_of old.chain)) switch.blocks.items switch.prepared) (sym is.back) is.prepared) in
    let here : length (chain_of old.chain) - switch.back + length switch.blocks.items - min old.db.k (depth old.db - switch.prepared.back + count switch.prepared) ≤ c.make_ready.new.self.past.room =
    room_at_switch network old c.requires.whole switch.back switch.prepared.back (count switch.prepared) (length switch.blocks.items) old.db.k c.make_ready.new.self.past.room is.within is.back counted refl (omega (arith, hashes, room)) in
    let chain : length (chain_of c.insert-in-Switch.new.self.chain) ≡ length (chain_of old.chain) = ap length (ap (λ (a : ChainDb g.row.S.Denot). chain_of a.chain) frame ∙ ap chain_of c.make_ready.ensures.chain) in
    let db : c.insert-in-Switch.new.self.db ≡ old.db = ap (λ (a : ChainDb g.row.S.Denot). a.db) frame in
    let past : c.insert-in-Switch.new.self.past.room ≡ c.make_ready.new.self.past.room = ap (λ (a : ChainDb g.row.S.Denot). a.past.room) frame in
    subst (λ (d : Database). length (chain_of c.insert-in-Switch.new.self.chain) - switch.back + length switch.blocks.items - min d.k (depth d - switch.prepared.back + count switch.prepared) ≤ c.insert-in-Switch.new.self.past.room) (sym db) (omega (arith, here, chain, past))
