use Rattle.std.proofs.Common.{◌≡◌, ℕ, ◌-◌, ◌++◌, List, length, take, sym, ap, subst, ◌∙◌, arith}
use Rattle.std.specs.Prelude.{max}
use Rattle.std.proofs.lemmas.List.{length-append, length-take}
use Rattle.model.specs.Block.{Block}
use Rattle.model.specs.Chain.{Tip}
use Rattle.chain.specs.Chained.{Chained, chain_of}
use Rattle.chain.specs.Indexed.{Indexed, first_hashes}
use Rattle.chain.proofs.ForCallers.{firsts_stay}
use Rattle.chain_core.specs.ChainDbs.{IsCutBack}
use Rattle.chain_core.proofs.InMemory.{none_gone, appended, room_still}
use Rattle.chain_core.proofs.chain_db.ChainDb.switch_to.Goals as goal

pub truncate-requires : goal.truncate-requires
truncate-requires g c = let e = none_gone c.args.self.now.chain c.requires.gone in omega (arith, e)

pub append-requires : goal.append-requires
append-requires g c = room_still c.args.self.now.chain c.truncate.new.self _ _ c.requires.gone c.truncate.ensures.chain c.truncate.ensures.frame c.requires.room

pub returns-clause-gone : goal.returns-clause-gone
returns-clause-gone g c = ap (λ (ch : Chained). ch.gone) c.append.ensures ∙ (ap (λ (ch : Chained). ch.gone) c.truncate.ensures.frame ∙ c.requires.gone)

pub returns-clause-chain : goal.returns-clause-chain
returns-clause-chain g c =
    let old = chain_of c.args.self.now.chain in
    let back = c.args.switch.back in
    let blocks = c.args.switch.blocks.items in
    appended c.truncate.new.self c.append.new.self blocks c.append.ensures
    ∙ ap (λ (bs : List Block). bs ++ blocks) (c.truncate.ensures.chain ∙ ap (λ (n : ℕ). take (n - back) old) c.len-2.ensures)

pub returns-clause-store : goal.returns-clause-store
returns-clause-store g c =
    let immutable = c.immutable-immutable.result in
    subst (λ (n : ℕ). IsCutBack c.args.self.now.store (chain_of c.append.new.self) n c.drop_up_to.new.self) c.immutable-immutable.ensures.count
    (record {
      root = c.drop_up_to.ensures.root ∙ ap (λ (t : Tip). record t { number = immutable }) c.in-Some.ensures.tip;
      cut = c.drop_up_to.ensures.cut;
      set = c.drop_up_to.ensures.set;
      live = c.drop_up_to.ensures.live;
    })

pub push_up_to-requires-clause-noted : goal.push_up_to-requires-clause-noted
push_up_to-requires-clause-noted g c =
    let old = chain_of c.args.self.now.chain in
    let hashes = c.args.self.now.past.hashes in
    let back = c.args.switch.back in
    let blocks = c.args.switch.blocks.items in
    let next : chain_of c.append.new.self ≡ take (length old - back) old ++ blocks = appended c.truncate.new.self c.append.new.self blocks c.append.ensures ∙ ap (λ (bs : List Block). bs ++ blocks) (c.truncate.ensures.chain ∙ ap (λ (n : ℕ). take (n - back) old) c.len-2.ensures) in
    c.requires.indexed ∙ sym (ap (first_hashes (length hashes)) next ∙ firsts_stay (length hashes) (length old - back) old blocks c.requires.stays (omega arith))

pub push_up_to-requires-clause-room : goal.push_up_to-requires-clause-room
push_up_to-requires-clause-room g c =
    let old = chain_of c.args.self.now.chain in
    let back = c.args.switch.back in
    let blocks = c.args.switch.blocks.items in
    let next : chain_of c.append.new.self ≡ take (length old - back) old ++ blocks = appended c.truncate.new.self c.append.new.self blocks c.append.ensures ∙ ap (λ (bs : List Block). bs ++ blocks) (c.truncate.ensures.chain ∙ ap (λ (n : ℕ). take (n - back) old) c.len-2.ensures) in
    let long = ap length next in
    let count = c.immutable-immutable.ensures.count in
    let deep = c.commit.ensures.depth in
    let room = c.requires.past_room in
    omega (arith, long, count, deep, room, length-append (take (length old - back) old) blocks, length-take (length old - back) old)

pub returns-clause-past : goal.returns-clause-past
returns-clause-past g c =
    subst (λ (n : ℕ). c.push_up_to.new.self.hashes ≡ first_hashes (max (length c.args.self.now.past.hashes) n) (chain_of c.append.new.self)) c.immutable-immutable.ensures.count
    (ap (λ (x : Indexed). x.hashes) c.push_up_to.ensures)
