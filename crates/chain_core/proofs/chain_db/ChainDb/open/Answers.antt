use Rattle.std.proofs.Common.{◌≡◌, ℕ, ◌^◌, ◌-◌, [], length, refl, sym, ap, subst, ◌∙◌, arith}
use Rattle.std.specs.Prelude.{min, max, vec_capacity}
use Rattle.model.specs.Ledger.{network_on}
use Rattle.model.specs.Chain.{IsOpening, genesis_tip, tip_after, immutable_length}
use Rattle.model.proofs.Candidates.{valid_of_state}
use Rattle.chainsel.proofs.ForCallers.{settled_at_start}
use Rattle.chain.specs.Chained.{Chained, chain_of}
use Rattle.chain.specs.Indexed.{Indexed, first_hashes}
use Rattle.chain_core.specs.ChainDbs.{IsWhole}
use Rattle.chain_core.proofs.Mempools.{mempool_at_start}
use Rattle.chain_core.proofs.chain_db.ChainDb.open.Goals as goal

pub returns-clause-whole : goal.returns-clause-whole
returns-clause-whole g c =
    let chain = c.args.on.chain.items in
    let network = network_on c.args.genesis.now g.S.SigScheme.verifies chain in
    let is = c.requires.state chain in
    let opens : IsOpening network = record { valid = valid_of_state network chain c.args.on.state is; spelled = c.requires.spelled } in
    let range = c.k.ensures.range in
    let least : min c.k.result (2 ^ 63 - 1) ≡ c.k.result = omega arith in
    let n = immutable_length network chain in
    let whole : n ≡ length chain = omega arith in
    let none : length c.reserve.new.self.hashes ≡ 0 = ap (λ (x : Indexed). length x.hashes) c.reserve.ensures.frame ∙ ap (λ (x : Indexed). length x.hashes) c.new-past.ensures in
    let up : max (length c.reserve.new.self.hashes) c.len-opened.result ≡ n = let len = c.len-opened.ensures in omega (arith, none, whole, len) in
    let past : c.push_up_to.new.self.hashes ≡ first_hashes n chain =
    ap (λ (x : Indexed). x.hashes) c.push_up_to.ensures ∙ (ap (λ (m : ℕ). first_hashes m (chain_of c.from_blocks-chain.result)) up ∙ ap (λ (ch : Chained). first_hashes n (chain_of ch)) c.from_blocks-chain.ensures) in
    let made : IsWhole network (record {
      chain = record { gone = []; resident = chain; room = vec_capacity c.args.on.chain };
      store = c.behind-store.result;
      db = c.new-db.result;
      mempool = c.in_ok-mempool.mempool;
      past = c.push_up_to.new.self;
      opened = c.len-opened.result;
    }) = record {
      gone = refl;
      opened = omega (arith, c.len-opened.ensures);
      settled = settled_at_start network c.behind-store.result c.new-db.result opens (ap (λ s. s.blocks) c.behind-store.ensures.empty) (ap (λ s. s.root) c.behind-store.ensures.empty ∙ (c.tip.ensures ∙ ap (λ (ch : Chained). tip_after genesis_tip (chain_of ch)) c.from_blocks-chain.ensures)) (c.new-db.ensures.chain network chain is) c.new-db.ensures.depth c.new-db.ensures.sides;
      k = c.new-db.ensures.k ∙ (least ∙ c.k.ensures.k);
      capacity = ap (λ s. s.capacity) c.behind-store.ensures.empty ∙ (λ i. record { blocks = c.max_volatile.ensures i; bytes = c.max_volatile_bytes.ensures i });
      mempool = mempool_at_start network chain c.args.on.state is c.in_ok-mempool.mempool _ _ c.max_mempool.ensures c.utxo.ensures c.in_ok-mempool.ensures;
      past = past;
    } in
    subst (λ (ch : Chained). IsWhole network (record {
      chain = ch;
      store = c.behind-store.result;
      db = c.new-db.result;
      mempool = c.in_ok-mempool.mempool;
      past = c.push_up_to.new.self;
      opened = c.len-opened.result;
    })) (sym c.from_blocks-chain.ensures) made
