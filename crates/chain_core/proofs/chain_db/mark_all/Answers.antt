use Rattle.std.proofs.Common.{◌≡◌, ◌+◌, List, [], ◌∷◌, ◌++◌, take, sym, ap, subst, ◌∙◌}
use Rattle.std.proofs.lemmas.List.{take_more}
use Rattle.ident.specs.Kinds.{BlockHash}
use Rattle.chain_core.specs.ChainDbs.{AreMarked}
use Rattle.chain_core.proofs.NextStores.{one_marked}
use Rattle.chain_core.proofs.chain_db.mark_all.Goals as goal

pub loop-hash-preserved : goal.loop-hash-preserved
loop-hash-preserved g c =
    let hashes = c.args.invalid.now in
    let index = c.loop-hash.hash-index in
    let hash = c.hash-item.result in
    let more : take (index + 1) hashes ≡ take index hashes ++ hash ∷ [] = take_more hashes index hash c.loop-hash-test.true ∙ ap (λ (x : BlockHash). take index hashes ++ x ∷ []) (sym c.hash-item.is) in
    record {
      marked = subst (λ (hs : List BlockHash). AreMarked c.args.store.now hs c.mark_invalid.new.self) (sym more)
          (one_marked c.args.store.now c.loop-hash.store c.mark_invalid.new.self (take index hashes) hash c.loop-hash.invariant.marked c.mark_invalid.ensures.marks c.mark_invalid.ensures.live);
      set = λ was. c.mark_invalid.ensures.set;
    }
