use Rattle.std.proofs.Common.{◌≡◌, ◌<◌, ◌∷◌, ◌++◌, [], List, ℕ, sym, ap, subst, ◌∙◌, arith, rules}
use Rattle.std.specs.List.{AllByRecursion}
use Rattle.model.specs.Chain.{immutable_length}
use Rattle.model.specs.Log.{IsLogBlock}
use Rattle.model.proofs.Lists.{all_push}
use Rattle.chain_core.specs.Reopening.{texts_in}
use Rattle.chain_core.specs.Held.{network_held}
use Rattle.chain_core.proofs.CopiedTexts.{not_none, one_text_more, log_block, with_copy}
use Rattle.chain_core.proofs.node_core.Core.copy_immutable.Goals as goal

pub loop-number-preserved : goal.loop-number-preserved
loop-number-preserved g c =
    let core = c.args.self.now in
    let count = immutable_length (network_held core g.S.SigScheme.verifies) core.chain in
    let was = c.loop-number.invariant in
    let b = c.in-Some.ensures.0 in
    let bytes = c.in-Some.block.now in
    let below : c.loop-number.number < count = omega (arith, c.immutable-number-end.ensures.count) in
    let copied : c.in_ok-copy.copy.items ≡ bytes = search rules in
    let pushed = with_copy c.loop-number.texts.items c.push.new.self.items c.in_ok-copy.copy bytes c.in_ok-push.ensures.items copied in
    let more = one_text_more core.chain count c.args.from c.loop-number.number b bytes (omega arith) (omega arith) below c.in-Some.ensures.1 c.in-Some.ensures.2 in
    record {
      texts = pushed ∙ (ap (λ (t : List (List ℕ)). t ++ bytes ∷ []) was.texts ∙ sym more);
      sizes = subst (AllByRecursion IsLogBlock) (sym pushed) (all_push IsLogBlock (texts_in c.loop-number.texts.items) bytes was.sizes (log_block b bytes c.in-Some.ensures.2));
    }

pub unreachable-requires : goal.unreachable-requires
unreachable-requires g c =
    not_none c.args.self.now.chain c.loop-number.number (omega (arith, c.loop-number-test.true, c.immutable-number-end.ensures.count)) c.in_default.ensures
