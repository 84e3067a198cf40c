use Rattle.std.proofs.Common.{◌≡◌, ◌<◌, true, false, refl, sym, ap, subst, ◌∙◌, inl, inr, arith, length}
use Rattle.blockstore.specs.Insertion.{IsFull}
use Rattle.model.specs.Block.{block_text}
use Rattle.model.specs.Chain.{immutable_length}
use Rattle.model.proofs.BlockTexts.{block_text_is}
use Rattle.chain.specs.Chained.{chain_of}
use Rattle.chain_core.proofs.Refusals.{judged_old, judged_known, judged_clash, judged_full, judged_none, read_again, known_at, other_at, none_at, clash_past}
use Rattle.chain_core.proofs.judging.first_refusal.Goals as goal

pub returns-then-point-immutable : goal.returns-then-point-immutable
returns-then-point-immutable g c = λ network s b whole has read at.
    let number = at.0 in let old = c.if-point-immutable.true in
    judged_old network c.args.chain_db.now s whole has b c.immutable.result (c.immutable.ensures.immutable network whole) (omega arith)

pub returns-then-has_text : goal.returns-then-has_text
returns-then-has_text g c = λ network s b whole has read at.
    let young : immutable_length network (chain_of c.args.chain_db.now.chain) < b.header.number = let number = at.0 in let young = c.if-point-immutable.false in let is = c.immutable.ensures.immutable network whole in omega arith in
    let text = block_text_is b c.args.bytes.now read.read in
    judged_known network c.args.chain_db.now s whole has b young
    (known_at c.args.chain_db.now.store b c.in-Some.stored.now c.args.point.hash.bytes c.in-Some.ensures.found (ap block_text (sym c.block.ensures) ∙ (c.if-has_text.ensures.0 refl ∙ sym text)))

pub returns-in-Some : goal.returns-in-Some
returns-in-Some g c = λ network s b whole has read at.
    let young : immutable_length network (chain_of c.args.chain_db.now.chain) < b.header.number = let number = at.0 in let young = c.if-point-immutable.false in let is = c.immutable.ensures.immutable network whole in omega arith in
    let text = block_text_is b c.args.bytes.now read.read in
    let other = other_at c.args.chain_db.now.store b c.in-Some.stored.now c.args.point.hash.bytes c.get.ensures.set (c.get.ensures.one b (read_again b c.args.bytes.now read)) c.in-Some.ensures.found at.1
    (λ same. let e : false ≡ true = c.if-has_text.ensures.1 (ap block_text c.block.ensures ∙ (same ∙ text)) in cc) in
    judged_clash network c.args.chain_db.now s whole has b young other.0 (inl other.1)

pub returns-then-is_past : goal.returns-then-is_past
returns-then-is_past g c = λ network s b whole has read at.
    let young : immutable_length network (chain_of c.args.chain_db.now.chain) < b.header.number = let number = at.0 in let young = c.if-point-immutable.false in let is = c.immutable.ensures.immutable network whole in omega arith in
    let none = none_at c.args.chain_db.now.store b c.args.point.hash.bytes (c.get.ensures.one b (read_again b c.args.bytes.now read)) c.in_default.ensures.found at.1 in
    let clash = clash_past network c.args.chain_db.now s whole has b young c.args.point.hash.bytes c.args.bytes.now read at.1 c.in_default.ensures.found in
    let found = c.if-is_past.ensures network whole in
    judged_clash network c.args.chain_db.now s whole has b young none.0 (inr (clash.0 (found.0 refl)))

pub returns-then-is_full_for : goal.returns-then-is_full_for
returns-then-is_full_for g c = λ network s b whole has read at.
    let young : immutable_length network (chain_of c.args.chain_db.now.chain) < b.header.number = let number = at.0 in let young = c.if-point-immutable.false in let is = c.immutable.ensures.immutable network whole in omega arith in
    let none = none_at c.args.chain_db.now.store b c.args.point.hash.bytes (c.get.ensures.one b (read_again b c.args.bytes.now read)) c.in_default.ensures.found at.1 in
    let clash = clash_past network c.args.chain_db.now s whole has b young c.args.point.hash.bytes c.args.bytes.now read at.1 c.in_default.ensures.found in
    let found = c.if-is_past.ensures network whole in
    judged_full network c.args.chain_db.now s whole has b young none.0 none.1 (λ is. let e : false ≡ true = found.1 (clash.1 is) in cc)
    (subst (IsFull c.args.chain_db.now.store) (ap length (sym (block_text_is b c.args.bytes.now read.read))) (c.if-is_full_for.ensures.0 refl))

pub returns : goal.returns
returns g c = λ network s b whole has read at.
    let young : immutable_length network (chain_of c.args.chain_db.now.chain) < b.header.number = let number = at.0 in let young = c.if-point-immutable.false in let is = c.immutable.ensures.immutable network whole in omega arith in
    let none = none_at c.args.chain_db.now.store b c.args.point.hash.bytes (c.get.ensures.one b (read_again b c.args.bytes.now read)) c.in_default.ensures.found at.1 in
    let clash = clash_past network c.args.chain_db.now s whole has b young c.args.point.hash.bytes c.args.bytes.now read at.1 c.in_default.ensures.found in
    let found = c.if-is_past.ensures network whole in
    judged_none network c.args.chain_db.now s whole has b young none.0 none.1 (λ is. let e : false ≡ true = found.1 (clash.1 is) in cc) (λ full.
    let e : false ≡ true = c.if-is_full_for.ensures.1 (subst (IsFull c.args.chain_db.now.store) (ap length (block_text_is b c.args.bytes.now read.read)) full) in cc)
