use Rattle.std.proofs.Common.{◌≡◌, ◌∙◌, ◌++◌, ◌+◌, List, ℕ, [], ◌∷◌, length, drop, refl, sym, ap, subst, append-nil, arith}
use Rattle.std.specs.List.{AllByRecursion}
use Rattle.sha2.specs.Sha256.{sha256}
use Rattle.model.specs.Disk.{Leaves}
use Rattle.model.specs.Log.{IsLogBlock, at_rest, IsLogOf}
use Rattle.model.proofs.Lists.{all_append}
use Rattle.immlog.specs.Index.{AreEntriesOf, blocks_in}
use Rattle.immlog.specs.declared.index.IndexEntry.{IndexEntry}
use Rattle.immlog.specs.Views.{lists_of}
use Rattle.immlog.proofs.Moments.{since_now, since_then}
use Rattle.immlog.proofs.Rows.{rest_leaves}
use Rattle.immlog.proofs.Appending.{resting_leaves}
use Rattle.immlog.proofs.Indexed.{entries_more, gate_is, goes_so_far, next_at, next_leaves, whole_row}
use Rattle.immlog.proofs.put.put_all.Goals as goal

pub loop-block-init : goal.loop-block-init
loop-block-init g c =
    let old = blocks_in c.args.index.now in
    record {
      counted = sym (append-nil old);
      entries = c.requires.entries;
      sizes = c.requires.known;
      more = omega (arith, c.requires.more);
      rest = c.requires.rest;
      is_settled = c.requires.settled;
      place = c.requires.place;
      crash = since_now (Leaves (IsLogOf (length old) (old ++ lists_of c.args.blocks.now))) _ _ (resting_leaves old (lists_of c.args.blocks.now) _ _ c.requires.known c.requires.sizes c.requires.settled c.requires.rest);
      failures = refl;
    }

pub put-requires-clause-size : goal.put-requires-clause-size
put-requires-clause-size g c =
    let at = next_at (blocks_in c.args.index.now) (blocks_in c.loop-block.index) c.args.blocks.now c.loop-block.block-index c.block-item.result c.deref.result.now c.requires.known c.requires.sizes c.loop-block.invariant.counted c.loop-block-test.true c.block-item.is c.deref.ensures.value in
    at.size

pub returns-in_err-gate-clause-goes : goal.returns-in_err-gate-clause-goes
returns-in_err-gate-clause-goes g c = goes_so_far (blocks_in c.args.index.now) (blocks_in c.loop-block.index) c.args.blocks.now c.loop-block.block-index c.loop-block.invariant.counted

pub returns-in_err-gate-clause-crash : goal.returns-in_err-gate-clause-crash
returns-in_err-gate-clause-crash g c =
    let at = next_at (blocks_in c.args.index.now) (blocks_in c.loop-block.index) c.args.blocks.now c.loop-block.block-index c.block-item.result c.deref.result.now c.requires.known c.requires.sizes c.loop-block.invariant.counted c.loop-block-test.true c.block-item.is c.deref.ensures.value in
    let later = drop (c.loop-block.block-index + 1) (lists_of c.args.blocks.now) in
    let all = blocks_in c.args.index.now ++ lists_of c.args.blocks.now in
    let done = blocks_in c.loop-block.index in
    let left = c.put.ensures.crash done later at.sizes c.loop-block.invariant.rest in
    since_then (Leaves (IsLogOf (length (blocks_in c.args.index.now)) all)) _ _ _ _ _ c.loop-block.invariant.crash
    (next_leaves done later all c.deref.result.now (length (blocks_in c.args.index.now)) _ _ _ at.row at.long left)

pub returns-in_err-gate-clause-sure : goal.returns-in_err-gate-clause-sure
returns-in_err-gate-clause-sure g c =
    let at = next_at (blocks_in c.args.index.now) (blocks_in c.loop-block.index) c.args.blocks.now c.loop-block.block-index c.block-item.result c.deref.result.now c.requires.known c.requires.sizes c.loop-block.invariant.counted c.loop-block-test.true c.block-item.is c.deref.ensures.value in
    let later = drop (c.loop-block.block-index + 1) (lists_of c.args.blocks.now) in
    let all = blocks_in c.args.index.now ++ lists_of c.args.blocks.now in
    let done = blocks_in c.loop-block.index in
    let left = c.put.ensures.crash done later at.sizes c.loop-block.invariant.rest in
    let still = next_leaves done later all c.deref.result.now (length done) _ _ _ at.row (omega arith) left in
    still.here

pub loop-block-preserved : goal.loop-block-preserved
loop-block-preserved g c =
    let at = next_at (blocks_in c.args.index.now) (blocks_in c.loop-block.index) c.args.blocks.now c.loop-block.block-index c.block-item.result c.deref.result.now c.requires.known c.requires.sizes c.loop-block.invariant.counted c.loop-block-test.true c.block-item.is c.deref.ensures.value in
    let later = drop (c.loop-block.block-index + 1) (lists_of c.args.blocks.now) in
    let all = blocks_in c.args.index.now ++ lists_of c.args.blocks.now in
    let done = blocks_in c.loop-block.index in
    let left = c.put.ensures.crash done later at.sizes c.loop-block.invariant.rest in
    let added : blocks_in c.add.new.self ≡ done ++ c.deref.result.now ∷ [] = c.add.ensures.blocks ∙ ap (λ (l : List ℕ). done ++ l ∷ []) (c.deref-in-loop-block.ensures.value ∙ sym c.deref.ensures.value) in
    let entries = entries_more 0 done c.loop-block.index.entries.items c.deref.result.now (record { place = c.loop-block.gate; digest = c.digest-digest.result }) c.loop-block.invariant.entries (gate_is done (g.D.Disk.reads c.loop-block.disk) c.loop-block.gate c.loop-block.invariant.rest c.loop-block.invariant.place) (c.digest-digest.ensures ∙ ap sha256 (sym c.deref.ensures.value)) in
    record {
      counted = added ∙ at.more;
      entries = subst (λ (x : List (List ℕ) × List IndexEntry). AreEntriesOf 0 x.0 x.1) (λ i. (sym added i, sym c.add.ensures.entries i)) entries;
      sizes = subst (AllByRecursion IsLogBlock) (sym added) (all_append IsLogBlock done (c.deref.result.now ∷ []) c.loop-block.invariant.sizes (at.size, tt));
      more = omega (arith, c.loop-block.invariant.more, c.loop-block-test.true, c.add.ensures.len, c.add.ensures.capacity);
      rest = c.in_ok-gate.ensures.text done c.loop-block.invariant.rest ∙ ap at_rest (sym added);
      is_settled = c.in_ok-gate.ensures.settled;
      place = c.in_ok-gate.ensures.place;
      crash = since_then (Leaves (IsLogOf (length (blocks_in c.args.index.now)) all)) _ _ _ _ _ c.loop-block.invariant.crash
          (next_leaves done later all c.deref.result.now (length (blocks_in c.args.index.now)) _ _ _ at.row at.long left);
      failures = c.in_ok-gate.ensures.failures.worked ∙ c.loop-block.invariant.failures;
    }

pub returns-clause-sure : goal.returns-clause-sure
returns-clause-sure g c =
    let whole = c.loop-block.invariant.counted ∙ whole_row (blocks_in c.args.index.now) c.args.blocks.now c.loop-block.block-index c.loop-block-test.false in
    let done = blocks_in c.loop-block.index in
    subst (λ (l : List (List ℕ)). Leaves (IsLogOf (length done) l) (g.D.Disk.moment c.loop-block.disk)) whole
    (rest_leaves done (length done) _ _ c.loop-block.invariant.sizes c.loop-block.invariant.is_settled c.loop-block.invariant.rest (omega arith))
