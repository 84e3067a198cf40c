use Rattle.std.proofs.Common.{◌≡◌, ℕ, List, [], ◌++◌, get_or, subst}
use Rattle.conversing.specs.Parts.{hex_text}
use Rattle.conversing.proofs.ListLaws.{none_listed, one_listed, all_listed}
use Rattle.conversing.proofs.found.put_ids.Goals as goal

pub loop-id-init : goal.loop-id-init
loop-id-init c = none_listed hex_text c.args.line.now.items c.args.ids.now c.extend_from_slice.new.self.items c.as_slice-separator.result.now c.in_ok-extend_from_slice.ensures.items c.as_slice-separator.ensures

pub loop-id-preserved : goal.loop-id-preserved
loop-id-preserved c =
    let one = get_or c.args.ids.now c.loop-id.id-index [] in
    let spelled : c.put_hex.new.line.items ≡ c.extend_from_slice-in-loop-id.new.self.items ++ hex_text one =
    subst (λ (bytes : List ℕ). c.put_hex.new.line.items ≡ c.extend_from_slice-in-loop-id.new.self.items ++ hex_text bytes) c.as_slice.ensures c.in_ok-put_hex.ensures in
    one_listed hex_text c.args.line.now.items c.args.ids.now c.loop-id.line.items c.extend_from_slice-in-loop-id.new.self.items c.put_hex.new.line.items c.loop-id.separator.now c.as_slice-separator-in-loop-id.result.now c.loop-id.id-index []
    c.loop-id-test.true c.in_ok-extend_from_slice-2.ensures.items spelled c.as_slice-separator-in-loop-id.ensures c.loop-id.invariant

pub returns : goal.returns
returns c = all_listed hex_text c.args.line.now.items c.args.ids.now c.extend_from_slice-2.result c.loop-id.line.items c.extend_from_slice-2.new.self.items c.loop-id.separator.now c.loop-id.id-index
    c.loop-id-test.false c.extend_from_slice-2.ensures.items c.loop-id.invariant
