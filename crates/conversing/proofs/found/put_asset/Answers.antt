use Rattle.std.proofs.Common.{◌≡◌, ℕ, List, ◌++◌, subst}
use Rattle.conversing.specs.Parts.{hex_text}
use Rattle.conversing.proofs.ReplyLaws.{seven}
use Rattle.conversing.proofs.found.put_asset.Goals as goal

pub returns : goal.returns
returns c =
    let policy = c.args.asset.now.policy in
    let spelled : c.put_hex.new.line.items ≡ c.extend_from_slice.new.self.items ++ hex_text policy =
    subst (λ (bytes : List ℕ). c.put_hex.new.line.items ≡ c.extend_from_slice.new.self.items ++ hex_text bytes) c.as_slice.ensures c.in_ok-put_hex.ensures in
    seven c.extend_from_slice-4.result c.args.line.now.items c.extend_from_slice.new.self.items c.put_hex.new.line.items c.extend_from_slice-2.new.self.items c.put_hex-2.new.line.items c.extend_from_slice-3.new.self.items c.put_number.new.line.items c.extend_from_slice-4.new.self.items _ _ _ _ _ _ _
    c.in_ok-extend_from_slice.ensures.items spelled c.in_ok-extend_from_slice-2.ensures.items c.in_ok-put_hex-2.ensures c.in_ok-extend_from_slice-3.ensures.items c.in_ok-put_number.ensures c.extend_from_slice-4.ensures.items
