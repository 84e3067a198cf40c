use Rattle.std.proofs.Common.{◌≡◌, ℕ, List, ◌++◌, subst}
use Rattle.conversing.specs.Parts.{hex_text}
use Rattle.conversing.proofs.ReplyLaws.{eleven}
use Rattle.conversing.proofs.found.put_output.Goals as goal

pub returns : goal.returns
returns c =
    let id = c.args.output.now.transaction in
    let spelled : c.put_hex.new.line.items ≡ c.extend_from_slice.new.self.items ++ hex_text id =
    subst (λ (bytes : List ℕ). c.put_hex.new.line.items ≡ c.extend_from_slice.new.self.items ++ hex_text bytes) c.as_slice.ensures c.in_ok-put_hex.ensures in
    eleven c.extend_from_slice-6.result c.args.line.now.items c.extend_from_slice.new.self.items c.put_hex.new.line.items c.extend_from_slice-2.new.self.items c.put_number.new.line.items c.extend_from_slice-3.new.self.items c.put_hex-2.new.line.items c.extend_from_slice-4.new.self.items c.put_number-2.new.line.items c.extend_from_slice-5.new.self.items c.put_assets.new.line.items c.extend_from_slice-6.new.self.items _ _ _ _ _ _ _ _ _ _ _
    c.in_ok-extend_from_slice.ensures.items spelled c.in_ok-extend_from_slice-2.ensures.items c.in_ok-put_number.ensures c.in_ok-extend_from_slice-3.ensures.items c.in_ok-put_hex-2.ensures c.in_ok-extend_from_slice-4.ensures.items c.in_ok-put_number-2.ensures c.in_ok-extend_from_slice-5.ensures.items c.in_ok-put_assets.ensures c.extend_from_slice-6.ensures.items
