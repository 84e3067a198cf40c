use Rattle.std.proofs.Common.{◌≡◌, ℕ, List, ◌++◌, subst, codes}
use Rattle.conversing.specs.Parts.{hex_text}
use Rattle.conversing.proofs.ReplyLaws.{three}
use Rattle.conversing.proofs.outcome.put_outcome.Goals as goal

pub returns-in_ok-put_hex-in-Accepted : goal.returns-in_ok-put_hex-in-Accepted
returns-in_ok-put_hex-in-Accepted c =
    let before = c.extend_from_slice-in-Accepted.new.self.items in
    let after = c.put_hex.new.line.items in
    let spelled : after ≡ before ++ hex_text c.in-Accepted.id = subst (λ (bytes : List ℕ). after ≡ before ++ hex_text bytes) c.as_slice.ensures c.in_ok-put_hex-in-Accepted.ensures in
    rw c.in-Accepted.is (three c.extend_from_slice-in-Accepted-2.result c.args.line.now.items before after c.extend_from_slice-in-Accepted-2.new.self.items (codes "\"result\":{\"transaction\":") (hex_text c.in-Accepted.id) (codes "}")
    c.in_ok-extend_from_slice-in-Accepted.ensures.items spelled c.extend_from_slice-in-Accepted-2.ensures.items)

pub returns-in-NotAccepted : goal.returns-in-NotAccepted
returns-in-NotAccepted c = rw c.in-NotAccepted.is c.put_reason.ensures

pub returns-in-NotForged : goal.returns-in-NotForged
returns-in-NotForged c = rw c.in-NotForged.is c.put_reason-in-NotForged.ensures
