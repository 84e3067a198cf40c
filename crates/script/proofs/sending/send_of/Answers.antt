use Rattle.std.proofs.Common.{◌≡◌, ◌∙◌, true, false, sym, refl}
use Rattle.script.specs.Sending.{is_peer}
use Rattle.script.specs.Text.{is_name}
use Rattle.script.proofs.WordLists.{is_named, not_named}
use Rattle.script.proofs.sending.send_of.Goals as goal

pub returns-in_err-name-clause-says : goal.returns-in_err-name-clause-says
returns-in_err-name-clause-says c =
    let unnamed = not_named (is_name c.args.name.now) c.args.name.now c.in_err-name.ensures in
    rw (c.from_residual-in_err-name.ensures, ← c.in_ok-peer.ensures, unnamed) refl

pub returns-then-is_peer-clause-says : goal.returns-then-is_peer-clause-says
returns-then-is_peer-clause-says c =
    let named = is_named (is_name c.args.name.now) c.args.name.now c.in_ok-name.name.text.now c.in_ok-name.ensures in
    let is : is_peer c.args.peers c.in_ok-peer.peer ≡ true = sym c.is_peer.ensures.is ∙ c.if-is_peer.true in
    rw (← c.in_ok-peer.ensures, named.0, is, named.1) refl

pub returns-else-is_peer-clause-says : goal.returns-else-is_peer-clause-says
returns-else-is_peer-clause-says c =
    let named = is_named (is_name c.args.name.now) c.args.name.now c.in_ok-name.name.text.now c.in_ok-name.ensures in
    let is : is_peer c.args.peers c.in_ok-peer.peer ≡ false = sym c.is_peer.ensures.is ∙ c.if-is_peer.false in
    rw (← c.in_ok-peer.ensures, named.0, is) refl
