use Rattle.std.proofs.Common.{◌≡◌, ℕ, length, max, ap, ◌∙◌, arith}
use Rattle.chain.specs.Chained.{chain_of}
use Rattle.chain.specs.Indexed.{Indexed, first_hashes}
use Rattle.chain.proofs.index.HashIndex.push_up_to.Goals as goal

pub returns : goal.returns
returns g c =
    let inv = c.loop-number.invariant in
    let count : c.loop-number._number ≡ max (length c.args.self.now.hashes) c.args.up_to =
    let most = inv.most in let least = inv.least in let end = c.loop-number-test.false in omega (arith, most, least, end) in
    let at : ℕ → Indexed = λ n. record { hashes = first_hashes n (chain_of c.args.chain.now); room = c.args.self.now.room } in
    inv.noted ∙ ap at count
