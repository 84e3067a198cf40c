use Rattle.std.proofs.Common.{◌<◌, ◌≤◌, length, map, arith}
use Rattle.std.proofs.lemmas.Result.{err_from_is_err_and}
use Rattle.value.specs.View.{asset_of}
use Rattle.tx.specs.View.{address_of}
use Rattle.draft.proofs.Adding.{output_full, output_refused, output_same, output_more}
use Rattle.draft.proofs.draft.Draft.pay.Goals as goal

pub returns-then-len-ge-MAX_OUTPUTS : goal.returns-then-len-ge-MAX_OUTPUTS
returns-then-len-ge-MAX_OUTPUTS g c = λ d s.
    let many : 65536 ≤ length c.args.self.now.outputs.items = omega (arith, c.len.ensures, c.args.self.now.outputs.ok) in
    output_full g.K.Signer.signer c.args.self.now (address_of c.args.address) c.args.coin (map asset_of c.args.assets.items) d s many

pub returns-in_err-value : goal.returns-in_err-value
returns-in_err-value g c =
    let p = err_from_is_err_and c.from_residual.result c.from_residual.ensures.1 in
    let few : length c.args.self.now.outputs.items < 65536 = omega (arith, c.len.ensures, c.args.self.now.outputs.ok) in
    rw (p.1, p.2) (λ d s. output_refused g.K.Signer.signer c.args.self.now (address_of c.args.address) c.args.coin (map asset_of c.args.assets.items) c.in_err-value.field-0.0 d s few c.in_err-value.ensures.refused)

pub returns-in_err-append : goal.returns-in_err-append
returns-in_err-append g c =
    let p = err_from_is_err_and c.from_residual-in_err-append.result c.from_residual-in_err-append.ensures.1 in
    let few : length c.args.self.now.outputs.items < 65536 = omega (arith, c.len.ensures, c.args.self.now.outputs.ok) in
    rw (p.1, p.2) (λ d s. output_same g.K.Signer.signer c.args.self.now c.append.new.outputs (address_of c.args.address) c.args.coin (map asset_of c.args.assets.items) d s few c.in_ok-value.ensures.sound c.in_err-append.ensures.err)

pub returns : goal.returns
returns g c = λ d s.
    let few : length c.args.self.now.outputs.items < 65536 = omega (arith, c.len.ensures, c.args.self.now.outputs.ok) in
    output_more g.K.Signer.signer c.args.self.now c.append.new.outputs (record { address = c.args.address; value = c.in_ok-value.value }) c.args.coin (map asset_of c.args.assets.items) d s few c.in_ok-value.ensures.sound c.in_ok-value.ensures.made c.in_ok-append.ensures.ok
