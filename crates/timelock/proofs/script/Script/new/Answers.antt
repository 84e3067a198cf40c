use Rattle.std.proofs.Common.{ℕ, List, ◌++◌, ap, refl, ◌∙◌}
use Rattle.timelock.specs.declared.fault.ScriptFault.TheVariants.{OutOfMemory}
use Rattle.model.specs.Cbor.{text_of}
use Rattle.model.specs.Script.{item_of_script}
use Rattle.model.proofs.Results.{if_err}
use Rattle.timelock.specs.View.{timelock_of}
use Rattle.timelock.specs.Made.{IsRefused}
use Rattle.timelock.proofs.ScriptClauses.{deep_text, fits_text, made_is_kept}
use Rattle.timelock.proofs.script.Script.new.Goals as goal

pub returns-then-not-fits-clause-err : goal.returns-then-not-fits-clause-err
returns-then-not-fits-clause-err c = deep_text (timelock_of c.args.timelock) (c.fits.ensures.deep c.if-not-fits.true)

pub returns-in_err-write_timelock-clause-err : goal.returns-in_err-write_timelock-clause-err
returns-in_err-write_timelock-clause-err c =
    if_err c.from_residual.result OutOfMemory (λ fault. IsRefused fault (timelock_of c.args.timelock)) c.from_residual.ensures.1 (fits_text (timelock_of c.args.timelock) (c.if-not-fits.ensures.fit refl))

pub invariant_of-result : goal.invariant_of-result
invariant_of-result c =
    let kept = made_is_kept (timelock_of c.args.timelock) c.deref.result.now c.of_script-hash.result.bytes (c.if-not-fits.ensures.fit refl) (c.deref.ensures.value ∙ c.in_ok-write_timelock.ensures.ok ∙ ap (λ (t : List ℕ). t ++ text_of (item_of_script (timelock_of c.args.timelock))) c.new-text.ensures.items) c.of_script-hash.ensures in
    record { shape = kept.shape; has_text = kept.has_text; hash = kept.hash }
