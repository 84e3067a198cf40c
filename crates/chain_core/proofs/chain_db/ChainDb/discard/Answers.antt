use Rattle.std.proofs.Common.{◌≡◌, true, false, refl}
use Rattle.chain_core.proofs.Discards.{discarded, not_beside}
use Rattle.chain_core.proofs.chain_db.ChainDb.discard.Goals as goal

pub returns-in_default : goal.returns-in_default
returns-in_default g c = record {
  discarded = λ yes. absurd (let e : false ≡ true = yes in cc);
  none = λ no network s whole has. not_beside network s c.args.hash.bytes c.place_in.result (c.place_in.ensures network s whole has) (λ number same. c.in_default.not-Beside number same);
  same = λ no. refl;
  frame = refl;
}

pub returns-clause-discarded : goal.returns-clause-discarded
returns-clause-discarded g c = λ yes network s whole has.
    discarded network c.args.self.now c.discard.new.self c.drop_sides.new.self s c.args.hash.bytes c.in-Beside.field-0 whole has (c.in-Beside.ensures network s whole has) c.discard.ensures.rid c.discard.ensures.live c.discard.ensures.set c.drop_sides.ensures
