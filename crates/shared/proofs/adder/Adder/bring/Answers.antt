use Rattle.std.proofs.Common.{◌≡◌, Ok, Some, refl, sym, ap, ◌∙◌, subst}
use Rattle.std.specs.Prelude.{Option, option_map}
use Rattle.model.specs.Journal.{Knowledge}
use Rattle.chain_core.specs.Views.{arrive_reply_of}
use Rattle.shared.specs.Starts.{network_from}
use Rattle.inbox.specs.Arrivals.{Arrival, IsPeer}
use Rattle.shared.specs.HeldArrivals.{held_arrival, seen_arrival}
use Rattle.shared.specs.Adding.{Adding, HasAdded, IsLastAnswer}
use Rattle.shared.specs.Entries.{arrival_by}
use Rattle.shared.proofs.Adders.{added_none, brought_of, held_peer}
use Rattle.shared.proofs.adder.Adder.bring.Given as given
use Rattle.shared.proofs.adder.Adder.bring.Goals as goal
use Rattle.shared.proofs.adder.Adder.bring.Goals.{In-Ok}

-- the arrival that was read is the one that was held
held_read : (g : given.Over) (c : In-Ok g) → option_map held_arrival c.self.inside.held ≡ Some (seen_arrival c.in-Ok.arrival)
held_read g c = ap (option_map held_arrival) (sym c.take.ensures.value ∙ c.in-Some.is) ∙ ap Some (sym c.in-Ok.ensures.read)

-- it came from a peer
read_peer : (g : given.Over) (c : In-Ok g) → IsPeer c.in-Ok.arrival.peer
read_peer g c =
    subst (λ (a : Arrival). IsPeer a.peer) (sym c.in-Ok.ensures.read) (held_peer c.self.inside.held c.in-Some.held (sym c.take.ensures.value ∙ c.in-Some.is) c.self.invariant.peer)

pub arrive-requires : goal.arrive-requires
arrive-requires g c = read_peer g (goal.at.arrive-requires g c).In-Ok

pub returns-in_default-clause-added : goal.returns-in_default-clause-added
returns-in_default-clause-added g c =
    let network = network_from g.B.Room.start g.S.SigScheme.verifies in
    let v : Adding = record { knows = c.self.inside.caller; intake = c.self.inside.end; held = option_map held_arrival c.self.inside.held } in
    let stays : option_map held_arrival c.self.inside.held ≡ option_map held_arrival c.take.new.self = ap (option_map held_arrival) ((sym c.take.ensures.value ∙ c.in_default.is) ∙ sym c.take.ensures.after) in
    subst (λ (a : Adding). HasAdded network a (record v { held = option_map held_arrival c.take.new.self })) c.self.view_is
    (subst (λ (o : Option Arrival). HasAdded network v (record v { held = o })) stays (added_none network v c.self.invariant.in_step))

pub returns-in-Err-clause-added : goal.returns-in-Err-clause-added
returns-in-Err-clause-added g c =
    let network = network_from g.B.Room.start g.S.SigScheme.verifies in
    let v : Adding = record { knows = c.self.inside.caller; intake = c.self.inside.end; held = option_map held_arrival c.self.inside.held } in
    let again : option_map held_arrival c.self.inside.held ≡ Some c.in-Err.field-0.value = ap (option_map held_arrival) (sym c.take.ensures.value ∙ c.in-Some.is) ∙ ap Some (sym c.in-Err.ensures.back) in
    subst (λ (x : Adding × Option Arrival). HasAdded network x.0 (record v { held = x.1 })) (λ i. (c.self.view_is i, again i)) (added_none network v c.self.invariant.in_step)

pub returns-in-Ok-arrive-clause-added : goal.returns-in-Ok-arrive-clause-added
returns-in-Ok-arrive-clause-added g c =
    let at = (goal.at.returns-in-Ok-arrive-clause-added g c).In-Ok in
    let network = network_from g.B.Room.start g.S.SigScheme.verifies in
    let v : Adding = record { knows = c.self.inside.caller; intake = c.self.inside.end; held = option_map held_arrival c.self.inside.held } in
    subst (λ (a : Adding). HasAdded network a (record v { knows = c.arrive.new.caller; held = option_map held_arrival c.take.new.self })) c.self.view_is
    (subst (λ (o : Option Arrival). HasAdded network v (record v { knows = c.arrive.new.caller; held = o })) (ap (option_map held_arrival) (sym c.take.ensures.after))
    (brought_of network v c.arrive.new.caller c.in-Ok.arrival.peer c.in-Ok.arrival.seen c.self.invariant.in_step (read_peer g at) (held_read g at) (arrive_reply_of (Ok c.in-Ok-arrive.reply), c.in-Ok-arrive.ensures.called)))

pub returns-in-Err-arrive-clause-added : goal.returns-in-Err-arrive-clause-added
returns-in-Err-arrive-clause-added g c =
    let at = (goal.at.returns-in-Err-arrive-clause-added g c).In-Ok in
    let network = network_from g.B.Room.start g.S.SigScheme.verifies in
    let v : Adding = record { knows = c.self.inside.caller; intake = c.self.inside.end; held = option_map held_arrival c.self.inside.held } in
    subst (λ (x : Adding × (Knowledge × Option Arrival)). HasAdded network x.0 (record v { knows = x.1.0; held = x.1.1 })) (λ i. (c.self.view_is i, (sym c.in-Err-arrive.ensures.err i, held_read g at i)))
    (added_none network v c.self.invariant.in_step)

pub returns-in-Ok-arrive-clause-told : goal.returns-in-Ok-arrive-clause-told
returns-in-Ok-arrive-clause-told g c =
    let v : Adding = record { knows = c.self.inside.caller; intake = c.self.inside.end; held = option_map held_arrival c.self.inside.held } in
    subst (λ (a : Adding). IsLastAnswer a.knows.calls c.arrive.new.caller.calls c.in-Ok-arrive.reply) c.self.view_is
    (record { call = arrival_by v.knows.caller c.in-Ok.arrival.peer c.in-Ok.arrival.seen (arrive_reply_of (Ok c.in-Ok-arrive.reply)); calls = c.in-Ok-arrive.ensures.called.calls; reply_is = refl })
