use Rattle.std.proofs.Common.{map, refl, ap, ◌≡◌}
use Rattle.std.specs.Prelude.{codes}
use Rattle.model.specs.History.{Open}
use Rattle.chain_core.specs.Held.{network_held}
use Rattle.chain_core.specs.Views.{open_reply_of}
use Rattle.script.specs.Meaning.{WatchesKeys}
use Rattle.script.specs.RequestView.{key_address_of}
use Rattle.scenario.proofs.OpenLines.{open_printed, short_of, step_to, watch_acted}
use Rattle.scenario.proofs.ShortLines.{it_happened}
use Rattle.scenario.proofs.session.Session.watch.Goals as goal

pub returns-in_default-stand_beside-clause-obeyed : goal.returns-in_default-stand_beside-clause-obeyed
returns-in_default-stand_beside-clause-obeyed g c = λ room s holds free.
    let network = network_held c.args.self.now.core g.S.SigScheme.verifies in
    let core : c.stand_beside.new.self.core ≡ c.open-reply.new.self = ap (λ x. x.core) c.stand_beside.ensures.frame in
    short_of network s.state _ c.stand_beside.new.self.core c.open-reply.new.self core
    (it_happened network s (WatchesKeys c.args.name.text.now (map key_address_of c.args.keys.items)) Open (open_reply_of c.open-reply.result) c.open-reply.new.self refl (c.open-reply.ensures.step s.state holds.stands))

pub returns-in-Err-clause-obeyed : goal.returns-in-Err-clause-obeyed
returns-in-Err-clause-obeyed g c = λ room s holds free.
    let network = network_held c.args.self.now.core g.S.SigScheme.verifies in
    let core : c.stand_beside.new.self.core ≡ c.open-reply.new.self = ap (λ x. x.core) c.stand_beside.ensures.frame in
    short_of network s.state _ c.stand_beside.new.self.core c.open-reply.new.self core
    (it_happened network s (WatchesKeys c.args.name.text.now (map key_address_of c.args.keys.items)) Open (open_reply_of c.open-reply.result) c.open-reply.new.self refl (c.open-reply.ensures.step s.state holds.stands))

pub returns-in-Ok-print_opening-clause-obeyed : goal.returns-in-Ok-print_opening-clause-obeyed
returns-in-Ok-print_opening-clause-obeyed g c = λ room s holds free.
    let network = network_held c.args.self.now.core g.S.SigScheme.verifies in
    let keys = map key_address_of c.args.keys.items in
    let core : c.stand_beside.new.self.core ≡ c.open-reply.new.self = ap (λ x. x.core) c.stand_beside.ensures.frame in
    watch_acted network s c.args.name.text.now keys c.open-reply.result c.print_opening.new.line.items c.args.self.now.core c.stand_beside.new.self
    (open_printed c.print_opening.new.line.items c.in_ok-line.line.items (codes "watch") c.args.name.text.now c.open-reply.result c.open-reply.result c.in-Ok-print_opening.ensures c.in_ok-line.ensures.empty refl)
    holds.stands c.open-reply.ensures.memory (c.stand_beside.ensures.names room s.names holds.names free)
    (c.in-Ok-stand_beside.ensures.indexes s.indexes keys holds.indexes (c.in-Ok.ensures s.indexes holds.indexes))
    (step_to network s.state (open_reply_of c.open-reply.result) c.stand_beside.new.self.core c.open-reply.new.self core (c.open-reply.ensures.step s.state holds.stands))
