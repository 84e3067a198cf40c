use Rattle.std.proofs.Common.{◌∙◌, ap, sym, map}
use Rattle.ident.specs.PointView.{point_of}
use Rattle.script.specs.PartView.{owner_of}
use Rattle.script.specs.RequestView.{key_address_of}
use Rattle.tx.specs.View.{address_of}
use Rattle.script.specs.Meaning.{Arrives, SubmitsTx, ForgesBlock, OpensFollower, WatchesKeys, TellsFollower, ForwardsFollower, ClosesFollower, DiscardsBlock, PrintsTip, PrintsMempool, PrintsUtxo, PrintsWhy, PrintsWhere, PrintsBalance, Means, is_late_line, parse_within}
use Rattle.script.proofs.ForCallers.{never_both}
use Rattle.chain_core.specs.Held.{network_held}
use Rattle.scenario.proofs.AskedLines.{defined, done_so, told_so}
use Rattle.scenario.proofs.session.Session.obey.Goals as goal

pub returns-in-Ok-Nothing-clause-obeyed : goal.returns-in-Ok-Nothing-clause-obeyed
returns-in-Ok-Nothing-clause-obeyed g c = λ s holds.
    let asked = c.in-Ok-Nothing.ensures.asks s.names holds.names in
    let request = rw c.in-Ok-Nothing.field-0-is at asked.is_request in
    defined (network_held c.args.self.now.core g.S.SigScheme.verifies) c.args.explain s (Means c.args.at.number c.args.at.before s.names c.args.line.now) asked.meaning request.0 c.new.result.items
    (record { alloc = c.args.self.now.alloc; core = c.args.self.now.core; names = c.obey.new.self; indexes = c.args.self.now.indexes }) asked.is_meant request.1 request.2 holds.indexes holds.stands c.new.ensures.items

pub returns-in-Ok-Arrive-clause-obeyed : goal.returns-in-Ok-Arrive-clause-obeyed
returns-in-Ok-Arrive-clause-obeyed g c = λ s holds.
    let asked = c.in-Ok-Arrive.ensures.asks s.names holds.names in
    let request = rw c.in-Ok-Arrive.field-0-is at asked.is_request in
    told_so (network_held c.args.self.now.core g.S.SigScheme.verifies) c.args.explain s (Means c.args.at.number c.args.at.before s.names c.args.line.now) (is_late_line (parse_within c.args.at.before c.args.line.now)) asked.meaning
    (Arrives c.in-Ok-Arrive.form c.in-Ok-Arrive.name.text.now request.0.bytes) c.arrive.result c.arrive.new.self asked.is_meant request.2
    (λ fault. never_both c.args.at.number c.args.at.before s.names c.args.line.now asked.meaning fault asked.is_meant) (c.arrive.ensures.obeyed s (record { stands = holds.stands; names = request.3; indexes = holds.indexes }) request.0 request.1)

pub returns-in-Ok-Tip-clause-obeyed : goal.returns-in-Ok-Tip-clause-obeyed
returns-in-Ok-Tip-clause-obeyed g c = λ s holds.
    let asked = c.in-Ok-Tip.ensures.asks s.names holds.names in
    let request = rw c.in-Ok-Tip.field-0-is at asked.is_request in
    done_so (network_held c.args.self.now.core g.S.SigScheme.verifies) c.args.explain s (Means c.args.at.number c.args.at.before s.names c.args.line.now) (is_late_line (parse_within c.args.at.before c.args.line.now)) asked.meaning PrintsTip c.tip.result _ tt asked.is_meant request.0
    (λ fault. never_both c.args.at.number c.args.at.before s.names c.args.line.now asked.meaning fault asked.is_meant) (c.tip.ensures s (record { stands = holds.stands; names = request.1; indexes = holds.indexes }))

pub returns-in-Ok-Utxo-clause-obeyed : goal.returns-in-Ok-Utxo-clause-obeyed
returns-in-Ok-Utxo-clause-obeyed g c = λ s holds.
    let asked = c.in-Ok-Utxo.ensures.asks s.names holds.names in
    let request = rw c.in-Ok-Utxo.field-0-is at asked.is_request in
    done_so (network_held c.args.self.now.core g.S.SigScheme.verifies) c.args.explain s (Means c.args.at.number c.args.at.before s.names c.args.line.now) (is_late_line (parse_within c.args.at.before c.args.line.now)) asked.meaning PrintsUtxo c.utxo.result _ tt asked.is_meant request.0
    (λ fault. never_both c.args.at.number c.args.at.before s.names c.args.line.now asked.meaning fault asked.is_meant) (c.utxo.ensures s (record { stands = holds.stands; names = request.1; indexes = holds.indexes }))

pub returns-in-Ok-Mempool-clause-obeyed : goal.returns-in-Ok-Mempool-clause-obeyed
returns-in-Ok-Mempool-clause-obeyed g c = λ s holds.
    let asked = c.in-Ok-Mempool.ensures.asks s.names holds.names in
    let request = rw c.in-Ok-Mempool.field-0-is at asked.is_request in
    done_so (network_held c.args.self.now.core g.S.SigScheme.verifies) c.args.explain s (Means c.args.at.number c.args.at.before s.names c.args.line.now) (is_late_line (parse_within c.args.at.before c.args.line.now)) asked.meaning PrintsMempool c.mempool.result _ tt asked.is_meant request.0
    (λ fault. never_both c.args.at.number c.args.at.before s.names c.args.line.now asked.meaning fault asked.is_meant) (c.mempool.ensures s (record { stands = holds.stands; names = request.1; indexes = holds.indexes }))

pub returns-in-Ok-Submit-clause-obeyed : goal.returns-in-Ok-Submit-clause-obeyed
returns-in-Ok-Submit-clause-obeyed g c = λ s holds.
    let asked = c.in-Ok-Submit.ensures.asks s.names holds.names in
    let request = rw c.in-Ok-Submit.field-0-is at asked.is_request in
    told_so (network_held c.args.self.now.core g.S.SigScheme.verifies) c.args.explain s (Means c.args.at.number c.args.at.before s.names c.args.line.now) (is_late_line (parse_within c.args.at.before c.args.line.now)) asked.meaning
    (SubmitsTx c.in-Ok-Submit.name.text.now request.0) c.submit.result c.submit.new.self asked.is_meant request.2
    (λ fault. never_both c.args.at.number c.args.at.before s.names c.args.line.now asked.meaning fault asked.is_meant) (c.submit.ensures.obeyed s (record { stands = holds.stands; names = request.3; indexes = holds.indexes }) request.0 request.1)

pub returns-in-Ok-Forge-clause-obeyed : goal.returns-in-Ok-Forge-clause-obeyed
returns-in-Ok-Forge-clause-obeyed g c = λ s holds.
    let asked = c.in-Ok-Forge.ensures.asks s.names holds.names in
    let request = rw c.in-Ok-Forge.field-0-is at asked.is_request in
    done_so (network_held c.args.self.now.core g.S.SigScheme.verifies) c.args.explain s (Means c.args.at.number c.args.at.before s.names c.args.line.now) (is_late_line (parse_within c.args.at.before c.args.line.now)) asked.meaning
    (ForgesBlock c.in-Ok-Forge.name.text.now c.in-Ok-Forge.slot) c.forge.result c.forge.new.self tt asked.is_meant request.0
    (λ fault. never_both c.args.at.number c.args.at.before s.names c.args.line.now asked.meaning fault asked.is_meant) (c.forge.ensures.obeyed s (record { stands = holds.stands; names = request.2; indexes = holds.indexes }) request.1)

pub returns-in-Ok-Why-clause-obeyed : goal.returns-in-Ok-Why-clause-obeyed
returns-in-Ok-Why-clause-obeyed g c = λ s holds.
    let asked = c.in-Ok-Why.ensures.asks s.names holds.names in
    let request = rw c.in-Ok-Why.field-0-is at asked.is_request in
    done_so (network_held c.args.self.now.core g.S.SigScheme.verifies) c.args.explain s (Means c.args.at.number c.args.at.before s.names c.args.line.now) (is_late_line (parse_within c.args.at.before c.args.line.now)) asked.meaning (PrintsWhy c.in-Ok-Why.name.text.now c.in-Ok-Why.hash.bytes) c.why.result _ tt asked.is_meant request.0
    (λ fault. never_both c.args.at.number c.args.at.before s.names c.args.line.now asked.meaning fault asked.is_meant) (c.why.ensures s (record { stands = holds.stands; names = request.1; indexes = holds.indexes }))

pub returns-in-Ok-Where-clause-obeyed : goal.returns-in-Ok-Where-clause-obeyed
returns-in-Ok-Where-clause-obeyed g c = λ s holds.
    let asked = c.in-Ok-Where.ensures.asks s.names holds.names in
    let request = rw c.in-Ok-Where.field-0-is at asked.is_request in
    done_so (network_held c.args.self.now.core g.S.SigScheme.verifies) c.args.explain s (Means c.args.at.number c.args.at.before s.names c.args.line.now) (is_late_line (parse_within c.args.at.before c.args.line.now)) asked.meaning (PrintsWhere c.in-Ok-Where.name.text.now c.in-Ok-Where.id.bytes) c.place.result _ tt asked.is_meant request.0
    (λ fault. never_both c.args.at.number c.args.at.before s.names c.args.line.now asked.meaning fault asked.is_meant) (c.place.ensures s (record { stands = holds.stands; names = request.1; indexes = holds.indexes }))

pub returns-in-Ok-Balance-clause-obeyed : goal.returns-in-Ok-Balance-clause-obeyed
returns-in-Ok-Balance-clause-obeyed g c = λ s holds.
    let asked = c.in-Ok-Balance.ensures.asks s.names holds.names in
    let request = rw c.in-Ok-Balance.field-0-is at asked.is_request in
    done_so (network_held c.args.self.now.core g.S.SigScheme.verifies) c.args.explain s (Means c.args.at.number c.args.at.before s.names c.args.line.now) (is_late_line (parse_within c.args.at.before c.args.line.now)) asked.meaning (PrintsBalance (owner_of c.in-Ok-Balance.owner) (address_of c.in-Ok-Balance.address)) c.balance.result _ tt asked.is_meant request.0
    (λ fault. never_both c.args.at.number c.args.at.before s.names c.args.line.now asked.meaning fault asked.is_meant) (c.balance.ensures s (record { stands = holds.stands; names = request.1; indexes = holds.indexes }))

pub returns-in-Ok-Open-clause-obeyed : goal.returns-in-Ok-Open-clause-obeyed
returns-in-Ok-Open-clause-obeyed g c = λ s holds.
    let asked = c.in-Ok-Open.ensures.asks s.names holds.names in
    let request = rw c.in-Ok-Open.field-0-is at asked.is_request in
    done_so (network_held c.args.self.now.core g.S.SigScheme.verifies) c.args.explain s (Means c.args.at.number c.args.at.before s.names c.args.line.now) (is_late_line (parse_within c.args.at.before c.args.line.now)) asked.meaning
    (OpensFollower c.in-Ok-Open.name.text.now) c.open.result c.open.new.self tt asked.is_meant request.0
    (λ fault. never_both c.args.at.number c.args.at.before s.names c.args.line.now asked.meaning fault asked.is_meant) (c.open.ensures.obeyed request.2 s (record { stands = holds.stands; names = request.3; indexes = holds.indexes }) request.1)

pub returns-in-Ok-Next-clause-obeyed : goal.returns-in-Ok-Next-clause-obeyed
returns-in-Ok-Next-clause-obeyed g c = λ s holds.
    let asked = c.in-Ok-Next.ensures.asks s.names holds.names in
    let request = rw c.in-Ok-Next.field-0-is at asked.is_request in
    done_so (network_held c.args.self.now.core g.S.SigScheme.verifies) c.args.explain s (Means c.args.at.number c.args.at.before s.names c.args.line.now) (is_late_line (parse_within c.args.at.before c.args.line.now)) asked.meaning
    (TellsFollower c.in-Ok-Next.name.text.now c.in-Ok-Next.id) c.next.result c.next.new.self tt asked.is_meant request.0
    (λ fault. never_both c.args.at.number c.args.at.before s.names c.args.line.now asked.meaning fault asked.is_meant) (c.next.ensures.obeyed s (record { stands = holds.stands; names = request.1; indexes = holds.indexes }))

pub returns-in-Ok-Forward-clause-obeyed : goal.returns-in-Ok-Forward-clause-obeyed
returns-in-Ok-Forward-clause-obeyed g c = λ s holds.
    let asked = c.in-Ok-Forward.ensures.asks s.names holds.names in
    let request = rw c.in-Ok-Forward.field-0-is at asked.is_request in
    done_so (network_held c.args.self.now.core g.S.SigScheme.verifies) c.args.explain s (Means c.args.at.number c.args.at.before s.names c.args.line.now) (is_late_line (parse_within c.args.at.before c.args.line.now)) asked.meaning
    (ForwardsFollower c.in-Ok-Forward.name.text.now c.in-Ok-Forward.id (map point_of c.deref.result.now)) c.forward.result c.forward.new.self tt asked.is_meant (request.0 ∙ ap (λ points. ForwardsFollower c.in-Ok-Forward.name.text.now c.in-Ok-Forward.id (map point_of points)) (sym c.deref.ensures.value))
    (λ fault. never_both c.args.at.number c.args.at.before s.names c.args.line.now asked.meaning fault asked.is_meant) (c.forward.ensures.obeyed s (record { stands = holds.stands; names = request.1; indexes = holds.indexes }))

pub returns-in-Ok-Close-clause-obeyed : goal.returns-in-Ok-Close-clause-obeyed
returns-in-Ok-Close-clause-obeyed g c = λ s holds.
    let asked = c.in-Ok-Close.ensures.asks s.names holds.names in
    let request = rw c.in-Ok-Close.field-0-is at asked.is_request in
    done_so (network_held c.args.self.now.core g.S.SigScheme.verifies) c.args.explain s (Means c.args.at.number c.args.at.before s.names c.args.line.now) (is_late_line (parse_within c.args.at.before c.args.line.now)) asked.meaning
    (ClosesFollower c.in-Ok-Close.name.text.now c.in-Ok-Close.id) c.close.result c.close.new.self tt asked.is_meant request.0
    (λ fault. never_both c.args.at.number c.args.at.before s.names c.args.line.now asked.meaning fault asked.is_meant) (c.close.ensures.obeyed s (record { stands = holds.stands; names = request.1; indexes = holds.indexes }))

pub returns-in-Ok-Discard-clause-obeyed : goal.returns-in-Ok-Discard-clause-obeyed
returns-in-Ok-Discard-clause-obeyed g c = λ s holds.
    let asked = c.in-Ok-Discard.ensures.asks s.names holds.names in
    let request = rw c.in-Ok-Discard.field-0-is at asked.is_request in
    done_so (network_held c.args.self.now.core g.S.SigScheme.verifies) c.args.explain s (Means c.args.at.number c.args.at.before s.names c.args.line.now) (is_late_line (parse_within c.args.at.before c.args.line.now)) asked.meaning
    (DiscardsBlock c.in-Ok-Discard.name.text.now c.in-Ok-Discard.hash.bytes) c.discard.result c.discard.new.self tt asked.is_meant request.0
    (λ fault. never_both c.args.at.number c.args.at.before s.names c.args.line.now asked.meaning fault asked.is_meant) (c.discard.ensures.obeyed s (record { stands = holds.stands; names = request.1; indexes = holds.indexes }))

pub returns-in-Ok-Watch-clause-obeyed : goal.returns-in-Ok-Watch-clause-obeyed
returns-in-Ok-Watch-clause-obeyed g c = λ s holds.
    let asked = c.in-Ok-Watch.ensures.asks s.names holds.names in
    let request = rw c.in-Ok-Watch.field-0-is at asked.is_request in
    done_so (network_held c.args.self.now.core g.S.SigScheme.verifies) c.args.explain s (Means c.args.at.number c.args.at.before s.names c.args.line.now) (is_late_line (parse_within c.args.at.before c.args.line.now)) asked.meaning
    (WatchesKeys c.in-Ok-Watch.name.text.now (map key_address_of c.in-Ok-Watch.keys.items)) c.watch.result c.watch.new.self tt asked.is_meant request.0
    (λ fault. never_both c.args.at.number c.args.at.before s.names c.args.line.now asked.meaning fault asked.is_meant) (c.watch.ensures.obeyed request.2 s (record { stands = holds.stands; names = request.3; indexes = holds.indexes }) request.1)
