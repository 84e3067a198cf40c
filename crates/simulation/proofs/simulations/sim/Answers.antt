use Rattle.std.specs.Prelude.{Result, Ok, Err, OnOk}
use Rattle.std.proofs.Common.{rules, map, inl, refl}
use Rattle.std.specs.Prelude.{IfErr, IfSome}
use Rattle.inbox.specs.Arrivals.{peers}
use Rattle.script.specs.Names.{no_names}
use Rattle.scenario.specs.SendRun.{SendsBy}
use Rattle.scenario.specs.SendView.{sent_of}
use Rattle.simulation.proofs.Ends.{beside_script, beside_script_err, by_script_err, without_fault_ok}
use Rattle.simulation.proofs.simulations.sim.Goals as goal

-- what follows from what holds at Ok
ok_weaker : {A E P Q : Type 0} (r : Result A E) → (P → Q) → OnOk r P → OnOk r Q
ok_weaker (Ok v) weaker holds = weaker holds
ok_weaker (Err e) weaker holds = tt

pub returns-clause-ok : goal.returns-clause-ok
returns-clause-ok g c = ok_weaker c.print.result (λ printed. (c.in-Ok.summary, c.in-Ok.ensures, printed)) c.print.ensures.ok

pub returns-clause-script : goal.returns-clause-script
returns-clause-script g c =
    without_fault_ok c.print.result (no_names c.args.scheme c.args.genesis.params.network) (g.I.Read.remaining c.args.reader.now) (g.I.Read.remaining c.sends.new.reader) (map sent_of c.in_ok-sends.sends.items) c.in_ok-sends.ensures.sends c.in_ok-sends.ensures.rest

pub returns-clause-fault : goal.returns-clause-fault
returns-clause-fault g c =
    beside_script_err c.print.result (no_names c.args.scheme c.args.genesis.params.network) (g.I.Read.remaining c.args.reader.now) (g.I.Read.remaining c.sends.new.reader) (map sent_of c.in_ok-sends.sends.items) c.in_ok-sends.ensures.sends c.in_ok-sends.ensures.rest c.print.ensures.fault

pub returns-in_default-clause-fault : goal.returns-in_default-clause-fault
returns-in_default-clause-fault g c =
    beside_script (no_names c.args.scheme c.args.genesis.params.network) (g.I.Read.remaining c.args.reader.now) (g.I.Read.remaining c.sends.new.reader) _ (map sent_of c.in_ok-sends.sends.items) c.in_ok-sends.ensures.sends c.in_ok-sends.ensures.rest (inl refl)

pub returns-in_err-sends-clause-fault : goal.returns-in_err-sends-clause-fault
returns-in_err-sends-clause-fault g c =
    let told : IfErr c.from_residual.result (λ why. IfSome (g.I.Read.remaining c.args.reader.now) (λ text. SendsBy peers (no_names c.args.scheme c.args.genesis.params.network) text (g.I.Read.remaining c.sends.new.reader) why)) = search rules in
    by_script_err c.from_residual.result (no_names c.args.scheme c.args.genesis.params.network) (g.I.Read.remaining c.args.reader.now) (g.I.Read.remaining c.sends.new.reader) told
