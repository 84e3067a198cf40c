use Rattle.std.proofs.Common.{◌≡◌, [], ap}
use Rattle.std.proofs.lemmas.Result.{IfOk-weaker}
use Rattle.chain_core.specs.Held.{Held, opening_held}
use Rattle.commands.proofs.texts.first_core.Goals as goal

pub returns-in-None-clause-genesis : goal.returns-in-None-clause-genesis
returns-in-None-clause-genesis g c = IfOk-weaker c.new_core.result (λ core. core.value ≡ opening_held c.args.genesis.now []) (λ core. core.value.genesis ≡ c.args.genesis.now) (λ core is. ap (λ (h : Held). h.genesis) is) c.new_core.ensures
