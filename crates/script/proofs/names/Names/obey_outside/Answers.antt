use Rattle.std.proofs.Common.{refl}
use Rattle.script.specs.Meaning.{Defines, NoDefinition}
use Rattle.script.proofs.names.Names.obey_outside.Goals as goal

pub returns-in-Nothing : goal.returns-in-Nothing
returns-in-Nothing c = rw c.in-Nothing.is (λ names named. record {
  meaning = Defines NoDefinition;
  is_meant = refl;
  is_request = (NoDefinition, refl, record { new = names; after = refl; named = named });
})

pub returns-in-Arrive : goal.returns-in-Arrive
returns-in-Arrive c = rw c.in-Arrive.is c.ask_arrival.ensures
