-- What an adder of the code stands for.
use Rattle.std.specs.Prelude.{IfSome, option_map}
use Rattle.inbox.specs.Arrivals.{IsPeer}
use Rattle.shared.specs.HeldArrivals.{held_arrival}
use Rattle.shared.specs.Adding.{Adding, IsInStep}
use Rattle.shared.specs.declared.adder.Adder.TheInside.{Inside}

abbrev pub adder_view : {S G B M : Type 0} → Inside S G B M → Adding
adder_view a = record { knows = a.caller; intake = a.end; held = option_map held_arrival a.held }

-- what it took and brought is in step, and what it holds came from a peer
pub record IsAdderInside {S G B M : Type 0} (a : Inside S G B M) : Type 0 where
  pub in_step : IsInStep (adder_view a)
  pub peer : IfSome a.held (λ held. IsPeer (held_arrival held).peer)
