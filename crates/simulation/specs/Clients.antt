-- How many clients a simulation has.
use Rattle.std.specs.Prelude.{ℕ, ◌≤◌}

-- the most
abbrev pub clients_limit : ℕ
clients_limit = 8

abbrev pub IsClients : ℕ → Type 0
IsClients many = (1 ≤ many) × (many ≤ clients_limit)
