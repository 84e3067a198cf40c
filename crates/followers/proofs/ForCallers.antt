-- What the crates above may cite: that the lengths stand for followers.
use Rattle.followers.specs.Standing.{LengthsStandFor}
use Rattle.followers.proofs.Lengths.{lengths_stand_for}

pub the_lengths : LengthsStandFor
the_lengths = lengths_stand_for
