-- The place so far goes on through what is left to the whole.
use Rattle.std.proofs.Common.{◌≡◌, ◌+◌, ◌≤◌, drop}
use Rattle.hints.specs.Places.{place_after, place_from}
use Rattle.hints.specs.PlaceView.{place_of}
use Rattle.hints.proofs.place.Place.after.Given as goal

abbrev pub invariant-loop-byte : goal.invariant-loop-byte
invariant-loop-byte l = record {
  goes_on : place_from (place_of l.place) (drop l.byte-index l.bytes) ≡ place_after l.bytes;
  room : l.place.line + l.place.column ≤ l.byte-index;
}
