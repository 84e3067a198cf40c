-- Ids have no fraction.
use Rattle.std.proofs.Common.{◌≡◌, true, false, refl}
use Rattle.std.proofs.lemmas.Bool.{false≢true}
use Rattle.serde_json.specs.Data.{Data, null, boolean, number, string, array, object, unsigned, negative, float}
use Rattle.serde_json.specs.Written.{has_float}
use Rattle.conversing.specs.Requests.{is_id}

pub no_float_in_id : (value : Data) → is_id value ≡ true → has_float value ≡ false
no_float_in_id null is = refl
no_float_in_id (boolean b) is = refl
no_float_in_id (number (unsigned n)) is = refl
no_float_in_id (number (negative z)) is = refl
no_float_in_id (number (float x)) is = absurd (false≢true is)
no_float_in_id (string s) is = refl
no_float_in_id (array ds) is = absurd (false≢true is)
no_float_in_id (object ms) is = absurd (false≢true is)
