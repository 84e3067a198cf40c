-- What is answered to a line: OutOfMemory, and a definition that is made.
use Rattle.std.proofs.Common.{◌≡◌, ℕ, Bool, true, false, List, Option, Some, None, is_some, option_map, Result, Ok, Err, refl, sym}
use Rattle.std.specs.Prelude.{IsOk}
use Rattle.std.specs.Result.{IsErrAnd}
use Rattle.std.proofs.lemmas.Result.{err_from_is_err_and}
use Rattle.model.specs.Script.{Script}
use Rattle.script.specs.declared.fault.LineFault.{LineFault}
use Rattle.script.specs.declared.stop.Stop.{Stop}
use Rattle.script.specs.declared.stop.Stop.TheVariants.{OutOfMemory}
use Rattle.script.specs.declared.request.Request.{Request}
use Rattle.script.specs.declared.names.Names.{Names}
use Rattle.script.specs.Keys.{Key}
use Rattle.script.specs.Names.{AllNames}
use Rattle.script.specs.Meaning.{Meaning, MeansScript, where_free, built_key}
use Rattle.script.specs.RequestView.{Asks, AsksFor, Lacks}

-- ---- out of memory

-- memory ran out for a line that lacks its fault
pub asks_short : (names : AllNames) (means : Result Meaning LineFault → Type 0) (late : Bool) (r : Result Request Stop) (new : Names) → IsErrAnd r (λ e. e ≡ OutOfMemory) → Lacks means late → Asks names means late r new
asks_short names means late r new short lacks = let p = err_from_is_err_and r short in rw (p.1, p.2) lacks

pub lacks_all : (meaning : Result Meaning LineFault) (late : Bool) → IsOk meaning → Lacks (λ m. meaning ≡ m) late
lacks_all (Ok meaning) late ok = λ fault is. cc
lacks_all (Err fault) late ok = cc

-- memory ran out for a line that has a meaning
pub short_for : (names : AllNames) (meaning : Result Meaning LineFault) (late : Bool) (r : Result Request Stop) (new : Names) → IsErrAnd r (λ e. e ≡ OutOfMemory) → IsOk meaning → AsksFor names meaning late r new
short_for names meaning late r new short ok = asks_short names (λ m. meaning ≡ m) late r new short (lacks_all meaning late ok)

-- only memory tells whether a script is built
pub script_lacks : (found : Option Script) (name bytes : List ℕ) → found ≡ None → Lacks (MeansScript found name bytes) true
script_lacks (Some taken) name bytes is = cc
script_lacks None name bytes is = λ fault means. (means.0, refl)

-- ---- names that are free

pub free_so : {X Y : Type 0} (f : X → Y) (r : Option X) (m : Option Y) → option_map f r ≡ m → is_some r ≡ false → m ≡ None
free_so f None m is none = sym is
free_so f (Some x) m is none = cc

pub no_some : {X : Type 0} (r : Option X) → ((x : X) → r ≡ Some x → ⊥) → is_some r ≡ false
no_some None none = refl
no_some (Some x) none = absurd (none x refl)

-- what is bound to a name that isn't
pub bound_so : {X Y : Type 0} (f : X → Y) (r : Option X) (m : Option Y) → option_map f r ≡ m → is_some r ≡ true → (y : Y) × (m ≡ Some y)
bound_so f None m is some = cc
bound_so f (Some x) m is some = (f x, sym is)

-- a key that there is, whose name is free
pub key_built : {X : Type 0} (found : Option X) (name : List ℕ) (said : Option Key) (key : Key) → found ≡ None → said ≡ Some key → IsOk (where_free found (built_key name said))
key_built found name said key free is = rw (free, is) refl
