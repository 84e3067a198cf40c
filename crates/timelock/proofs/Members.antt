-- What the timelocks inside another consist of, as a loop goes over them.
use Rattle.std.proofs.lemmas.List.{drop_all}
use Rattle.std.proofs.Common.{◌≡◌, ℕ, zero, suc, ◌+◌, ◌≤◌, ◌<◌, List, [], ◌∷◌, ◌++◌, append-nil, length, map, drop, get_or, refl, sym, ap, subst, ◌∙◌, add-one, drop-cons, arith}
use Rattle.std.specs.Prelude.{Bool, ◌||◌, bytes_eq}
use Rattle.std.specs.List.{list_any}
use Rattle.ident.specs.Kinds.{KeyHash}
use Rattle.model.specs.Cbor.{Item, NextItem, items_of, nesting, items_nesting}
use Rattle.model.specs.Script.{NextScript, item_of_script, items_of_scripts}
use Rattle.timelock.specs.declared.timelock.Timelock.{Timelock}
use Rattle.timelock.specs.View.{timelock_of, timelocks_of, key_bytes}
use Rattle.timelock.specs.Depth.{depth_of_script, depth_of_scripts}
use Rattle.timelock.specs.Reading.{scripts_of}

depth_at : (ts : List Timelock) (k : ℕ) (d : Timelock) → k < length ts → depth_of_script (timelock_of (get_or ts k d)) ≤ depth_of_scripts (timelocks_of ts)
depth_at [] k d lt = absurd (omega arith)
depth_at (t ∷ ts) zero d lt = omega arith
depth_at (t ∷ ts) (suc k) d lt = omega (arith, depth_at ts k d (omega arith))

-- a member is no deeper than the members
pub member_depth : (ts : List Timelock) (k : ℕ) (t : Timelock) → k < length ts → t ≡ get_or ts k t → depth_of_script (timelock_of t) ≤ depth_of_scripts (timelocks_of ts)
member_depth ts k t lt e = subst (λ (x : Timelock). depth_of_script (timelock_of x) ≤ depth_of_scripts (timelocks_of ts)) (sym e) (depth_at ts k t lt)

nesting_at : (ts : List Timelock) (k : ℕ) (d : Timelock) → k < length ts → nesting (item_of_script (timelock_of (get_or ts k d))) ≤ items_nesting (items_of_scripts (timelocks_of ts))
nesting_at [] k d lt = absurd (omega arith)
nesting_at (t ∷ ts) zero d lt = omega arith
nesting_at (t ∷ ts) (suc k) d lt = omega (arith, nesting_at ts k d (omega arith))

-- nor does its text nest deeper
pub member_nesting : (ts : List Timelock) (k : ℕ) (t : Timelock) → k < length ts → t ≡ get_or ts k t → nesting (item_of_script (timelock_of t)) ≤ items_nesting (items_of_scripts (timelocks_of ts))
member_nesting ts k t lt e = subst (λ (x : Timelock). nesting (item_of_script (timelock_of x)) ≤ items_nesting (items_of_scripts (timelocks_of ts))) (sym e) (nesting_at ts k t lt)

-- from a member on there is the member, and those after it
pub from_member : (ts : List Timelock) (k : ℕ) (t : Timelock) → k < length ts → t ≡ get_or ts k t → drop k ts ≡ t ∷ drop (k + 1) ts
from_member ts k t lt is = rw (add-one, drop-cons ts k t lt) (ap (λ (j : Timelock). j ∷ drop (suc k) ts) (sym is))

-- the scripts of a list of timelocks
pub scripts_are : (ts : List Timelock) → timelocks_of ts ≡ scripts_of (map timelock_of ts)
scripts_are [] = refl
scripts_are (t ∷ ts) = ap (NextScript (timelock_of t)) (scripts_are ts)

-- whether one of the keys is the one of this hash
pub among_keys : (hash : KeyHash) (keys : List KeyHash) → list_any (λ key. bytes_eq key.bytes hash.bytes) keys ≡ list_any (λ key. bytes_eq key hash.bytes) (map key_bytes keys)
among_keys hash [] = refl
among_keys hash (k ∷ ks) = ap (λ (b : Bool). bytes_eq k.bytes hash.bytes || b) (among_keys hash ks)

-- the item of a timelock
abbrev pub item_of_timelock : Timelock → Item
item_of_timelock t = item_of_script (timelock_of t)

-- the items of a list of timelocks
pub items_are : (ts : List Timelock) → items_of_scripts (timelocks_of ts) ≡ items_of (map item_of_timelock ts)
items_are [] = refl
items_are (t ∷ ts) = ap (NextItem (item_of_timelock t)) (items_are ts)

-- all timelocks were copied
pub copies_are : (copies ts : List Timelock) (k : ℕ) → length ts ≤ k → map timelock_of copies ++ map timelock_of (drop k ts) ≡ map timelock_of ts → timelocks_of copies ≡ timelocks_of ts
copies_are copies ts k le so_far =
    let all : map timelock_of copies ≡ map timelock_of ts = sym (append-nil (map timelock_of copies)) ∙ ap (λ (rest : List Timelock). map timelock_of copies ++ map timelock_of rest) (sym (drop_all k ts le)) ∙ so_far in
    scripts_are copies ∙ ap scripts_of all ∙ sym (scripts_are ts)
