-- What the public calls on scripts promise, from the laws of their reading.
use Rattle.std.proofs.Common.{◌≡◌, ℕ, zero, suc, ◌*◌, ◌<◌, ◌≤◌, List, [], ◌∷◌, ◌++◌, ◌-◌, length, take, append-nil, Some, refl, sym, ap, subst, ◌∙◌, arith, Bor, Bool, true, false, eqb}
use Rattle.std.specs.Prelude.{Result, Ok, Err, IfOk, IfErr}
use Rattle.std.proofs.lemmas.List.{take_at, length-append}
use Rattle.sha2.specs.Sha256.{sha256}
use Rattle.model.specs.Cbor.{text_of, nesting, items_nesting, HasRisingKeys, ItemsHaveRisingKeys, HasText}
use Rattle.model.specs.Script.{Script, Scripts, RequireSignature, RequireAllOf, RequireAnyOf, RequireMOf, RequireTimeStart, RequireTimeExpire, NoScripts, NextScript, item_of_script, items_of_scripts, IsScript, SpellsScript, script_hash_of}
use Rattle.model.proofs.ScriptTexts.{scripts_apart}
use Rattle.cbor.specs.Gives.{Gives, GivesNo, Refuses, IfMalformed, IfWant}
use Rattle.cbor.specs.Texts.{BeginsWithText}
use Rattle.cbor.specs.declared.fault.CborFault.{CborFault}
use Rattle.cbor.specs.declared.fault.CborFault.TheVariants as faults
use Rattle.cbor.proofs.ForCallers.{IsBytes, Fits, text_fits, has_text, reads_found, reads_refused, want_map}
use Rattle.timelock.specs.Depth.{depth_of_script, depth_of_scripts}
use Rattle.timelock.specs.Fitting.{FitsIn}
use Rattle.timelock.specs.Bare.{IsBareScript}
use Rattle.timelock.specs.Reading.{script_at}
use Rattle.timelock.proofs.ScriptTexts.{IsWithin, levels_of, script_reads}

-- ---- reading

-- a script that was read stands first
pub script_found : (depth : ℕ) → levels_of depth ≤ 64 → (bytes : List ℕ) (script : Script) (rest : List ℕ) → IsBytes bytes → script_at depth bytes ≡ Some (script, rest) → BeginsWithText (SpellsScript script) bytes rest
script_found depth le = reads_found (script_reads depth) SpellsScript le (λ s p t. record { shape = p.shape; text = record { has_text = t; spelled = refl } })

-- what a script's text has
spelled : (s : Script) (text : List ℕ) → SpellsScript s text → IsWithin 64 s × Fits (item_of_script s) × (text ≡ text_of (item_of_script s))
spelled s text spells =
    let t = spells.text in
    let has = t.has_text in
    (record { shape = spells.shape; nests = has.nests }, text_fits has, t.spelled)

-- where none is read none stands first
pub script_refused : (fault : CborFault) (bytes : List ℕ) → Refuses fault (script_at 32 bytes) → IfMalformed fault ((script : Script) (rest : List ℕ) → BeginsWithText (SpellsScript script) bytes rest → ⊥)
script_refused = reads_refused (script_reads 32) SpellsScript spelled

-- ---- making

mutual
  -- two items deep for each script that stands in another
  pub nesting_is : (s : Script) → nesting (item_of_script s) ≡ 2 * depth_of_script s
  nesting_is (RequireSignature hash) = omega arith
  nesting_is (RequireAllOf ss) = omega (arith, nestings_are ss)
  nesting_is (RequireAnyOf ss) = omega (arith, nestings_are ss)
  nesting_is (RequireMOf n ss) = omega (arith, nestings_are ss)
  nesting_is (RequireTimeStart slot) = omega arith
  nesting_is (RequireTimeExpire slot) = omega arith

  nestings_are : (ss : Scripts) → items_nesting (items_of_scripts ss) ≡ 2 * depth_of_scripts ss
  nestings_are NoScripts = omega arith
  nestings_are (NextScript s ss) = omega (arith, nesting_is s, nestings_are ss)

mutual
  -- scripts have no maps
  rising : (s : Script) → HasRisingKeys (item_of_script s)
  rising (RequireSignature hash) = (tt, (tt, tt))
  rising (RequireAllOf ss) = (tt, (all_rising ss, tt))
  rising (RequireAnyOf ss) = (tt, (all_rising ss, tt))
  rising (RequireMOf n ss) = (tt, (tt, (all_rising ss, tt)))
  rising (RequireTimeStart slot) = (tt, (tt, tt))
  rising (RequireTimeExpire slot) = (tt, (tt, tt))

  all_rising : (ss : Scripts) → ItemsHaveRisingKeys (items_of_scripts ss)
  all_rising NoScripts = tt
  all_rising (NextScript s ss) = (rising s, all_rising ss)

-- what fits has a text
pub fits_text : (s : Script) → FitsIn 32 s → HasText (item_of_script s)
fits_text s p = record { in_range = p.in_range; rising = rising s; nests = omega (arith, nesting_is s, p.shallow) }

-- what is deeper has none
pub deep_text : (s : Script) → 32 < depth_of_script s → HasText (item_of_script s) → ⊥
deep_text s deep p = omega (arith, nesting_is s, p.nests, deep)

-- ---- what a call returned

-- a script that was found, where one was
pub first_found : (bytes : List ℕ) → IsBytes bytes → (r : Result (Script × Bor (List ℕ)) CborFault) → Gives (λ x. (x.0, x.1.now)) r (script_at 32 bytes) → IfOk r (λ x. BeginsWithText (SpellsScript x.0) bytes x.1.now)
first_found bytes fits (Ok x) e = script_found 32 (omega arith) bytes x.0 x.1.now fits e
first_found bytes fits (Err fault) e = tt

-- that there is none, where none was
pub first_refused : (bytes : List ℕ) (r : Result (Script × Bor (List ℕ)) CborFault) → Gives (λ x. (x.0, x.1.now)) r (script_at 32 bytes) → IfErr r (λ fault. IfMalformed fault ((script : Script) (rest : List ℕ) → BeginsWithText (SpellsScript script) bytes rest → ⊥))
first_refused bytes (Ok x) e = tt
first_refused bytes (Err fault) e = script_refused fault bytes e

-- bytes that begin with no script's text are none
pub whole_refused : (fault : CborFault) (bytes : List ℕ) → IfMalformed fault ((script : Script) (rest : List ℕ) → BeginsWithText (SpellsScript script) bytes rest → ⊥) → IfMalformed fault ((script : Script) → SpellsScript script bytes → ⊥)
whole_refused faults.Malformed bytes h = λ script p. h script [] (record { text = bytes; spelled = p; parts = sym (append-nil bytes) })
whole_refused faults.OutOfMemory bytes h = tt

-- where nothing that is read was bare, no bytes that begin with a bare script's text were read
first_bare : (bytes : List ℕ) → GivesNo (λ x. IsBareScript x.0) (script_at 32 bytes) → (script : Script) (rest : List ℕ) → BeginsWithText (SpellsScript script) bytes rest → IsBareScript script → ⊥
first_bare bytes none script rest b bare =
    let laws = script_reads 32 in
    let s = spelled script b.text b.spelled in
    none (script, rest) (ap (script_at 32) (b.parts ∙ ap (λ (text : List ℕ). text ++ rest) s.2) ∙ laws.again script rest s.1 s.0) bare

pub first_wants : {X : Type 0} (r : Result X CborFault) (bytes : List ℕ) → IfErr r (λ fault. IfWant fault (GivesNo (λ x. IsBareScript x.0) (script_at 32 bytes)))
    → IfErr r (λ fault. IfWant fault ((script : Script) (rest : List ℕ) → BeginsWithText (SpellsScript script) bytes rest → IsBareScript script → ⊥))
first_wants (Ok x) bytes w = tt
first_wants (Err fault) bytes w = want_map fault (first_bare bytes) w

-- the same of a script that is all of the bytes
pub whole_wants : (fault : CborFault) (bytes : List ℕ) → IfWant fault ((script : Script) (rest : List ℕ) → BeginsWithText (SpellsScript script) bytes rest → IsBareScript script → ⊥) → IfWant fault ((script : Script) → SpellsScript script bytes → IsBareScript script → ⊥)
whole_wants fault bytes = want_map fault (λ none script p. none script [] (record { text = bytes; spelled = p; parts = sym (append-nil bytes) }))

-- bytes of which only the front is a script's text are none
pub more_follows : (bytes : List ℕ) (found : Script) (rest : List ℕ) → (rest ≡ [] → ⊥) → BeginsWithText (SpellsScript found) bytes rest → (script : Script) → SpellsScript script bytes → ⊥
more_follows bytes found rest some b script p = some (sym (scripts_apart script found bytes b.text [] rest p b.spelled (append-nil bytes ∙ b.parts)).1)

-- no bytes after it: the bytes are its text
pub all_of_it : (bytes : List ℕ) (found : Script) (rest : List ℕ) → rest ≡ [] → BeginsWithText (SpellsScript found) bytes rest → SpellsScript found bytes
all_of_it bytes found rest none b = subst (SpellsScript found) (sym (b.parts ∙ ap (λ (r : List ℕ). b.text ++ r) none ∙ append-nil b.text)) b.spelled

-- ---- what a script keeps

-- how many levels of items this many levels of scripts have
pub levels_are : (depth : ℕ) → levels_of depth ≡ 2 * depth
levels_are zero = omega arith
levels_are (suc depth) = omega (arith, levels_are depth)

-- the bytes after a script are fewer
pub rest_is_shorter : (depth : ℕ) (bytes : List ℕ) (script : Script) (rest : List ℕ) → IsBytes bytes → script_at depth bytes ≡ Some (script, rest) → length rest ≤ length bytes
rest_is_shorter depth bytes script rest fits e =
    let t = (script_reads depth).takes bytes script rest fits e in
    let taken = t.0.takes in
    omega (arith, ap length taken.parts ∙ length-append (text_of (item_of_script script)) rest)

-- a script that was read has a text, and its hash is that of the bytes in front
pub record IsKept (script : Script) (bytes : List ℕ) : Type 0 where
  pub shape : IsScript script
  pub has_text : HasText (item_of_script script)
  pub hash : bytes ≡ script_hash_of script

pub read_is_kept : (depth : ℕ) → depth ≤ 32 → (bytes : List ℕ) (script : Script) (rest text hash : List ℕ) → IsBytes bytes → script_at depth bytes ≡ Some (script, rest) → text ≡ take (length bytes - length rest) bytes → hash ≡ sha256 (0 ∷ text) → IsKept script hash
unfolding script_hash_of
read_is_kept depth le bytes script rest text hash fits e front hashed =
    let t = (script_reads depth).takes bytes script rest fits e in
    let taken = t.0.takes in
    let own = text_of (item_of_script script) in
    let long : length bytes - length rest ≡ length own = omega (arith, ap length taken.parts ∙ length-append own rest) in
    let same : text ≡ own = front ∙ (λ i. take (long i) (taken.parts i)) ∙ take_at own rest (length own) refl in
    record { shape = t.1.shape; has_text = has_text (omega (arith, le, levels_are depth)) t.0; hash = hashed ∙ ap (λ (x : List ℕ). sha256 (0 ∷ x)) same }

-- a script that was made has a text, and its hash is that of what was written
pub made_is_kept : (script : Script) (text hash : List ℕ) → FitsIn 32 script → text ≡ text_of (item_of_script script) → hash ≡ sha256 (0 ∷ text) → IsKept script hash
unfolding script_hash_of
made_is_kept script text hash fits same hashed = record { shape = fits.shape; has_text = fits_text script fits; hash = hashed ∙ ap (λ (x : List ℕ). sha256 (0 ∷ x)) same }

-- bytes that are not none
pub not_empty : (rest : List ℕ) (b : Bool) → b ≡ eqb (length rest) 0 → b ≡ false → rest ≡ [] → ⊥
not_empty rest b is not_true none =
    let same : true ≡ false = ap (λ (r : List ℕ). eqb (length r) 0) (sym none) ∙ sym is ∙ not_true in
    absurd cc
