-- What was noted of a file, after one more call.
use Rattle.std.proofs.Common.{◌≡◌, ◌∙◌, ℕ, ◌+◌, ◌-◌, ◌≤◌, List, [], ◌∷◌, ◌++◌, length, take, drop, reverse, refl, sym, ap, subst, arith, length-append}
use Rattle.std.proofs.lemmas.List.{reverse-append, length-take-le, length-drop, map-append}
use Rattle.model.specs.Disk.{touched, MayLeave, IsWritten}
use Rattle.http_server.specs.declared.log.Log.{Log}
use Rattle.file_disk.specs.declared.step.Step.{Step}
use Rattle.file_disk.specs.declared.step.Step.TheVariants.{Written, Cut}
use Rattle.immlog.specs.Views.{noted}
use Rattle.file_disk.specs.Steps.{bytes_after, moment_of, steps_of}
use Rattle.file_disk.proofs.Changes.{left_written, left_cut}

-- the newest step stands first
pub one_more_step : {U : Type 0} (old new : List (Step × U)) (step : Step) (u : U) → new ≡ old ++ (step, u) ∷ [] → steps_of new ≡ step ∷ steps_of old
one_more_step {U} old new step u is =
    ap steps_of is ∙ (ap reverse (map-append (λ (item : Step × U). item.0) old ((step, u) ∷ [])) ∙ reverse-append (noted old) (step ∷ []))

-- how many bytes there are then
pub written_length : (old bytes new : List ℕ) (place : ℕ) → place ≤ length old → IsWritten old place bytes new → length new ≡ place + length bytes + (length old - (place + length bytes))
written_length old bytes new place within written =
    omega (arith, ap length written, length-append (take place old ++ bytes) (drop (place + length bytes) old), length-append (take place old) bytes, length-take-le place old within, length-drop (place + length bytes) old)

-- what is noted then: the bytes, and what a crash may leave of them
pub record IsNoted (old new : List Step) (place : ℕ) (more : List ℕ) : Type 0 where
  pub written : IsWritten (bytes_after old) place more (bytes_after new)
  pub left : MayLeave (moment_of new) (bytes_after new)

pub written_noted : (old new : List Step) (place : ℕ) (bytes : Log ℕ (Unit {0})) (more : List ℕ) → noted bytes.items ≡ more → new ≡ Written place bytes ∷ old → place ≤ length (bytes_after old) → MayLeave (moment_of old) (bytes_after old) → IsNoted old new place more
written_noted old new place bytes more same is within left =
    let made : bytes_after new ≡ take place (bytes_after old) ++ noted bytes.items ++ drop (place + length (noted bytes.items)) (bytes_after old) = ap bytes_after is in
    let written = subst (λ (l : List ℕ). IsWritten (bytes_after old) place l (bytes_after new)) same made in
    let then_left = left_written (moment_of old) (bytes_after old) more (bytes_after new) place left within written in
    let moment : touched place (place + length more) (moment_of old) ≡ moment_of new = ap (λ (l : List ℕ). touched place (place + length l) (moment_of old)) (sym same) ∙ sym (ap moment_of is) in
    record {
      written = written;
      left = subst (λ m. MayLeave m (bytes_after new)) moment then_left;
    }

pub cut_left : (old new : List Step) (len : ℕ) → new ≡ Cut len ∷ old → len ≤ length (bytes_after old) → MayLeave (moment_of old) (bytes_after old) → MayLeave (moment_of new) (bytes_after new)
cut_left old new len is within left =
    subst (λ (steps : List Step). MayLeave (moment_of steps) (bytes_after steps)) (sym is) (left_cut (moment_of old) (bytes_after old) (take len (bytes_after old)) len left within refl)
