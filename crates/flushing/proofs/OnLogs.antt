-- What the log says of the blocks that come onto it, said of all that the core has.
use Rattle.std.proofs.Common.{◌≡◌, ℕ, ◌+◌, List, [], ◌∷◌, ◌++◌, length, drop, refl, sym, ap, ◌∙◌, append_assoc}
use Rattle.model.specs.Disk.{Moment, Leaves}
use Rattle.model.specs.Log.{IsLogOf, OpensToBeginning}
use Rattle.model.proofs.LogTexts.{opens_to_beginning}
use Rattle.flushing.specs.Texts.{Begins}

drop_front : (first later : List (List ℕ)) → drop (length first) (first ++ later) ≡ later
drop_front [] later = refl
drop_front (x ∷ xs) later = drop_front xs later

-- those that are there, and those that aren't, are all
pub with_the_rest : (first all : List (List ℕ)) (from : ℕ) → Begins first all → from ≡ length first → first ++ drop from all ≡ all
with_the_rest first all from begins count =
    ap (λ (n : ℕ). first ++ drop n all) count ∙ (ap (λ (l : List (List ℕ)). first ++ drop (length first) l) begins.are ∙ (ap (λ (l : List (List ℕ)). first ++ l) (drop_front first begins.later) ∙ sym begins.are))

-- ---- of more blocks

pub opens_to_more : (least : ℕ) (first all : List (List ℕ)) (bytes : List ℕ) → Begins first all → OpensToBeginning least first bytes → OpensToBeginning least all bytes
opens_to_more least first all bytes begins p = record {
  opened = p.opened;
  next = p.next ++ begins.later;
  opens = p.opens;
  begins = begins.are ∙ (ap (λ (l : List (List ℕ)). l ++ begins.later) p.begins ∙ append_assoc p.opened p.next begins.later);
  enough = p.enough;
  sound = p.sound;
}

-- ---- where nothing was put onto it

-- a crash leaves a beginning of all, where it leaves those that are there
pub left_as_it_was : (least : ℕ) (first all : List (List ℕ)) (m : Moment) → Begins first all → Leaves (IsLogOf least first) m → Leaves (OpensToBeginning least all) m
left_as_it_was least first all m begins leaves bytes left = opens_to_more least first all bytes begins (opens_to_beginning least first bytes (leaves bytes left))
