use Rattle.std.proofs.Common.{◌≡◌, ◌≢◌, ◌↔◌, ℕ, Bool, true, false, List, [], ◌∷◌, refl, sym, ap, ◌∙◌}
use Rattle.std.specs.Prelude.{IsTrue, not, bytes_eq, ◌||◌}
use Rattle.std.specs.List.{AllByRecursion}
use Rattle.std.specs.Ordering.{nat_cmp}
use Rattle.std.specs.Cmp.Lexicographic.{slice_cmp}
use Rattle.std.specs.BTreeSet.{contains}
use Rattle.std.proofs.lemmas.Slice.Eq.{bytes_eq-Decides}
use Rattle.ident.specs.Kinds.{BlockHash}
use Rattle.chainsel.specs.Founds.{is_among}
use Rattle.chainsel.proofs.found.Found.lacks.Goals as goal

abbrev IsOther : List ℕ → BlockHash → Type 0
IsOther hash other = other.bytes ≢ hash

-- a hash that is among others doesn't differ from each of them
unfound : (hash : List ℕ) (hs : List BlockHash) (found : Bool) → found ≡ is_among hash hs → IsTrue (not found) ↔ AllByRecursion (IsOther hash) hs
unfound hash [] found is = ((λ _. tt), (λ _. ap not is))
unfound hash (h ∷ hs) found is = by (bytes_eq h.bytes hash) refl is (unfound hash hs found)
  where
    by : (t : Bool) → bytes_eq h.bytes hash ≡ t → found ≡ (t || is_among hash hs) → (found ≡ is_among hash hs → IsTrue (not found) ↔ AllByRecursion (IsOther hash) hs) → IsTrue (not found) ↔ AllByRecursion (IsOther hash) (h ∷ hs)
    by true passes same more = (
      (λ holds. absurd (let e : false ≡ true = sym (ap not same) ∙ holds in cc)),
      (λ all. absurd (all.0 ((bytes_eq-Decides h.bytes hash).0 passes))),
    )
    by false fails same more = (
      (λ holds. ((λ e. let f : false ≡ true = sym fails ∙ (bytes_eq-Decides h.bytes hash).1 e in cc), (more same).0 holds)),
      (λ all. (more same).1 all.1),
    )

pub returns : goal.returns
returns c =
    unfound c.args.hash.bytes c.args.self.now.hashes.items c.contains.result
    (c.contains.ensures ∙ (ap (contains (slice_cmp nat_cmp) c.args.self.now.known) c.as_bytes.ensures ∙ c.args.self.now.same c.args.hash.bytes))
