use Rattle.std.proofs.Common.{◌≡◌, ◌↔◌, true, false, ap, sym, ◌∙◌, refl}
use Rattle.std.specs.Prelude.{IsTrue}
use Rattle.std.specs.Ordering.{nat_cmp, is_lt}
use Rattle.std.specs.declared.cmp.Ordering.{Ordering}
use Rattle.std.specs.declared.cmp.Ordering.TheVariants.{Less, Equal, Greater}
use Rattle.std.specs.Cmp.Lexicographic.{slice_cmp}
use Rattle.chainsel.proofs.furthest.is_less.Goals as goal

less_test : (r : Ordering) → IsTrue (is_lt r) ↔ (r ≡ Less)
less_test Less = ((λ e. refl), (λ e. refl))
less_test Equal = ((λ (e : false ≡ true). cc), (λ e. cc))
less_test Greater = ((λ (e : false ≡ true). cc), (λ e. cc))

pub returns : goal.returns
returns c =
    let answer = c.is_lt.ensures ∙ ap is_lt c.cmp.ensures in
    let test = less_test (slice_cmp nat_cmp c.args.hash.bytes c.args.other.bytes) in
    ((λ holds. test.0 (sym answer ∙ holds)), (λ less. answer ∙ test.1 less))
