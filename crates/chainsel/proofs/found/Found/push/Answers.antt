use Rattle.std.proofs.Common.{◌≡◌, ◌∷◌, ◌++◌, [], List, ℕ, true, ap, subst, sym, ◌∙◌}
use Rattle.std.specs.Ordering.{nat_cmp}
use Rattle.std.specs.Cmp.Lexicographic.{slice_cmp}
use Rattle.std.specs.BTreeSet.{Updates}
use Rattle.ident.specs.Kinds.{BlockHash}
use Rattle.chainsel.specs.Founds.{AreHashesOf}
use Rattle.chainsel.proofs.Founds.{on_ok, one_known}
use Rattle.chainsel.proofs.found.Found.push.Goals as goal

pub invariant_of-self-2 : goal.invariant_of-self-2
invariant_of-self-2 c =
    let old = c.args.self.now in
    let updates : Updates (slice_cmp nat_cmp) old.known c.insert.new.self c.args.hash.bytes true =
    subst (λ (bytes : List ℕ). Updates (slice_cmp nat_cmp) old.known c.insert.new.self bytes true) c.as_bytes.ensures (on_ok _ c.insert.result c.if-is_err.ensures.value c.insert.ensures.updates) in
    let pushed : c.push_reserved.new.self.items ≡ old.hashes.items ++ c.args.hash ∷ [] =
    c.push_reserved.ensures.items ∙ ap (λ (hs : List BlockHash). hs ++ c.args.hash ∷ []) c.in_ok-reserve.ensures.items in
    record { same = subst (AreHashesOf c.insert.new.self) (sym pushed) (one_known old.known c.insert.new.self old.hashes.items c.args.hash old.same updates) }
