use Rattle.std.proofs.Common.{◌≡◌, ℕ, List, ◌++◌, sym, subst, ap, ◌∙◌, append_assoc, codes}
use Rattle.std.specs.Prelude.{string_bytes, decimal}
use Rattle.metrics.specs.Metrics.{refusal}
use Rattle.metrics.proofs.Appended.{Puts}
use Rattle.metrics.proofs.tables.put_refusal.Goals as goal

pub returns : goal.returns
returns c =
    let old = string_bytes c.args.out.now in
    let new = string_bytes c.write.new.self in
    let number : List ℕ = decimal c.args.number in
    let reason : List ℕ = c.args.reason.now in
    let labels : List ℕ = (refusal c.args.number reason c.args.count).labels in
    let tail : List ℕ = codes " " ++ (decimal c.args.count ++ codes "\n") in
    let behind : List ℕ → List ℕ = λ bytes. number ++ (codes "\",reason=\"" ++ bytes) in
    let closed : (reason ++ codes "\"}") ++ tail ≡ reason ++ (codes "\"}" ++ tail) = append_assoc reason (codes "\"}") tail in
    let same : labels ++ tail ≡ codes "{number=\"" ++ behind (reason ++ (codes "\"}" ++ tail)) =
    ap (λ (bytes : List ℕ). codes "{number=\"" ++ bytes)
    (append_assoc number (codes "\",reason=\"" ++ (reason ++ codes "\"}")) tail ∙ ap behind closed) in
    let line : List ℕ → List ℕ = λ bytes. codes "chaindb_arrivals_refused_total" ++ bytes in
    subst (λ (bytes : List ℕ). Puts c.write.result old new (line bytes)) (sym same) c.write.ensures.bytes
