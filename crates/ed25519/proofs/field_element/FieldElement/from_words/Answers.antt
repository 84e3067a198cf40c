use Rattle.std.proofs.Common.{ℕ, ◌%◌, ap, arith}
use Rattle.ed25519.specs.Arithmetic.{prime}
use Rattle.ed25519.proofs.Words.{split_words}
use Rattle.ed25519.proofs.field_element.FieldElement.from_words.Goals as goal

pub returns : goal.returns
returns c = ap (λ (n : ℕ). n % prime) (split_words c.args.w0 c.args.w1 c.args.w2 c.args.w3 (omega arith) (omega arith)
    (omega arith))
