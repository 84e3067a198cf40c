use Rattle.std.proofs.Common.{◌≡◌, ◌+◌, ◌∙◌, ℕ, suc, sym, ap, subst, arith}
use Rattle.immlog.specs.Index.{IsBeginOf, blocks_in}
use Rattle.immlog.specs.Numbered.{numbered}
use Rattle.immlog.proofs.Indexed.{entry_of, none_of}
use Rattle.immlog.proofs.index.Index.span.Goals as goal

pub returns-in_err-entry : goal.returns-in_err-entry
returns-in_err-entry c =
    let at = c.in_ok-at.at in
    let none = none_of 0 (blocks_in c.args.self.now) c.args.self.now.entries.items at c.requires.entries (sym c.in_err-entry.ensures) in
    let number : c.args.number ≡ suc at = omega arith in
    rw c.from_residual-in_err-entry.ensures (ap (numbered (blocks_in c.args.self.now)) number ∙ none)

pub overflow_add-result : goal.overflow_add-result
overflow_add-result c =
    let at = c.in_ok-at.at in
    let n : at + 1 ≡ suc at = omega arith in
    let begin = subst (λ (k : ℕ). IsBeginOf c.args.self.now.entries.items k c.args.end c.begin_of-next.result) n c.begin_of-next.ensures in
    let is = entry_of 0 (blocks_in c.args.self.now) c.args.self.now.entries.items at c.in_ok-entry.entry c.args.end c.begin_of-next.result c.requires.entries (sym c.in_ok-entry.ensures) (let e = c.requires.end in omega arith) begin in
    let fits = c.begin_of-next.type_inv in
    omega (arith, is.end_is, fits)

pub overflow_sub-result : goal.overflow_sub-result
overflow_sub-result c =
    let at = c.in_ok-at.at in
    let n : at + 1 ≡ suc at = omega arith in
    let begin = subst (λ (k : ℕ). IsBeginOf c.args.self.now.entries.items k c.args.end c.begin_of-next.result) n c.begin_of-next.ensures in
    let is = entry_of 0 (blocks_in c.args.self.now) c.args.self.now.entries.items at c.in_ok-entry.entry c.args.end c.begin_of-next.result c.requires.entries (sym c.in_ok-entry.ensures) (let e = c.requires.end in omega arith) begin in
    omega (arith, is.end_is)

pub overflow_sub-result-2 : goal.overflow_sub-result-2
overflow_sub-result-2 c =
    let at = c.in_ok-at.at in
    let n : at + 1 ≡ suc at = omega arith in
    let begin = subst (λ (k : ℕ). IsBeginOf c.args.self.now.entries.items k c.args.end c.begin_of-next.result) n c.begin_of-next.ensures in
    let is = entry_of 0 (blocks_in c.args.self.now) c.args.self.now.entries.items at c.in_ok-entry.entry c.args.end c.begin_of-next.result c.requires.entries (sym c.in_ok-entry.ensures) (let e = c.requires.end in omega arith) begin in
    omega (arith, is.end_is)

pub returns : goal.returns
returns c =
    let at = c.in_ok-at.at in
    let n : at + 1 ≡ suc at = omega arith in
    let begin = subst (λ (k : ℕ). IsBeginOf c.args.self.now.entries.items k c.args.end c.begin_of-next.result) n c.begin_of-next.ensures in
    let is = entry_of 0 (blocks_in c.args.self.now) c.args.self.now.entries.items at c.in_ok-entry.entry c.args.end c.begin_of-next.result c.requires.entries (sym c.in_ok-entry.ensures) (let e = c.requires.end in omega arith) begin in
    record {
      before = at;
      number_is = omega arith;
      block = is.block;
      is_block = is.is_block;
      place = omega (arith, is.place_is);
      long = omega (arith, is.end_is);
      digest = is.digest;
    }
