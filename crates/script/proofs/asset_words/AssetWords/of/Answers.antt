use Rattle.std.proofs.Common.{◌≡◌, ℕ, List, ap, sym, ◌∙◌, is_some, false, true}
use Rattle.script.specs.Line.{NamedAsset, parse_assets}
use Rattle.script.specs.WordsView.{has_no_words, words_left}
use Rattle.script.specs.AssetView.{named_asset_of}
use Rattle.script.proofs.AssetLists.{all_said, no_asset, one_asset, said_is, unsaid}
use Rattle.script.proofs.asset_words.AssetWords.of.Goals as goal

pub loop-left-preserved : goal.loop-left-preserved
loop-left-preserved c =
    let rest = ap (λ (ws : List (List ℕ)). is_some (parse_assets ws)) c.next_of.ensures.rest in
    let asset = named_asset_of c.in_ok-next_of.field-0 in
    let one = one_asset (words_left c.loop-left.left) asset (sym c.in_ok-next_of.ensures.asset) in
    c.loop-left.invariant ∙ (one ∙ sym rest)

pub returns-in_err-next_of : goal.returns-in_err-next_of
returns-in_err-next_of c =
    let some : has_no_words (words_left c.loop-left.left) ≡ false = sym c.is_empty.ensures ∙ c.loop-left-test.true in
    let none = no_asset (words_left c.loop-left.left) some (sym c.in_err-next_of.ensures.asset) in
    let unsaid_all = c.loop-left.invariant ∙ ap (is_some {T = List (NamedAsset ℕ)}) none in
    rw c.from_residual.ensures (unsaid (parse_assets (words_left c.args.words)) unsaid_all)

pub returns : goal.returns
returns c =
    let none : has_no_words (words_left c.loop-left.left) ≡ true = sym c.is_empty.ensures ∙ c.loop-left-test.false in
    let all = c.loop-left.invariant ∙ all_said (words_left c.loop-left.left) none in
    said_is (parse_assets (words_left c.args.words)) all
