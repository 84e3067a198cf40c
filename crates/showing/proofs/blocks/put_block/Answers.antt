use Rattle.std.proofs.Common.{◌≡◌, ℕ, List, [], ◌++◌, length, OnOk, ap, subst, ◌∙◌, codes}
use Rattle.std.specs.Prelude.{flat_map, string_bytes}
use Rattle.model.specs.Transaction.{Transaction}
use Rattle.model.specs.Block.{Header, block_text, block_hash_of, body_size_of}
use Rattle.showing.specs.Lines.{bytes_line, number_line}
use Rattle.showing.specs.Transactions.{lines_of_transaction}
use Rattle.showing.specs.Blocks.{lines_of_header}
use Rattle.showing.proofs.Appended.{two_on}
use Rattle.showing.proofs.blocks.put_block.Goals as goal

pub returns : goal.returns
returns g c =
    let b = c.args.block.now in
    let shown = lines_of_transaction g.S.SigScheme.verifies (codes "  ") in
    let l0 = string_bytes c.args.out.now in
    let l1 = string_bytes c.put_id.new.out in
    let l2 = string_bytes c.put_number.new.out in
    let l3 = string_bytes c.put_header.new.out in
    let l4 = string_bytes c.put_number-2.new.out in
    let l5 = string_bytes c.put_number-3.new.out in
    let l6 = string_bytes c.put_transactions.new.out in
    let hash : l1 ≡ l0 ++ bytes_line [] (codes "block") (block_hash_of b) = c.in_ok-put_id.ensures ∙ ap (λ (bytes : List ℕ). l0 ++ bytes_line [] (codes "block") bytes) c.hash.ensures in
    let size : l2 ≡ l1 ++ number_line [] (codes "size") (length (block_text b)) = c.in_ok-put_number.ensures ∙ ap (λ (n : ℕ). l1 ++ number_line [] (codes "size") n) c.text_size.ensures in
    let header : l3 ≡ l2 ++ lines_of_header b.header = c.in_ok-put_header.ensures ∙ ap (λ (h : Header). l2 ++ lines_of_header h) c.header.ensures in
    let body : l4 ≡ l3 ++ number_line [] (codes "body_size") (body_size_of b) = c.in_ok-put_number-2.ensures ∙ ap (λ (n : ℕ). l3 ++ number_line [] (codes "body_size") n) c.body_size.ensures in
    let count : l5 ≡ l4 ++ number_line [] (codes "transactions") (length b.transactions) =
    c.in_ok-put_number-3.ensures ∙ ap (λ (ts : List Transaction). l4 ++ number_line [] (codes "transactions") (length ts)) c.transactions-transactions.ensures.transactions in
    let transactions : OnOk c.put_transactions.result (l6 ≡ l5 ++ flat_map shown b.transactions) =
    subst (λ (ts : List Transaction). OnOk c.put_transactions.result (l6 ≡ l5 ++ flat_map shown ts)) c.transactions-transactions.ensures.transactions c.put_transactions.ensures in
    let r = c.put_transactions.result in
    two_on r l0 l1 l6 _ _ hash (two_on r l1 l2 l6 _ _ size (two_on r l2 l3 l6 _ _ header (two_on r l3 l4 l6 _ _ body (two_on r l4 l5 l6 _ _ count transactions))))
