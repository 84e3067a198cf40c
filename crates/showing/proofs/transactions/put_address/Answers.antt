use Rattle.std.proofs.Common.{◌≡◌, ℕ, ◌++◌, OnOk, subst}
use Rattle.std.specs.Prelude.{string_bytes}
use Rattle.model.specs.Transaction.{Credential, KeyHash, ScriptHash}
use Rattle.tx.specs.View.{address_of}
use Rattle.showing.specs.Transactions.{payment_line}
use Rattle.showing.proofs.transactions.put_address.Goals as goal

pub returns-in-Key : goal.returns-in-Key
returns-in-Key c =
    let margin = c.args.margin.now in
    let address = address_of c.args.address.now in
    let start = string_bytes c.args.out.now in
    let written = string_bytes c.write.new.self in
    let said : OnOk c.write.result (written ≡ start ++ payment_line margin c.network-network.result (KeyHash c.in-Key.hash.bytes)) = c.write.ensures.bytes in
    subst (λ (p : Credential). OnOk c.write.result (written ≡ start ++ payment_line margin address.network p)) c.in-Key.ensures
    (subst (λ (n : ℕ). OnOk c.write.result (written ≡ start ++ payment_line margin n (KeyHash c.in-Key.hash.bytes))) c.network-network.ensures.is said)

pub returns-in-Script : goal.returns-in-Script
returns-in-Script c =
    let margin = c.args.margin.now in
    let address = address_of c.args.address.now in
    let start = string_bytes c.args.out.now in
    let written = string_bytes c.write-in-Script.new.self in
    let said : OnOk c.write-in-Script.result (written ≡ start ++ payment_line margin c.network-network.result (ScriptHash c.in-Script.hash.bytes)) = c.write-in-Script.ensures.bytes in
    subst (λ (p : Credential). OnOk c.write-in-Script.result (written ≡ start ++ payment_line margin address.network p)) c.in-Script.ensures
    (subst (λ (n : ℕ). OnOk c.write-in-Script.result (written ≡ start ++ payment_line margin n (ScriptHash c.in-Script.hash.bytes))) c.network-network.ensures.is said)
