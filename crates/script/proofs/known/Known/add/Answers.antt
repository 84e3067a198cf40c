use Rattle.script.proofs.known.Known.add.Goals as goal

pub returns-in-SpendGrant : goal.returns-in-SpendGrant
returns-in-SpendGrant c = λ names known d stands. rw (c.in-SpendGrant.is, ← c.from_bytes.ensures) (c.spend.ensures d stands)

pub returns-in-Spend : goal.returns-in-Spend
returns-in-Spend c = rw c.in-Spend.is c.spend-in-Spend.ensures

pub returns-in-Pay : goal.returns-in-Pay
returns-in-Pay c = rw c.in-Pay.is c.pay.ensures

pub returns-in-Mint : goal.returns-in-Mint
returns-in-Mint c = rw c.in-Mint.is c.mint.ensures

pub returns-in-Sign : goal.returns-in-Sign
returns-in-Sign c = rw c.in-Sign.is c.sign.ensures

pub returns-in-With : goal.returns-in-With
returns-in-With c = rw c.in-With.is c.supply.ensures
