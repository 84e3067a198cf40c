-- Heights that one caller reads never fall.
use Rattle.std.proofs.Common.{◌≡◌, ◌≤◌, List, [], ◌∷◌, ◌++◌, length, refl, ap, subst, ◌∙◌, arith, append_assoc, ℕ}
use Rattle.std.proofs.lemmas.List.{map-append}
use Rattle.model.specs.Ledger.{Network}
use Rattle.model.specs.Chain.{IsOpening}
use Rattle.model.specs.History.{State, opening, Entry, IsRun}
use Rattle.model.specs.Journal.{JournalEntry, Journal, Knowledge, history_of, IsLook, BeginsWithSeen}
use Rattle.model.proofs.LegalHistories.{opening_sound, run_one, run_goes_on}

-- a run over two lists goes on from where the first one ends
run_split : (network : Network) (s : State) (xs ys : List Entry) (t : State) → IsRun network s (xs ++ ys) t → (mid : State) × IsRun network s xs mid × IsRun network mid ys t
run_split network s [] ys t run = (s, refl, run)
run_split network s (x ∷ xs) ys t run = let rest = run_split network run.0 xs ys t run.2 in (rest.0, (run.0, run.1, rest.1), rest.2)

pub never_falls : (network : Network) (a b c d : Knowledge) (first second : ℕ) → IsOpening network → IsLook network a first b → BeginsWithSeen c.seen b.seen → IsLook network c second d → first ≤ second
never_falls network a b c d first second opens look since later =
    let more : Journal = since.0 ++ later.seen.0 in
    let seen : d.seen ≡ b.seen ++ more = later.seen.1 ∙ (ap (λ (j : Journal). j ++ later.seen.0) since.1 ∙ append_assoc b.seen since.0 later.seen.0) in
    let split : history_of d.seen ≡ history_of b.seen ++ history_of more = ap history_of seen ∙ map-append (λ (e : JournalEntry). e.entry) b.seen more in
    let run : IsRun network (opening network) (history_of b.seen ++ history_of more) later.legal.state = subst (λ (h : List Entry). IsRun network (opening network) h later.legal.state) split later.legal.legal in
    let parts = run_split network (opening network) (history_of b.seen) (history_of more) later.legal.state run in
    let same : parts.0 ≡ look.legal.state = run_one network (opening network) (history_of b.seen) parts.0 look.legal.state (opening_sound network opens) parts.1 look.legal.legal in
    let on = run_goes_on network parts.0 (history_of more) later.legal.state parts.2 in
    let from = ap (λ (s : State). length s.chain) same in
    let high = on.not_shorter in
    let one = look.height_is in
    let two = later.height_is in
    omega arith
