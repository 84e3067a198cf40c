use Rattle.std.proofs.Common.{◌++◌}
use Rattle.std.specs.Prelude.{string_bytes}
use Rattle.metrics.specs.Metrics.{chain, mempool, clients, arrivals, flushes, resident}
use Rattle.metrics.proofs.Appended.{more_lines}
use Rattle.metrics.proofs.text.put_figures.Goals as goal

pub returns : goal.returns
returns c =
    let f = c.args.figures.now in
    let l0 = string_bytes c.args.out.now in
    let l1 = string_bytes c.put_chain.new.out in
    let l2 = string_bytes c.put_mempool.new.out in
    let l3 = string_bytes c.put_clients.new.out in
    let l4 = string_bytes c.put_arrivals.new.out in
    let l5 = string_bytes c.put_flushes.new.out in
    let l6 = string_bytes c.put_resident.new.out in
    let r = c.put_resident.result in
    let after5 = resident f.resident_bytes in
    let after4 = flushes f ++ after5 in
    let after3 = arrivals f ++ after4 in
    let after2 = clients f ++ after3 in
    let after1 = mempool f ++ after2 in
    more_lines r l0 l1 l6 (chain f) after1 c.in_ok-put_chain.ensures
    (more_lines r l1 l2 l6 (mempool f) after2 c.in_ok-put_mempool.ensures
    (more_lines r l2 l3 l6 (clients f) after3 c.in_ok-put_clients.ensures
    (more_lines r l3 l4 l6 (arrivals f) after4 c.in_ok-put_arrivals.ensures
    (more_lines r l4 l5 l6 (flushes f) after5 c.in_ok-put_flushes.ensures c.put_resident.ensures))))
