use Rattle.std.specs.Prelude.{string_bytes}
use Rattle.metrics.proofs.Appended.{two_on, ended}
use Rattle.metrics.proofs.tables.put_refusals.Goals as goal

pub returns : goal.returns
returns c =
    let r = c.put_refusal-7.result in
    let l0 = string_bytes c.args.out.now in
    let l1 = string_bytes c.put_head.new.out in
    let l2 = string_bytes c.put_refusal.new.out in
    let l3 = string_bytes c.put_refusal-2.new.out in
    let l4 = string_bytes c.put_refusal-3.new.out in
    let l5 = string_bytes c.put_refusal-4.new.out in
    let l6 = string_bytes c.put_refusal-5.new.out in
    let l7 = string_bytes c.put_refusal-6.new.out in
    let l8 = string_bytes c.put_refusal-7.new.out in
    two_on r l0 l1 l8 _ _ c.in_ok-put_head.ensures
    (two_on r l1 l2 l8 _ _ c.in_ok-put_refusal.ensures
    (two_on r l2 l3 l8 _ _ c.in_ok-put_refusal-2.ensures
    (two_on r l3 l4 l8 _ _ c.in_ok-put_refusal-3.ensures
    (two_on r l4 l5 l8 _ _ c.in_ok-put_refusal-4.ensures
    (two_on r l5 l6 l8 _ _ c.in_ok-put_refusal-5.ensures
    (two_on r l6 l7 l8 _ _ c.in_ok-put_refusal-6.ensures
    (ended r l7 l8 _ c.put_refusal-7.ensures)))))))
