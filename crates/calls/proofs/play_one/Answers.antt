-- `play_one` plays the call that its number names: each arm by the contract of the public call and of what writes its outcome down.
use mathlib.Core.Path.{ap, ◌∙◌}
use borrow.Author.Tests.{ne_eqb}
use Rattle.machine.specs.Lists.{Played, play}
use Rattle.calls.specs.Row.{call_of, row_of}
use Rattle.calls.proofs.Replies.{plain_played, cycle_played, take_played, jump_played, run_played, read_replied, offer_replied, look_replied}
use Rattle.calls.proofs.play_one.Goals as goal

-- reset
pub returns-in-0-clause-row : goal.returns-in-0-clause-row
unfolding play call_of
returns-in-0-clause-row c =
    let k = rw (c.byte_in.ensures) at c.reset.ensures in
    simp c.in-0.is (c.plain_row.ensures ∙ ap (λ (p : Played). row_of p.reply) (plain_played _ c.reset.result k))

pub returns-in-0-clause-device : goal.returns-in-0-clause-device
unfolding play call_of
returns-in-0-clause-device c =
    let k = rw (c.byte_in.ensures) at c.reset.ensures in
    simp c.in-0.is (ap (λ (p : Played). p.device) (plain_played _ c.reset.result k))

-- read
pub returns-in-1-clause-row : goal.returns-in-1-clause-row
unfolding play call_of
returns-in-1-clause-row c =
    let k = rw (c.byte_in-in-1.ensures) at c.read.ensures.0 in
    simp c.in-1.is (c.number_row.ensures ∙ ap row_of (read_replied c.read.result k))

pub returns-in-1-clause-device : goal.returns-in-1-clause-device
unfolding play call_of
returns-in-1-clause-device c = simp c.in-1.is

-- write
pub returns-in-2-clause-row : goal.returns-in-2-clause-row
unfolding play call_of
returns-in-2-clause-row c =
    let k = rw (c.byte_in-in-2-2.ensures, c.byte_in-in-2.ensures) at c.write.ensures in
    simp c.in-2.is (c.plain_row-in-2.ensures ∙ ap (λ (p : Played). row_of p.reply) (plain_played _ c.write.result k))

pub returns-in-2-clause-device : goal.returns-in-2-clause-device
unfolding play call_of
returns-in-2-clause-device c =
    let k = rw (c.byte_in-in-2-2.ensures, c.byte_in-in-2.ensures) at c.write.ensures in
    simp c.in-2.is (ap (λ (p : Played). p.device) (plain_played _ c.write.result k))

-- cycle
pub returns-in-3-clause-row : goal.returns-in-3-clause-row
unfolding play call_of
returns-in-3-clause-row c =
    let k = rw (c.byte_in-in-3.ensures) at c.cycle.ensures in
    simp c.in-3.is (c.number_row-in-3.ensures ∙ ap (λ (p : Played). row_of p.reply) (cycle_played _ c.cycle.result k))

pub returns-in-3-clause-device : goal.returns-in-3-clause-device
unfolding play call_of
returns-in-3-clause-device c =
    let k = rw (c.byte_in-in-3.ensures) at c.cycle.ensures in
    simp c.in-3.is (ap (λ (p : Played). p.device) (cycle_played _ c.cycle.result k))

-- jump
pub returns-in-4-clause-row : goal.returns-in-4-clause-row
unfolding play call_of
returns-in-4-clause-row c =
    let k = rw (c.byte_in-in-4.ensures) at c.jump.ensures in
    simp c.in-4.is (c.jump_row.ensures ∙ ap (λ (p : Played). row_of p.reply) (jump_played _ c.jump.result k))

pub returns-in-4-clause-device : goal.returns-in-4-clause-device
unfolding play call_of
returns-in-4-clause-device c =
    let k = rw (c.byte_in-in-4.ensures) at c.jump.ensures in
    simp c.in-4.is (ap (λ (p : Played). p.device) (jump_played _ c.jump.result k))

-- trace
pub returns-in-5-clause-row : goal.returns-in-5-clause-row
unfolding play call_of
returns-in-5-clause-row c =
    let k = rw (c.part.ensures) at c.trace.ensures in
    simp c.in-5.is (c.run_row.ensures ∙ ap (λ (p : Played). row_of p.reply) (run_played _ c.trace.result k))

pub returns-in-5-clause-device : goal.returns-in-5-clause-device
unfolding play call_of
returns-in-5-clause-device c =
    let k = rw (c.part.ensures) at c.trace.ensures in
    simp c.in-5.is (ap (λ (p : Played). p.device) (run_played _ c.trace.result k))

-- look
pub returns-in-6-clause-row : goal.returns-in-6-clause-row
unfolding play call_of
returns-in-6-clause-row c =
    let k = rw (c.byte_in-in-6.ensures) at c.look.ensures.0 in
    simp c.in-6.is (c.sought_row.ensures ∙ ap row_of (look_replied c.look.result k))

pub returns-in-6-clause-device : goal.returns-in-6-clause-device
unfolding play call_of
returns-in-6-clause-device c = simp c.in-6.is

-- offer
pub returns-in-7-clause-row : goal.returns-in-7-clause-row
unfolding play call_of
returns-in-7-clause-row c =
    let k = c.offer.ensures.0 in
    simp c.in-7.is (c.offer_row.ensures ∙ ap row_of (offer_replied c.offer.result k))

pub returns-in-7-clause-device : goal.returns-in-7-clause-device
unfolding play call_of
returns-in-7-clause-device c = simp c.in-7.is

-- take
pub returns-in-8-clause-row : goal.returns-in-8-clause-row
unfolding play call_of
returns-in-8-clause-row c =
    let k = c.take.ensures in
    simp c.in-8.is (c.number_row-in-8.ensures ∙ ap (λ (p : Played). row_of p.reply) (take_played _ c.take.result k))

pub returns-in-8-clause-device : goal.returns-in-8-clause-device
unfolding play call_of
returns-in-8-clause-device c =
    let k = c.take.ensures in
    simp c.in-8.is (ap (λ (p : Played). p.device) (take_played _ c.take.result k))

-- wake look
pub returns-in-10-clause-row : goal.returns-in-10-clause-row
unfolding play call_of
returns-in-10-clause-row c =
    let k = rw (c.byte_in-in-10.ensures) at c.wake.ensures.0 in
    simp c.in-10.is (c.sought_row-in-10.ensures ∙ ap row_of (look_replied c.wake.result k))

pub returns-in-10-clause-device : goal.returns-in-10-clause-device
unfolding play call_of
returns-in-10-clause-device c = simp c.in-10.is

-- any other number is none of the ten
pub returns-in_default-clause-row : goal.returns-in_default-clause-row
unfolding play call_of
returns-in_default-clause-row c =
    let n0 = c.in_default.in_default-own.rest in
    let n1 = n0.0 in
    let n2 = n1.0 in
    let n3 = n2.0 in
    let n4 = n3.0 in
    let n5 = n4.0 in
    let n6 = n5.0 in
    let n7 = n6.0 in
    let n8 = n7.0 in
    simp (ne_eqb _ _ n8.0.1, ne_eqb _ _ n8.1, ne_eqb _ _ n7.1, ne_eqb _ _ n6.1, ne_eqb _ _ n5.1, ne_eqb _ _ n4.1, ne_eqb _ _ n3.1, ne_eqb _ _ n2.1, ne_eqb _ _ n1.1, ne_eqb _ _ n0.1)
    (c.plain_row-in_default.ensures ∙ ap (λ (p : Played). row_of p.reply) (plain_played _ c.reti.result c.reti.ensures))

pub returns-in_default-clause-device : goal.returns-in_default-clause-device
unfolding play call_of
returns-in_default-clause-device c =
    let n0 = c.in_default.in_default-own.rest in
    let n1 = n0.0 in
    let n2 = n1.0 in
    let n3 = n2.0 in
    let n4 = n3.0 in
    let n5 = n4.0 in
    let n6 = n5.0 in
    let n7 = n6.0 in
    let n8 = n7.0 in
    simp (ne_eqb _ _ n8.0.1, ne_eqb _ _ n8.1, ne_eqb _ _ n7.1, ne_eqb _ _ n6.1, ne_eqb _ _ n5.1, ne_eqb _ _ n4.1, ne_eqb _ _ n3.1, ne_eqb _ _ n2.1, ne_eqb _ _ n1.1, ne_eqb _ _ n0.1)
    (ap (λ (p : Played). p.device) (plain_played _ c.reti.result c.reti.ensures))
