-- `go_round` is its definition: the shares written, and what the definition makes of the wishes from i on, are what it makes of all.
use Rattle.std.proofs.Common.{sym, ◌∙◌, arith, length-set}
use Rattle.shares.proofs.Rounds.{round_on, round_out}
use Rattle.shares.proofs.go_round.Goals as goal

pub loop-i-preserved : goal.loop-i-preserved
loop-i-preserved c =
    let a = c.args in
    let l = c.loop-i in
    let on = round_on a.wishes.now l.i a.part l.left l.output c.loop-i-test.true (omega (arith, l.invariant.0)) in
    (rw length-set l.invariant.0, rw (c.min-more.ensures, c.min-first.ensures) (on ∙ l.invariant.1))

pub returns : goal.returns
returns c =
    let a = c.args in
    let l = c.loop-i in
    sym (round_out a.wishes.now l.i a.part l.left l.output c.loop-i-test.false l.invariant.0) ∙ l.invariant.1
