-- Round by round: the first cycle that is found of those that are left is the first of all; one is found in a round of one cycle only.
use Rattle.std.proofs.Common.{◌-◌, refl, sym, ◌∙◌, arith}
use Rattle.strides.specs.Stride.{room_at}
use Rattle.jump.proofs.Rounds.{round_used, round_ready}
use Rattle.looks.proofs.Looks.{on_none}
use Rattle.looks.proofs.Rounds.{quiet_look, idle_look, look_here, look_on}
use Rattle.looks.proofs.first_found.Goals as goal

pub returns-then-powered_down : goal.returns-then-powered_down
unfolding room_at
returns-then-powered_down g c test hears still says =
    let x = c.args in
    let down = sym c.powered_down.ensures ∙ c.if-powered_down.true in
    quiet_look hears x.pins x.n x.d c.requires.ready still (rw down refl) c.requires.within 0 refl

pub returns-then-idles : goal.returns-then-idles
returns-then-idles g c test hears still says =
    let l = c.loop-done in
    let i = l.invariant.2 test hears still says in
    idle_look hears c.args.pins l.at l.invariant.0 i.0 c.idles.ensures c.if-idles.true l.done (c.args.n - l.done) i.1

pub returns-then-ahead-left : goal.returns-then-ahead-left
returns-then-ahead-left g c test hears still says =
    let l = c.loop-done in
    let i = l.invariant.2 test hears still says in
    quiet_look hears c.args.pins (c.args.n - l.done) l.at l.invariant.0 i.0 c.ahead-ahead.ensures.1 c.if-ahead-left.true l.done i.1

pub overflow_add-done : goal.overflow_add-done
overflow_add-done g c =
    omega (arith, c.requires.within, round_used _ _ _ c.one_round-r.ensures (omega arith))

pub returns-then-finds : goal.returns-then-finds
returns-then-finds g c test hears still says =
    let l = c.loop-done in
    let i = l.invariant.2 test hears still says in
    look_here hears _ _ _ _ c.loop-done-test.true c.one_round-r.ensures l.invariant.0.good i.0 i.1 (sym (says _ _ c.finds.result c.finds.ensures) ∙ c.if-finds.true)

pub loop-done-smaller : goal.loop-done-smaller
loop-done-smaller g c =
    omega (arith, round_used _ _ _ c.one_round-r.ensures (omega arith))

pub loop-done-preserved : goal.loop-done-preserved
loop-done-preserved g c =
    let l = c.loop-done in (
      round_ready _ _ _ c.one_round-r.ensures (omega arith) l.invariant.0,
      omega (arith, round_used _ _ _ c.one_round-r.ensures (omega arith)),
      λ test hears still says.
          let i = l.invariant.2 test hears still says in
          let none = sym (says _ _ c.finds.result c.finds.ensures) ∙ c.if-finds.false in (
            hears.goes_on l.at c.one_round-r.result.run.device none,
            look_on hears _ _ _ _ c.loop-done-test.true c.one_round-r.ensures l.invariant.0.good i.0 i.1 none,
          ),
    )

pub returns : goal.returns
returns g c test hears still says =
    let l = c.loop-done in
    on_none test _ _ _ _ (l.invariant.2 test hears still says).1 c.loop-done-test.false
