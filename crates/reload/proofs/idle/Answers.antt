-- `idle` is the definition: each round passes some of the cycles that are left, ends where they end, and is counted.
use Rattle.reload.specs.Reload.{idle_at, idle_rounds}
use Rattle.reload.proofs.Rounds.{going_on, going_end, going_count}
use Rattle.reload.proofs.idle.Goals as goal

pub loop-left-preserved : goal.loop-left-preserved
loop-left-preserved c =
    going_on c.loop-left.invariant c.idle_round-r.ensures

pub returns : goal.returns
unfolding idle_at idle_rounds
returns c =
    let g = c.loop-left.invariant in (
      simp (going_count g c.loop-left-test.false, c.lap_of-x.ensures, c.clocking_of-k.ensures),
      simp (
        c.put_lap.ensures,
        going_end g c.loop-left-test.false,
        c.lap_of-x.ensures,
        c.clocking_of-k.ensures,
      ),
    )
