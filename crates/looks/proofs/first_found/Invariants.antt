use Rattle.std.proofs.Common.{◌-◌, ◌≡◌, ◌≤◌, Bool}
use Rattle.machine.specs.declared.Device.{Device}
use Rattle.machine.specs.Calls.{first_cycle}
use Rattle.jump.specs.Rounds.{Ready}
use Rattle.looks.specs.Tests.{FlagTest, Still}
use Rattle.looks.proofs.first_found.Given as goal

abbrev pub invariant-loop-done : goal.invariant-loop-done
invariant-loop-done g l =
    Ready l.pins l.at × (l.done ≤ l.n)
    × ((test : Device → Device → Bool) → FlagTest test → Still test l.initial.at
    → ((before after : _) (r : Bool) → goal.F-post g l.finds before after r → r ≡ test before.now after.now)
    → Still test l.at × (first_cycle test l.done (l.n - l.done) l.pins l.at ≡ first_cycle test 0 l.n l.pins l.initial.at))

abbrev pub decreases-loop-done : goal.decreases-loop-done
decreases-loop-done g l = l.n - l.done
