-- `lower` is its definition: no refusal's number is 0.
use Prim.Native.Nat.{◌≤◌, ◌<◌}
use native.Mathlib.Omega.{arith}
use borrow.Author.Tests.{lt-ltb, le-ltb}
use Rattle.machine.specs.Outcomes.{number}
use Rattle.machine.proofs.Outcomes.{number_not_0}
use Rattle.board.specs.Joined.{lower}
use Rattle.board.proofs.lower.Goals as goal

pub returns-then-number : goal.returns-then-number
unfolding lower
returns-then-number c =
    let h : number c.args.x < number c.args.y = omega arith in
    simp (number_not_0 c.args.x, number_not_0 c.args.y, lt-ltb _ _ h)

pub returns-else-number : goal.returns-else-number
unfolding lower
returns-else-number c =
    let h : number c.args.y ≤ number c.args.x = omega arith in
    simp (number_not_0 c.args.x, number_not_0 c.args.y, le-ltb _ _ h)
