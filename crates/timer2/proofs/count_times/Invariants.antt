use Rattle.std.proofs.Common.{◌≡◌, ℕ, ◌+◌, ◌-◌, ◌%◌, ◌<◌, ◌≤◌}
use Rattle.machine.specs.Timer2.{count_times}
use Rattle.timer2.proofs.Laws.{at}
use Rattle.timer2.proofs.count_times.Given as goal

-- what `left` was added to
abbrev pub start : ℕ → ℕ → ℕ
start left count = (count + 65536 - left) % 65536

abbrev pub invariant-loop-count : goal.invariant-loop-count
invariant-loop-count l =
    (count_times l.left l.reload (at (start l.left l.count) l.overflows) ≡ count_times l.n l.reload (at l.from 0)) × (l.count < 65536) × (l.overflows + l.left ≤ l.n)

abbrev pub decreases-loop-count : goal.decreases-loop-count
decreases-loop-count l = l.left
