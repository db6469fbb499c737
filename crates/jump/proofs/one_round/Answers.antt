-- A round has its cycles, adds their overflows, and reaches where they end: by the laws of rounds, both ways.
use mathlib.Core.Path.{sym, ◌∙◌}
use native.Mathlib.Omega.{arith}
use Rattle.jump.proofs.Rounds.{room_is, stride_is, round_busy, round_quiet}
use Rattle.jump.proofs.one_round.Goals as goal

pub returns-then-room-eq0 : goal.returns-then-room-eq0
returns-then-room-eq0 c =
    let o = c.cycle_once.ensures in
    let a = c.args in
    let d = a.run.device in
    let y = c.requires.0 in
    round_busy a.pins a.left d a.run.totals y o.1 o.0 (sym (room_is a.pins d y c.requires.3) ∙ c.if-room-eq0.true)

pub returns-else-room-eq0 : goal.returns-else-room-eq0
returns-else-room-eq0 c =
    let a = c.args in
    let d = a.run.device in
    let y = c.requires.0 in
    let q = room_is a.pins d y c.requires.3 in
    round_quiet a.pins a.left d a.run.totals y.good (omega arith) (omega (arith, c.min-used.ensures))
    (stride_is a.pins d y _ c.stride.ensures)
