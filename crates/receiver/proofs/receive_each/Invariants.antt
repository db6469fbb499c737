use Rattle.std.proofs.Common.{◌≡◌, ◌-◌}
use Rattle.std.specs.Int.{from_bool}
use Rattle.machine.specs.Record.{serial_mode}
use Rattle.machine.specs.Serial.{receive_ticks}
use Rattle.receiver.proofs.Ranges.{Kept}
use Rattle.receiver.proofs.receive_each.Given as goal

abbrev pub invariant-loop : goal.invariant-loop
invariant-loop l =
    (receive_ticks (l.n - l.counter) (from_bool l.rxd) l.t ≡ receive_ticks l.n (from_bool l.rxd) l.initial.t) × Kept (serial_mode l.initial.t.scon) l.t
