-- Document 02, request Eleven: how often a serial counter rolls over in a cycle. No rule asks for it; the theorem of
-- proofs/Rollovers.antt is stated with it.
use Rattle.std.specs.Prelude.{ℕ, zero, suc, ◌+◌, ◌≤◌, ◌≡◌, cond, ◌&&◌, not, eqb}
use Rattle.machine.specs.declared.Serial.{Serial}
use Rattle.machine.specs.declared.Ticks.{Ticks}
use Rattle.machine.specs.declared.Device.{Device}
use Rattle.machine.specs.Bits.{bit}
use Rattle.machine.specs.Registers.{RXD}
use Rattle.machine.specs.Power.{powered_down}
use Rattle.machine.specs.Record.{pins_of}
use Rattle.machine.specs.Serial.{with_half, rolls_over, send_tick, send, receive_tick, receive}
use Rattle.machine.specs.Cycle.{counted, ticks_in, cycle_of}

-- how often the send counter rolls over in n ticks
unfoldable pub send_rollovers : ℕ → Serial → ℕ
send_rollovers zero s = 0
send_rollovers (suc n) s = cond (rolls_over s.send.counter) 1 0 + send_rollovers n (send_tick s)

-- and the receive counter, which counts only while working
unfoldable pub receive_rollovers : ℕ → ℕ → Serial → ℕ
receive_rollovers zero rxd s = 0
receive_rollovers (suc n) rxd s =
    cond (not (eqb s.receive.position 0) && rolls_over s.receive.counter) 1 0
    + receive_rollovers n rxd (receive_tick rxd s)

-- A cycle of d with a pin byte. Step 4: the ticks that it brings each serial counter
abbrev pub ticks_of_cycle : ℕ → Device → Ticks
ticks_of_cycle pins d = ticks_in d (counted d (pins_of d.kind pins))

-- the serial port as step 4 hands it on to step 5
abbrev pub handed_on : ℕ → Device → Serial
handed_on pins d = with_half (ticks_of_cycle pins d).half d.serial

-- step 5, send: the serial port after it, and how often the send counter rolls over in it
abbrev pub sent_in : ℕ → Device → Serial
sent_in pins d = send (ticks_of_cycle pins d).send (handed_on pins d)

abbrev pub send_rollovers_in : ℕ → Device → ℕ
send_rollovers_in pins d = send_rollovers (ticks_of_cycle pins d).send (handed_on pins d)

-- step 5, then receive, with RXD as the pin byte has it: the same
abbrev pub rxd_in : ℕ → Device → ℕ
rxd_in pins d = bit RXD (pins_of d.kind pins)

abbrev pub received_in : ℕ → Device → Serial
received_in pins d = receive (ticks_of_cycle pins d).receive (rxd_in pins d) (sent_in pins d)

abbrev pub receive_rollovers_in : ℕ → Device → ℕ
receive_rollovers_in pins d = receive_rollovers (ticks_of_cycle pins d).receive (rxd_in pins d) (sent_in pins d)

-- the most ticks that a cycle brings a serial counter
abbrev pub most_ticks : ℕ
most_ticks = 6

pub record FewTicks (k : Ticks) : Type 0 where
  pub send : k.send ≤ most_ticks
  pub receive : k.receive ≤ most_ticks

-- what the cycle makes of the serial port is this sending and receiving, and in power-down nothing; each counter gets at most six
-- ticks and rolls over at most once
pub record AtMostOneRollover (pins : ℕ) (d : Device) : Type 0 where
  pub cycle : (cycle_of pins d).serial ≡ cond (powered_down d.pcon) d.serial (received_in pins d)
  pub ticks : FewTicks (ticks_of_cycle pins d)
  pub send_once : send_rollovers_in pins d ≤ 1
  pub receive_once : receive_rollovers_in pins d ≤ 1
