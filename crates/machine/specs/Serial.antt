-- Document 01, "One cycle", steps 4 and 5, and "Serial port": ticks, sending, receiving, and the writes to SBUF and SCON.
use Rattle.std.specs.Prelude.{ℕ, zero, suc, ◌+◌, ◌-◌, ◌*◌, ◌%◌, Bool, cond, ◌&&◌, ◌||◌, not, eqb, leb}
use Rattle.machine.specs.declared.Sender.{Sender}
use Rattle.machine.specs.declared.Receiver.{Receiver}
use Rattle.machine.specs.declared.Serial.{Serial}
use Rattle.machine.specs.declared.Ticks.{Ticks}
use Rattle.machine.specs.Bits.{bit, set_bit, put_bit}
use Rattle.machine.specs.Record.{serial_mode, last_position}
use Rattle.machine.specs.Registers.{SMOD, SM2, REN, TB8, RB8, TI, RI, RCLK, TCLK}

-- Step 4: serial ticks

-- an overflow of Timer 1 flips half with SMOD = 0 ("half" is document 01's term for the divider by two); with SMOD = 1 it stays
unfoldable pub half_after : ℕ → ℕ → ℕ → ℕ
half_after smod half overflow1 = cond (eqb smod 1) half ((half + overflow1) % 2)

-- Timer 1 overflows, each a tick if SMOD = 1; if SMOD = 0 half's going from 1 to 0 is a tick
unfoldable pub ticks1 : ℕ → ℕ → ℕ → ℕ
ticks1 smod half overflow1 = cond (eqb smod 1) overflow1 (cond (eqb half 1) overflow1 0)

-- mode 2: 3 ticks in every cycle, or 6 if SMOD = 1
abbrev pub mode2_ticks : ℕ → ℕ
mode2_ticks smod = cond (eqb smod 1) 6 3

-- the ticks of a direction: modes 1 and 3 by Timer 2 if its clock bit is set, otherwise by Timer 1; mode 0 has none
unfoldable pub ticks_of : ℕ → ℕ → ℕ → ℕ → ℕ → ℕ
ticks_of mode smod clock by1 by2 =
    cond (eqb mode 0) 0 (cond (eqb mode 2) (mode2_ticks smod) (cond (eqb clock 1) by2 by1))

-- step 4, from PCON, T2CON, and the overflows of Timer 1 and Timer 2
unfoldable pub serial_ticks : ℕ → ℕ → Serial → ℕ → ℕ → Ticks
serial_ticks pcon t2con s overflow1 overflows2 =
    let mode = serial_mode s.scon in
    let smod = bit SMOD pcon in
    let by1 = ticks1 smod s.half overflow1 in
    record {
      send = ticks_of mode smod (bit TCLK t2con) by1 overflows2;
      receive = ticks_of mode smod (bit RCLK t2con) by1 overflows2;
      half = half_after smod s.half overflow1;
    }

-- The serial port with other parts

abbrev pub with_send : ℕ → Sender → Serial → Serial
with_send scon u s = record { scon = scon; send = u; receive = s.receive; half = s.half; received = s.received }

abbrev pub with_receive : Receiver → Serial → Serial
with_receive r s = record { scon = s.scon; send = s.send; receive = r; half = s.half; received = s.received }

abbrev pub with_half : ℕ → Serial → Serial
with_half h s = record { scon = s.scon; send = s.send; receive = s.receive; half = h; received = s.received }

-- what a whole frame leaves: SCON and the received byte
abbrev pub with_received : ℕ → ℕ → Serial → Serial
with_received scon byte s = record { scon = scon; send = s.send; receive = s.receive; half = s.half; received = byte }

abbrev pub send_at : ℕ → Sender → Sender
send_at p u = record { position = p; value = u.value; counter = u.counter }

abbrev pub receive_at : ℕ → Receiver → Receiver
receive_at p r = record { position = p; value = r.value; counter = r.counter; votes = r.votes; sample = r.sample }

abbrev pub with_votes : ℕ → Receiver → Receiver
with_votes v r = record { position = r.position; value = r.value; counter = r.counter; votes = v; sample = r.sample }

abbrev pub with_value : ℕ → Receiver → Receiver
with_value v r = record { position = r.position; value = v; counter = r.counter; votes = r.votes; sample = r.sample }

abbrev pub with_sample : ℕ → Receiver → Receiver
with_sample l r = record { position = r.position; value = r.value; counter = r.counter; votes = r.votes; sample = l }

-- Sending. Position: 0 resting, 1 asked, 2 start bit, 3-10 data bits 0-7, 11 ninth bit

-- a nonzero position moves on by 1, except the last of the mode (10 in modes 0 and 1, 11 in modes 2 and 3): to 0, setting TI
unfoldable pub send_move : Serial → Serial
send_move s =
    let p = s.send.position in
    cond (eqb p 0) s
    (cond (eqb p (last_position s.scon))
    (with_send (set_bit TI s.scon) (send_at 0 s.send) s)
    (with_send s.scon (send_at (p + 1) s.send) s))

-- a counter's rollover, 15 to 0
abbrev pub rolls_over : ℕ → Bool
rolls_over counter = eqb counter 15

-- a counter adds 1, of 4 bits
abbrev pub counter_next : ℕ → ℕ
counter_next counter = (counter + 1) % 16

abbrev pub send_counted : Sender → Sender
send_counted u = record { position = u.position; value = u.value; counter = counter_next u.counter }

-- a tick adds 1 to the send counter; a rollover moves the position
unfoldable pub send_tick : Serial → Serial
send_tick s =
    let t = with_send s.scon (send_counted s.send) s in
    cond (rolls_over s.send.counter) (send_move t) t

-- n ticks in turn
unfoldable pub send_ticks : ℕ → Serial → Serial
send_ticks zero s = s
send_ticks (suc n) s = send_ticks n (send_tick s)

-- in mode 0 each cycle moves the position; in modes 1-3 the ticks do
unfoldable pub send : ℕ → Serial → Serial
send ticks s = cond (eqb (serial_mode s.scon) 0) (send_move s) (send_ticks ticks s)

-- the output line: the bit named, start 0, otherwise 1; in mode 0 position 2 is also 1
unfoldable pub line_of : Serial → ℕ
line_of s =
    let p = s.send.position in
    cond (leb 3 p) (bit (p - 3) s.send.value)
    (cond (eqb p 2 && not (eqb (serial_mode s.scon) 0)) 0 1)

-- Receiving, modes 1-3, by ticks

-- a start bit: REN = 1, last line sample 1 and RXD 0
unfoldable pub start_found : ℕ → Serial → Bool
start_found rxd s = eqb (bit REN s.scon) 1 && (eqb s.receive.sample 1 && eqb rxd 0)

-- resting: at a start bit the position becomes 1, counter and value 0
unfoldable pub receive_start : ℕ → Serial → Serial
receive_start rxd s =
    let r = s.receive in
    cond (start_found rxd s)
    (with_receive (record { position = 1; value = 0; counter = 0; votes = r.votes; sample = r.sample }) s)
    s

-- a rollover adds 1 to the position, but rests it from 10 in mode 1 and from 11
unfoldable pub receive_rolled : ℕ → ℕ → ℕ
receive_rolled scon p = cond ((eqb p 10 && eqb (serial_mode scon) 1) || eqb p 11) 0 (p + 1)

-- working: the counter adds 1, and a rollover moves the position
unfoldable pub receive_counted : ℕ → Receiver → Receiver
receive_counted scon r =
    record {
      position = cond (rolls_over r.counter) (receive_rolled scon r.position) r.position;
      value = r.value;
      counter = counter_next r.counter;
      votes = r.votes;
      sample = r.sample;
    }

-- at 8 votes adds RXD, to 2 at most ("votes" is document 01's term for the sum of the first two samples)
unfoldable pub votes_added : ℕ → ℕ → ℕ
votes_added votes rxd = cond (leb 2 (votes + rxd)) 2 (votes + rxd)

-- at 9 the bit is 1 when votes + RXD is 2 or more
unfoldable pub bit_of : ℕ → ℕ → ℕ
bit_of votes rxd = cond (leb 2 (votes + rxd)) 1 0

-- position 10: if RI = 0 and (SM2 = 0 or bit = 1), the received byte takes the value's bits 0-7, RB8 the bit, RI 1
unfoldable pub frame_done : ℕ → Serial → Serial
frame_done b s =
    cond (eqb (bit RI s.scon) 0 && (eqb (bit SM2 s.scon) 0 || eqb b 1))
    (with_received (set_bit RI (put_bit RB8 b s.scon)) (s.receive.value % 256) s)
    s

-- what the bit does. Position 1: a 1 returns to rest. 2-9: it goes to value bit position - 2. 10: as above; either way mode 1
-- then rests. 11 rests
unfoldable pub receive_bit : ℕ → Serial → Serial
receive_bit b s =
    let r = s.receive in
    let p = r.position in
    let done = frame_done b s in
    cond (eqb p 1) (cond (eqb b 1) (with_receive (receive_at 0 r) s) s)
    (cond (leb p 9) (with_receive (with_value (put_bit (p - 2) b r.value) r) s)
    (cond (eqb p 10)
    (cond (eqb (serial_mode s.scon) 1) (with_receive (receive_at 0 r) done) done)
    (with_receive (receive_at 0 r) s)))

-- working: counted, then at 7 votes becomes RXD, at 8 adds RXD, at 9 the bit is known
unfoldable pub receive_work : ℕ → Serial → Serial
receive_work rxd s =
    let r = receive_counted s.scon s.receive in
    let t = with_receive r s in
    let n = r.counter in
    cond (eqb n 7) (with_receive (with_votes rxd r) s)
    (cond (eqb n 8) (with_receive (with_votes (votes_added r.votes rxd) r) s)
    (cond (eqb n 9) (receive_bit (bit_of r.votes rxd) t) t))

-- a tick, resting or working; last, the line sample takes RXD
unfoldable pub receive_tick : ℕ → Serial → Serial
receive_tick rxd s =
    let t = cond (eqb s.receive.position 0) (receive_start rxd s) (receive_work rxd s) in
    with_receive (with_sample rxd t.receive) t

-- n ticks in turn
unfoldable pub receive_ticks : ℕ → ℕ → Serial → Serial
receive_ticks zero rxd s = s
receive_ticks (suc n) rxd s = receive_ticks n rxd (receive_tick rxd s)

-- mode 0, per cycle: 1 moves to 2; 2-9 store RXD as bit position - 2 and move on; 10 gives the value's bits 0-7 to the
-- received byte, sets RI and rests
unfoldable pub receive_shift : ℕ → Serial → Serial
receive_shift rxd s =
    let r = s.receive in
    let p = r.position in
    cond (eqb p 0) s
    (cond (eqb p 1) (with_receive (receive_at 2 r) s)
    (cond (leb p 9) (with_receive (receive_at (p + 1) (with_value (put_bit (p - 2) rxd r.value) r)) s)
    (with_receive (receive_at 0 r) (with_received (set_bit RI s.scon) (r.value % 256) s))))

-- receiving in this cycle
unfoldable pub receive : ℕ → ℕ → Serial → Serial
receive ticks rxd s = cond (eqb (serial_mode s.scon) 0) (receive_shift rxd s) (receive_ticks ticks rxd s)

-- Step 5: send, then receive
unfoldable pub serial_step : Ticks → ℕ → Serial → Serial
serial_step k rxd s = receive k.receive rxd (send k.send (with_half k.half s))

-- Writes

-- writing SBUF puts the byte in bits 0-7 of the send value, TB8 in bit 8, and position 1, whatever was under way
unfoldable pub write_sbuf : ℕ → Serial → Serial
write_sbuf v s =
    with_send s.scon (record { position = 1; value = bit TB8 s.scon * 256 + v; counter = s.send.counter }) s

-- after every SCON write, in mode 0 with REN = 1, RI = 0 and receive position 0, that becomes 1
unfoldable pub receive_asked : Serial → Serial
receive_asked s =
    cond ((eqb (serial_mode s.scon) 0 && eqb (bit REN s.scon) 1) && (eqb (bit RI s.scon) 0 && eqb s.receive.position 0))
    (with_receive (receive_at 1 s.receive) s)
    s

-- writing SCON with another mode puts both positions to 0
unfoldable pub write_scon : ℕ → Serial → Serial
write_scon v s =
    let same = with_send v s.send s in
    let rested = with_receive (receive_at 0 s.receive) (with_send v (send_at 0 s.send) s) in
    receive_asked (cond (eqb (serial_mode v) (serial_mode s.scon)) same rested)
