-- Document 01, "Bench cards": the cards marked P, and the last card's rule on TF1; then the cards of document 02's requests. They are
-- one table with one proof. Each row is a list of calls, run through the plain machine: from reset, pins high, unless said.
use Rattle.std.specs.Prelude.{ℕ, zero, suc, ◌+◌, ◌-◌, ◌*◌, ◌^◌, ◌≡◌, refl, Bool, true, cond, ◌&&◌, List, [], ◌∷◌, ◌++◌, map, eqb, take as first}
use Rattle.machine.specs.declared.FlagTimes.{FlagTimes}
use Rattle.machine.specs.declared.Device.{Device}
use Rattle.machine.specs.Registers.{PCON, TCON, TMOD, TL0, TL1, TH0, TH1, SCON, SBUF, IE, IP, T2CON, RCAP2L, RCAP2H, TL2, TH2, table, implemented_in, implemented}
use Rattle.machine.specs.Record.{registers, hidden_fields, accepted, pins_of, levels_of, zeros, reset_of}
use Rattle.machine.specs.Counting.{count13, count16, reload8, count8, hold}
use Rattle.machine.specs.Timers.{enabled, clocked, count_in, flagged, counts0, counts1, counts_high0, pair0, high0, high_overflow0, pair1, timer_flags, timers_step}
use Rattle.machine.specs.Timer2.{count_once, count_times, baud_rate, counts_of2, heeds_t2ex, captures, counted2, baud_step, copied2, capture_step, timer2_step}
use Rattle.machine.specs.Serial.{half_after, ticks1, ticks_of, serial_ticks, send_move, send_tick, send_ticks, send, line_of, start_found, receive_start, receive_rolled, receive_counted, votes_added, bit_of, frame_done, receive_bit, receive_work, receive_tick, receive_ticks, receive_shift, receive, serial_step, write_sbuf, receive_asked, write_scon}
use Rattle.machine.specs.Interrupts.{external, either, seen_of, first_of, choice, offered, in_service, taken, returned}
use Rattle.machine.specs.Flags.{flags, risen, any_rises}
use Rattle.machine.specs.Times.{noted, times_after, pairs_ok, never}
use Rattle.machine.specs.Cycle.{falls, counted, externals, timers_after, timer2_after, ticks_in, steps as steps_of, cycle_of, cycles}
use Rattle.machine.specs.Totals.{totals_next, totals}
use Rattle.machine.specs.Rounds.{overflows, working, watched, busy, marks, busy_cycles, quiet_runs, rounds}
use Rattle.machine.specs.Calls.{reset_answer, value_in, register_at, read_answer, stored, write_answer, cycle_answer, cycles_fault, jump_answer, entry_fault, first_bad, trace_fault, trace_cycles, trace_totals, trace_answer, first_cycle, look_answer, wake_answer, offer_of, offer_answer, take_of, take_answer, return_answer}
use Rattle.machine.specs.Lists.{Call, Value, Reply, Ran, nothing, number, says, play, run}
use Rattle.machine.specs.Lists.Call.{reset, read, write, cycle, jump, trace, look, offer, take, return, wake}
use Rattle.machine.specs.Lists.Value.{numbers, none}
use Rattle.machine.specs.Same.{same}
use Rattle.machine.specs.Replies.{same_value, same_reply, same_replies}

-- a row: the card's number, the device that the calls start from, the calls, and what has to hold of the run. Cards 1 to 10 are numbered
-- by their place in document 01, 11 to 16 are those of request One, 17 to 21 of request Two, 22 and 23 of request Five, 24 to 30 of request
-- Six, 31 to 36 of request Seven, 37 to 42 of request Nine
pub record Row : Type 0 where
  pub card : ℕ
  pub start : Device
  pub calls : List Call
  pub test : Ran → Bool

-- a call and the reply that the card gives it
record Asked : Type 0 where
  pub call : Call
  pub reply : Reply

abbrev asked : Call → Reply → Asked
asked c r = record { call = c; reply = r }

-- it passes, and gives a number
abbrev passes : Reply
passes = says 0 nothing

abbrev gives : ℕ → Reply
gives n = says 0 (number n)

-- a jump or a trace run passes, and gives the overflows of Timers 0, 1 and 2; one that is refused gives zeros
abbrev laps : ℕ → ℕ → ℕ → Reply
laps t0 t1 t2 = says 0 (numbers (t0 ∷ t1 ∷ t2 ∷ []))

abbrev no_laps : Reply
no_laps = laps 0 0 0

abbrev refuses_run : ℕ → Reply
refuses_run n = says n (numbers (0 ∷ 0 ∷ 0 ∷ []))

-- every pin high; one pin low
abbrev high : ℕ
high = 0x7f

abbrev low_t0 : ℕ
low_t0 = 0x77

abbrev low_rxd : ℕ
low_rxd = 0x7e

abbrev low_int0 : ℕ
low_int0 = 0x7d

abbrev low_int1 : ℕ
low_int1 = 0x7b

abbrev low_t2 : ℕ
low_t2 = 0x5f

abbrev low_t2ex : ℕ
low_t2ex = 0x3f

-- write v at a
abbrev set : ℕ → ℕ → Asked
set a v = asked (write a v) passes

-- n cycles by one jump, pins high, in which the timers overflow so often; and in which none does
abbrev goes : ℕ → ℕ → ℕ → ℕ → Asked
goes n t0 t1 t2 = asked (jump high n) (laps t0 t1 t2)

abbrev go : ℕ → Asked
go n = goes n 0 0 0

-- one cycle, whose line stays high
abbrev step : ℕ → Asked
step pins = asked (cycle pins) (gives 1)

-- a register has the value v
abbrev holds : ℕ → ℕ → Asked
holds a v = asked (read a) (gives v)

abbrev offers : ℕ → Asked
offers v = asked offer (gives v)

abbrev offers_none : Asked
offers_none = asked offer (says 0 none)

-- a wake look over n cycles, pins high, names k
abbrev wakes : ℕ → ℕ → Asked
wakes n k = asked (wake high n) (gives k)

abbrev wakes_none : ℕ → Asked
wakes_none n = asked (wake high n) (says 0 none)

-- a reply without a fourth number, which only a jump has: its rounds. Cards 37 to 42 give them; with them in every card the checker
-- takes three times as long
shorn : Value → Value
shorn (numbers ns) = numbers (first 3 ns)
shorn none = none

without_rounds : Reply → Reply
without_rounds r = says r.code (shorn r.value)

-- a row whose replies are all given, as they are or without rounds, and whose device at the end passes a test
row_by : (Reply → Reply) → Device → (Device → Bool) → ℕ → List Asked → Row
row_by given start ends card steps =
    record {
      card = card;
      start = start;
      calls = map (λ (a : Asked). a.call) steps;
      test = λ r. same_replies (map given r.replies) (map (λ (a : Asked). a.reply) steps) && ends r.device;
    }

row_from : Device → (Device → Bool) → ℕ → List Asked → Row
row_from = row_by without_rounds

-- from reset
abbrev row_with : (Device → Bool) → ℕ → ℕ → List Asked → Row
row_with ends card kind steps = row_from (reset_answer kind).device ends card steps

abbrev row_of : ℕ → ℕ → List Asked → Row
row_of = row_with (λ d. true)

-- with the rounds of each jump
abbrev row_rounds : ℕ → ℕ → List Asked → Row
row_rounds card kind steps = row_by (λ r. r) (reset_answer kind).device (λ d. true) card steps

-- Timer 0 mode 1 at FFFE, running, IE 82: TF0 rises in cycle 2; none offered after 2, 000B after 3
card1 : ℕ → Row
card1 kind =
    row_of 1 kind (
    set TMOD 0x01
    ∷ set TH0 0xff
    ∷ set TL0 0xfe
    ∷ set IE 0x82
    ∷ set TCON 0x10
    ∷ asked (look high 1) (says 0 none)
    ∷ asked (look high 9) (gives 2)
    ∷ step high
    ∷ holds TCON 0x10
    ∷ step high
    ∷ holds TCON 0x30
    ∷ offers_none
    ∷ step high
    ∷ offers 0x0b
    ∷ []
    )

-- mode 0, TH FF, TL FF: next TH 00, TL E0, flag set; for Timer 0 and for Timer 1
card2 : ℕ → Row
card2 kind =
    row_of 2 kind (
    set TH0 0xff
    ∷ set TL0 0xff
    ∷ set TCON 0x10
    ∷ step high
    ∷ holds TH0 0x00
    ∷ holds TL0 0xe0
    ∷ holds TCON 0x30
    ∷ set TH1 0xff
    ∷ set TL1 0xff
    ∷ set TCON 0x40
    ∷ step high
    ∷ holds TH1 0x00
    ∷ holds TL1 0xe0
    ∷ holds TCON 0xc0
    ∷ []
    )

-- mode 2, TH1 FD, TL1 FE, jump 101: 34 overflows, which the jump answers, TL1 FD. In serial mode 1 with SMOD 1 each overflow is a tick:
-- 34 = 2 × 16 + 2 roll the send counter over twice and leave 2
card3 : ℕ → Row
card3 kind =
    row_with (λ d. eqb d.serial.send.position 3 && eqb d.serial.send.counter 2) 3 kind (
    set TMOD 0x20
    ∷ set TH1 0xfd
    ∷ set TL1 0xfe
    ∷ set PCON 0x80
    ∷ set SCON 0x40
    ∷ set SBUF 0x00
    ∷ set TCON 0x40
    ∷ goes 101 0 34 0
    ∷ holds TL1 0xfd
    ∷ []
    )

-- T0 falls in cycle 5: a counter moves in cycle 6, not 5
card4 : ℕ → Row
card4 kind =
    row_of 4 kind (
    set TMOD 0x05
    ∷ set TCON 0x10
    ∷ go 4
    ∷ step low_t0
    ∷ holds TL0 0
    ∷ step low_t0
    ∷ holds TL0 1
    ∷ step high
    ∷ holds TL0 1
    ∷ []
    )

-- RCLK, RCAP2 and count FFFD: count FFFD after a cycle
baud2 : List Asked
baud2 =
    set RCAP2L 0xfd
    ∷ set RCAP2H 0xff
    ∷ set TL2 0xfd
    ∷ set TH2 0xff
    ∷ set SCON 0x50
    ∷ set T2CON 0x24
    ∷ []

card5 : Row
card5 = row_of 5 52 (baud2 ++ (step high ∷ holds TL2 0xfd ∷ holds TH2 0xff ∷ holds T2CON 0x24 ∷ []))

-- and 2 overflows a cycle, counted by the receiver with RXD low: the first tick finds a start bit, each other adds 1 to its
-- counter, so that one cycle leaves 1 and four leave 7
card5counted : ℕ → List Asked → Row
card5counted n steps =
    row_with (λ d. eqb d.serial.receive.position 1 && eqb d.serial.receive.counter n) 5 52
    (baud2 ++ (steps ++ (holds TL2 0xfd ∷ holds TH2 0xff ∷ [])))

-- serial mode 1, Timer 1 mode 2, TH1 and TL1 FF, SMOD as given, SBUF written
mode1send : ℕ → List Asked
mode1send pcon =
    set TMOD 0x20
    ∷ set TH1 0xff
    ∷ set TL1 0xff
    ∷ set PCON pcon
    ∷ set SCON 0x40
    ∷ set TCON 0x40
    ∷ set SBUF 0xa5
    ∷ []

-- SMOD 1: TI in cycle 160
card6 : ℕ → Row
card6 kind = row_of 6 kind (mode1send 0x80 ++ (goes 159 0 159 0 ∷ holds SCON 0x40 ∷ goes 1 0 1 0 ∷ holds SCON 0x42 ∷ []))

-- SMOD 0: 320, by two jumps with half set between them
card6half : ℕ → Row
card6half kind = row_of 6 kind (mode1send 0x00 ++ (goes 159 0 159 0 ∷ goes 160 0 160 0 ∷ holds SCON 0x40 ∷ goes 1 0 1 0 ∷ holds SCON 0x42 ∷ []))

-- the same, SMOD 1, after a jump of 1: look ahead 159 gives 159, 158 gives none
card7 : ℕ → Row
card7 kind =
    row_of 7 kind
    (mode1send 0x80 ++ (goes 1 0 1 0 ∷ asked (look high 159) (gives 159) ∷ asked (look high 158) (says 0 none) ∷ []))

-- serial mode 2 send: TI in cycle 30 with SMOD 1, 59 with 0
card8 : ℕ → ℕ → ℕ → Row
card8 pcon n kind =
    row_of 8 kind (
    set PCON pcon
    ∷ set SCON 0x80
    ∷ set SBUF 0x5a
    ∷ go n
    ∷ holds SCON 0x80
    ∷ go 1
    ∷ holds SCON 0x82
    ∷ []
    )

-- serial mode 0: 10
card8shift : ℕ → Row
card8shift kind = row_of 8 kind (set SBUF 0x5a ∷ go 9 ∷ holds SCON 0x00 ∷ go 1 ∷ holds SCON 0x02 ∷ [])

-- IE 92, IP 10, TF0 and TI polled: 0023; after take none; after return 000B
card9 : ℕ → Row
card9 kind =
    row_of 9 kind (
    set IE 0x92
    ∷ set IP 0x10
    ∷ set TCON 0x20
    ∷ set SCON 0x02
    ∷ go 2
    ∷ offers 0x23
    ∷ asked take (gives 0x23)
    ∷ offers_none
    ∷ asked return passes
    ∷ offers 0x0b
    ∷ []
    )

-- setting TF1 from Timer 1 while Timer 0 is in mode 3 is wrong, with TR1 0 or 1; it counts and overflows all the same, which
-- flips half
card10 : ℕ → ℕ → ℕ → ℕ → Row
card10 tcon tmod tl kind =
    row_with (λ d. eqb d.serial.half 1) 10 kind (
    set TMOD tmod
    ∷ set TH1 0xff
    ∷ set TL1 0xff
    ∷ set TCON tcon
    ∷ step high
    ∷ holds TCON tcon
    ∷ holds TL1 tl
    ∷ []
    )

-- Request One. IDL with SMOD: Timer 0 goes on and its interrupt is offered; the take clears IDL and keeps SMOD
card11 : ℕ → Row
card11 kind =
    row_of 11 kind (
    set TMOD 0x01
    ∷ set TH0 0xff
    ∷ set TL0 0xfe
    ∷ set IE 0x82
    ∷ set TCON 0x10
    ∷ set PCON 0x81
    ∷ wakes 9 3
    ∷ goes 3 1 0 0
    ∷ offers 0x0b
    ∷ holds PCON 0x81
    ∷ asked take (gives 0x0b)
    ∷ holds PCON 0x80
    ∷ []
    )

-- PD with IDL, a timer running and an interrupt offered before: no cycle, jump or trace run moves anything, the cycle number stands,
-- nothing is offered, and INT0 low raises no flag
card12 : ℕ → Row
card12 kind =
    row_with (λ d. eqb d.cycle 2) 12 kind (
    set IE 0x82
    ∷ set TCON 0x30
    ∷ go 2
    ∷ offers 0x0b
    ∷ set PCON 0x03
    ∷ step low_int0
    ∷ asked (jump low_int0 1000) no_laps
    ∷ asked (trace (0x7d000005 ∷ [])) no_laps
    ∷ asked (look low_int0 1000) (says 0 none)
    ∷ holds TCON 0x30
    ∷ holds TL0 2
    ∷ holds PCON 0x03
    ∷ offers_none
    ∷ []
    )

-- a cycle answers the line as the device stands: the start bit of a frame that goes no further
card12line : ℕ → Row
card12line kind =
    row_of 12 kind (
    set SCON 0x80
    ∷ set SBUF 0xff
    ∷ go 6
    ∷ set PCON 0x02
    ∷ asked (cycle high) (gives 0)
    ∷ go 100
    ∷ asked (cycle high) (gives 0)
    ∷ []
    )

-- in power-down a write is refused by 10, also at an address that the kind lacks, and so are a take with nothing offered and a return
-- with nothing in service; a read there is still refused by 3, a pin byte by 4, a jump by 5 and a trace by 8
card13 : ℕ → Row
card13 kind =
    row_with (λ d. eqb d.cycle 0 && eqb d.pcon 0x02) 13 kind (
    set PCON 0x02
    ∷ asked (write 0x80 0x00) (says 10 nothing)
    ∷ asked (write PCON 0x00) (says 10 nothing)
    ∷ asked take (says 10 (number 0))
    ∷ asked return (says 10 nothing)
    ∷ asked (read 0x80) (says 3 (number 0))
    ∷ asked (cycle 0x80) (says 4 (number 0))
    ∷ asked (jump high 0x10000000001) (refuses_run 5)
    ∷ asked (trace (0x7f000000 ∷ [])) (refuses_run 8)
    ∷ []
    )

-- TF0 set by software, IE 82: a wake look names 2, after one cycle 1 and after two 0; over fewer cycles it says none
card14 : ℕ → Row
card14 kind =
    row_of 14 kind (
    set IE 0x82
    ∷ set TCON 0x20
    ∷ wakes 9 2
    ∷ wakes_none 1
    ∷ go 1
    ∷ wakes 1 1
    ∷ wakes_none 0
    ∷ go 1
    ∷ wakes 0 0
    ∷ wakes 9 0
    ∷ []
    )

-- the same device in power-down: none, and no k = 0 either; a reset ends it
card15 : ℕ → Row
card15 kind =
    row_with (λ d. eqb d.cycle 1) 15 kind (
    set IE 0x82
    ∷ set TCON 0x20
    ∷ go 2
    ∷ set PCON 0x02
    ∷ wakes_none 9
    ∷ wakes_none 0
    ∷ asked (reset kind) passes
    ∷ holds PCON 0x00
    ∷ step high
    ∷ []
    )

-- a flag that rises where its interrupt is not enabled wakes nothing, and 1, 4 and 5 refuse a wake look as they do a look ahead
card16 : ℕ → Row
card16 kind =
    row_of 16 kind (
    set TMOD 0x01
    ∷ set TH0 0xff
    ∷ set TL0 0xfe
    ∷ set TCON 0x10
    ∷ asked (look high 9) (gives 2)
    ∷ wakes_none 9
    ∷ asked (wake 0x80 9) (says 4 (number 0))
    ∷ asked (wake high 0x10000000001) (says 5 (number 0))
    ∷ asked (reset 50) (says 2 nothing)
    ∷ asked (wake 0x80 9) (says 1 (number 0))
    ∷ []
    )

-- Request Two. Timer 2's RCAP2 and count, the low bytes as given and the high bytes FF, its interrupt enabled
timer2_at : ℕ → ℕ → List Asked
timer2_at reload count =
    set RCAP2L reload ∷ set RCAP2H 0xff ∷ set TL2 count ∷ set TH2 0xff ∷ set IE 0xa0 ∷ []

-- at FFFE, with auto-reload or with capture, IE A0: TF2 rises in cycle 2; 002B is offered after 2 already, not only after 3
card17 : ℕ → ℕ → Row
card17 t2con after =
    row_of 17 52 (timer2_at 0x00 0xfe ++ (
    set T2CON t2con
    ∷ asked (look high 9) (gives 2)
    ∷ wakes_none 1
    ∷ wakes 9 2
    ∷ step high
    ∷ holds T2CON t2con
    ∷ offers_none
    ∷ step high
    ∷ holds T2CON after
    ∷ offers 0x2b
    ∷ []
    ))

-- and by one call over the cycles
card17by : Asked → Row
card17by run = row_of 17 52 (timer2_at 0x00 0xfe ++ (set T2CON 0x04 ∷ run ∷ holds T2CON 0x84 ∷ offers 0x2b ∷ []))

-- as a counter at FFFF: T2 falls in cycle 1 and is counted in cycle 2
card17counter : ℕ → ℕ → Row
card17counter t2con after =
    row_of 17 52 (timer2_at 0x00 0xff ++ (
    set T2CON t2con
    ∷ step low_t2
    ∷ holds T2CON t2con
    ∷ offers_none
    ∷ step low_t2
    ∷ holds T2CON after
    ∷ offers 0x2b
    ∷ []
    ))

-- EXF2 waits, with auto-reload, with capture and as a baud rate generator: T2EX falls in cycle 1; none is offered after 1, 002B after 2
card18 : ℕ → ℕ → Row
card18 t2con after =
    row_of 18 52 (timer2_at 0x00 0xf0 ++ (
    set T2CON t2con
    ∷ asked (look low_t2ex 9) (gives 1)
    ∷ asked (wake low_t2ex 9) (gives 2)
    ∷ step low_t2ex
    ∷ holds T2CON after
    ∷ offers_none
    ∷ step low_t2ex
    ∷ offers 0x2b
    ∷ []
    ))

-- where T2EX falls in the cycle of an overflow, the overflow is heard
card18both : Row
card18both = row_of 18 52 (timer2_at 0x00 0xff ++ (set T2CON 0x0c ∷ step low_t2ex ∷ holds T2CON 0xcc ∷ offers 0x2b ∷ []))

-- at FFFF: 002B is offered after 1; the take leaves TF2, and after the return none is offered
card19 : ℕ → List Asked → Row
card19 reload steps =
    row_of 19 52 (timer2_at reload 0xff ++ (
    set T2CON 0x04
    ∷ step high
    ∷ offers 0x2b
    ∷ asked take (gives 0x2b)
    ∷ asked return passes
    ∷ holds T2CON 0x84
    ∷ offers_none
    ∷ steps
    ))

-- as a baud rate generator, which overflows six times a cycle from FFFF and once from FFFA, it sets no TF2, and nothing is offered
card20 : ℕ → ℕ → ℕ → Row
card20 t2con count laps =
    row_of 20 52 (timer2_at count count ++ (set T2CON t2con ∷ wakes_none 9 ∷ goes 9 0 0 laps ∷ holds T2CON t2con ∷ offers_none ∷ []))

-- nor where it counts T2, which falls in cycle 1 and is counted in cycle 2
card20counter : Row
card20counter =
    row_of 20 52 (timer2_at 0xff 0xff ++ (set T2CON 0x26 ∷ step low_t2 ∷ step low_t2 ∷ holds TL2 0xff ∷ holds T2CON 0x26 ∷ offers_none ∷ []))

-- TF2 or EXF2 written by software waits, Timer 2 stopped, counting or a baud rate generator: 002B is offered after 2
card21 : ℕ → ℕ → Row
card21 t2con count =
    row_of 21 52 (timer2_at count count ++ (set T2CON t2con ∷ wakes 9 2 ∷ step high ∷ offers_none ∷ step high ∷ offers 0x2b ∷ []))

-- but an overflow that finds such a TF2 is heard in its own cycle
card21again : Row
card21again = row_of 21 52 (timer2_at 0x00 0xff ++ (set T2CON 0x84 ∷ wakes 9 1 ∷ step high ∷ offers 0x2b ∷ []))

-- Request Five. IE 9A; TF0, TF1 and TI polled, and no cycle after that; IP 00, then 08, 10 and 00 again. While low is in service a
-- source is offered only if it is IP-marked, and while high is in service none is; a return clears high, or else low
card22 : ℕ → Row
card22 kind =
    row_of 22 kind (
    set IE 0x9a
    ∷ set TCON 0xa0
    ∷ set SCON 0x02
    ∷ go 2
    ∷ offers 0x0b
    ∷ asked take (gives 0x0b)
    ∷ offers_none
    ∷ set IP 0x08
    ∷ offers 0x1b
    ∷ asked take (gives 0x1b)
    ∷ offers_none
    ∷ set IP 0x10
    ∷ offers_none
    ∷ asked return passes
    ∷ offers 0x23
    ∷ set IP 0x00
    ∷ offers_none
    ∷ asked return passes
    ∷ offers 0x23
    ∷ []
    )

-- seen has no part in an offer. TF0 written by software, IE 82: after 1 it is seen and none is offered, after 2 it is polled and 000B
-- is. TF0 cleared: after 1 it is polled still, seen no more, and 000B is offered; after 2 none is
card23 : ℕ → Row
card23 kind =
    row_of 23 kind (
    set IE 0x82
    ∷ set TCON 0x20
    ∷ go 1
    ∷ offers_none
    ∷ go 1
    ∷ offers 0x0b
    ∷ set TCON 0x00
    ∷ go 1
    ∷ offers 0x0b
    ∷ go 1
    ∷ offers_none
    ∷ []
    )

-- Flag times. A flag is told by its place in the order TF0, TF1, IE0, IE1, RI, TI, TF2, EXF2

-- n numbers, each 0 but the one at a place
placed : ℕ → ℕ → ℕ → List ℕ
placed zero place v = []
placed (suc n) zero v = v ∷ placed n n 0
placed (suc n) (suc place) v = 0 ∷ placed n place v

-- one flag last rose in the cycle that left this number, and no other ever did
rose : ℕ → ℕ → Device → Bool
rose place n d = same d.times.ever (placed 8 place 1) && same d.times.number (placed 8 place n)

-- none ever did
never_rose : Device → Bool
never_rose d = same d.times.ever (placed 8 8 0) && same d.times.number (placed 8 8 0)

-- Timer 0 mode 1 at FFFE, running
timer0_near : List Asked
timer0_near = set TMOD 0x01 ∷ set TH0 0xff ∷ set TL0 0xfe ∷ set TCON 0x10 ∷ []

-- the same: TF0 rises by the overflow in cycle 2, and its number is 2; it stays 2
card24 : ℕ → ℕ → Row
card24 n kind = row_with (rose 0 2) 24 kind (timer0_near ++ goes n 1 0 0 ∷ [])

-- a flag that software writes never counts, nor does one that is 1 by software when the overflow sets it again
card25 : List Asked → ℕ → ℕ → Row
card25 writes laps kind = row_with never_rose 25 kind (writes ++ goes 9 laps 0 0 ∷ [])

-- TF0 rises in cycle 2; cleared, with the timer at FFFE again, it rises in cycle 4, and its number is the later one
card26 : ℕ → Row
card26 kind = row_with (rose 0 4) 26 kind (timer0_near ++ goes 2 1 0 0 ∷ set TCON 0x10 ∷ set TH0 0xff ∷ set TL0 0xfe ∷ goes 9 1 0 0 ∷ [])

-- Timer 0 mode 2, reload FF: it overflows in cycle 2 and in every one after it, and TF0, which stays 1, has risen in cycle 2 alone
card26again : ℕ → Row
card26again kind = row_with (rose 0 2) 26 kind (set TMOD 0x02 ∷ set TH0 0xff ∷ set TL0 0xfe ∷ set TCON 0x10 ∷ goes 9 8 0 0 ∷ [])

-- each flag: n cycles with a pin byte leave the same pair as single cycles, as a jump, as two jumps and as a trace run; no timer overflows
-- in the first of them
singles : ℕ → ℕ → List Asked
singles pins zero = []
singles pins (suc n) = step pins ∷ singles pins n

ways : ℕ → ℕ → Reply → List (List Asked)
ways pins n totals =
    singles pins n
    ∷ (asked (jump pins n) totals ∷ [])
    ∷ (asked (jump pins 1) no_laps ∷ asked (jump pins (n - 1)) totals ∷ [])
    ∷ (asked (trace ((pins * 0x1000000 + n) ∷ [])) totals ∷ [])
    ∷ []

card27 : ℕ → ℕ → List Asked → ℕ → ℕ → Reply → ℕ → List Row
card27 place last writes pins n totals kind =
    map (λ (way : List Asked). row_with (rose place last) 27 kind (writes ++ way)) (ways pins n totals)

-- the device with another cycle number and other flag times
timed : ℕ → FlagTimes → Device → Device
timed n times d =
    record {
      kind = d.kind;
      pcon = d.pcon;
      timers = d.timers;
      timer2 = d.timer2;
      serial = d.serial;
      interrupts = d.interrupts;
      levels = d.levels;
      cycle = n;
      times = times;
    }

-- card 24 from the cycle number 2^64 - 2: the number wraps with the cycle number, and the flag rose all the same
card28 : ℕ → Row
card28 kind = row_from (timed (2 ^ 64 - 2) never (reset_of kind)) (rose 0 0) 28 (timer0_near ++ goes 2 1 0 0 ∷ [])

-- what is no cycle keeps the pairs: reads, looks, offers, a take and a return, every refused call, and power-down
card29 : ℕ → Row
card29 kind =
    row_with (rose 0 2) 29 kind (
    timer0_near
    ++ set IE 0x82
    ∷ goes 2 1 0 0
    ∷ holds TCON 0x30
    ∷ asked (look high 9) (says 0 none)
    ∷ wakes 9 1
    ∷ asked (write 0x80 0x00) (says 3 nothing)
    ∷ asked (cycle 0x80) (says 4 (number 0))
    ∷ asked (jump high 0x10000000001) (refuses_run 5)
    ∷ asked take (says 6 (number 0))
    ∷ asked return (says 7 nothing)
    ∷ asked (trace (0x7f000000 ∷ [])) (refuses_run 8)
    ∷ go 1
    ∷ offers 0x0b
    ∷ asked take (gives 0x0b)
    ∷ asked return passes
    ∷ set PCON 0x02
    ∷ go 9
    ∷ asked (write TCON 0x00) (says 10 nothing)
    ∷ []
    )

-- reset clears them
card29reset : ℕ → Row
card29reset kind = row_with never_rose 29 kind (timer0_near ++ goes 2 1 0 0 ∷ asked (reset kind) passes ∷ [])

-- a record with one pair set: never with a number and an ever above 1 are refused by 1 and stay as they are, ever with any number is
-- accepted; at any place
card30 : ℕ → ℕ → ℕ → List Asked → ℕ → Row
card30 place ever last steps kind =
    let times : FlagTimes = record { ever = placed 8 place ever; number = placed 8 place last } in
    row_from (timed 0 times (reset_of kind)) (λ d. same d.times.ever times.ever && same d.times.number times.number) 30 steps

bad : ℕ → ℕ → ℕ → ℕ → Row
bad place ever last = card30 place ever last (asked (cycle high) (says 1 (number 0)) ∷ [])

good : ℕ → ℕ → ℕ → Row
good place last = card30 place 1 last (step high ∷ [])

-- Request Seven. Timer 0 in mode 3, TL0 and TH0 at FF, both running: both overflow in one cycle, which gives 2; TH0's sets TF1 and is
-- none of Timer 1's
card31 : ℕ → Row
card31 kind =
    row_of 31 kind (set TMOD 0x03 ∷ set TL0 0xff ∷ set TH0 0xff ∷ set TCON 0x50 ∷ goes 1 2 0 0 ∷ holds TCON 0xf0 ∷ go 255 ∷ goes 1 2 0 0 ∷ [])

-- Timer 1 in mode 2, TH1 FD, TL1 FE, with Timer 0 in mode 3: it overflows 34 times in 101 cycles and sets no flag
card32 : ℕ → Row
card32 kind = row_of 32 kind (set TMOD 0x23 ∷ set TH1 0xfd ∷ set TL1 0xfe ∷ goes 101 0 34 0 ∷ holds TCON 0x00 ∷ [])

-- RCLK, RCAP2 and count FFFD: 2 overflows a cycle; FFFF: 6
card33 : Row
card33 = row_of 33 52 (baud2 ++ (goes 1 0 0 2 ∷ goes 100 0 0 200 ∷ set RCAP2L 0xff ∷ set TL2 0xff ∷ goes 9 0 0 54 ∷ []))

-- with auto-reload, RCAP2 and count FFFF: one a cycle. A reload by T2EX is none: it falls in the first of two cycles, and the count goes
-- from 1234 to RCAP2
card33reload : Row
card33reload =
    row_of 33 52 (
    timer2_at 0xff 0xff
    ++ set T2CON 0x04
    ∷ goes 9 0 0 9
    ∷ set T2CON 0x0c
    ∷ set RCAP2L 0x00
    ∷ set TH2 0x12
    ∷ set TL2 0x34
    ∷ asked (jump low_t2ex 2) no_laps
    ∷ holds TH2 0xff
    ∷ holds TL2 0x01
    ∷ []
    )

-- Timer 0 in mode 0, Timer 1 in mode 1 and Timer 2 overflow in one cycle, the second
card34 : Row
card34 =
    row_of 34 52 (
    timer2_at 0x00 0xfe
    ++ set TMOD 0x10
    ∷ set TH0 0xff
    ∷ set TL0 0x1e
    ∷ set TH1 0xff
    ∷ set TL1 0xfe
    ∷ set T2CON 0x04
    ∷ set TCON 0x50
    ∷ go 1
    ∷ goes 1 1 1 1
    ∷ go 99
    ∷ []
    )

-- Timer 1 in mode 2 overflows in every cycle: three zeros from a jump and a trace run of no cycles, from those that 4, 5 or 8 refuses, in
-- power-down, and where 1 refuses
card35 : ℕ → Row
card35 kind =
    row_of 35 kind (
    set TMOD 0x20
    ∷ set TH1 0xff
    ∷ set TL1 0xff
    ∷ set TCON 0x40
    ∷ goes 9 0 9 0
    ∷ go 0
    ∷ asked (trace []) no_laps
    ∷ asked (jump 0x80 9) (refuses_run 4)
    ∷ asked (jump high 0x10000000001) (refuses_run 5)
    ∷ asked (trace (0x7f000009 ∷ 0x80000009 ∷ [])) (refuses_run 4)
    ∷ asked (trace (0x7f000009 ∷ 0x7f000000 ∷ [])) (refuses_run 8)
    ∷ goes 1 0 1 0
    ∷ set PCON 0x02
    ∷ go 9
    ∷ asked (trace (0x7f000009 ∷ [])) no_laps
    ∷ asked (reset 50) (says 2 nothing)
    ∷ asked (jump high 9) (refuses_run 1)
    ∷ asked (trace (0x7f000009 ∷ [])) (refuses_run 1)
    ∷ []
    )

-- the 101 cycles of card 3 by two jumps, and by the entries of a trace: the totals of two jumps add up to those of one
card36 : List Asked → ℕ → Row
card36 runs kind =
    row_of 36 kind (set TMOD 0x20 ∷ set TH1 0xfd ∷ set TL1 0xfe ∷ set TCON 0x40 ∷ (runs ++ holds TL1 0xfd ∷ []))

-- Request Nine. A jump gives its rounds after the overflows; one that is refused gives four zeros
abbrev rounded : ℕ → ℕ → ℕ → ℕ → Reply
rounded t0 t1 t2 r = says 0 (numbers (t0 ∷ t1 ∷ t2 ∷ r ∷ []))

abbrev refuses_rounds : ℕ → Reply
refuses_rounds n = says n (numbers (0 ∷ 0 ∷ 0 ∷ 0 ∷ []))

-- n cycles by one jump, pins high, in which the timers overflow so often, in so many rounds; and in which none does
abbrev takes : ℕ → ℕ → ℕ → ℕ → ℕ → Asked
takes n t0 t1 t2 r = asked (jump high n) (rounded t0 t1 t2 r)

abbrev quiet : ℕ → ℕ → Asked
quiet n r = takes n 0 0 0 r

-- A device at rest: 1,000 cycles are one round, 0 cycles none, and what 1, 4 or 5 refuses answers none
card37 : ℕ → Row
card37 kind =
    row_rounds 37 kind (
    quiet 1000 1
    ∷ quiet 0 0
    ∷ asked (jump 0x80 9) (refuses_rounds 4)
    ∷ asked (jump high 0x10000000001) (refuses_rounds 5)
    ∷ asked (reset 50) (says 2 nothing)
    ∷ asked (jump high 9) (refuses_rounds 1)
    ∷ []
    )

-- the idle station, TH1 FD, TF1 set: its first three cycles are busy, by seen, by polled and by the overflow. Then each lap is a run of
-- two cycles and the overflow, which changes no flag, so that 99 cycles are 66 rounds. A run ends with the call: cut within the first,
-- they are 67
card38 : ℕ → Row
card38 kind =
    row_rounds 38 kind (
    set TMOD 0x20
    ∷ set TH1 0xfd
    ∷ set TL1 0xfd
    ∷ set SCON 0x50
    ∷ set TCON 0xc0
    ∷ takes 3 0 1 0 3
    ∷ takes 99 0 33 0 66
    ∷ quiet 1 1
    ∷ takes 98 0 33 0 66
    ∷ []
    )

-- SBUF written in serial mode 1 with no clock: each of n cycles is a round. In power-down, with a timer that would overflow in every
-- cycle, they are one, also where a pin changes
card39 : ℕ → Row
card39 kind =
    row_rounds 39 kind (
    set SCON 0x40
    ∷ set SBUF 0x55
    ∷ quiet 50 50
    ∷ set TMOD 0x20
    ∷ set TH1 0xff
    ∷ set TL1 0xff
    ∷ set TCON 0x40
    ∷ takes 9 0 9 0 9
    ∷ set PCON 0x02
    ∷ quiet 50 1
    ∷ quiet 0 0
    ∷ asked (jump low_t0 50) (rounded 0 0 0 1)
    ∷ []
    )

-- a pin that falls is a busy cycle by its level, and T0 one more by its due mark, which goes again; a level alone is one
card40 : ℕ → Row
card40 kind =
    row_rounds 40 kind (
    asked (jump low_t0 9) (rounded 0 0 0 3)
    ∷ asked (jump low_t0 9) (rounded 0 0 0 1)
    ∷ quiet 9 2
    ∷ asked (jump low_rxd 9) (rounded 0 0 0 2)
    ∷ []
    )

-- INT0 low, by level: IE0 rises in the first cycle and is polled in the second; high again, it falls, which is as busy. IE0 written by
-- software falls in the next cycle, and nothing else changes
card41 : ℕ → Row
card41 kind = row_rounds 41 kind (asked (jump low_int0 9) (rounded 0 0 0 3) ∷ quiet 9 3 ∷ quiet 9 1 ∷ set TCON 0x02 ∷ quiet 9 2 ∷ [])

-- serial mode 0, a byte sent and one received, 10 cycles each, then the flags polled, then a run
card42 : ℕ → Row
card42 kind = row_rounds 42 kind (set SBUF 0x5a ∷ quiet 12 12 ∷ set SCON 0x10 ∷ quiet 20 12 ∷ [])

-- on both kinds
both : (ℕ → Row) → List Row
both card = card 51 ∷ card 52 ∷ []

joined : List (List Row) → List Row
joined [] = []
joined (rs ∷ more) = rs ++ joined more

-- the rows that are looked at before the others: none. A must-fail edit puts the rows of its card here, which the checker then comes to
-- at once, and not after all the others that hold
pub foremost : List Row
foremost = []

pub cards : List Row
cards =
    foremost
    ++ joined (
    both card1
    ∷ both card2
    ∷ both card3
    ∷ both card4
    ∷ (card5
    ∷ card5counted 1 (step low_rxd ∷ [])
    ∷ card5counted 7 (step low_rxd ∷ step low_rxd ∷ step low_rxd ∷ step low_rxd ∷ [])
    ∷ [])
    ∷ both card6
    ∷ both card6half
    ∷ both card7
    ∷ both (card8 0x80 29)
    ∷ both (card8 0x00 58)
    ∷ both card8shift
    ∷ both card9
    ∷ both (card10 0x00 0x03 0xe0)
    ∷ both (card10 0x00 0x13 0x00)
    ∷ both (card10 0x00 0x23 0xff)
    ∷ both (card10 0x50 0x03 0xe0)
    ∷ both (card10 0x50 0x13 0x00)
    ∷ both (card10 0x50 0x23 0xff)
    ∷ both card11
    ∷ both card12
    ∷ both card12line
    ∷ both card13
    ∷ both card14
    ∷ both card15
    ∷ both card16
    ∷ (card17 0x04 0x84
    ∷ card17 0x05 0x85
    ∷ card17by (goes 2 0 0 1)
    ∷ card17by (asked (trace (0x7f000002 ∷ [])) (laps 0 0 1))
    ∷ card17counter 0x06 0x86
    ∷ card17counter 0x07 0x87
    ∷ card18 0x0c 0x4c
    ∷ card18 0x0d 0x4d
    ∷ card18 0x2c 0x6c
    ∷ card18both
    -- each cycle overflows: one that finds TF2 still 1 offers again after its own cycle
    ∷ card19 0xff (wakes 9 1 ∷ step high ∷ holds T2CON 0x84 ∷ offers 0x2b ∷ [])
    -- none does: TF2 is heard again after two cycles
    ∷ card19 0x00 (wakes 9 2 ∷ step high ∷ offers_none ∷ step high ∷ offers 0x2b ∷ [])
    ∷ card20 0x14 0xff 54
    ∷ card20 0x24 0xff 54
    ∷ card20 0x14 0xfa 9
    ∷ card20 0x24 0xfa 9
    ∷ card20counter
    ∷ card21 0x80 0xff
    ∷ card21 0x84 0xf0
    ∷ card21 0x40 0xff
    ∷ card21 0xa4 0xff
    ∷ card21again
    ∷ [])
    ∷ both card22
    ∷ both card23
    ∷ both (card24 2)
    ∷ both (card24 9)
    ∷ both (card25 (set TCON 0xaa ∷ set SCON 0x03 ∷ []) 0)
    ∷ both (card25 (timer0_near ++ set TCON 0x30 ∷ []) 1)
    ∷ (card25 (set T2CON 0xc0 ∷ []) 0 52 ∷ [])
    ∷ both card26
    ∷ both card26again
    ∷ card27 0 2 timer0_near high 4 (laps 1 0 0) 51
    ∷ card27 1 2 (set TMOD 0x10 ∷ set TH1 0xff ∷ set TL1 0xfe ∷ set TCON 0x40 ∷ []) high 4 (laps 0 1 0) 51
    ∷ card27 2 1 (set TCON 0x01 ∷ []) low_int0 3 no_laps 51
    ∷ card27 3 1 (set TCON 0x04 ∷ []) low_int1 3 no_laps 51
    ∷ card27 4 10 (set SCON 0x10 ∷ []) high 12 no_laps 51
    ∷ card27 5 10 (set SBUF 0xff ∷ []) high 12 no_laps 51
    ∷ card27 6 2 (set TH2 0xff ∷ set TL2 0xfe ∷ set T2CON 0x04 ∷ []) high 4 (laps 0 0 1) 52
    ∷ card27 7 1 (set T2CON 0x0c ∷ []) low_t2ex 3 no_laps 52
    ∷ both card28
    ∷ both card29
    ∷ both card29reset
    ∷ both (bad 0 0 1)
    ∷ both (bad 7 0 0xffffffffffffffff)
    ∷ both (bad 3 2 0)
    ∷ both (bad 7 255 1)
    ∷ both (good 0 0)
    ∷ both (good 7 0xffffffffffffffff)
    ∷ both card31
    ∷ both card32
    ∷ (card33 ∷ card33reload ∷ card34 ∷ [])
    ∷ both card35
    ∷ both (card36 (goes 101 0 34 0 ∷ []))
    ∷ both (card36 (goes 49 0 16 0 ∷ goes 52 0 18 0 ∷ []))
    ∷ both (card36 (asked (trace (0x7f000001 ∷ 0x7f000030 ∷ 0x7f000034 ∷ [])) (laps 0 34 0) ∷ []))
    ∷ (card37 51 ∷ card38 52 ∷ card39 51 ∷ [])
    ∷ both card40
    ∷ both card41
    ∷ both card42
    ∷ []
    )

-- the cards of the rows that fail, each row with its card and a test
unfoldable pub failing_by : {A : Type 0} → (A → ℕ) → (A → Bool) → List A → List ℕ
failing_by card holds [] = []
failing_by card holds (r ∷ rs) = cond (holds r) (failing_by card holds rs) (card r ∷ failing_by card holds rs)

pub failing : List Row → List ℕ
failing = failing_by (λ (r : Row). r.card) (λ (r : Row). r.test (run r.calls r.start))

-- no row fails
pub cards_hold : failing cards ≡ []
unfolding same same_value same_reply same_replies shorn without_rounds row_by row_from card1 card2 card3 card4 baud2 card5 card5counted mode1send card6 card6half card7 card8 card8shift card9 card10 card11 card12 card12line card13 card14 card15 card16 timer2_at card17 card17by card17counter card18 card18both card19 card20 card20counter card21 card21again card22 card23 placed rose never_rose timer0_near card24 card25 card26 card26again singles ways card27 timed card28 card29 card29reset card30 bad good card31 card32 card33 card33reload card34 card35 card36 card37 card38 card39 card40 card41 card42 both joined foremost cards failing failing_by table implemented_in implemented registers hidden_fields accepted pins_of levels_of zeros reset_of count13 count16 reload8 count8 hold enabled clocked count_in flagged counts0 counts1 counts_high0 pair0 high0 high_overflow0 pair1 timer_flags timers_step count_once count_times baud_rate counts_of2 heeds_t2ex captures counted2 baud_step copied2 capture_step timer2_step half_after ticks1 ticks_of serial_ticks send_move send_tick send_ticks send line_of start_found receive_start receive_rolled receive_counted votes_added bit_of frame_done receive_bit receive_work receive_tick receive_ticks receive_shift receive serial_step write_sbuf receive_asked write_scon external either seen_of first_of choice offered in_service taken returned falls counted externals timers_after timer2_after ticks_in steps_of cycle_of cycles reset_answer value_in register_at read_answer stored write_answer cycle_answer cycles_fault jump_answer entry_fault first_bad trace_fault trace_cycles totals_next totals overflows working watched busy marks busy_cycles quiet_runs rounds trace_totals trace_answer flags any_rises risen noted times_after pairs_ok never first_cycle look_answer wake_answer offer_of offer_answer take_of take_answer return_answer play run
cards_hold = refl

-- a mark that none does, without their text
pub data Held : Type 0 where
  held : Held

pub marked : {failed : List ℕ} → failed ≡ [] → Held
marked p = held
