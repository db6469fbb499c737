-- Document 01, "The device record": the fields in their order, their ranges, the pin byte, and reset. Document 02, request Six: the
-- flag times join it.
use Rattle.std.specs.Prelude.{ℕ, ◌-◌, ◌^◌, Bool, true, cond, ◌&&◌, ◌||◌, List, [], ◌∷◌, eqb, leb, ltb}
use Rattle.machine.specs.declared.Device.{Device}
use Rattle.machine.specs.Bits.{bit, field, set_bit}
use Rattle.machine.specs.Times.{times_ok, never}
use Rattle.machine.specs.Registers.{PCON, TCON, TMOD, TL0, TL1, TH0, TH1, SCON, SBUF, IE, IP, T2CON, RCAP2L, RCAP2H, TL2, TH2, SM01, T2, T2EX, implemented, within}

-- a register: its address and its value
pub record Register : Type 0 where
  pub address : ℕ
  pub value : ℕ

abbrev pub register : ℕ → ℕ → Register
register a v = record { address = a; value = v }

-- the registers, by address; SBUF's value is the received byte
unfoldable pub registers : Device → List Register
registers d =
    register PCON d.pcon
    ∷ register TCON d.timers.tcon
    ∷ register TMOD d.timers.tmod
    ∷ register TL0 d.timers.tl0
    ∷ register TL1 d.timers.tl1
    ∷ register TH0 d.timers.th0
    ∷ register TH1 d.timers.th1
    ∷ register SCON d.serial.scon
    ∷ register SBUF d.serial.received
    ∷ register IE d.interrupts.ie
    ∷ register IP d.interrupts.ip
    ∷ register T2CON d.timer2.t2con
    ∷ register RCAP2L d.timer2.rcap2l
    ∷ register RCAP2H d.timer2.rcap2h
    ∷ register TL2 d.timer2.tl2
    ∷ register TH2 d.timer2.th2
    ∷ []

-- the serial mode, SM0 SM1
abbrev pub serial_mode : ℕ → ℕ
serial_mode scon = field SM01 2 scon

-- position 11 is allowed only in serial modes 2 and 3
abbrev pub last_position : ℕ → ℕ
last_position scon = cond (leb 2 (serial_mode scon)) 11 10

-- on kind 51 the T2 due mark is 0
abbrev pub due_most : ℕ → ℕ
due_most kind = cond (eqb kind 51) 0 1

-- a hidden field: its value, and the most that it may be
pub record Hidden : Type 0 where
  pub value : ℕ
  pub most : ℕ

abbrev pub hidden : ℕ → ℕ → Hidden
hidden v m = record { value = v; most = m }

-- the hidden fields in document 01's order
unfoldable pub hidden_fields : Device → List Hidden
hidden_fields d =
    hidden d.serial.send.position (last_position d.serial.scon)
    ∷ hidden d.serial.send.value 511
    ∷ hidden d.serial.send.counter 15
    ∷ hidden d.serial.receive.position (last_position d.serial.scon)
    ∷ hidden d.serial.receive.value 511
    ∷ hidden d.serial.receive.counter 15
    ∷ hidden d.serial.receive.votes 2
    ∷ hidden d.serial.receive.sample 1
    ∷ hidden d.serial.half 1
    ∷ hidden d.serial.received 255
    ∷ hidden d.timers.due0 1
    ∷ hidden d.timers.due1 1
    ∷ hidden d.timer2.due2 (due_most d.kind)
    ∷ hidden d.interrupts.seen 63
    ∷ hidden d.interrupts.polled 63
    ∷ hidden d.interrupts.low 1
    ∷ hidden d.interrupts.high 1
    ∷ hidden d.cycle (2 ^ 64 - 1)
    ∷ []

-- each register within its implemented bits; on kind 51 the Timer 2 registers have none and are 0
abbrev pub registers_ok : ℕ → List Register → Bool
registers_ok kind [] = true
registers_ok kind (r ∷ rs) = within (implemented kind r.address) r.value && registers_ok kind rs

-- each hidden field within its range
abbrev pub hidden_ok : List Hidden → Bool
hidden_ok [] = true
hidden_ok (h ∷ hs) = leb h.value h.most && hidden_ok hs

-- each saved level 0 or 1
abbrev pub levels_ok : List ℕ → Bool
levels_ok [] = true
levels_ok (l ∷ ls) = leb l 1 && levels_ok ls

-- kind 51 or 52
abbrev pub kind_ok : ℕ → Bool
kind_ok kind = eqb kind 51 || eqb kind 52

-- a record that refusal 1 does not meet
unfoldable pub accepted : Device → Bool
accepted d =
    kind_ok d.kind
    && (registers_ok d.kind (registers d) && (hidden_ok (hidden_fields d) && (levels_ok d.levels && times_ok d.times)))

-- bit 7 of a pin byte is 0
abbrev pub pins_ok : ℕ → Bool
pins_ok pins = ltb pins 128

-- the pin byte as the kind takes it: kind 51 takes T2 and T2EX as 1
unfoldable pub pins_of : ℕ → ℕ → ℕ
pins_of kind pins = cond (eqb kind 51) (set_bit T2EX (set_bit T2 pins)) pins

-- the seven levels of a pin byte, from RXD up
unfoldable pub levels_of : ℕ → List ℕ
levels_of pins = bit 0 pins ∷ bit 1 pins ∷ bit 2 pins ∷ bit 3 pins ∷ bit 4 pins ∷ bit 5 pins ∷ bit 6 pins ∷ []

-- a record all zero but for the kind, the last line sample and the saved levels
unfoldable pub blank : ℕ → ℕ → ℕ → Device
blank kind sample level =
    record {
      kind = kind;
      pcon = 0;
      timers = record { tcon = 0; tmod = 0; tl0 = 0; tl1 = 0; th0 = 0; th1 = 0; due0 = 0; due1 = 0 };
      timer2 = record { t2con = 0; rcap2l = 0; rcap2h = 0; tl2 = 0; th2 = 0; due2 = 0 };
      serial =
          record {
            scon = 0;
            send = record { position = 0; value = 0; counter = 0 };
            receive = record { position = 0; value = 0; counter = 0; votes = 0; sample = sample };
            half = 0;
            received = 0;
          };
      interrupts = record { ie = 0; ip = 0; seen = 0; polled = 0; low = 0; high = 0 };
      levels = level ∷ level ∷ level ∷ level ∷ level ∷ level ∷ level ∷ [];
      cycle = 0;
      times = never;
    }

-- the record that a refused reset leaves: all zero, kind 0
unfoldable pub zeros : Device
unfolding blank
zeros = blank 0 0 0

-- reset gives zeros, saved levels and last line sample 1
unfoldable pub reset_of : ℕ → Device
unfolding blank
reset_of kind = blank kind 1 1
