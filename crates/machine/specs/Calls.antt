-- Document 01, "Jumps, traces, looking ahead", "The plain machine" and "Refused calls": the answer of each call and the device after it.
-- Refusals are judged in the table's order, but for a trace, which has its own; a refused call leaves the device as given, but for a
-- refused reset, which leaves the record of zeros. Document 02, request One: the wake look, and 10 for a write, a take and a return in
-- power-down, after 1 and before 3, 6 and 7. Request Seven: a jump and a trace run answer overflow totals. Request Nine: a jump answers
-- its rounds too.
use Rattle.std.specs.Prelude.{ℕ, zero, suc, ◌^◌, Bool, cond, List, [], ◌∷◌, eqb, leb, length}
use Rattle.machine.specs.declared.Timers.{Timers}
use Rattle.machine.specs.declared.Interrupts.{Interrupts}
use Rattle.machine.specs.declared.Device.{Device}
use Rattle.machine.specs.declared.Totals.{Totals}
use Rattle.machine.specs.declared.Answer.{Answer}
use Rattle.machine.specs.Answers.{JumpAnswer, RunAnswer, CycleAnswer, TakeAnswer, ReadAnswer, OfferAnswer, LookAnswer, ReadAnswer as Read, OfferAnswer as Offer, LookAnswer as Look}
use Rattle.machine.specs.Bits.{field}
use Rattle.machine.specs.Registers.{PCON, TCON, TMOD, TL0, TL1, TH0, TH1, SCON, SBUF, IE, IP, T2CON, RCAP2L, RCAP2H, TL2, TH2, lacks, kept}
use Rattle.machine.specs.Power.{powered_down, awoken}
use Rattle.machine.specs.Record.{Register, registers, accepted, pins_ok, kind_ok, zeros, reset_of}
use Rattle.machine.specs.Serial.{line_of, write_sbuf, write_scon}
use Rattle.machine.specs.Interrupts.{Source, offered, offers, vector_of, in_service, taken, none_in_service, returned}
use Rattle.machine.specs.Interrupts.Source.{none, source}
use Rattle.machine.specs.Flags.{flags, any_rises}
use Rattle.machine.specs.Cycle.{cycle_of, cycles}
use Rattle.machine.specs.Totals.{no_totals, added, totals}
use Rattle.machine.specs.Rounds.{rounds}

-- a call that answers only that it passed
abbrev pub passed : Device → Answer
passed d = record { code = 0; device = d }

-- a refused call: its number, and the device that it leaves
abbrev pub refuse : ℕ → Device → Answer
refuse n d = record { code = n; device = d }

-- unless a condition holds, a refusal; the refusals of a call then stand in their order, and what it does stands last
abbrev pub unless : {A : Type 0} → Bool → A → A → A
unless holds refused passes = cond holds passes refused

-- Reset: 2 with another kind, and a record all zero, kind 0
unfoldable pub reset_answer : ℕ → Answer
reset_answer kind = unless (kind_ok kind) (refuse 2 zeros) (passed (reset_of kind))

-- Read: the register, for SBUF the received byte

-- the value at an address
unfoldable pub value_in : List Register → ℕ → ℕ
value_in [] a = 0
value_in (r ∷ rs) a = cond (eqb r.address a) r.value (value_in rs a)

unfoldable pub register_at : Device → ℕ → ℕ
register_at d a = value_in (registers d) a

unfoldable pub read_answer : Device → ℕ → ReadAnswer
read_answer d a =
    unless (accepted d) (Read.Refused 1)
    (cond (lacks d.kind a) (Read.Refused 3)
    (Read.Value (register_at d a)))

-- Write

-- the device with one register stored; SBUF and SCON do what the serial section says
unfoldable pub stored : Device → ℕ → ℕ → Device
stored d a v =
    let t = d.timers in
    let u = d.timer2 in
    let s = d.serial in
    let i = d.interrupts in
    record {
      kind = d.kind;
      pcon = cond (eqb a PCON) v d.pcon;
      timers =
          record {
            tcon = cond (eqb a TCON) v t.tcon;
            tmod = cond (eqb a TMOD) v t.tmod;
            tl0 = cond (eqb a TL0) v t.tl0;
            tl1 = cond (eqb a TL1) v t.tl1;
            th0 = cond (eqb a TH0) v t.th0;
            th1 = cond (eqb a TH1) v t.th1;
            due0 = t.due0;
            due1 = t.due1;
          };
      timer2 =
          record {
            t2con = cond (eqb a T2CON) v u.t2con;
            rcap2l = cond (eqb a RCAP2L) v u.rcap2l;
            rcap2h = cond (eqb a RCAP2H) v u.rcap2h;
            tl2 = cond (eqb a TL2) v u.tl2;
            th2 = cond (eqb a TH2) v u.th2;
            due2 = u.due2;
          };
      serial = cond (eqb a SCON) (write_scon v s) (cond (eqb a SBUF) (write_sbuf v s) s);
      interrupts =
          record {
            ie = cond (eqb a IE) v i.ie;
            ip = cond (eqb a IP) v i.ip;
            seen = i.seen;
            polled = i.polled;
            low = i.low;
            high = i.high;
          };
      levels = d.levels;
      cycle = d.cycle;
      times = d.times;
    }

-- a write stores the implemented bits
unfoldable pub write_answer : Device → ℕ → ℕ → Answer
write_answer d a v =
    unless (accepted d) (refuse 1 d)
    (cond (powered_down d.pcon) (refuse 10 d)
    (cond (lacks d.kind a) (refuse 3 d)
    (passed (stored d a (kept d.kind a v)))))

-- Cycle: steps 1 to 8; it answers the line as the cycle leaves it
abbrev pub refuse_cycle : ℕ → Device → CycleAnswer
refuse_cycle n d = record { code = n; line = 0; device = d }

abbrev pub passed_cycle : Device → CycleAnswer
passed_cycle d = record { code = 0; line = line_of d.serial; device = d }

unfoldable pub cycle_answer : Device → ℕ → CycleAnswer
cycle_answer d pins =
    unless (accepted d) (refuse_cycle 1 d)
    (unless (pins_ok pins) (refuse_cycle 4 d)
    (passed_cycle (cycle_of pins d)))

-- Jump: n cycles with one pin byte; it answers the overflows in them and their rounds
abbrev pub refuse_jump : ℕ → Device → JumpAnswer
refuse_jump n d = record { code = n; totals = no_totals; rounds = 0; device = d }

abbrev pub passed_jump : Totals → ℕ → Device → JumpAnswer
passed_jump t rounds d = record { code = 0; totals = t; rounds = rounds; device = d }

-- the most cycles of a jump, and the most entries of a trace
abbrev pub longest : ℕ
longest = 2 ^ 40

abbrev pub most_entries : ℕ
most_entries = 65536

-- the number by which n cycles with one pin byte are refused, of a jump and of a look, or 0
unfoldable pub cycles_fault : Device → ℕ → ℕ → ℕ
cycles_fault d pins n =
    unless (accepted d) 1
    (unless (pins_ok pins) 4
    (unless (leb n longest) 5
    0))

unfoldable pub jump_answer : Device → ℕ → ℕ → JumpAnswer
jump_answer d pins n =
    unless (eqb (cycles_fault d pins n) 0) (refuse_jump (cycles_fault d pins n) d)
    (passed_jump (totals n pins d) (rounds n pins d) (cycles n pins d))

-- Trace run: the cycles of entries; it answers the overflows in them
abbrev pub refuse_run : ℕ → Device → RunAnswer
refuse_run n d = record { code = n; totals = no_totals; device = d }

abbrev pub passed_run : Totals → Device → RunAnswer
passed_run t d = record { code = 0; totals = t; device = d }

-- an entry has the pin byte on top and the cycles in its low 24 bits
abbrev pub entry_pins : ℕ → ℕ
entry_pins e = field 24 8 e

abbrev pub entry_cycles : ℕ → ℕ
entry_cycles e = field 0 24 e

-- the number by which an entry is refused, 4 before 8, or 0
unfoldable pub entry_fault : ℕ → ℕ
entry_fault e =
    unless (pins_ok (entry_pins e)) 4
    (cond (eqb (entry_cycles e) 0) 8
    0)

-- the first bad entry's number, or 0
unfoldable pub first_bad : List ℕ → ℕ
first_bad [] = 0
first_bad (e ∷ es) = cond (eqb (entry_fault e) 0) (first_bad es) (entry_fault e)

-- a trace is checked whole before it runs: 5 goes first, then the first bad entry; or 0
unfoldable pub trace_fault : List ℕ → ℕ
trace_fault es = unless (leb (length es) most_entries) 5 (first_bad es)

-- the cycles of each entry in turn
unfoldable pub trace_cycles : List ℕ → Device → Device
trace_cycles [] d = d
trace_cycles (e ∷ es) d = trace_cycles es (cycles (entry_cycles e) (entry_pins e) d)

-- and the overflows in them
unfoldable pub trace_totals : List ℕ → Device → Totals
trace_totals [] d = no_totals
trace_totals (e ∷ es) d =
    added (totals (entry_cycles e) (entry_pins e) d) (trace_totals es (cycles (entry_cycles e) (entry_pins e) d))

unfoldable pub trace_answer : Device → List ℕ → RunAnswer
trace_answer d es =
    unless (accepted d) (refuse_run 1 d)
    (unless (eqb (trace_fault es) 0) (refuse_run (trace_fault es) d)
    (passed_run (trace_totals es d) (trace_cycles es d)))

-- Look ahead: document 01's term for asking when a flag will rise

-- the first of the n cycles that a test of the device before it and after it finds, after k cycles that went before; or none
unfoldable pub first_cycle : (Device → Device → Bool) → ℕ → ℕ → ℕ → Device → LookAnswer
first_cycle finds k zero pins d = Look.Nothing
first_cycle finds k (suc n) pins d =
    cond (finds d (cycle_of pins d)) (Look.At (suc k)) (first_cycle finds (suc k) n pins (cycle_of pins d))

-- a flag rises in a cycle
abbrev pub rises : Device → Device → Bool
rises before after = any_rises (flags before) (flags after)

-- the first of the n cycles in which a flag rises, or none
abbrev pub first_rise : ℕ → ℕ → Device → LookAnswer
first_rise n pins d = first_cycle rises 0 n pins d

-- a look is refused as a jump is, and one that passes answers what it found
abbrev pub judged_look : Device → ℕ → ℕ → LookAnswer → LookAnswer
judged_look d pins n found =
    unless (eqb (cycles_fault d pins n) 0) (Look.Refused (cycles_fault d pins n))
    found

-- a look ahead makes the jump of its n cycles on a copy of the state, and answers the first rise or none
unfoldable pub look_answer : Device → ℕ → ℕ → LookAnswer
look_answer d pins n = judged_look d pins n (first_rise n pins d)

-- Wake look: when the first interrupt will be offered

-- an interrupt is offered to a device, and after a cycle
abbrev pub offers_to : Device → Bool
offers_to d = offers d.pcon d.interrupts

abbrev pub wakes : Device → Device → Bool
wakes before after = offers_to after

-- the first k from 0 to n after which an interrupt is offered, or none: 0 where one is offered already, or else the first of the n
-- cycles after which one is
abbrev pub first_offer : ℕ → ℕ → Device → LookAnswer
first_offer n pins d = cond (offers_to d) (Look.At 0) (first_cycle wakes 0 n pins d)

-- it makes its cycles on a copy of the state, as a look ahead does, takes nothing, and does not ask whether the device idles
unfoldable pub wake_answer : Device → ℕ → ℕ → LookAnswer
wake_answer d pins n = judged_look d pins n (first_offer n pins d)

-- Offer: the vector, or none
unfoldable pub offer_of : Source → OfferAnswer
offer_of none = Offer.Nothing
offer_of (source k) = Offer.Vector (vector_of k)

unfoldable pub offer_answer : Device → OfferAnswer
offer_answer d = unless (accepted d) (Offer.Refused 1) (offer_of (offered d.pcon d.interrupts))

-- Take: the vector; 10 in power-down, 6 with nothing offered; it clears IDL

abbrev pub with_tcon : ℕ → Timers → Timers
with_tcon n t =
    record { tcon = n; tmod = t.tmod; tl0 = t.tl0; tl1 = t.tl1; th0 = t.th0; th1 = t.th1; due0 = t.due0; due1 = t.due1 }

abbrev pub with_interrupts : ℕ → Timers → Interrupts → Device → Device
with_interrupts pcon t i d =
    record {
      kind = d.kind;
      pcon = pcon;
      timers = t;
      timer2 = d.timer2;
      serial = d.serial;
      interrupts = i;
      levels = d.levels;
      cycle = d.cycle;
      times = d.times;
    }

abbrev pub refuse_take : ℕ → Device → TakeAnswer
refuse_take n d = record { code = n; vector = 0; device = d }

unfoldable pub take_of : Device → Source → TakeAnswer
take_of d none = refuse_take 6 d
take_of d (source k) =
    record {
      code = 0;
      vector = vector_of k;
      device =
          with_interrupts (awoken d.pcon) (with_tcon (taken k d.timers.tcon) d.timers) (in_service k d.interrupts) d;
    }

unfoldable pub take_answer : Device → TakeAnswer
take_answer d =
    unless (accepted d) (refuse_take 1 d)
    (cond (powered_down d.pcon) (refuse_take 10 d)
    (take_of d (offered d.pcon d.interrupts)))

-- Return: 10 in power-down, 7 with nothing in service
unfoldable pub return_answer : Device → Answer
return_answer d =
    unless (accepted d) (refuse 1 d)
    (cond (powered_down d.pcon) (refuse 10 d)
    (cond (none_in_service d.interrupts) (refuse 7 d)
    (passed (with_interrupts d.pcon d.timers (returned d.interrupts) d))))
