-- A record is accepted exactly where each field is in its range: the tests of the record check, taken apart in the machine's proofs and
-- here put together again.
use mathlib.Core.Path.{◌≡◌, refl, sym, ◌∙◌}
use mathlib.Core.Bool.{Bool, true, false, cond}
use mathlib.Core.Logic.{◌⊎◌, inl, inr}
use Prim.Native.Nat.{ℕ, ◌<◌, ◌≤◌}
use native.Mathlib.Nat.{le-pred_of_lt}
use native.Mathlib.Omega.{arith}
use lib.Dec.{eqb}
use lib.Bits.{bit_and, and_zero_r}
use borrow.Author.Tests.{eqb-true, eq-eqb}
use Rattle.machine.specs.declared.Device.{Device}
use Rattle.machine.specs.Registers.{PCON, TCON, TMOD, TL0, TL1, TH0, TH1, SCON, SBUF, IE, IP, T2CON, RCAP2L, RCAP2H, TL2, TH2, table, implemented_in, implemented, within}
use Rattle.machine.specs.Record.{registers, hidden_fields, kind_ok, accepted, blank, zeros, reset_of, due_most}
use Rattle.machine.specs.Times.{pairs_ok, never}
use Rattle.machine.specs.Calls.{value_in}
use Rattle.machine.proofs.Choices.{cond_has, by_test}
use Rattle.machine.proofs.Accepted.{Each, Most, kind_ok_lem, bits, byte, hidden_every, hidden_most, levels_ok_lem, times_ok_lem}
use Rattle.machine.proofs.Accepted.Each.{done, ◌&◌}
use Rattle.laws.specs.Ranges.{Ranges, Absent}
use Rattle.laws.proofs.Bits.{lt_within}
use Rattle.record.proofs.Tests.{registers_every}

-- kind 51 or 52
kinds : (kind : ℕ) → kind_ok kind ≡ true → (kind ≡ 51) ⊎ (kind ≡ 52)
kinds kind e =
    by_test (eqb kind 51) (λ p. inl (eqb-true kind 51 p)) (λ q. inr (eqb-true kind 52 (rw q at e)))

is_kind : (kind : ℕ) → (kind ≡ 51) ⊎ (kind ≡ 52) → kind_ok kind ≡ true
is_kind kind (inl e) = rw e
is_kind kind (inr e) = rw e

-- a byte is within all eight bits, on either kind
full : (old : Bool) (x : ℕ) → x < 256 → within (cond old 0xff 0xff) x ≡ true
full true x h = eq-eqb (bit_and x 0xff) x (lt_within 8 x h)
full false x h = eq-eqb (bit_and x 0xff) x (lt_within 8 x h)

-- a register of Timer 2 is within no bits on kind 51
newer : (old : Bool) (x : ℕ) → x < 256 → (old ≡ true → x ≡ 0) → within (cond old 0 0xff) x ≡ true
newer true x h z = rw (z refl)
newer false x h z = eq-eqb (bit_and x 0xff) x (lt_within 8 x h)

-- and it is 0 where kind 51 implements none
none : (kind a x : ℕ) → kind ≡ 51 → implemented 51 a ≡ 0 → within (implemented kind a) x ≡ true → x ≡ 0
none kind a x e z h =
    let w : within 0 x ≡ true = rw (e, z) at h in
    sym (eqb-true (bit_and x 0) x w) ∙ and_zero_r x

-- a due mark is at most 1, and on kind 51 that of T2 is 0
due_most_lem : (kind x : ℕ) → x ≤ due_most kind → x ≤ 1
due_most_lem kind x h = cond_has (λ (m : ℕ). x ≤ m → x ≤ 1) (eqb kind 51) 0 1 (λ e l. omega arith) (λ e l. l) h

no_due : (kind x : ℕ) → kind ≡ 51 → x ≤ due_most kind → x ≡ 0
no_due kind x e h = let z : x ≤ 0 = rw e at h in omega arith

most_due : (kind x : ℕ) → x ≤ 1 → (eqb kind 51 ≡ true → x ≡ 0) → x ≤ due_most kind
most_due kind x h z = cond_has (λ (m : ℕ). x ≤ m) (eqb kind 51) 0 1 (λ e. omega (arith, z e)) (λ e. h)

module _ (d : Device) (ok : accepted d ≡ true) where
  -- a register that kind 51 has none of is 0 on it
  gone : (a : ℕ) → implemented 51 a ≡ 0 → d.kind ≡ 51 → value_in (registers d) a ≡ 0
  gone a z e = none d.kind a (value_in (registers d) a) e z (bits d ok a)

  -- with each hidden field in its range, in document 01's order
  ranges_with : Each Most (hidden_fields d) → Ranges d
  unfolding registers value_in hidden_fields implemented implemented_in table
  ranges_with
      (sendPosition
      & sendValue
      & send_counter
      & receivePosition
      & receiveValue
      & receiveCounter
      & votes
      & sample
      & half
      & received
      & due0
      & due1
      & due2
      & seen
      & polled
      & low
      & high
      & cycle
      & done) =
      record {
        kind = kinds d.kind (kind_ok_lem d ok);
        pcon = byte d ok PCON;
        pcon_bits = bits d ok PCON;
        timers =
            record {
              tcon = byte d ok TCON;
              tmod = byte d ok TMOD;
              tl0 = byte d ok TL0;
              tl1 = byte d ok TL1;
              th0 = byte d ok TH0;
              th1 = byte d ok TH1;
              due0 = due0;
              due1 = due1;
            };
        timer2 =
            record {
              t2con = byte d ok T2CON;
              rcap2l = byte d ok RCAP2L;
              rcap2h = byte d ok RCAP2H;
              tl2 = byte d ok TL2;
              th2 = byte d ok TH2;
              due2 = due_most_lem d.kind _ due2;
            };
        absent =
            λ e. record {
              t2con = gone T2CON refl e;
              rcap2l = gone RCAP2L refl e;
              rcap2h = gone RCAP2H refl e;
              tl2 = gone TL2 refl e;
              th2 = gone TH2 refl e;
              due2 = no_due d.kind _ e due2;
            };
        serial =
            record {
              scon = byte d ok SCON;
              send = record { position = sendPosition; value = sendValue; counter = send_counter };
              receive =
                  record {
                    position = receivePosition;
                    value = receiveValue;
                    counter = receiveCounter;
                    votes = votes;
                    sample = sample;
                  };
              half = half;
              received = byte d ok SBUF;
            };
        interrupts =
            record {
              ie = byte d ok IE;
              ie_bits = bits d ok IE;
              ip = byte d ok IP;
              ip_bits = bits d ok IP;
              seen = seen;
              polled = polled;
              low = low;
              high = high;
            };
        levels = levels_ok_lem d ok;
        cycle = omega (arith, cycle);
        times = times_ok_lem d ok;
      }

  -- an accepted record has each field in its range
  pub ranges_of : Ranges d
  ranges_of = ranges_with (hidden_most d ok)

-- a record with each field in its range is accepted
pub accepted_of : (d : Device) → Ranges d → accepted d ≡ true
unfolding accepted registers hidden_fields implemented implemented_in table
accepted_of d r =
    let old = eqb d.kind 51 in
    let t = r.timers in
    let u = r.timer2 in
    let gone : old ≡ true → Absent d.timer2 = λ e. r.absent (eqb-true d.kind 51 e) in
    let s = r.serial in
    let i = r.interrupts in
    rw (
      is_kind d.kind r.kind,
      registers_every d.kind (registers d)
          (r.pcon_bits
          & full old _ t.tcon
          & full old _ t.tmod
          & full old _ t.tl0
          & full old _ t.tl1
          & full old _ t.th0
          & full old _ t.th1
          & full old _ s.scon
          & full old _ s.received
          & i.ie_bits
          & i.ip_bits
          & newer old _ u.t2con (λ e. (gone e).t2con)
          & newer old _ u.rcap2l (λ e. (gone e).rcap2l)
          & newer old _ u.rcap2h (λ e. (gone e).rcap2h)
          & newer old _ u.tl2 (λ e. (gone e).tl2)
          & newer old _ u.th2 (λ e. (gone e).th2)
          & done),
      hidden_every (hidden_fields d)
          (s.send.position
          & s.send.value
          & s.send.counter
          & s.receive.position
          & s.receive.value
          & s.receive.counter
          & s.receive.votes
          & s.receive.sample
          & s.half
          & le-pred_of_lt s.received
          & t.due0
          & t.due1
          & most_due d.kind _ u.due2 (λ e. (gone e).due2)
          & i.seen
          & i.polled
          & i.low
          & i.high
          & omega (arith, r.cycle)
          & done),
      r.levels,
    )
    r.times

-- reset gives an accepted record of each kind, and every call refuses the record that a refused reset leaves
pub reset_accepted51 : accepted (reset_of 51) ≡ true
unfolding accepted registers hidden_fields implemented implemented_in table reset_of blank pairs_ok never
reset_accepted51 = refl

pub reset_accepted52 : accepted (reset_of 52) ≡ true
unfolding accepted registers hidden_fields implemented implemented_in table reset_of blank pairs_ok never
reset_accepted52 = refl

pub zeros_refused : accepted zeros ≡ false
unfolding accepted zeros blank
zeros_refused = refl
