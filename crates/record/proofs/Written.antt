-- A write keeps an accepted record accepted: each register holds the implemented bits of the value, or what it held before.
use mathlib.Core.Path.{◌≡◌, ap, subst, ◌∙◌}
use mathlib.Core.Bool.{true, cond}
use Prim.Native.Nat.{ℕ, ◌<◌}
use native.Mathlib.Omega.{arith}
use lib.Dec.{eqb}
use lib.Bits.{bit_and, and_le_l, and_zero_r}
use borrow.Author.Tests.{eqb-true, eq-eqb}
use Rattle.machine.specs.declared.Device.{Device}
use Rattle.machine.specs.Registers.{PCON, TCON, TMOD, TL0, TL1, TH0, TH1, SCON, SBUF, IE, IP, T2CON, RCAP2L, RCAP2H, TL2, TH2, table, implemented_in, implemented, kept, within}
use Rattle.machine.specs.Record.{accepted}
use Rattle.machine.specs.Serial.{write_scon, write_sbuf}
use Rattle.machine.specs.Calls.{stored}
use Rattle.laws.proofs.Bits.{and_twice}
use Rattle.machine.proofs.Choices.{cond_has}
use Rattle.serial.proofs.Ranges.{write_scon_ok, write_sbuf_ok}
use Rattle.laws.specs.Ranges.{Absent, SerialOk, Ranges}
use Rattle.record.proofs.Accepted.{ranges_of, accepted_of}

module _ (d : Device) (a v : ℕ) (h : v < 256) (r : Ranges d) where
  -- the value that is stored: a byte, within the implemented bits at the address, and 0 where there are none
  abbrev value : ℕ
  value = kept d.kind a v

  byte : value < 256
  byte = omega (arith, and_le_l v (implemented d.kind a))

  bits : (n : ℕ) → a ≡ n → within (implemented d.kind n) value ≡ true
  bits n e =
      subst (λ (m : ℕ). within (implemented d.kind m) value ≡ true) e
      (eq-eqb (bit_and value (implemented d.kind a)) value (and_twice v (implemented d.kind a)))

  gone : (n : ℕ) → a ≡ n → implemented d.kind n ≡ 0 → value ≡ 0
  gone n e z = ap (λ (m : ℕ). bit_and v (implemented d.kind m)) e ∙ ap (bit_and v) z ∙ and_zero_r v

  -- the register at address n that held x
  kept_byte : (n x : ℕ) → x < 256 → cond (eqb a n) value x < 256
  kept_byte n x l = cond_has (λ (w : ℕ). w < 256) (eqb a n) value x (λ e. byte) (λ e. l)

  kept_bits : (n x : ℕ) → within (implemented d.kind n) x ≡ true → within (implemented d.kind n) (cond (eqb a n) value x) ≡ true
  kept_bits n x l =
      cond_has (λ (w : ℕ). within (implemented d.kind n) w ≡ true) (eqb a n) value x (λ e. bits n (eqb-true a n e)) (λ e. l)

  kept_gone : (n x : ℕ) → implemented d.kind n ≡ 0 → x ≡ 0 → cond (eqb a n) value x ≡ 0
  kept_gone n x z l = cond_has (λ (w : ℕ). w ≡ 0) (eqb a n) value x (λ e. gone n (eqb-true a n e) z) (λ e. l)

  -- on kind 51 no register of Timer 2 is implemented
  absent : d.kind ≡ 51 → Absent (stored d a value).timer2
  unfolding stored implemented implemented_in table
  absent e =
      let u = d.timer2 in
      let z = r.absent e in
      record {
        t2con = kept_gone T2CON u.t2con (simp e) z.t2con;
        rcap2l = kept_gone RCAP2L u.rcap2l (simp e) z.rcap2l;
        rcap2h = kept_gone RCAP2H u.rcap2h (simp e) z.rcap2h;
        tl2 = kept_gone TL2 u.tl2 (simp e) z.tl2;
        th2 = kept_gone TH2 u.th2 (simp e) z.th2;
        due2 = z.due2;
      }

  serial_kept : SerialOk (stored d a value).serial
  unfolding stored
  serial_kept =
      let s = d.serial in
      cond_has SerialOk (eqb a SCON) (write_scon value s) (cond (eqb a SBUF) (write_sbuf value s) s)
      (λ e. write_scon_ok value s byte r.serial)
      (λ e. cond_has SerialOk (eqb a SBUF) (write_sbuf value s) s (λ e. write_sbuf_ok value s byte r.serial) (λ e. r.serial))

  stored_ranges : Ranges (stored d a value)
  unfolding stored
  stored_ranges =
      let t = d.timers in
      let u = d.timer2 in
      let i = d.interrupts in
      record {
        kind = r.kind;
        pcon = kept_byte PCON d.pcon r.pcon;
        pcon_bits = kept_bits PCON d.pcon r.pcon_bits;
        timers =
            record {
              tcon = kept_byte TCON t.tcon r.timers.tcon;
              tmod = kept_byte TMOD t.tmod r.timers.tmod;
              tl0 = kept_byte TL0 t.tl0 r.timers.tl0;
              tl1 = kept_byte TL1 t.tl1 r.timers.tl1;
              th0 = kept_byte TH0 t.th0 r.timers.th0;
              th1 = kept_byte TH1 t.th1 r.timers.th1;
              due0 = r.timers.due0;
              due1 = r.timers.due1;
            };
        timer2 =
            record {
              t2con = kept_byte T2CON u.t2con r.timer2.t2con;
              rcap2l = kept_byte RCAP2L u.rcap2l r.timer2.rcap2l;
              rcap2h = kept_byte RCAP2H u.rcap2h r.timer2.rcap2h;
              tl2 = kept_byte TL2 u.tl2 r.timer2.tl2;
              th2 = kept_byte TH2 u.th2 r.timer2.th2;
              due2 = r.timer2.due2;
            };
        absent = absent;
        serial = serial_kept;
        interrupts =
            record {
              ie = kept_byte IE i.ie r.interrupts.ie;
              ie_bits = kept_bits IE i.ie r.interrupts.ie_bits;
              ip = kept_byte IP i.ip r.interrupts.ip;
              ip_bits = kept_bits IP i.ip r.interrupts.ip_bits;
              seen = r.interrupts.seen;
              polled = r.interrupts.polled;
              low = r.interrupts.low;
              high = r.interrupts.high;
            };
        levels = r.levels;
        cycle = r.cycle;
        times = r.times;
      }

-- at an address that the kind lacks nothing is stored, or 0 where 0 stood: so this holds at every address
pub write_accepted : (d : Device) (a v : ℕ) → v < 256 → accepted d ≡ true → accepted (stored d a (kept d.kind a v)) ≡ true
write_accepted d a v h ok = accepted_of (stored d a (kept d.kind a v)) (stored_ranges d a v h (ranges_of d ok))
