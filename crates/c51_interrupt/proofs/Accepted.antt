-- A take and a return keep an accepted record accepted: the device of the answer is the one given or one that the parts' ranges accept.
use mathlib.Core.Path.{◌≡◌}
use mathlib.Core.Bool.{true}
use Prim.Native.Nat.{ℕ, ◌<◌}
use lib.Dec.{lit<}
use lib.Bits.{bit_and}
use borrow.Author.Tests.{eq-eqb, eqb-true}
use Rattle.machine.proofs.Choices.{by_test}
use Rattle.machine.specs.declared.Device.{Device}
use Rattle.machine.specs.declared.Interrupts.{Interrupts}
use Rattle.machine.specs.Registers.{PCON, IDL, implemented, within}
use Rattle.machine.specs.Power.{powered_down, awoken}
use Rattle.machine.specs.Record.{accepted}
use Rattle.machine.specs.Interrupts.{Source, none, source, offered, in_service, taken, returned, none_in_service}
use Rattle.machine.specs.Calls.{take_answer, take_of, return_answer, with_tcon, with_interrupts}
use Rattle.laws.specs.Ranges.{InterruptsOk}
use Rattle.laws.proofs.Bits.{clear_lt, clear_within}
use Rattle.interrupts.proofs.Ranges.{taken_byte, in_service_ok, returned_ok}
use Rattle.record.proofs.Accepted.{ranges_of, accepted_of}

module _ (d : Device) (a : accepted d ≡ true) where
  -- PCON and TCON bytes, and PCON and the interrupt controller within their ranges
  changed : (pcon tcon : ℕ) (i : Interrupts) → pcon < 256 → within (implemented d.kind PCON) pcon ≡ true → tcon < 256
      → InterruptsOk d.kind i → accepted (with_interrupts pcon (with_tcon tcon d.timers) i d) ≡ true
  changed pcon tcon i p q t k =
      let r = ranges_of d a in
      accepted_of (with_interrupts pcon (with_tcon tcon d.timers) i d)
      (record {
        kind = r.kind;
        pcon = p;
        pcon_bits = q;
        timers =
            record {
              tcon = t;
              tmod = r.timers.tmod;
              tl0 = r.timers.tl0;
              tl1 = r.timers.tl1;
              th0 = r.timers.th0;
              th1 = r.timers.th1;
              due0 = r.timers.due0;
              due1 = r.timers.due1;
            };
        timer2 = r.timer2;
        absent = r.absent;
        serial = r.serial;
        interrupts = k;
        levels = r.levels;
        cycle = r.cycle;
        times = r.times;
      })

  -- a take clears IDL
  awoken_within : within (implemented d.kind PCON) (awoken d.pcon) ≡ true
  awoken_within =
      let r = ranges_of d a in
      let m = implemented d.kind PCON in
      eq-eqb (bit_and (awoken d.pcon) m) (awoken d.pcon) (clear_within IDL m d.pcon (lit< tt) r.pcon (eqb-true (bit_and d.pcon m) d.pcon r.pcon_bits))

  of_take : (s : Source) → accepted (take_of d s).device ≡ true
  unfolding take_of
  of_take none = a
  of_take (source k) =
      let r = ranges_of d a in
      changed (awoken d.pcon) (taken k d.timers.tcon) (in_service k d.interrupts) (clear_lt 8 IDL d.pcon r.pcon) awoken_within
      (taken_byte k d.timers.tcon r.timers.tcon) (in_service_ok d.kind k d.interrupts r.interrupts)

  pub take_kept : accepted (take_answer d).device ≡ true
  unfolding take_answer
  take_kept = rw a (by_test (powered_down d.pcon) (λ down. rw down a) (λ up. rw up (of_take (offered d.pcon d.interrupts))))

  pub return_kept : accepted (return_answer d).device ≡ true
  unfolding return_answer
  return_kept =
      let r = ranges_of d a in
      rw a
      (by_test (powered_down d.pcon) (λ down. rw down a)
      (λ up.
      rw up
      (by_test (none_in_service d.interrupts) (λ none. rw none a)
      (λ some. rw some (changed d.pcon d.timers.tcon (returned d.interrupts) r.pcon r.pcon_bits r.timers.tcon (returned_ok d.kind d.interrupts r.interrupts))))))
