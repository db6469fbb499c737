-- A cycle of a settled device, from what steps 2 to 5 leave of its parts: where they leave TCON, SCON, T2CON and the due
-- marks as they were and no overflow sets TF2, the other steps change nothing but the cycle number, and no flag rises.
use Prim.Native.Nat.{ℕ, ◌+◌, ◌%◌, ◌^◌}
use mathlib.Core.Path.{◌≡◌, refl, sym, ap, ◌∙◌}
use mathlib.Core.List.{List}
use Rattle.machine.specs.declared.Timers.{Timers}
use Rattle.machine.specs.declared.Timer2.{Timer2}
use Rattle.machine.specs.declared.Counted.{Counted}
use Rattle.machine.specs.declared.Serial.{Serial}
use Rattle.machine.specs.declared.Device.{Device}
use Rattle.machine.specs.Bits.{bit}
use Rattle.machine.specs.Registers.{RXD, T0, T1, T2, ET2}
use Rattle.machine.specs.Record.{levels_of}
use Rattle.machine.specs.Timers.{flagged}
use Rattle.machine.specs.Serial.{serial_step}
use Rattle.machine.specs.Interrupts.{seen_of}
use Rattle.machine.specs.Flags.{flags_of, flags, risen, any_rises}
use Rattle.machine.specs.Times.{times_after}
use Rattle.machine.specs.Cycle.{falls, polling, externals, timers_after, timer2_after, counted, ticks_in, steps}
use Rattle.laws.proofs.Bits.{flagged_none}
use Rattle.laws.proofs.Flags.{none_rises, times_stay}
use Rattle.strides.specs.Stride.{with_parts}
use Rattle.strides.proofs.Settles.{Rest, no_fall, externals_rest}

-- step 7 of Timers 0 and 1 at rest
timers_after_lem : (saved : List ℕ) (l : ℕ) (t : Timers) → externals saved l t.tcon ≡ t.tcon
    → falls saved l T0 ≡ t.due0 → falls saved l T1 ≡ t.due1 → timers_after saved l t ≡ t
unfolding timers_after
timers_after_lem saved l t p q r =
    λ i. record { tcon = p i; tmod = t.tmod; tl0 = t.tl0; tl1 = t.tl1; th0 = t.th0; th1 = t.th1; due0 = q i; due1 = r i }

timer2_after_lem : (saved : List ℕ) (l : ℕ) (t : Timer2) → falls saved l T2 ≡ t.due2 → timer2_after saved l t ≡ t
unfolding timer2_after
timer2_after_lem saved l t p =
    λ i. record { t2con = t.t2con; rcap2l = t.rcap2l; rcap2h = t.rcap2h; tl2 = t.tl2; th2 = t.th2; due2 = p i }

-- what steps 2 to 5 leave has these bits and marks as before, and no overflow set TF2, newly or again
pub record Kept (d : Device) (c : Counted) (s : Serial) : Type 0 where
  pub tcon : c.timers.timers.tcon ≡ d.timers.tcon
  pub due0 : c.timers.timers.due0 ≡ d.timers.due0
  pub due1 : c.timers.timers.due1 ≡ d.timers.due1
  pub t2con : c.timer2.timer2.t2con ≡ d.timer2.t2con
  pub due2 : c.timer2.timer2.due2 ≡ d.timer2.due2
  pub scon : s.scon ≡ d.serial.scon
  pub tf2 : c.timer2.tf2 ≡ 0

module _ (l : ℕ) (d : Device) (r : Rest l d) where
  -- no pin falls
  pub fallen : (k : ℕ) → falls (levels_of l) l k ≡ 0 → falls d.levels l k ≡ 0
  fallen k e = ap (λ (saved : List ℕ). falls saved l k) r.levels ∙ e

  pub steps_rest : (c : Counted) (s : Serial) → counted d l ≡ c → serial_step (ticks_in d c) (bit RXD l) d.serial ≡ s → Kept d c s
      → steps d l ≡ with_parts ((d.cycle + 1) % 2 ^ 64) c.timers.timers c.timer2.timer2 s d
  unfolding steps timer2_after levels_of flags any_rises
  steps_rest c s p e k = rw (p, timers, timer2, e, still, times, ← r.levels)
    where
      timers : timers_after d.levels l c.timers.timers ≡ c.timers.timers
      timers =
          timers_after_lem d.levels l c.timers.timers
          ((λ i. externals (r.levels i) l (k.tcon i)) ∙ (externals_rest l d.timers.tcon r.level0 r.level1 ∙ sym k.tcon))
          (fallen T0 (no_fall l T0 refl) ∙ (sym r.due0 ∙ sym k.due0)) (fallen T1 (no_fall l T1 refl) ∙ (sym r.due1 ∙ sym k.due1))

      timer2 : timer2_after d.levels l c.timer2.timer2 ≡ c.timer2.timer2
      timer2 = timer2_after_lem d.levels l c.timer2.timer2 (fallen T2 (no_fall l T2 refl) ∙ (sym r.due2 ∙ sym k.due2))

      -- seen and polled are the flags
      seen : seen_of c.timers.timers.tcon s.scon c.timer2.timer2.t2con ≡ d.interrupts.seen
      seen = (λ i. seen_of (k.tcon i) (k.scon i) (k.t2con i)) ∙ sym r.seen

      polled : flagged ET2 c.timer2.tf2 d.interrupts.seen ≡ d.interrupts.polled
      polled = rw k.tf2 (flagged_none ET2 d.interrupts.seen ∙ (r.seen ∙ sym r.polled))

      still : polling c.timer2.tf2 (seen_of c.timers.timers.tcon s.scon c.timer2.timer2.t2con) d.interrupts ≡ d.interrupts
      still =
          λ i. record {
            ie = d.interrupts.ie;
            ip = d.interrupts.ip;
            seen = seen i;
            polled = polled i;
            low = d.interrupts.low;
            high = d.interrupts.high;
          }

      -- no flag rises, so the flag times stay
      times : times_after ((d.cycle + 1) % 2 ^ 64) (risen (flags d) (flags_of c.timers.timers.tcon s.scon c.timer2.timer2.t2con)) d.times
          ≡ d.times
      times = times_stay _ _ d.times (ap (any_rises (flags d)) (λ i. flags_of (k.tcon i) (k.scon i) (k.t2con i)) ∙ none_rises (flags d))
