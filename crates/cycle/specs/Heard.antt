-- Document 02, request Two: what a cycle of an accepted device out of power-down leaves polled, whatever the pin byte. To be heard is to
-- be polled. No rule asks for it; the theorem of proofs/Heard.antt is stated with it.
use Rattle.std.specs.Prelude.{◌≡◌, ℕ, Bool, true, cond, not, ◌&&◌, ◌≢◌, ◌==◌}
use Rattle.machine.specs.declared.Timer2.{Timer2}
use Rattle.machine.specs.declared.Interrupts.{Interrupts}
use Rattle.machine.specs.declared.Device.{Device}
use Rattle.machine.specs.Bits.{bit}
use Rattle.machine.specs.Registers.{EA, ET2, TF2, TR2, C/T2}
use Rattle.machine.specs.Timers.{clocked}
use Rattle.machine.specs.Timer2.{count2, baud_rate}
use Rattle.machine.specs.Interrupts.{source, seen_of, asks, offered, none_in_service}

-- one count of Timer 2 in the next cycle, as a timer or on its due mark, finds FFFF
unfoldable pub overflows_next : Timer2 → Bool
overflows_next t = count2 t == 0xffff && clocked (bit C/T2 t.t2con) t.due2

-- an overflow sets TF2 in the next cycle: Timer 2 runs, and not as a baud rate generator. Neither T2EX nor TF2 matters
unfoldable pub sets_tf2 : Timer2 → Bool
sets_tf2 t = (bit TR2 t.t2con == 1 && not (baud_rate t)) && overflows_next t

-- Timer 2's interrupt is enabled
abbrev pub timer2_enabled : Interrupts → Bool
timer2_enabled i = bit ET2 i.ie == 1 && bit EA i.ie == 1

-- the device before the cycle, and after it
pub record HeardAtOnce (before after : Device) : Type 0 where
  -- Timer 2's bit of polled is also 1 where an overflow sets TF2; otherwise it is that of seen, and so is every other source's
  pub timer2 : bit ET2 after.interrupts.polled ≡ cond (sets_tf2 before.timer2) 1 (bit ET2 before.interrupts.seen)
  pub others : (k : ℕ) → k ≢ ET2 → bit k after.interrupts.polled ≡ bit k before.interrupts.seen
  -- seen takes the flags as before
  pub seen : after.interrupts.seen ≡ seen_of after.timers.tcon after.serial.scon after.timer2.t2con
  -- nothing but such an overflow sets TF2
  pub tf2 : bit TF2 after.timer2.t2con ≡ cond (sets_tf2 before.timer2) 1 (bit TF2 before.timer2.t2con)
  -- where there is one and Timer 2's interrupt is enabled, it asks after that cycle; with no other source seen before it and none in
  -- service it is the one that is offered
  pub asked : sets_tf2 before.timer2 ≡ true → timer2_enabled before.interrupts ≡ true → asks after.interrupts ET2 ≡ true
  pub offers : sets_tf2 before.timer2 ≡ true → timer2_enabled before.interrupts ≡ true
      → ((k : ℕ) → k ≢ ET2 → bit k before.interrupts.seen ≡ 0) → none_in_service before.interrupts ≡ true
      → offered after.pcon after.interrupts ≡ source ET2
