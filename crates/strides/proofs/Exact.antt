-- The room is exact: a cycle is busy if and only if there is no room, so a stride crosses no busy cycle, and where a run
-- ends the next cycle is busy.
use Prim.Native.Nat.{ℕ, zero, suc, ◌+◌, ◌*◌, ◌≤◌, ◌<◌}
use mathlib.Core.Path.{◌≡◌, refl, sym, ap, ◌∙◌}
use mathlib.Core.Bool.{Bool, true, false, ◌||◌, not}
use mathlib.Core.List.{List}
use native.Mathlib.Nat.{le-min}
use native.Mathlib.Omega.{arith}
use lib.Dec.{eqb}
use borrow.Author.Tests.{not-false}
use Rattle.machine.specs.declared.Overflows.{Overflows}
use Rattle.machine.specs.declared.Device.{Device}
use Rattle.machine.specs.Bits.{bit}
use Rattle.machine.specs.Registers.{RXD, T0, T1, T2, T2EX, TF0, TF1, IE0, IE1, RI, TI, ET2, TF2, EXF2}
use Rattle.machine.specs.Power.{powered_down}
use Rattle.machine.specs.Record.{pins_of, levels_of}
use Rattle.machine.specs.Timers.{flagged, timers_step, timer_flags}
use Rattle.machine.specs.Serial.{serial_ticks, serial_step}
use Rattle.machine.specs.Interrupts.{either, seen_of}
use Rattle.machine.specs.Flags.{flags}
use Rattle.machine.specs.Cycle.{falls, externals, timers_after, timer2_after, counted, overflows_of, ticks_in, steps, cycle_of, cycles}
use Rattle.machine.specs.Calls.{longest}
use Rattle.laws.specs.Ranges.{Ranges}
use Rattle.machine.proofs.Choices.{by_test, or_left, or_right, or_neither, not_differs}
use Rattle.laws.proofs.Bits.{flagged_none}
use Rattle.cycle.proofs.Steps.{cycle_up}
use Rattle.cycle.proofs.Heard.{tf2_none}
use Rattle.machine.specs.Same.{same}
use Rattle.machine.specs.Rounds.{overflowed, overflows, working, watched, busy}
use Rattle.strides.specs.Stride.{start_next, awake_room, stride_timers, stride2, stride_serial, awake_stride, room, stride}
use Rattle.strides.proofs.Bools.{same_equal, same_self}
use Rattle.strides.proofs.Settles.{seen_in, rest_settled, no_fall, externals_level0, externals_level1}
use Rattle.strides.proofs.Timers.{no_flags}
use Rattle.strides.proofs.Serial.{start_found_lem}
use Rattle.strides.proofs.Runs.{cycles_none, cycles_ranges}
use Rattle.strides.proofs.Overflows.{timers_room_left, timer2_room_left}
use Rattle.strides.proofs.Strides.{overflows_quiet, down_room, up_room, up_rest, up_stride, room_timers_lem, room_timer2, quiet_cycle, room_left, room_back, stride_law}

-- Room: the next cycle is not busy

-- no cycle in power-down is
down_idle : (pins : ℕ) (d : Device) → powered_down d.pcon ≡ true → busy pins d ≡ false
unfolding busy
down_idle pins d down = rw down

module _ (pins : ℕ) (d : Device) (r : Ranges d) (h : 1 ≤ room pins d) where
  module _ (up : powered_down d.pcon ≡ false) where
    no_overflow : overflows pins d ≡ false
    unfolding overflows
    no_overflow =
        let l = pins_of d.kind pins in
        let k = rw (up_room pins d up) at h in
        ap overflowed (overflows_quiet l d r (up_rest pins d up h) (room_timers_lem 1 l d k) (room_timer2 1 l d k))

    resting : working d ≡ false
    unfolding working
    resting = let s = up_rest pins d up h in simp (s.sends, s.receives)

    quiet_up : cycle_of pins d ≡ awake_stride 1 (pins_of d.kind pins) d
    quiet_up = quiet_cycle pins d r h ∙ up_stride pins d up 1

    -- a stride leaves the positions and what is watched
    watched_stays : watched (cycle_of pins d) ≡ watched d
    unfolding watched flags awake_stride stride_timers stride2 stride_serial
    watched_stays = ap watched quiet_up

    resting_after : working (cycle_of pins d) ≡ false
    unfolding working awake_stride stride_serial
    resting_after = ap working quiet_up ∙ resting

    up_idle : busy pins d ≡ false
    unfolding busy
    up_idle =
        rw up
        (or_neither (overflows pins d || working d) _ (or_neither (overflows pins d) (working d) no_overflow resting)
        (or_neither (working (cycle_of pins d)) _ resting_after
        (ap (λ (xs : List ℕ). not (same (watched d) xs)) watched_stays ∙ ap not (same_self (watched d)))))

  pub room_idle : busy pins d ≡ false
  room_idle = by_test (powered_down d.pcon) (down_idle pins d) up_idle

-- A cycle that is not busy: there is room. In power-down there is; here the device is out of it

-- no timer overflowed
record None (o : Overflows) : Type 0 where
  timer0 : o.timer0 ≡ 0
  th0 : o.th0 ≡ 0
  timer1 : o.timer1 ≡ 0
  timer2 : o.timer2 ≡ 0

none_overflowed : (o : Overflows) → overflowed o ≡ false → None o
none_overflowed o e =
    let zero = not (eqb o.timer0 0) in
    let high = not (eqb o.th0 0) in
    let one = not (eqb o.timer1 0) in
    let two = not (eqb o.timer2 0) in
    let left = or_left (zero || high) (one || two) e in
    let right = or_right (zero || high) (one || two) e in
    record {
      timer0 = not_differs o.timer0 (or_left zero high left);
      th0 = not_differs o.th0 (or_right zero high left);
      timer1 = not_differs o.timer1 (or_left one two right);
      timer2 = not_differs o.timer2 (or_right one two right);
    }

-- both positions rest
record Resting (d : Device) : Type 0 where
  sends : d.serial.send.position ≡ 0
  receives : d.serial.receive.position ≡ 0

none_working : (d : Device) → working d ≡ false → Resting d
unfolding working
none_working d e =
    let sending = not (eqb d.serial.send.position 0) in
    let receiving = not (eqb d.serial.receive.position 0) in
    record {
      sends = not_differs d.serial.send.position (or_left sending receiving e);
      receives = not_differs d.serial.receive.position (or_right sending receiving e);
    }

-- what is watched is the same in two devices
record Alike (d e : Device) : Type 0 where
  tf0 : bit TF0 d.timers.tcon ≡ bit TF0 e.timers.tcon
  tf1 : bit TF1 d.timers.tcon ≡ bit TF1 e.timers.tcon
  ie0 : bit IE0 d.timers.tcon ≡ bit IE0 e.timers.tcon
  ie1 : bit IE1 d.timers.tcon ≡ bit IE1 e.timers.tcon
  ri : bit RI d.serial.scon ≡ bit RI e.serial.scon
  ti : bit TI d.serial.scon ≡ bit TI e.serial.scon
  tf2 : bit TF2 d.timer2.t2con ≡ bit TF2 e.timer2.t2con
  exf2 : bit EXF2 d.timer2.t2con ≡ bit EXF2 e.timer2.t2con
  due0 : d.timers.due0 ≡ e.timers.due0
  due1 : d.timers.due1 ≡ e.timers.due1
  due2 : d.timer2.due2 ≡ e.timer2.due2
  seen : d.interrupts.seen ≡ e.interrupts.seen
  polled : d.interrupts.polled ≡ e.interrupts.polled
  levels : d.levels ≡ e.levels

same_watched : (d e : Device) → watched d ≡ watched e → Alike d e
unfolding watched flags
same_watched d e h =
    record {
      tf0 = cc;
      tf1 = cc;
      ie0 = cc;
      ie1 = cc;
      ri = cc;
      ti = cc;
      tf2 = cc;
      exf2 = cc;
      due0 = cc;
      due1 = cc;
      due2 = cc;
      seen = cc;
      polled = cc;
      levels = cc;
    }

-- the parts of busy
record Still (pins : ℕ) (d : Device) : Type 0 where
  up : powered_down d.pcon ≡ false
  overflow : None (overflows_of (counted d (pins_of d.kind pins)))
  before : Resting d
  after : Resting (steps d (pins_of d.kind pins))
  alike : Alike d (steps d (pins_of d.kind pins))

idle_still : (pins : ℕ) (d : Device) → powered_down d.pcon ≡ false → busy pins d ≡ false → Still pins d
unfolding busy overflows
idle_still pins d up idle =
    let e = steps d (pins_of d.kind pins) in
    let now = overflows pins d || working d in
    let alike = same (watched d) (watched e) in
    let parts = rw (up, cycle_up pins d up) at idle in
    let first = or_left now (working e || not alike) parts in
    let last = or_right now (working e || not alike) parts in
    record {
      up = up;
      overflow = none_overflowed _ (or_left (overflows pins d) (working d) first);
      before = none_working d (or_right (overflows pins d) (working d) first);
      after = none_working e (or_left (working e) (not alike) last);
      alike = same_watched d e (same_equal (watched d) (watched e) (not-false alike (or_right (working e) (not alike) last)));
    }

module _ (pins : ℕ) (d : Device) (r : Ranges d) (still : Still pins d) where
  -- the pin byte as the kind takes it
  l : ℕ
  l = pins_of d.kind pins

  levels : d.levels ≡ levels_of l
  unfolding steps l
  levels = still.alike.levels

  -- no pin falls
  fallen : (k : ℕ) → falls (levels_of l) l k ≡ 0 → falls d.levels l k ≡ 0
  fallen k e = ap (λ (saved : List ℕ). falls saved l k) levels ∙ e

  due0 : d.timers.due0 ≡ 0
  unfolding steps timers_after levels_of l
  due0 = still.alike.due0 ∙ fallen T0 (no_fall l T0 refl)

  due1 : d.timers.due1 ≡ 0
  unfolding steps timers_after levels_of l
  due1 = still.alike.due1 ∙ fallen T1 (no_fall l T1 refl)

  due2 : d.timer2.due2 ≡ 0
  unfolding steps timer2_after levels_of l
  due2 = still.alike.due2 ∙ fallen T2 (no_fall l T2 refl)

  -- step 2 sets no flag
  same_tcon : (counted d l).timers.timers.tcon ≡ d.timers.tcon
  unfolding counted timers_step l
  same_tcon =
      (λ i. timer_flags d.timers (still.overflow.timer0 i) (still.overflow.th0 i) (still.overflow.timer1 i)) ∙ no_flags d.timers

  tcon_after : (steps d l).timers.tcon ≡ externals (levels_of l) l d.timers.tcon
  unfolding steps timers_after l
  tcon_after = λ i. externals (levels i) l (same_tcon i)

  -- the flags stay, and so does what seen takes of them
  same_seen : seen_in d ≡ seen_in (steps d l)
  unfolding seen_of l
  same_seen =
      let a = still.alike in
      λ i. a.ie0 i + a.tf0 i * 2 + a.ie1 i * 4 + a.tf1 i * 8 + either (a.ri i) (a.ti i) * 16 + either (a.tf2 i) (a.exf2 i) * 32

  seen : d.interrupts.seen ≡ seen_in d
  unfolding steps timer2_after l
  seen = still.alike.seen ∙ sym same_seen

  -- no overflow set TF2, so that polled takes seen and nothing else
  unheard : (counted d l).timer2.tf2 ≡ 0
  unfolding counted l
  unheard = tf2_none d.timer2 (falls d.levels l T2EX) still.overflow.timer2

  polled : d.interrupts.polled ≡ seen_in d
  unfolding steps l
  polled =
      still.alike.polled
      ∙ (ap (λ (n : ℕ). flagged ET2 n d.interrupts.seen) unheard ∙ (flagged_none ET2 d.interrupts.seen ∙ seen))

  -- a start bit that waits would be found
  found : start_next (bit RXD l) d.serial ≡ true → (steps d l).serial.receive.position ≡ 1
  unfolding steps ticks_in l
  found w =
      (λ i. (serial_step (serial_ticks d.pcon d.timer2.t2con d.serial (still.overflow.timer1 i) (still.overflow.timer2 i)) (bit RXD l) d.serial).receive.position)
      ∙ start_found_lem d.pcon d.timer2.t2con d.serial r.serial (bit RXD l) still.before.sends still.before.receives w

  starts : start_next (bit RXD l) d.serial ≡ false
  unfolding l
  starts = go (start_next (bit RXD l) d.serial) refl
    where
      go : (w : Bool) → start_next (bit RXD l) d.serial ≡ w → w ≡ false
      go true e = absurd (omega (arith, found e, still.after.receives))
      go false e = refl

  still_room : 1 ≤ room pins d
  unfolding awake_room l counted
  still_room =
      let o = still.overflow in
      rw (
        up_room pins d still.up,
        rest_settled l d (record {
          awake = still.up;
          levels = levels;
          due0 = due0;
          due1 = due1;
          due2 = due2;
          level0 = externals_level0 l d.timers.tcon (still.alike.ie0 ∙ ap (bit IE0) tcon_after);
          level1 = externals_level1 l d.timers.tcon (still.alike.ie1 ∙ ap (bit IE1) tcon_after);
          sends = still.before.sends;
          receives = still.before.receives;
          starts = starts;
          seen = seen;
          polled = polled;
        }),
      )
      (le-min (timers_room_left l d.timers o.timer0 o.th0 o.timer1)
      (timer2_room_left d.timer2 (falls d.levels l T2EX) o.timer2))

-- The length of the run

pub no_room : (pins : ℕ) (d : Device) → Ranges d → room pins d ≡ 0 → busy pins d ≡ true
no_room pins d r h = go (busy pins d) refl
  where
    go : (x : Bool) → busy pins d ≡ x → x ≡ true
    go true e = refl
    go false e =
        by_test (powered_down d.pcon) (λ down. absurd (omega (arith, down_room pins d down)))
        (λ up. absurd (omega (arith, still_room pins d r (idle_still pins d up e))))

module _ (pins : ℕ) (d : Device) (r : Ranges d) where
  -- the room after m cycles of the run
  after_run : (m : ℕ) → m ≤ room pins d → room pins (cycles m pins d) ≡ room pins (stride m pins d)
  after_run m h = ap (room pins) (stride_law m pins d r h)

  -- no cycle of the run is busy
  pub quiet : (j : ℕ) → j < room pins d → busy pins (cycles j pins d) ≡ false
  quiet j h =
      room_idle pins (cycles j pins d) (cycles_ranges j pins d r)
      (omega (arith, after_run j (omega arith), room_left pins d 1 j (omega arith)))

  -- and after a run that is shorter than the longest jump the next cycle is
  pub busy_next : room pins d < longest → busy pins (cycles (room pins d) pins d) ≡ true
  busy_next h = no_room pins (cycles (room pins d) pins d) (cycles_ranges (room pins d) pins d r) (ended (room pins d) refl)
    where
      ended : (m : ℕ) → m ≡ room pins d → room pins (cycles m pins d) ≡ 0
      ended zero e = ap (room pins) (cycles_none 0 pins d (omega arith)) ∙ sym e
      ended (suc m) e =
          let here = after_run (suc m) (omega arith) in
          let on : (1 ≤ room pins (cycles (suc m) pins d)) → ⊥ =
          λ k. omega (arith, room_back pins d 1 (suc m) (omega arith) (omega arith) (omega arith) (omega arith) (omega arith)) in
          omega arith
