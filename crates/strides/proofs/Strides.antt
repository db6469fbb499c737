-- The stride law: as many cycles as there is room for are one stride; a quiet cycle is a stride of 1, the room shrinks by
-- 1, strides add up, and so on by induction.
use Prim.Native.Nat.{ℕ, zero, suc, ◌+◌, ◌≤◌, min}
use mathlib.Core.Path.{◌≡◌, refl, sym, ap, ◌∙◌}
use mathlib.Core.Bool.{Bool, true, false, cond}
use native.Mathlib.Nat.{le_refl, le-min, le_trans, min-le_left, min-le_right}
use native.Mathlib.Omega.{arith}
use Rattle.machine.specs.declared.Counted.{Counted}
use Rattle.machine.specs.declared.Device.{Device}
use Rattle.machine.specs.Bits.{bit}
use Rattle.machine.specs.Registers.{RXD, T2EX, SMOD}
use Rattle.machine.specs.Power.{powered_down}
use Rattle.machine.specs.Record.{pins_of, levels_of}
use Rattle.machine.specs.Timer2.{timer2_step}
use Rattle.machine.specs.Cycle.{falls, counted, overflows_of, ticks_in, steps, cycle_of, cycles}
use Rattle.machine.specs.Calls.{longest}
use Rattle.laws.specs.Ranges.{Ranges}
use Rattle.machine.proofs.Choices.{chosen, by_test, and_two, and_both}
use Rattle.cycle.proofs.Keeps.{cycle_ranges}
use Rattle.cycle.proofs.Steps.{cycle_up}
use Rattle.laws.proofs.Sleep.{cycle_down}
use Rattle.strides.specs.Stride.{timers_settled, serial_settled, others_settled, settled_at, room_timers, room2, awake_room, room_at, stride_timers, stride2, stride_serial, with_parts, awake_stride, stride_at, room, stride}
use Rattle.strides.proofs.Settles.{Rest, settled_rest, no_fall}
use Rattle.strides.proofs.Steps.{fallen, steps_rest}
use Rattle.strides.proofs.Runs.{number_none, number_more}
use Rattle.strides.proofs.Timers.{quiet_timers, timers_none, timers_more, timers_left, timers_back}
use Rattle.strides.proofs.Timer2.{quiet_timer2, timer2_none, timer2_more, timer2_left, timer2_back}
use Rattle.strides.proofs.Serial.{quiet_serial, serial_none, serial_more, serial_settled_lem}

-- One cycle

-- steps 2 and 3 of a quiet cycle: each timer that counts moves by 1, and none overflows
quiet_counted : ℕ → Device → Counted
quiet_counted l d =
    record {
      timers = record { timers = stride_timers 1 l d.timers; overflow0 = 0; overflow_th0 = 0; overflow1 = 0 };
      timer2 = record { timer2 = stride2 1 d.timer2; overflows = 0; tf2 = 0 };
    }

module _ (l : ℕ) (d : Device) (r : Ranges d) (s : Rest l d) (h : 1 ≤ room_timers l d.timers) (k : 1 ≤ room2 d.timer2) where
  counted_quiet : counted d l ≡ quiet_counted l d
  unfolding counted quiet_counted levels_of
  counted_quiet = λ i. record { timers = quiet_timers l d.timers h i; timer2 = two i }
    where
      two : timer2_step d.timer2 (falls d.levels l T2EX) ≡ record { timer2 = stride2 1 d.timer2; overflows = 0; tf2 = 0 }
      two = ap (timer2_step d.timer2) (fallen l d s T2EX (no_fall l T2EX refl)) ∙ quiet_timer2 d.timer2 s.due2 r.timer2.tl2 k

  pub overflows_quiet : overflows_of (counted d l) ≡ record { timer0 = 0; th0 = 0; timer1 = 0; timer2 = 0 }
  unfolding quiet_counted
  overflows_quiet = ap overflows_of counted_quiet

  quiet_steps : steps d l ≡ awake_stride 1 l d
  unfolding quiet_counted ticks_in awake_stride stride_timers stride2 stride_serial
  quiet_steps =
      steps_rest l d s (quiet_counted l d) _ counted_quiet
      (quiet_serial d.pcon d.timer2.t2con d.serial r.serial (bit RXD l) s.sends s.receives s.starts)
      (record { tcon = refl; due0 = refl; due1 = refl; t2con = refl; due2 = refl; scon = refl; tf2 = refl })

-- Strides out of power-down

-- the room of a settled device
room_units : (l : ℕ) (d : Device) → settled_at l d ≡ true → awake_room l d ≡ min (room_timers l d.timers) (room2 d.timer2)
unfolding awake_room
room_units l d e = simp e

module _ (m l : ℕ) (d : Device) where
  settled_stays : settled_at l d ≡ true → settled_at l (awake_stride m l d) ≡ true
  unfolding settled_at others_settled timers_settled awake_stride stride_timers stride2 stride_serial
  settled_stays e =
      let parts = and_two (serial_settled (bit RXD l) d.serial) (others_settled l d) e in
      and_both _ (others_settled l d) (serial_settled_lem (bit SMOD d.pcon) (bit RXD l) d.serial m parts.0) parts.1

  -- the room bounds that of each unit
  room_most : awake_room l d ≤ min (room_timers l d.timers) (room2 d.timer2)
  unfolding awake_room
  room_most =
      let least = min (room_timers l d.timers) (room2 d.timer2) in
      chosen (λ (n : ℕ). n ≤ least) (settled_at l d) least 0 (le_refl least) (omega arith)

  pub room_timers_lem : m ≤ awake_room l d → m ≤ room_timers l d.timers
  room_timers_lem h = le_trans h (le_trans room_most (min-le_left _ _))

  pub room_timer2 : m ≤ awake_room l d → m ≤ room2 d.timer2
  room_timer2 h = le_trans h (le_trans room_most (min-le_right _ _))

  -- strides add up
  more_at : awake_stride m l (awake_stride 1 l d) ≡ awake_stride (suc m) l d
  unfolding awake_stride
  more_at =
      λ i. with_parts (number_more m d.cycle i) (timers_more l d.timers m i) (timer2_more d.timer2 m i)
      (serial_more (bit SMOD d.pcon) (bit RXD l) d.serial m i) d

-- room for k cycles after m: room for k after a stride of m
left_at : (k m l : ℕ) (d : Device) → settled_at l d ≡ true → k + m ≤ awake_room l d → k ≤ awake_room l (awake_stride m l d)
unfolding awake_stride
left_at k m l d e h =
    rw (room_units l (awake_stride m l d) (settled_stays m l d e))
    (le-min (timers_left l d.timers k m (room_timers_lem (k + m) l d h)) (timer2_left d.timer2 k m (room_timer2 (k + m) l d h)))

-- and the other way round, within a jump
back_at : (k m l : ℕ) (d : Device) → settled_at l d ≡ true → 1 ≤ k → k + m ≤ longest
    → k ≤ awake_room l (awake_stride m l d) → k + m ≤ awake_room l d
unfolding awake_stride
back_at k m l d e p q h =
    let r = rw (room_units l (awake_stride m l d) (settled_stays m l d e)) at h in
    rw (room_units l d e)
    (le-min (timers_back l d.timers k m p q (le_trans r (min-le_left _ _))) (timer2_back d.timer2 k m p q (le_trans r (min-le_right _ _))))

-- a device with room is settled
room_settled : (l : ℕ) (d : Device) → 1 ≤ awake_room l d → settled_at l d ≡ true
unfolding awake_room
room_settled l d = go (settled_at l d)
  where
    go : (b : Bool) → 1 ≤ cond b (min (room_timers l d.timers) (room2 d.timer2)) 0 → b ≡ true
    go true h = refl
    go false h = absurd (omega arith)

-- no cycle is no stride
none_at : (l : ℕ) (d : Device) → Ranges d → awake_stride 0 l d ≡ d
unfolding awake_stride
none_at l d r =
    λ i. with_parts (number_none d.cycle r.cycle i) (timers_none l d.timers r.timers.tl0 r.timers.tl1 i)
    (timer2_none d.timer2 r.timer2.tl2 i) (serial_none (bit SMOD d.pcon) (bit RXD l) d.serial r.serial i) d

-- The three facts, and the law

module _ (pins : ℕ) (d : Device) where
  -- in power-down
  module _ (t : powered_down d.pcon ≡ true) where
    pub down_room : room pins d ≡ longest
    unfolding room room_at
    down_room = rw t

    pub down_stride : (m : ℕ) → stride m pins d ≡ d
    unfolding stride stride_at
    down_stride m = rw t

  -- where there is no room, it is out of power-down
  pub no_room_up : room pins d ≡ 0 → powered_down d.pcon ≡ false
  no_room_up z = by_test (powered_down d.pcon) (λ t. absurd (omega (arith, down_room t))) (λ f. f)

  -- out of it
  module _ (f : powered_down d.pcon ≡ false) where
    pub up_room : room pins d ≡ awake_room (pins_of d.kind pins) d
    unfolding room room_at
    up_room = rw f

    pub up_stride : (m : ℕ) → stride m pins d ≡ awake_stride m (pins_of d.kind pins) d
    unfolding stride stride_at
    up_stride m = rw f

    -- and after a stride
    up_on : (m : ℕ) → room pins (stride m pins d) ≡ awake_room (pins_of d.kind pins) (awake_stride m (pins_of d.kind pins) d)
    unfolding room room_at awake_stride
    up_on m = ap (room pins) (up_stride m) ∙ rw f

    up_more : (m : ℕ) → stride m pins (awake_stride 1 (pins_of d.kind pins) d) ≡ awake_stride (suc m) (pins_of d.kind pins) d
    unfolding stride stride_at awake_stride
    up_more m = rw f (more_at m (pins_of d.kind pins) d)

    pub up_rest : 1 ≤ room pins d → Rest (pins_of d.kind pins) d
    up_rest h = settled_rest (pins_of d.kind pins) d (room_settled (pins_of d.kind pins) d (rw up_room at h))

  pub quiet_cycle : Ranges d → 1 ≤ room pins d → cycle_of pins d ≡ stride 1 pins d
  quiet_cycle r h =
      by_test (powered_down d.pcon) (λ t. cycle_down d t pins ∙ sym (down_stride t 1))
      (λ f.
      let l = pins_of d.kind pins in
      let k = rw (up_room f) at h in
      cycle_up pins d f ∙ (quiet_steps l d r (up_rest f h) (room_timers_lem 1 l d k) (room_timer2 1 l d k) ∙ sym (up_stride f 1)))

  pub room_left : (k m : ℕ) → k + m ≤ room pins d → k ≤ room pins (stride m pins d)
  room_left k m h =
      by_test (powered_down d.pcon) (λ t. rw (down_stride t m) (omega arith))
      (λ f. rw (up_on f m) (go k (rw (up_room f) at h)))
    where
      go : (k : ℕ) → k + m ≤ awake_room (pins_of d.kind pins) d
          → k ≤ awake_room (pins_of d.kind pins) (awake_stride m (pins_of d.kind pins) d)
      go zero h = omega arith
      go (suc k) h =
          let l = pins_of d.kind pins in
          left_at (suc k) m l d (room_settled l d (omega arith)) h

  pub room_back : (k m : ℕ) → 1 ≤ m → m ≤ room pins d → 1 ≤ k → k + m ≤ longest
      → k ≤ room pins (stride m pins d) → k + m ≤ room pins d
  room_back k m some g p q h =
      by_test (powered_down d.pcon) (λ t. rw (down_room t) q)
      (λ f.
      let l = pins_of d.kind pins in
      let here = rw (up_room f) at g in
      rw (up_room f) (back_at k m l d (room_settled l d (omega arith)) p q (rw (up_on f m) at h)))

  stride_more : (m : ℕ) → stride m pins (stride 1 pins d) ≡ stride (suc m) pins d
  stride_more m =
      by_test (powered_down d.pcon) (λ t. ap (stride m pins) (down_stride t 1) ∙ (down_stride t m ∙ sym (down_stride t (suc m))))
      (λ f. ap (stride m pins) (up_stride f 1) ∙ (up_more f m ∙ sym (up_stride f (suc m))))

  stride_none : Ranges d → stride 0 pins d ≡ d
  stride_none r =
      by_test (powered_down d.pcon) (λ t. down_stride t 0) (λ f. up_stride f 0 ∙ none_at (pins_of d.kind pins) d r)

  -- a quiet cycle leaves the rest of the room
  pub cycle_room : Ranges d → (m : ℕ) → suc m ≤ room pins d → m ≤ room pins (cycle_of pins d)
  cycle_room r m h = rw (quiet_cycle r (omega arith)) (room_left m 1 (omega arith))

pub stride_law : (m pins : ℕ) (d : Device) → Ranges d → m ≤ room pins d → cycles m pins d ≡ stride m pins d
unfolding cycles
stride_law zero pins d r h = sym (stride_none pins d r)
stride_law (suc m) pins d r h =
    stride_law m pins (cycle_of pins d) (cycle_ranges d r pins) (cycle_room pins d r m h)
    ∙ (ap (stride m pins) (quiet_cycle pins d r (omega arith)) ∙ stride_more pins d m)
