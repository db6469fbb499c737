-- The rounds of a jump: what code makes of a round is one, and what it leaves of the cycles to make; by the laws of strides and of a
-- cycle.
use Prim.Native.Nat.{ℕ, zero, suc, ◌-◌, ◌≤◌, min}
use mathlib.Core.Path.{◌≡◌, refl, sym, ap, ◌∙◌, subst}
use mathlib.Core.Bool.{true}
use native.Mathlib.Nat.{add-sub_of_le}
use native.Mathlib.Omega.{arith}
use borrow.Author.Tests.{eq-eqb, ne_eqb}
use Rattle.machine.specs.declared.Totals.{Totals}
use Rattle.machine.specs.declared.Device.{Device}
use Rattle.machine.specs.Record.{accepted}
use Rattle.machine.specs.Cycle.{counted, overflows_of, steps, cycle_of, cycles}
use Rattle.machine.specs.Totals.{added, by_timer, totals}
use Rattle.record.proofs.Accepted.{ranges_of}
use Rattle.strides.specs.Stride.{room, room_at, stride, stride_at}
use Rattle.strides.proofs.Strides.{no_room_up, stride_law}
use Rattle.strides.proofs.Runs.{cycles_one, crossed_on}
use Rattle.strides.proofs.Totals.{totals_one, totals_add, quiet_totals}
use Rattle.totals.proofs.Sums.{added_none, added_on}
use Rattle.cycle.proofs.Steps.{cycle_reaches}
use Rattle.cycle.proofs.Totals.{totals_up}
use Rattle.cycle.specs.declared.Run.{Run}
use Rattle.jump.specs.declared.Round.{Round}
use Rattle.jump.specs.Rounds.{Ready, used_in, Crossed}
use Rattle.jump.proofs.Keeps.{cycles_ready}

-- a run with these totals so far
abbrev pub ran : Totals → Device → Run
ran sum d = record { totals = sum; device = d }

-- the room, the stride and the cycle, with the pin byte as the kind takes it
module _ (pins : ℕ) (d : Device) (r : Ready pins d) where
  pub room_is : {n : ℕ} → n ≡ room_at pins d → n ≡ room pins d
  unfolding room
  room_is e = e ∙ ap (λ (l : ℕ). room_at l d) (sym r.taken)

  pub stride_is : (m : ℕ) {u : Device} → u ≡ stride_at m pins d → u ≡ stride m pins d
  unfolding stride
  stride_is m e = e ∙ ap (λ (l : ℕ). stride_at m l d) (sym r.taken)

  cycle_is : room pins d ≡ 0 → {u : Device} → u ≡ steps d pins → u ≡ cycle_of pins d
  cycle_is z = cycle_reaches pins d (no_room_up pins d z) (sym r.taken)

  laps_are : room pins d ≡ 0 → by_timer (overflows_of (counted d pins)) ≡ totals 1 pins d
  laps_are z =
      ap (λ (l : ℕ). by_timer (overflows_of (counted d l))) (sym r.taken)
      ∙ (sym (totals_up pins d (no_room_up pins d z)) ∙ sym (totals_one pins d))

module _ (pins left : ℕ) (d : Device) where
  pub used_busy : room pins d ≡ 0 → used_in pins left d ≡ 1
  unfolding used_in
  used_busy z = simp (eq-eqb (room pins d) 0 z)

  pub used_quiet : 1 ≤ room pins d → used_in pins left d ≡ min (room pins d) left
  unfolding used_in
  used_quiet h = simp (ne_eqb (room pins d) 0 (λ e. omega arith))

  -- no room: a round is the next cycle
  pub round_busy : {u : Device} (sum : Totals) {t : Totals} → Ready pins d → u ≡ steps d pins
      → t ≡ added sum (by_timer (overflows_of (counted d pins))) → room pins d ≡ 0
      → Crossed pins left (ran sum d) (record { used = 1; run = ran t u })
  round_busy sum r e f z =
      record {
        used = sym (used_busy z);
        laps = f ∙ ap (added sum) (laps_are pins d r z);
        reaches = cycle_is pins d r z e ∙ sym (cycles_one pins d);
      }

  -- room: a round is a stride
  pub round_quiet : {m : ℕ} {u : Device} (sum : Totals) → accepted d ≡ true → 1 ≤ room pins d → m ≡ min (room pins d) left
      → u ≡ stride m pins d → Crossed pins left (ran sum d) (record { used = m; run = ran sum u })
  round_quiet {m} sum a h e f =
      record {
        used = e ∙ sym (used_quiet h);
        laps = sym (ap (added sum) (quiet_totals m pins d (ranges_of d a) (omega arith)) ∙ added_none sum);
        reaches = f ∙ sym (stride_law m pins d (ranges_of d a) (omega arith));
      }

-- a quiet run to the end
pub within_room : (pins left : ℕ) (d : Device) (y : Ready pins d) {n : ℕ} → n ≡ room_at pins d → left ≤ n → left ≤ room pins d
within_room pins left d y e h = subst (λ (m : ℕ). left ≤ m) (room_is pins d y e) h

-- a round of the cycles that are left
module _ (pins left : ℕ) (d : Device) {sum : Totals} {r : Round} (c : Crossed pins left (ran sum d) r) (some : 1 ≤ left) where
  -- it has at least one cycle, and at most those that are left
  pub round_used : (1 ≤ r.used) × (r.used ≤ left)
  round_used = go (room pins d) refl
    where
      go : (k : ℕ) → room pins d ≡ k → (1 ≤ r.used) × (r.used ≤ left)
      go zero e = omega (arith, c.used, used_busy pins left d e)
      go (suc k) e = omega (arith, c.used, used_quiet pins left d (omega arith))

  -- it leaves the device ready
  pub round_ready : Ready pins d → Ready pins r.run.device
  round_ready y = subst (Ready pins) (sym c.reaches) (cycles_ready r.used pins d y)

  -- the cycles that it leaves end where all of them end
  pub round_on : {v : Device} → cycles left pins d ≡ v → cycles (left - r.used) pins r.run.device ≡ v
  round_on i = crossed_on pins d round_used.1 c.reaches i

  -- the overflows of the cycles that it leaves, with those that were added up, are those of all
  pub round_sum : {v : Totals} → added sum (totals left pins d) ≡ v
      → added r.run.totals (totals (left - r.used) pins r.run.device) ≡ v
  round_sum i =
      let rest = totals (left - r.used) pins (cycles r.used pins d) in
      (λ j. added (c.laps j) (totals (left - r.used) pins (c.reaches j)))
      ∙ (added_on sum (totals r.used pins d) rest
      ∙ (ap (added sum) (sym (totals_add r.used (left - r.used) pins d) ∙ ap (λ (k : ℕ). totals k pins d) (add-sub_of_le round_used.1))
      ∙ i))
