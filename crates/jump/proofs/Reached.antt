-- A jump between its rounds, `Reached`: before the first, over a round, over the rest at once, and after the last.
use Prim.Native.Nat.{ℕ, zero, suc, ◌+◌, ◌-◌, ◌≤◌}
use mathlib.Core.Path.{◌≡◌, refl, sym, ap, ◌∙◌}
use native.Mathlib.Omega.{arith}
use Rattle.machine.specs.declared.Totals.{Totals}
use Rattle.machine.specs.declared.Device.{Device}
use Rattle.machine.specs.Cycle.{cycles}
use Rattle.machine.specs.Totals.{added, totals, Within}
use Rattle.machine.specs.Rounds.{marks, busy_cycles, quiet_runs, rounds}
use Rattle.machine.specs.Calls.{longest}
use Rattle.record.proofs.Accepted.{ranges_of}
use Rattle.cycle.specs.declared.Run.{Run}
use Rattle.strides.proofs.Runs.{cycles_none}
use Rattle.strides.proofs.Totals.{totals_none, totals_within}
use Rattle.totals.specs.Fit.{Fit, Low}
use Rattle.totals.proofs.Sums.{added_none, part_within, both_within, within_low, within_fits}
use Rattle.jump.specs.declared.Round.{Round}
use Rattle.jump.specs.Rounds.{Ready, Crossed, whole, Reached}
use Rattle.jump.proofs.Rounds.{round_used, round_ready, round_on, round_sum}
use Rattle.jump.proofs.Busy.{crossed_round, round_counts, rounds_within}

-- no cycles have no rounds
rounds_none : (n pins : ℕ) (d : Device) → n ≤ 0 → rounds n pins d ≡ 0
unfolding rounds marks busy_cycles quiet_runs
rounds_none zero pins d h = refl
rounds_none (suc n) pins d h = absurd (omega arith)

-- before the first round
pub reached_first : (pins n : ℕ) (start : Run) → Ready pins start.device → Within longest start.totals → Reached pins n start start n 0
reached_first pins n start y w =
    record {
      ready = y;
      within = omega arith;
      ends = refl;
      sums = refl;
      most = both_within w (totals_within n pins start.device (ranges_of start.device y.good));
      counts = omega arith;
    }

module _ {pins n : ℕ} {start run : Run} {left done : ℕ} (r : Reached pins n start run left done) where
  -- there is room for the overflows of a cycle
  pub reached_low : n ≤ longest → Low run.totals
  reached_low h = within_low (part_within run.totals (totals left pins run.device) r.most r.sums) (omega arith)

  -- a round
  pub reached_on : n ≤ longest → 1 ≤ left → {x : Round} → Crossed pins left run x → Reached pins n start x.run (left - x.used) (done + 1)
  reached_on h some {x} c =
      let same : rounds (left - x.used) pins x.run.device ≡ rounds (left - x.used) pins (cycles x.used pins run.device) =
      ap (rounds (left - x.used) pins) c.reaches in
      let used = round_used pins left run.device c some in
      let first = round_counts pins left run.device some (crossed_round pins left run.device r.ready.good some (omega (arith, r.within)) run.totals x c) in
      record {
        ready = round_ready pins left run.device c some r.ready;
        within = omega (arith, r.within, used);
        ends = round_on pins left run.device c some r.ends;
        sums = round_sum pins left run.device c some r.sums;
        most = r.most;
        counts = omega (arith, r.counts, first, same);
      }

  -- the rest at once
  module _ {t : Totals} (e : totals left pins run.device ≡ t) where
    pub rest_sums : added run.totals t ≡ whole pins n start
    rest_sums = ap (added run.totals) (sym e) ∙ r.sums

    pub rest_fits : n ≤ longest → Fit (added run.totals t)
    rest_fits h = rw rest_sums (within_fits r.most (omega arith))

  module _ {m : ℕ} (e : rounds left pins run.device ≡ m) where
    pub rest_counts : done + m ≡ rounds n pins start.device
    rest_counts = omega (arith, e, r.counts)

    pub rest_few : done + m ≤ n
    rest_few = omega (arith, rest_counts, rounds_within n pins start.device)

  -- after the last
  module _ (none : left ≤ 0) where
    pub reached_end : run.device ≡ cycles n pins start.device
    reached_end = sym (cycles_none left pins run.device none) ∙ r.ends

    pub reached_sum : run.totals ≡ whole pins n start
    reached_sum = sym (added_none run.totals) ∙ (ap (added run.totals) (sym (totals_none left pins run.device none)) ∙ r.sums)

    pub reached_count : done ≡ rounds n pins start.device
    reached_count = omega (arith, r.counts, rounds_none left pins run.device none)
