-- A trace run before its entry i: the entries from there on, from the device reached, end where all of them end, and their overflows with
-- those that were added up so far are those of all.
use Prim.Native.Nat.{ℕ, ◌+◌, ◌*◌, ◌^◌, ◌≤◌, ◌<◌}
use mathlib.Core.Path.{◌≡◌, refl, sym, ap, ◌∙◌}
use mathlib.Core.Bool.{true}
use mathlib.Core.List.{List}
use native.Mathlib.Omega.{arith}
use lib.ListN.{length, drop, get_or}
use Rattle.machine.specs.declared.Totals.{Totals}
use Rattle.machine.specs.declared.Device.{Device}
use Rattle.machine.specs.Record.{accepted}
use Rattle.machine.specs.Cycle.{cycles}
use Rattle.machine.specs.Totals.{no_totals, added, totals, Within}
use Rattle.machine.specs.Calls.{longest, most_entries, entry_pins, entry_cycles, trace_cycles, trace_totals}
use Rattle.record.proofs.Accepted.{ranges_of}
use Rattle.cycle.specs.declared.Run.{Run}
use Rattle.totals.proofs.Sums.{none_added, added_none, part_within, within_more}
use Rattle.jump.proofs.Keeps.{cycles_accepted}
use Rattle.traces.proofs.Traces.{trace_within, run_end, run_on, sum_end, sum_on}

pub record Running (es : List ℕ) (start : Device) (run : Run) (i : ℕ) : Type 0 where
  pub within : i ≤ length es
  pub good : accepted run.device ≡ true
  pub ends : trace_cycles (drop i es) run.device ≡ trace_cycles es start
  pub sums : added run.totals (trace_totals (drop i es) run.device) ≡ trace_totals es start
  pub most : Within (length es * 2 ^ 24) (trace_totals es start)

-- before the first
pub running_first : (es : List ℕ) (d : Device) {sum : Totals} → accepted d ≡ true → sum ≡ no_totals
    → Running es d (record { totals = sum; device = d }) 0
running_first es d a e =
    record {
      within = omega arith;
      good = a;
      ends = refl;
      sums = ap (λ (t : Totals). added t (trace_totals es d)) e ∙ none_added (trace_totals es d);
      most = trace_within es d (ranges_of d a);
    }

module _ {es : List ℕ} {start : Device} {run : Run} {i : ℕ} (r : Running es start run i) where
  -- there is room for the overflows of an entry
  pub running_within : length es ≤ most_entries → Within longest run.totals
  running_within l =
      within_more (part_within run.totals (trace_totals (drop i es) run.device) r.most r.sums) (omega arith)

  -- an entry
  pub running_on : i < length es → {n pins : ℕ} {x : Run} → n ≡ entry_cycles (get_or es i 0) → pins ≡ entry_pins (get_or es i 0)
      → x.device ≡ cycles n pins run.device → x.totals ≡ added run.totals (totals n pins run.device) → Running es start x (i + 1)
  running_on h {n} {pins} e f g k =
      record {
        within = omega arith;
        good = ap accepted g ∙ cycles_accepted n pins run.device r.good;
        ends = run_on es i h run.device e f g r.ends;
        sums = sum_on es i h run.device run.totals e f g k r.sums;
        most = r.most;
      }

  -- after the last
  module _ (h : length es ≤ i) where
    pub running_end : run.device ≡ trace_cycles es start
    running_end = sym (run_end es i run.device h) ∙ r.ends

    pub running_sum : run.totals ≡ trace_totals es start
    running_sum = sym (added_none run.totals) ∙ (ap (added run.totals) (sym (sum_end es i run.device h)) ∙ r.sums)
