use mathlib.Core.Path.{◌≡◌}
use Prim.Native.Nat.{◌≤◌}
use lib.ListN.{length, drop}
use Rattle.machine.specs.Calls.{first_bad}
use Rattle.traces.proofs.trace_fault.Given as goal

abbrev pub invariant-loop-e : goal.invariant-loop-e
invariant-loop-e l =
    (l.e-index ≤ length l.entries) × (length l.entries ≤ 65536) × (first_bad (drop l.e-index l.entries) ≡ first_bad l.entries)
