use Rattle.traces.proofs.Running.{Running}
use Rattle.traces.proofs.run_entries.Given as goal

abbrev pub invariant-loop-e : goal.invariant-loop-e
invariant-loop-e l = Running l.entries l.initial.run.device l.run l.e-index
