-- A jump takes at most 2 × busy cycles + 1 rounds: between two busy cycles, before the first and after the last there is at most one
-- longest run of others. By induction on the cycles.
use Prim.Native.Nat.{ℕ, ◌+◌, ◌≤◌}
use mathlib.Core.Bool.{Bool, true, false}
use mathlib.Core.List.{List, [], ◌∷◌}
use native.Mathlib.Omega.{arith}
use Rattle.machine.specs.declared.Device.{Device}
use Rattle.machine.specs.Rounds.{marks, busy_cycles, quiet_runs, rounds, Most}

runs_most : (ms : List Bool) → quiet_runs ms ≤ busy_cycles ms + 1
unfolding busy_cycles quiet_runs
runs_most [] = omega arith
runs_most (true ∷ ms) = omega (arith, runs_most ms)
runs_most (false ∷ []) = omega arith
runs_most (false ∷ true ∷ ms) = omega (arith, runs_most ms)
runs_most (false ∷ false ∷ ms) = runs_most (false ∷ ms)

pub rounds_most : (n pins : ℕ) (d : Device) → Most n pins d
unfolding rounds
rounds_most n pins d = omega (arith, runs_most (marks n pins d))
