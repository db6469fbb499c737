-- Every call in which time passes keeps an accepted record accepted: the device of its answer is the one given or one that cycles
-- reach from it.
use mathlib.Core.Path.{◌≡◌}
use mathlib.Core.Bool.{true}
use mathlib.Core.List.{List}
use Prim.Native.Nat.{ℕ}
use lib.Dec.{eqb}
use Rattle.machine.proofs.Choices.{by_test}
use Rattle.machine.specs.declared.Device.{Device}
use Rattle.machine.specs.Record.{accepted, pins_ok}
use Rattle.machine.specs.Calls.{cycle_answer, cycles_fault, jump_answer, trace_answer, trace_fault}
use Rattle.cycle.proofs.Keeps.{cycle_accepted}
use Rattle.jump.proofs.Keeps.{cycles_accepted}
use Rattle.traces.proofs.Keeps.{trace_accepted}

module _ (d : Device) (a : accepted d ≡ true) where
  pub cycle_kept : (pins : ℕ) → accepted (cycle_answer d pins).device ≡ true
  unfolding cycle_answer
  cycle_kept pins =
      rw a (by_test (pins_ok pins) (λ good. rw good (cycle_accepted pins d a)) (λ bad. rw bad a))

  pub jump_kept : (pins n : ℕ) → accepted (jump_answer d pins n).device ≡ true
  unfolding jump_answer
  jump_kept pins n =
      by_test (eqb (cycles_fault d pins n) 0) (λ good. rw good (cycles_accepted n pins d a)) (λ bad. rw bad a)

  pub trace_kept : (es : List ℕ) → accepted (trace_answer d es).device ≡ true
  unfolding trace_answer
  trace_kept es =
      rw a
      (by_test (eqb (trace_fault es) 0) (λ good. rw good (trace_accepted es d a)) (λ bad. rw bad a))
