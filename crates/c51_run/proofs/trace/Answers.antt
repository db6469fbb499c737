-- A trace run answers what the plain machine answers: the record, then the entries judged whole, then their cycles in turn and the
-- overflows in them.
use Prim.Native.Nat.{ℕ}
use mathlib.Core.Path.{ap, sym}
use borrow.Author.Tests.{eq-eqb}
use Rattle.std.proofs.lemmas.Result.{err_from_is_err_and}
use Rattle.machine.specs.Calls.{refuse_run, passed_run, trace_answer}
use Rattle.laws.proofs.Guards.{yes}
use Rattle.c51_run.proofs.Faults.{refuses, few_entries}
use Rattle.c51_run.proofs.trace.Goals as goal

pub returns-in_err-trace_fault : goal.returns-in_err-trace_fault
unfolding trace_answer
returns-in_err-trace_fault c =
    let r = err_from_is_err_and c.from_residual.result c.from_residual.ensures.1 in
    let bad = c.in_err-trace_fault.ensures in
    rw (yes c.accepts.ensures c.if-not-accepts.false, r.1, r.2, refuses _ bad)
    (ap (λ (k : ℕ). refuse_run k c.args.d.now) bad)

pub run_entries-r-requires : goal.run_entries-r-requires
run_entries-r-requires c =
    (yes c.accepts.ensures c.if-not-accepts.false, few_entries _ c.in_ok-trace_fault.ensures)

pub returns : goal.returns
unfolding trace_answer
returns c =
    let ran = c.run_entries-r.ensures in
    rw (yes c.accepts.ensures c.if-not-accepts.false, eq-eqb _ _ (sym c.in_ok-trace_fault.ensures)) (λ i. passed_run (ran.0 i) (ran.1 i))
