-- The entries from one on have the same first bad entry as all, since those before are good.
use Rattle.std.proofs.Common.{sym, ap, ◌∙◌, rules}
use Rattle.std.proofs.lemmas.Result.{err_from_is_err_and}
use borrow.Author.Tests.{le-leb}
use Rattle.machine.specs.Calls.{trace_fault}
use Rattle.machine.specs.Outcomes.{code_of}
use Rattle.machine.proofs.Outcomes.{number_some}
use Rattle.traces.proofs.Traces.{bad_end, bad_here, bad_on}
use Rattle.traces.proofs.trace_fault.Goals as goal

pub returns-in_err-entry_fault : goal.returns-in_err-entry_fault
unfolding trace_fault
returns-in_err-entry_fault c =
    let es = c.args.entries.now in
    let l = c.loop-e in
    let r = err_from_is_err_and c.from_residual.result c.from_residual.ensures.1 in
    let bad = c.in_err-entry_fault.ensures in
    let here = bad_here es l.e-index c.loop-e-test.true (λ e. number_some c.in_err-entry_fault.field-0.0 (bad ∙ e)) in
    rw (r.1, r.2) (simp (le-leb _ _ l.invariant.1) (bad ∙ sym here ∙ l.invariant.2))

pub loop-e-preserved : goal.loop-e-preserved
loop-e-preserved c =
    let es = c.args.entries.now in
    let l = c.loop-e in
    (search rules, search rules, sym (bad_on es l.e-index c.loop-e-test.true (sym c.entry_fault.ensures ∙ ap code_of c.in_ok-entry_fault.was)) ∙ l.invariant.2)

pub returns : goal.returns
unfolding trace_fault
returns c =
    let es = c.args.entries.now in
    let l = c.loop-e in
    simp (le-leb _ _ l.invariant.1) (sym (bad_end es l.e-index c.loop-e-test.false) ∙ l.invariant.2)
