-- A jump answers what the plain machine answers: the number that refuses it, or the cycles of the run, their overflows and their rounds.
use Prim.Native.Nat.{ℕ}
use mathlib.Core.Path.{sym, ap, ◌∙◌}
use borrow.Author.Tests.{eq-eqb}
use Rattle.std.proofs.lemmas.Result.{err_from_is_err_and}
use Rattle.machine.specs.declared.Totals.{Totals}
use Rattle.machine.specs.Totals.{added, totals}
use Rattle.machine.specs.Calls.{longest, refuse_jump, passed_jump, jump_answer}
use Rattle.totals.proofs.Sums.{none_added, none_within}
use Rattle.jump.proofs.Taken.{ready_taken, run_taken, laps_taken, count_taken}
use Rattle.c51_run.proofs.Faults.{refuses, made}
use Rattle.c51_run.proofs.jump.Goals as goal

pub returns-in_err-judged : goal.returns-in_err-judged
unfolding jump_answer
returns-in_err-judged c =
    let r = err_from_is_err_and c.from_residual.result c.from_residual.ensures.1 in
    let bad = c.in_err-judged.ensures in
    rw (r.1, r.2, refuses _ bad) (ap (λ (k : ℕ). refuse_jump k c.args.d.now) bad)

pub advance-r-requires : goal.advance-r-requires
advance-r-requires c =
    let x = c.args in
    let d = x.d.now in
    let m = made d x.pins x.n c.in_ok-judged.ensures in
    (ready_taken x.pins d c.pins_of.ensures m.good, m.within, none_within c.none.ensures longest)

pub returns : goal.returns
unfolding jump_answer
returns c =
    let x = c.args in
    let d = x.d.now in
    let ran = run_taken x.pins d c.pins_of.ensures x.n c.advance-r.ensures.2 in
    let sum = laps_taken x.pins d c.pins_of.ensures x.n _ c.advance-r.ensures.1 in
    let count = count_taken x.pins d c.pins_of.ensures x.n c.advance-r.ensures.0 in
    let laps = sum ∙ (ap (λ (t : Totals). added t (totals x.n x.pins d)) c.none.ensures ∙ none_added (totals x.n x.pins d)) in
    rw (eq-eqb _ _ (sym c.in_ok-judged.ensures)) (λ i. passed_jump (laps i) (count i) (ran i))
