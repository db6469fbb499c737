-- A look ahead answers what the plain machine answers: the number that refuses it, or the first rise.
use mathlib.Core.Path.{ap, sym}
use borrow.Author.Tests.{eq-eqb}
use Rattle.std.proofs.lemmas.Result.{err_from_is_err_and}
use Rattle.machine.specs.Answers.LookAnswer.{Refused}
use Rattle.machine.specs.Calls.{look_answer}
use Rattle.machine.specs.Lists.{play, reply_of_look}
use Rattle.jump.proofs.Taken.{ready_taken}
use Rattle.looks.proofs.Taken.{rise_taken}
use Rattle.laws.proofs.Guards.{told}
use Rattle.c51_run.proofs.Faults.{refuses, made}
use Rattle.c51_run.proofs.look.Goals as goal

pub returns-in_err-judged : goal.returns-in_err-judged
unfolding look_answer play
returns-in_err-judged c =
    let r = err_from_is_err_and c.from_residual.result c.from_residual.ensures.1 in
    let bad = c.in_err-judged.ensures in
    told reply_of_look (rw (r.1, r.2, refuses _ bad) (ap Refused bad))

pub first_rise-requires : goal.first_rise-requires
first_rise-requires c =
    let x = c.args in
    let m = made x.d x.pins x.n c.in_ok-judged.ensures in
    (ready_taken x.pins x.d c.pins_of.ensures m.good, m.within)

pub returns : goal.returns
unfolding look_answer play
returns c =
    let x = c.args in
    let first = rise_taken x.pins x.d c.pins_of.ensures x.n c.first_rise.ensures in
    told reply_of_look (rw (eq-eqb _ _ (sym c.in_ok-judged.ensures)) first)
