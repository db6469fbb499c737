-- A wake look answers what the plain machine answers: the number that refuses it, or the first offer.
use mathlib.Core.Path.{ap, sym}
use borrow.Author.Tests.{eq-eqb}
use Rattle.std.proofs.lemmas.Result.{err_from_is_err_and}
use Rattle.machine.specs.Answers.LookAnswer.{Refused}
use Rattle.machine.specs.Calls.{wake_answer}
use Rattle.machine.specs.Lists.{play, reply_of_look}
use Rattle.jump.proofs.Taken.{ready_taken}
use Rattle.looks.proofs.Taken.{offer_taken}
use Rattle.laws.proofs.Guards.{told}
use Rattle.c51_run.proofs.Faults.{refuses, made}
use Rattle.c51_run.proofs.wake.Goals as goal

pub returns-in_err-judged : goal.returns-in_err-judged
unfolding wake_answer play
returns-in_err-judged c =
    let r = err_from_is_err_and c.from_residual.result c.from_residual.ensures.1 in
    let bad = c.in_err-judged.ensures in
    told reply_of_look (rw (r.1, r.2, refuses _ bad) (ap Refused bad))

pub first_offer-requires : goal.first_offer-requires
first_offer-requires c =
    let x = c.args in
    let m = made x.d x.pins x.n c.in_ok-judged.ensures in
    (ready_taken x.pins x.d c.pins_of.ensures m.good, m.within)

pub returns : goal.returns
unfolding wake_answer play
returns c =
    let x = c.args in
    let first = offer_taken x.pins x.d c.pins_of.ensures x.n c.first_offer.ensures in
    told reply_of_look (rw (eq-eqb _ _ (sym c.in_ok-judged.ensures)) first)
