-- `part` is the definition: what `get` finds of the range, or nothing where it finds none.
use native.Mathlib.Omega.{arith}
use lib.Dec.{leb}
use lib.ListN.{length}
use borrow.Author.Tests.{le-leb, leb-true}
use Rattle.machine.proofs.Choices.{by_test}
use Rattle.calls.specs.Row.{part_of}
use Rattle.calls.proofs.part.Goals as goal

pub returns-in-Some : goal.returns-in-Some
unfolding part_of
returns-in-Some c =
    let found = c.in-Some.ensures.lookup in
    simp (le-leb _ _ found.0.0, le-leb _ _ found.0.1) found.0.2

pub returns-in-None : goal.returns-in-None
unfolding part_of
returns-in-None c =
    by_test (leb c.args.start c.args.end)
    (λ a. by_test (leb c.args.end (length c.args.lent.now))
    (λ b. let h = leb-true _ _ a in let k = leb-true _ _ b in absurd (omega (arith, c.in-None.ensures.lookup.0)))
    (λ b. simp (a, b)))
    (λ a. simp a)
