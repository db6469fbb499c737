-- `pairs_ok` is the definition: an array is the list of its eight elements, and the two tests are those of each pair.
use borrow.Author.Rules.{rules}
use mathlib.Core.Path.{refl, ◌∙◌}
use lib.ListN.{get_or}
use Rattle.machine.specs.Times.{pairs_ok}
use Rattle.laws.proofs.Arrays.{elements, whole}
use Rattle.record.proofs.Pairs.{Wide, pairs_tested}
use Rattle.record.proofs.pairs_ok.Goals as goal

pub returns : goal.returns
returns c =
    let e = c.args.e in
    let n = c.args.n in
    let wide : Wide (elements 0 8 0 n) = (search (rules, c.well_formed), (search (rules, c.well_formed), (search (rules, c.well_formed), (search (rules, c.well_formed), (search (rules, c.well_formed), (search (rules, c.well_formed), (search (rules, c.well_formed), (search (rules, c.well_formed), tt)))))))) in
    simp (c.held-8.ensures, c.held-7.ensures, c.held-6.ensures, c.held-5.ensures, c.held-4.ensures, c.held-3.ensures, c.held-2.ensures, c.held.ensures)
    (pairs_tested (get_or e 0 0) (get_or n 0 0) (elements 0 7 1 e) (elements 0 7 1 n) refl wide ∙ (λ i. pairs_ok (whole 0 8 e (search (rules, c.well_formed)) i) (whole 0 8 n (search (rules, c.well_formed)) i)))
