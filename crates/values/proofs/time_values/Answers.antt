-- `values::time_values`: an array is the list of its elements.
use mathlib.Core.Path.{◌≡◌, refl, ◌∙◌}
use native.Mathlib.Omega.{arith}
use lib.Seq.{ext_get_or}
use borrow.Author.Rules.{rules}
use Rattle.machine.specs.Checkpoint.{times_listed}
use Rattle.laws.proofs.Arrays.{elements, whole}
use Rattle.values.proofs.time_values.Goals as goal

pub returns : goal.returns
unfolding times_listed
returns c =
    let same : c.map-e.result ≡ c.args.e =
    ext_get_or 0 _ _ (search (rules, c.well_formed)) (λ i h. let f = c.map-e.ensures.items.at i 0 0 (omega arith) in search (rules, f.2.met)) in
    let e = whole 0 8 c.args.e (search (rules, c.well_formed)) in
    let n = whole 0 8 c.args.n (search (rules, c.well_formed)) in
    ((λ k. times_listed (elements 0 8 0 (same k)) (elements 0 8 0 c.args.n)) ∙ (λ k. times_listed (e k) (n k)), refl)
