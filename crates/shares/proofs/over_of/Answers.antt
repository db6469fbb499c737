-- `over_of` is its definition: what is over after some wishes is the slice less their first parts.
use Rattle.std.proofs.Common.{◌-◌, ◌≡◌, rules}
use Rattle.std.proofs.lemmas.Fn.{fold_over}
use Rattle.std.proofs.lemmas.Iterator.{YieldsList-from_slice}
use Rattle.std.proofs.iter.Yields.{fronts}
use Rattle.slices.specs.Shares.{total, first_parts}
use Rattle.shares.proofs.Rounds.{over_none, over_more}
use Rattle.shares.proofs.over_of.Goals as goal

pub returns : goal.returns
returns c =
    let a = c.args in
    fold_over fronts (λ y. y.now) _ (λ ws left. left ≡ a.b - total (first_parts a.part ws)) _
    (λ ws left w more q j k. (over_more a.b a.part w.now left more ws j (search rules), search rules))
    _ a.wishes.now a.b c.fold.result (YieldsList-from_slice a.wishes.now cc).runs (over_none a.b a.part) c.fold.ensures.ran
