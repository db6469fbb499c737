-- `values::narrow` looks at each value with its place: proofs/Room.antt's `narrow_listed`.
use mathlib.Core.Path.{◌∙◌}
use borrow.Author.Rules.{rules}
use Rattle.std.proofs.Common.{tests}
use Rattle.std.proofs.lemmas.Iterator.{YieldsList-from_slice}
use Rattle.std.proofs.lemmas.Iterator.Consumers.{YieldsList-from_enumerate}
use Rattle.std.proofs.lemmas.Iterator.Search.{all_from_yields_List}
use Rattle.values.proofs.Room.{has_room, narrow_listed}
use Rattle.values.proofs.narrow.Goals as goal

pub returns : goal.returns
returns c =
    all_from_yields_List has_room _ _ c.all.result c.all.ensures.ran
    (YieldsList-from_enumerate (YieldsList-from_slice c.args.v (cc)) (cc)) (λ x b q k. search (rules, tests))
    ∙ narrow_listed 0 c.args.v
