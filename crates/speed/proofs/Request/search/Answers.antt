-- `search` is its definition, by the first nearest pair.
use Rattle.std.proofs.Common.{sym, ap, ◌∙◌}
use Rattle.laws.proofs.Guards.{yes, no}
use Rattle.baud.specs.Speed.{found}
use Rattle.speed.proofs.Fractions.{denominator_positive}
use Rattle.speed.proofs.Nearest.{is_pair}
use Rattle.speed.proofs.Outcome.{answered, silent}
use Rattle.speed.proofs.Request.search.Goals as goal

pub returns-then-not-within : goal.returns-then-not-within
returns-then-not-within c =
    let r = c.args.self in
    let e = rw c.pair_at-p.ensures.is at (no c.within.ensures c.if-not-within.true) in
    sym (silent r.crystal r.rate r.tolerance c.nearest_place.result c.nearest_place.ensures e)

pub cut_down-requires : goal.cut_down-requires
cut_down-requires c =
    rw (c.rate_of.ensures, c.pair_at-p.ensures.is)
    (denominator_positive c.args.self.crystal _ (is_pair c.nearest_place.result c.nearest_place.ensures.place).th1)

pub returns : goal.returns
returns c =
    let r = c.args.self in
    let e = rw c.pair_at-p.ensures.is at (yes c.within.ensures c.if-not-within.false) in
    rw (c.cut_down.ensures, c.rate_of.ensures)
    (ap (found r.crystal) c.pair_at-p.ensures.is
    ∙ sym (answered r.crystal r.rate r.tolerance c.nearest_place.result c.nearest_place.ensures e))
