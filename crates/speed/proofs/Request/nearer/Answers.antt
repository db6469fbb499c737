-- `nearer` is its definition: both distances are small enough to be compared.
use Rattle.speed.proofs.Fractions.{away_sized}
use Rattle.speed.proofs.Request.nearer.Goals as goal

pub at_most-requires : goal.at_most-requires
at_most-requires c =
    let a = c.args in
    let l = a.self.limits in (
      rw c.away.ensures (away_sized a.self.crystal a.self.rate a.q l.crystal_most l.rate_most c.requires.1),
      rw c.away-2.ensures (away_sized a.self.crystal a.self.rate a.p l.crystal_most l.rate_most c.requires.0),
    )
