-- A counter that is lent out of the chip: once it is given back the chip is as before, with that counter in its place.
use Rattle.std.specs.Prelude.{ℕ}
use Rattle.std.specs.Borrow.{Lends, MutBor, Fml}
use Rattle.interval.specs.declared.Counter.{Counter}
use Rattle.interval.specs.declared.Interval.{Interval}
use Rattle.interval.specs.contracts.Counter as Counter'
use Rattle.interval.specs.contracts.Interval as Interval'
use Rattle.interval.specs.Interval.{put_at}

-- the chip with a counter put at a choice
abbrev pub with_counter : ℕ → Interval → Counter → Interval
with_counter i c k = put_at i k c

abbrev pub LendsCounter : ℕ → MutBor Interval → MutBor Counter → Fml
LendsCounter i c k = Lends Interval'.the_row Counter'.the_row c k (with_counter i c.now)
