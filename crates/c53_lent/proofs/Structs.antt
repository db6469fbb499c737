-- The 82C53 as the struct that is lent.
use Rattle.interval.specs.contracts.Interval as Interval
use Rattle.interval.proofs.Interval.TheLaws as Interval'
use Rattle.lent.proofs.Lent.{Struct}

abbrev pub interval : Struct
interval = record { type = Interval.the_type; laws = Interval'.the_laws; plains = Interval'.the_plain }
