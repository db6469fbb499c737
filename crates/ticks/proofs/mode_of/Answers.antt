-- `ticks::mode_of` is serialMode, by the law of a masked field.
use Rattle.laws.proofs.Bits.{low2}
use Rattle.std.proofs.Common.{◌/◌}
use Rattle.ticks.proofs.mode_of.Goals as goal

pub returns : goal.returns
returns c = low2 (c.args.scon / 64)
