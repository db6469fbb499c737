-- `cycle_once`: the serial port's ranges, from the record check.
use Rattle.record.proofs.Accepted.{ranges_of}
use Rattle.cycle.proofs.cycle_once.Goals as goal

pub serial_step-s-requires-clause-serial_ok : goal.serial_step-s-requires-clause-serial_ok
serial_step-s-requires-clause-serial_ok c = (ranges_of c.args.run.device c.requires.0).serial
