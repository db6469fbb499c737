-- `nearest_place` begins with the first pair alone.
use Rattle.speed.proofs.Nearest.{first_one}
use Rattle.speed.proofs.Request.nearest_place.Goals as goal

pub loop-n-init : goal.loop-n-init
loop-n-init c = first_one c.args.self.crystal c.args.self.rate
