-- `replay` gives the plain machine's replies and device: its invariant is proofs/Replays.antt's `Halfway`.
use mathlib.Core.Path.{◌∙◌}
use Rattle.lists.proofs.Replays.{at_first, played_on, played_out}
use Rattle.lists.proofs.replay.Goals as goal

pub loop-i-init : goal.loop-i-init
loop-i-init c = at_first _ _ _ _ c.rows_of-i-end.ensures

pub loop-i-preserved : goal.loop-i-preserved
loop-i-preserved c =
    let row = c.copy_from_slice.ensures.after ∙ c.play_one-row.ensures.row in
    played_on _ _ _ _ c.loop-i.invariant c.loop-i-test.true row c.play_one-row.ensures.device

pub returns : goal.returns
returns c = played_out _ _ _ _ c.loop-i.invariant c.loop-i-test.false
