-- `capture_step` is the definition where it heeds T2EX too: EXF2 is set by a mask.
use Rattle.std.proofs.Common.{sym, ◌∙◌}
use Rattle.machine.specs.Registers.{EXF2}
use Rattle.machine.specs.Timer2.{capture_step}
use Rattle.laws.proofs.Bits.{or_bit}
use Rattle.timer2.proofs.capture_step.Goals as goal

pub returns-then-heeds_t2ex : goal.returns-then-heeds_t2ex
unfolding capture_step
returns-then-heeds_t2ex c =
    simp (c.copied2-u.ensures, or_bit c.flagged.result EXF2)
    (simp (sym c.heeds_t2ex.ensures ∙ c.if-heeds_t2ex.true, c.flagged.ensures, c.with_count2-u.ensures, c.counted2-s.ensures, c.picked-reload.ensures, c.rcap2.ensures, c.captures-2.ensures))
