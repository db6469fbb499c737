-- `layout::put` writes a number's bytes one after the other: its invariant is proofs/Bytes.antt's `Putting`.
use Rattle.layout.proofs.Bytes.{put_none, put_on, put_out}
use Rattle.layout.proofs.put.Goals as goal

pub loop-byte-init : goal.loop-byte-init
loop-byte-init c = put_none _ _

pub loop-byte-preserved : goal.loop-byte-preserved
loop-byte-preserved c = put_on _ _ _ _ _ c.loop-byte.invariant c.loop-byte-test.true

pub returns : goal.returns
returns c = put_out _ _ _ _ _ c.loop-byte.invariant c.loop-byte-test.false
