-- `checkpoint::read` reads each part in turn, and a fault ends it: its invariant is proofs/Steps.antt's `Halfway`.
use Prim.Native.Nat.{◌<◌}
use Rattle.std.proofs.lemmas.Result.{err_from_is_err_and}
use Rattle.layout.specs.Order.{part_count}
use Rattle.layout.proofs.Order.{part_placed, part_narrow}
use Rattle.checkpoint.specs.Reads.{state_of}
use Rattle.checkpoint.proofs.Steps.{read_first, read_on, read_fault, read_out}
use Rattle.checkpoint.proofs.read.Goals as goal

pub loop-n-init : goal.loop-n-init
loop-n-init c = read_first _ _

pub read_part-requires : goal.read_part-requires
read_part-requires c =
    let below : c.loop-n.n < part_count c.args.kind = rw c.parts-n-end.ensures at c.loop-n-test.true in
    let e = c.part.ensures in
    (rw e (part_placed _ _ c.requires below), (rw e (part_narrow _ _ c.requires below), c.loop-n.invariant.inside))

pub returns-in_err-r : goal.returns-in_err-r
unfolding state_of
returns-in_err-r c =
    let below : c.loop-n.n < part_count c.args.kind = rw c.parts-n-end.ensures at c.loop-n-test.true in
    let r = err_from_is_err_and c.from_residual.result c.from_residual.ensures.1 in
    rw (r.1, r.2) (read_fault _ _ c.requires _ _ c.loop-n.invariant c.part.result below c.part.ensures _ c.in_err-r.ensures.0, tt)

pub loop-n-preserved : goal.loop-n-preserved
unfolding state_of
loop-n-preserved c =
    let below : c.loop-n.n < part_count c.args.kind = rw c.parts-n-end.ensures at c.loop-n-test.true in
    read_on _ _ c.requires _ _ c.loop-n.invariant c.part.result below c.part.ensures _ c.in_ok-r.ensures.0 c.in_ok-r.ensures.1

pub returns : goal.returns
unfolding state_of
returns c =
    let w = c.loop-n.invariant in
    (read_out _ _ c.requires _ _ w (rw c.parts-n-end.ensures at c.loop-n-test.false), w.inside)
