-- `checkpoint::write` writes each part in turn: its invariant is proofs/Writes.antt's `Writing`.
use Prim.Native.Nat.{ℕ, ◌+◌, ◌-◌, ◌*◌, ◌<◌, ◌≤◌}
use mathlib.Core.Path.{◌≡◌, sym, ap, subst, ◌∙◌}
use mathlib.Core.List.{List}
use native.Mathlib.Omega.{arith}
use lib.Dec.{eqb, lit≤}
use lib.ListN.{length}
use borrow.Rule.Slice.PartMut.{put_mid}
use Rattle.machine.specs.Checkpoint.{bytes_of, width_of, number_at}
use Rattle.machine.proofs.Choices.{chosen}
use Rattle.laws.specs.Rows.{put}
use Rattle.layout.specs.Order.{part_count, part_at, length_of}
use Rattle.layout.proofs.Bytes.{put_back}
use Rattle.layout.proofs.Order.{part_placed}
use Rattle.checkpoint.proofs.Writes.{Writing, write_first, write_room, write_on, write_out}
use Rattle.checkpoint.proofs.write.Goals as goal

pub loop-n-init : goal.loop-n-init
loop-n-init c =
    write_first _ _ _ c.requires.0 c.requires.1

length_most : (kind : ℕ) → length_of kind ≤ 307
length_most kind = chosen (λ (n : ℕ). 2 * n + 275 ≤ 307) (eqb kind 51) 11 16 (lit≤ tt) (lit≤ tt)

pub number_at-requires : goal.number_at-requires
number_at-requires c =
    let below : c.loop-n.n < part_count c.args.kind = rw c.parts-n-end.ensures at c.loop-n-test.true in
    rw c.part-p.ensures (part_placed _ _ c.requires.0 below)

pub slice_bounds-put-end : goal.slice_bounds-put-end
slice_bounds-put-end c =
    let wide : c.width_of-width.result ≡ width_of (part_at c.args.kind c.loop-n.n) = c.width_of-width.ensures ∙ ap width_of c.part-p.ensures in
    let below : c.loop-n.n < part_count c.args.kind = rw c.parts-n-end.ensures at c.loop-n-test.true in
    omega (arith, wide, write_room _ _ _ c.requires.0 _ _ _ c.loop-n.invariant below)

pub overflow_add-at : goal.overflow_add-at
overflow_add-at c =
    let wide : c.width_of-width.result ≡ width_of (part_at c.args.kind c.loop-n.n) = c.width_of-width.ensures ∙ ap width_of c.part-p.ensures in
    let below : c.loop-n.n < part_count c.args.kind = rw c.parts-n-end.ensures at c.loop-n-test.true in
    let l = c.loop-n.invariant.long in
    omega (arith, c.requires.1, length_most c.args.kind, wide, write_room _ _ _ c.requires.0 _ _ _ c.loop-n.invariant below)

pub loop-n-preserved : goal.loop-n-preserved
loop-n-preserved c =
    let wide : c.width_of-width.result ≡ width_of (part_at c.args.kind c.loop-n.n) = c.width_of-width.ensures ∙ ap width_of c.part-p.ensures in
    let below : c.loop-n.n < part_count c.args.kind = rw c.parts-n-end.ensures at c.loop-n-test.true in
    let n = c.number_at.ensures ∙ ap (number_at c.args.v) c.part-p.ensures in
    let at = c.loop-n.at in
    let now = c.loop-n.buffer in
    let width = c.width_of-width.result in
    let room : at + width ≤ length now = omega (arith, wide, write_room _ _ _ c.requires.0 _ _ _ c.loop-n.invariant below) in
    let e =
    ap (put_mid at (at + width - at) now) c.put.ensures
    ∙ (put_back now at width room c.number_at.result ∙ (λ k. put (bytes_of (wide k) (n k)) at now)) in
    subst (λ (w : ℕ). Writing c.args.kind c.args.v c.args.buffer.now (put_mid at (at + width - at) now c.put.new.bytes) (c.loop-n.n + 1) (at + w)) (sym wide)
    (subst (λ (b : List ℕ). Writing c.args.kind c.args.v c.args.buffer.now b (c.loop-n.n + 1) (at + width_of (part_at c.args.kind c.loop-n.n))) (sym e)
    (write_on _ _ _ c.requires.0 _ _ _ c.loop-n.invariant below))

pub shape_of-buffer : goal.shape_of-buffer
shape_of-buffer c = c.loop-n.invariant.long

pub returns : goal.returns
returns c =
    write_out _ _ _ c.requires.0 _ _ _ c.loop-n.invariant c.requires.1 (rw c.parts-n-end.ensures at c.loop-n-test.false)
