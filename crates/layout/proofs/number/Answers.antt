-- `layout::number` sums the bytes from the last one down: its invariant is proofs/Bytes.antt's `Summed`.
use Prim.Native.Nat.{ℕ, ◌<◌}
use mathlib.Core.List.{map, ◌∷◌, []}
use mathlib.Core.Path.{ap, ◌∙◌}
use native.Mathlib.Omega.{arith}
use lib.ListN.{length}
use denote.Ref.{Bor}
use Rattle.std.proofs.lemmas.List.{length-map, length-reverse, map-append}
use Rattle.std.proofs.lemmas.Iterator.Adapters.{YieldsList-from_rev_slice}
use Rattle.std.proofs.lemmas.Iterator.Consumers.{YieldsList-turn, YieldsList-end}
use Rattle.std.specs.Iterator.Adapters.{rev_source}
use Rattle.std.specs.Slice.Iter.{iter_rest}
use Rattle.layout.proofs.Bytes.{sum_none, fits, sum_on, sum_all}
use Rattle.layout.proofs.number.Goals as goal
use Rattle.layout.proofs.number.Goals.{In-Some, After-from}

-- fewer than eight were read before this one
few : (c : In-Some) → length (map (λ (y : Bor ℕ). y.now) c.loop-byte.yielded) < 8
few c =
    let all = ap iter_rest (ap rev_source c.into_iter-byte-iterator.ensures.into_iter_gives ∙ c.rev-byte-items.ensures.source) ∙ c.iter.ensures.rest in
    let t = YieldsList-turn (YieldsList-from_rev_slice c.args.bytes.now all) c.loop-byte.yielded _ c.loop-byte.yielded_by _ _ c.in-Some.byte c.in-Some.is c.next.ensures.steps in
    omega (arith, t.0, length-map c.loop-byte.yielded (λ (y : Bor ℕ). y.now), length-reverse c.args.bytes.now)

byte : (c : After-from) → c.in-Some.byte.now < 256
byte c = omega arith

pub loop-byte-init : goal.loop-byte-init
loop-byte-init c = sum_none

pub overflow_mul-n : goal.overflow_mul-n
overflow_mul-n c = omega (arith, fits _ _ c.loop-byte.invariant (few c) 0 (omega arith))

pub overflow_add-n : goal.overflow_add-n
overflow_add-n c =
    omega (arith, fits _ _ c.loop-byte.invariant (few (goal.at.overflow_add-n c).In-Some) c.in-Some.byte.now (byte c))

pub loop-byte-preserved : goal.loop-byte-preserved
loop-byte-preserved c =
    rw (map-append (λ (y : Bor ℕ). y.now) c.loop-byte.yielded (c.in-Some.byte ∷ []), c.from.ensures)
    (sum_on _ _ c.loop-byte.invariant c.in-Some.byte.now (byte c))

pub returns : goal.returns
returns c =
    let all = ap iter_rest (ap rev_source c.into_iter-byte-iterator.ensures.into_iter_gives ∙ c.rev-byte-items.ensures.source) ∙ c.iter.ensures.rest in
    let t = YieldsList-end (YieldsList-from_rev_slice c.args.bytes.now all) c.loop-byte.yielded _ c.loop-byte.yielded_by _ _ c.in-None.is c.next.ensures.steps in
    sum_all _ _ _ c.loop-byte.invariant t.0
