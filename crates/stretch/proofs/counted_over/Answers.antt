-- `counted_over` is m single counts: in the first lap, and past it, by the closed forms.
use Prim.Native.Nat.{◌+◌, ◌-◌, ◌^◌, ◌≤◌, ◌<◌}
use native.Mathlib.Nat.{mod-lt, div-le_self}
use native.Mathlib.Omega.{arith}
use lib.Pow.{pow_mono}
use Rattle.laws.proofs.Counting.{counts_or_up, counts_or_past, overflows_or_up, overflows_or_past}
use Rattle.stretch.proofs.counted_over.Goals as goal

pub overflow_add-result : goal.overflow_add-result
overflow_add-result c =
    let l : 2 ^ c.args.width ≤ 2 ^ 16 = pow_mono c.requires.width in
    record { fits = omega arith }

pub returns-then-m-first : goal.returns-then-m-first
returns-then-m-first c =
    let a = c.args in
    let l : a.count + a.m < 2 ^ a.width = omega arith in
    simp (counts_or_up a.m a.width a.reload a.count l, overflows_or_up a.m a.width a.reload a.count l)

pub overflow_cast-result-2 : goal.overflow_cast-result-2
overflow_cast-result-2 c =
    let first = c.lap_from-first.result in
    record { fits = omega (arith, mod-lt (c.args.m - first) c.lap_from-lap.ensures.some) }

pub overflow_add-result-2 : goal.overflow_add-result-2
overflow_add-result-2 c =
    let first = c.lap_from-first.result in
    let l : 2 ^ c.args.width ≤ 2 ^ 16 = pow_mono c.requires.width in
    record { fits = omega (arith, mod-lt (c.args.m - first) c.lap_from-lap.ensures.some) }

pub overflow_add-result-3 : goal.overflow_add-result-3
overflow_add-result-3 c =
    let first = c.lap_from-first.result in
    record { fits = omega (arith, div-le_self (c.args.m - first) c.lap_from-lap.result) }

pub returns : goal.returns
returns c =
    let f = c.requires in
    let a = c.args in
    let first = c.lap_from-first.ensures.is in
    let lap = c.lap_from-lap.ensures.is in
    let l : 2 ^ a.width - a.count ≤ a.m = omega arith in
    simp (
      first,
      lap,
      counts_or_past a.m a.width a.reload a.count f.again f.count l,
      overflows_or_past a.m a.width a.reload a.count f.again f.count l,
    )
