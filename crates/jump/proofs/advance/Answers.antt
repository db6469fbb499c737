-- The rounds up to where Timer 1's reload is all that happens, or to the end, and then the rest: by `Reached` and the laws of the reload.
use mathlib.Core.Path.{◌≡◌, refl, sym, ap, ◌∙◌}
use mathlib.Core.Logic.{◌⊎◌, inl, inr}
use Prim.Native.Nat.{ℕ}
use native.Mathlib.Omega.{arith}
use Rattle.machine.specs.Totals.{added}
use Rattle.laws.proofs.Sleep.{cycles_stay}
use Rattle.totals.proofs.Sums.{added_none}
use Rattle.record.proofs.Accepted.{ranges_of}
use Rattle.jump.proofs.Down.{totals_down, rounds_down}
use Rattle.jump.proofs.Idles.{idle_on, idle_laps, idle_rounds_lem}
use Rattle.jump.proofs.Reached.{rest_sums, rest_fits, rest_counts, rest_few, reached_end, reached_sum, reached_count}
use Rattle.jump.proofs.advance.Goals as goal

-- in power-down
pub returns-then-powered_down : goal.returns-then-powered_down
returns-then-powered_down c =
    let x = c.args in
    let d = x.from.device in
    let down = sym c.powered_down.ensures ∙ c.if-powered_down.true in (
      c.from.ensures ∙ sym (rounds_down x.pins d down x.n),
      sym (ap (added x.from.totals) (totals_down x.pins d down x.n) ∙ added_none x.from.totals),
      sym (cycles_stay d down x.n x.pins),
    )

-- no cycle is left
pub returns-then-gone-eq0 : goal.returns-then-gone-eq0
returns-then-gone-eq0 c =
    let g = c.rounds_to_idle-gone.ensures.0 in
    let none = c.if-gone-eq0.true in
    (reached_count g (omega arith), reached_sum g (omega arith), reached_end g (omega arith))

-- the rest at once
idles_on : {P : Type 0} {left : ℕ} → (left ≡ 0) ⊎ P → (left ≡ 0 → ⊥) → P
idles_on (inl z) some = absurd (some z)
idles_on (inr p) some = p

pub idle-idled-requires : goal.idle-idled-requires
idle-idled-requires c = (ranges_of _ c.rounds_to_idle-gone.ensures.0.ready.good).serial.half

pub added-requires : goal.added-requires
added-requires c =
    let r = c.rounds_to_idle-gone in
    let g = r.ensures.0 in
    let laps = idle_laps _ r.result.run.device g.ready refl (idles_on r.ensures.1 c.if-gone-eq0.false) r.result.left in
    rest_fits g (laps ∙ sym c.idle_totals-laps.ensures) c.requires.1

pub overflow_add-result : goal.overflow_add-result
overflow_add-result c =
    let r = c.rounds_to_idle-gone in
    let g = r.ensures.0 in
    let counts = idle_rounds_lem _ r.result.run.device g.ready refl (idles_on r.ensures.1 c.if-gone-eq0.false) r.result.left in
    let few = rest_few g (counts ∙ sym c.idle-idled.ensures.0) in
    omega (arith, few, c.requires.1)

pub returns : goal.returns
returns c =
    let r = c.rounds_to_idle-gone in
    let g = r.ensures.0 in
    let d = r.result.run.device in
    let p = idles_on r.ensures.1 c.if-gone-eq0.false in
    let n = r.result.left in
    let idled = c.idle-idled.ensures in (
      rest_counts g (idle_rounds_lem _ d g.ready refl p n ∙ sym idled.0),
      c.added.ensures ∙ rest_sums g (idle_laps _ d g.ready refl p n ∙ sym c.idle_totals-laps.ensures),
      idle_on _ d g.ready refl p n idled.1 g.ends,
    )
