-- `count_times` is n counts in turn: what is left, counted from the number that it was last added to, ends where n
-- counts from the start end. The sum wraps where the counts left reach past FFFF, and is then what is left past the
-- overflow.
use Rattle.std.proofs.Common.{◌≡◌, ℕ, ◌+◌, ◌-◌, ◌%◌, ◌<◌, ◌≤◌, refl, sym, ap, ◌∙◌, arith}
use Rattle.machine.specs.Timer2.{count_times}
use Rattle.laws.specs.Counting.{lap_from}
use Rattle.timer2.proofs.Laws.{at, count_times_on, count_times_over}
use Rattle.timer2.proofs.count_times.Goals as goal
use Rattle.timer2.proofs.count_times.Invariants.{start}

-- a sum less what was added
unadded : (a left count : ℕ) → a < 65536 → left < 65536 → count ≡ (a + left) % 65536 → start left count ≡ a
unadded a left count h l e = omega arith

pub loop-count-init : goal.loop-count-init
loop-count-init c =
    let a = c.args in
    (ap (λ (k : ℕ). count_times a.n a.reload (at k 0)) (unadded a.from a.n _ (omega arith) (omega arith) refl), omega arith, omega arith)

pub overflow_add-overflows : goal.overflow_add-overflows
overflow_add-overflows c = omega arith

pub loop-count-smaller : goal.loop-count-smaller
loop-count-smaller c = omega arith

-- the sum wrapped: so many counts are left past the overflow
wrapped : (left count reload o : ℕ) → count < left → left < 65536
    → count_times left reload (at (start left count) o) ≡ count_times count reload (at reload (o + 1))
wrapped left count reload o h l =
    let e : left - lap_from 16 (start left count) ≡ count = omega arith in
    count_times_over left reload (start left count) o (omega arith) (omega arith)
    ∙ ap (λ (k : ℕ). count_times k reload (at reload (o + 1))) e

-- it did not: the counts left add up
unwrapped : (left count reload o : ℕ) → left ≤ count → count < 65536 → count_times left reload (at (start left count) o) ≡ at count o
unwrapped left count reload o h l =
    let e : start left count + left ≡ count = omega arith in
    count_times_on left reload (start left count) o (omega arith) ∙ ap (λ (k : ℕ). at k o) e

pub loop-count-preserved : goal.loop-count-preserved
loop-count-preserved c =
    let b = c.loop-count in
    let r = c.args.reload in
    let from = unadded r b.count _ (omega arith) (omega arith) refl in (
      ap (λ (k : ℕ). count_times b.count r (at k (b.overflows + 1))) from
          ∙ sym (wrapped b.left b.count r b.overflows (omega arith) (omega arith)) ∙ b.invariant.0,
      omega arith,
      omega arith,
    )

pub returns : goal.returns
returns c =
    let b = c.loop-count in
    sym (unwrapped b.left b.count c.args.reload b.overflows (omega arith) (omega arith)) ∙ b.invariant.0
