-- Request Nine's rounds are those of the code: a round of the jump is one busy cycle, or a longest run of others within what is left, by
-- the laws of strides, the room being exact; so it is the first of the rounds that are left.
use Prim.Native.Nat.{ℕ, zero, suc, ◌+◌, ◌-◌, ◌≤◌}
use mathlib.Core.Path.{◌≡◌, refl, sym, ap, ◌∙◌, subst}
use mathlib.Core.Bool.{Bool, true, false}
use mathlib.Core.List.{List, [], ◌∷◌}
use mathlib.Core.Logic.{◌⊎◌, inl, inr}
use native.Mathlib.Omega.{arith}
use lib.Dec.{leb}
use lib.ListN.{length}
use borrow.Author.Tests.{leb-true, leb-false}
use Rattle.machine.specs.declared.Totals.{Totals}
use Rattle.machine.specs.declared.Device.{Device}
use Rattle.machine.specs.Record.{accepted}
use Rattle.machine.specs.Cycle.{cycle_of, cycles}
use Rattle.machine.specs.Rounds.{busy, marks, busy_cycles, quiet_runs, rounds_of, rounds}
use Rattle.machine.specs.Calls.{longest}
use Rattle.record.proofs.Accepted.{ranges_of}
use Rattle.machine.proofs.Choices.{by_test}
use Rattle.laws.proofs.Rounds.{Marked, busy_round, quiet_round}
use Rattle.strides.specs.Stride.{room}
use Rattle.strides.proofs.Exact.{no_room, quiet, busy_next}
use Rattle.jump.specs.declared.Round.{Round}
use Rattle.jump.specs.Rounds.{used_in, Crossed, QuietRun, RoundOf}
use Rattle.jump.proofs.Rounds.{ran, used_busy, used_quiet}

module _ (pins left : ℕ) (d : Device) (a : accepted d ≡ true) (some : 1 ≤ left) (most : left ≤ longest) where
  -- the cycles of a round
  used_round : RoundOf pins left d (used_in pins left d)
  used_round = go (room pins d) refl
    where
      go : (k : ℕ) → room pins d ≡ k → RoundOf pins left d (used_in pins left d)
      go zero e = inl (record { one = used_busy pins left d e; busy = no_room pins d (ranges_of d a) e })
      go (suc k) e =
          let u = used_quiet pins left d (omega arith) in
          inr (record {
            some = omega arith;
            within = omega arith;
            quiet = λ j h. quiet pins d (ranges_of d a) j (omega arith);
            ends =
                by_test (leb left (room pins d)) (λ t. inl (omega (arith, leb-true left (room pins d) t)))
                (λ t.
                let f = leb-false left (room pins d) t in
                let w : used_in pins left d ≡ room pins d = omega arith in
                inr (subst (λ (m : ℕ). busy pins (cycles m pins d) ≡ true) (sym w) (busy_next pins d (ranges_of d a) (omega arith))));
          })

  pub crossed_round : (sum : Totals) (r : Round) → Crossed pins left (ran sum d) r → RoundOf pins left d r.used
  crossed_round sum r c = subst (RoundOf pins left d) (sym c.used) used_round

-- Rounds counted

chip_marked : (pins : ℕ) → Marked (busy pins) (cycle_of pins) (λ (n : ℕ) (d : Device). cycles n pins d) (λ (n : ℕ) (d : Device). marks n pins d)
unfolding cycles marks
chip_marked pins = record { stays = λ d. refl; goes = λ n d. refl; none = λ d. refl; more = λ n d. refl }

-- the rest of the rounds, after one with m cycles
abbrev Counts : ℕ → ℕ → Device → ℕ → Type 0
Counts pins left d m = rounds left pins d ≡ suc (rounds (left - m) pins (cycles m pins d))

busy_counts : (pins left : ℕ) (d : Device) → 1 ≤ left → busy pins d ≡ true → Counts pins left d 1
unfolding rounds
busy_counts pins zero d h b = absurd (omega arith)
busy_counts pins (suc n) d h b =
    let less : n ≡ suc n - 1 = omega arith in
    busy_round (chip_marked pins) n d b ∙ ap (λ (k : ℕ). suc (rounds k pins (cycles 1 pins d))) less

quiet_counts : (pins left : ℕ) (d : Device) (m : ℕ) → QuietRun pins left d m → Counts pins left d m
unfolding rounds
quiet_counts pins left d zero q = absurd (omega (arith, q.some))
quiet_counts pins left d (suc m) q =
    let fits = q.within in
    let all : left ≡ suc (m + (left - suc m)) = omega arith in
    ap (λ (k : ℕ). rounds k pins d) all ∙ quiet_round (chip_marked pins) m (left - suc m) d q.quiet (ends q.ends)
  where
    ends : (suc m ≡ left) ⊎ (busy pins (cycles (suc m) pins d) ≡ true) → (left - suc m ≡ 0) ⊎ (busy pins (cycles (suc m) pins d) ≡ true)
    ends (inl e) = inl (omega arith)
    ends (inr b) = inr b

-- a round is the first of those that are left
pub round_counts : (pins left : ℕ) (d : Device) {m : ℕ} → 1 ≤ left → RoundOf pins left d m → Counts pins left d m
round_counts pins left d h (inl b) = subst (Counts pins left d) (sym b.one) (busy_counts pins left d h b.busy)
round_counts pins left d {m} h (inr q) = quiet_counts pins left d m q

-- there are no more rounds than cycles
marks_most : (ms : List Bool) → rounds_of ms ≤ length ms
unfolding busy_cycles quiet_runs
marks_most [] = omega arith
marks_most (true ∷ ms) = omega (arith, marks_most ms)
marks_most (false ∷ []) = omega arith
marks_most (false ∷ true ∷ ms) = omega (arith, marks_most ms)
marks_most (false ∷ false ∷ ms) = omega (arith, marks_most (false ∷ ms))

marks_length : (n pins : ℕ) (d : Device) → length (marks n pins d) ≡ n
unfolding marks
marks_length zero pins d = refl
marks_length (suc n) pins d = ap suc (marks_length n pins (cycle_of pins d))

pub rounds_within : (n pins : ℕ) (d : Device) → rounds n pins d ≤ n
unfolding rounds
rounds_within n pins d = omega (arith, marks_most (marks n pins d), marks_length n pins d)
