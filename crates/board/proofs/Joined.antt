-- The board's answers from those of its chips: by cases of what each chip refuses, and n cycles of the board by induction.
use mathlib.Core.Path.{◌≡◌, refl, sym, ap, ◌∙◌}
use mathlib.Core.Bool.{Bool, cond}
use mathlib.Core.List.{List, ◌∷◌}
use Prim.Native.Nat.{ℕ, zero, suc}
use lib.Dec.{eqb, leb}
use Rattle.std.specs.Prelude.{Ok, Err}
use Rattle.machine.specs.declared.Device.{Device}
use Rattle.machine.specs.declared.Jumped.{Jumped}
use Rattle.machine.specs.declared.refusals.Refusal.{Refusal}
use Rattle.machine.specs.Outcomes.{number}
use Rattle.machine.specs.Outcomes as Chips
use Rattle.machine.proofs.Outcomes.{number_not_0, number_some}
use Rattle.interval.specs.declared.Interval.{Interval}
use Rattle.interval.specs.Outcomes.{pulse_answered}
use Rattle.lent.proofs.Refused.{jump_refused}
use Rattle.board.specs.Outcomes.{cycle_answered, jump_answered}
use Rattle.machine.specs.Answers.{CycleAnswer, JumpAnswer}
use Rattle.machine.specs.Record.{pins_ok}
use Rattle.machine.specs.Record as Records
use Rattle.machine.specs.Cycle as Chip
use Rattle.machine.specs.Totals.{added, totals_next}
use Rattle.machine.specs.Totals as Chip''
use Rattle.machine.specs.Rounds.{busy, rounds_of}
use Rattle.machine.specs.Rounds as Rounds
use Rattle.machine.specs.Calls.{longest, cycles_fault}
use Rattle.machine.specs.Calls as Chip'
use Rattle.machine.proofs.Choices.{by_test}
use Rattle.interval.specs.Answers.{PulseAnswer}
use Rattle.interval.specs.Interval.{gates_ok, pulses_all}
use Rattle.interval.specs.Interval as Intervals
use Rattle.interval.specs.Calls.{pulse_answer}
use Rattle.interval.specs.Calls as Interval'
use Rattle.board.specs.declared.Board.{Board}
use Rattle.board.specs.Answers.{BoardCycleAnswer, BoardJumpAnswer}
use Rattle.board.specs.Board.{accepted, cycle, cycles, totals, marks, rounds, refuse_cycle, cycle_answer, refuse_jump, jump_answer}
use Rattle.board.specs.Joined.{lower}

-- n cycles of the board are n of the chip and n pulses
pub cycles_each : (n pins gates : ℕ) (b : Board)
    → cycles n pins gates b ≡ record { device = Chip.cycles n pins b.device; interval = pulses_all n gates b.interval }
unfolding cycles cycle Chip.cycles pulses_all
cycles_each zero pins gates b = refl
cycles_each (suc n) pins gates b = cycles_each n pins gates (cycle pins gates b)

-- and their overflows the chip's
totals_each : (n pins gates : ℕ) (b : Board) → totals n pins gates b ≡ Chip''.totals n pins b.device
unfolding totals cycle Chip''.totals
totals_each zero pins gates b = refl
totals_each (suc n) pins gates b = ap (added (totals_next pins b.device)) (totals_each n pins gates (cycle pins gates b))

-- and their rounds
marks_each : (n pins gates : ℕ) (b : Board) → marks n pins gates b ≡ Rounds.marks n pins b.device
unfolding marks cycle Rounds.marks
marks_each zero pins gates b = refl
marks_each (suc n) pins gates b = ap (λ (ms : List Bool). busy pins b.device ∷ ms) (marks_each n pins gates (cycle pins gates b))

rounds_each : (n pins gates : ℕ) (b : Board) → rounds n pins gates b ≡ Rounds.rounds n pins b.device
unfolding rounds Rounds.rounds
rounds_each n pins gates b = ap (λ (ms : List Bool). rounds_of ms) (marks_each n pins gates b)

module _ (b : Board) (pins gates : ℕ) where
  -- what a cycle gives of both chips
  abbrev pub both : CycleAnswer → PulseAnswer → BoardCycleAnswer
  both x y = record { code = 0; line = x.line; outputs = y.outputs; board = record { device = x.device; interval = y.interval } }

  -- refused by the lower number of both chips, and otherwise both
  abbrev joined : CycleAnswer → PulseAnswer → BoardCycleAnswer
  joined x y = cond (eqb (lower x.code y.code) 0) (both x y) (refuse_cycle (lower x.code y.code) b)

  pub cycle_joined : cycle_answer b pins gates ≡ joined (Chip'.cycle_answer b.device pins) (pulse_answer b.interval gates)
  unfolding cycle_answer accepted cycle lower Chip'.cycle_answer pulse_answer
  cycle_joined =
      by_test (Records.accepted b.device)
      (λ d. by_test (Intervals.accepted b.interval)
      (λ i. by_test (pins_ok pins)
      (λ p. by_test (gates_ok gates) (λ g. simp (d, i, p, g)) (λ g. simp (d, i, p, g)))
      (λ p. by_test (gates_ok gates) (λ g. simp (d, i, p, g)) (λ g. simp (d, i, p, g))))
      (λ i. by_test (pins_ok pins) (λ p. simp (d, i, p)) (λ p. simp (d, i, p))))
      (λ d. by_test (Intervals.accepted b.interval)
      (λ i. by_test (gates_ok gates) (λ g. simp (d, i, g)) (λ g. simp (d, i, g)))
      (λ i. simp (d, i)))

  module _ (n : ℕ) where
    abbrev both_jumped : JumpAnswer → PulseAnswer → BoardJumpAnswer
    both_jumped x y = record { code = 0; outputs = y.outputs; totals = x.totals; rounds = x.rounds; board = record { device = x.device; interval = y.interval } }

    -- refused by the 82C53, and then by the lower number of it and of a jump of no cycles; or by the chip; or both
    abbrev joined_jump : PulseAnswer → JumpAnswer → JumpAnswer → BoardJumpAnswer
    joined_jump y judged x =
        cond (eqb y.code 0) (cond (eqb x.code 0) (both_jumped x y) (refuse_jump x.code b)) (refuse_jump (lower judged.code y.code) b)

    pub jump_joined : jump_answer b pins gates n
        ≡ joined_jump (Interval'.jump_answer b.interval gates n) (Chip'.jump_answer b.device pins 0) (Chip'.jump_answer b.device pins n)
    unfolding jump_answer accepted lower Chip'.jump_answer cycles_fault Interval'.jump_answer
    jump_joined =
        by_test (Records.accepted b.device)
        (λ d. by_test (Intervals.accepted b.interval)
        (λ i. by_test (pins_ok pins)
        (λ p. by_test (gates_ok gates)
        (λ g. by_test (leb n longest) (λ l. simp (d, i, p, g, l, cycles_each n pins gates b, totals_each n pins gates b, rounds_each n pins gates b)) (λ l. simp (d, i, p, g, l)))
        (λ g. simp (d, i, p, g)))
        (λ p. by_test (gates_ok gates)
        (λ g. by_test (leb n longest) (λ l. simp (d, i, p, g, l)) (λ l. simp (d, i, p, g, l)))
        (λ g. simp (d, i, p, g))))
        (λ i. by_test (pins_ok pins) (λ p. simp (d, i, p)) (λ p. simp (d, i, p))))
        (λ d. by_test (Intervals.accepted b.interval)
        (λ i. by_test (gates_ok gates)
        (λ g. by_test (leb n longest) (λ l. simp (d, i, g, l)) (λ l. simp (d, i, g, l)))
        (λ g. simp (d, i, g)))
        (λ i. simp (d, i)))

-- The same of outcomes: both chips pass, one of them refuses, or both do
module _ (b : Board) (pins gates : ℕ) (d : Device) (i : Interval) where
  -- a cycle
  of_both : (x : CycleAnswer) (y : PulseAnswer) → x ≡ Chip'.cycle_answer b.device pins → y ≡ pulse_answer b.interval gates
      → joined b pins gates x y ≡ cycle_answer b pins gates
  of_both x y p q = (λ j. joined b pins gates (p j) (q j)) ∙ sym (cycle_joined b pins gates)

  pub cycle_passes : (line outputs : ℕ) → Chips.cycle_answered (Ok line) d ≡ Chip'.cycle_answer b.device pins
      → pulse_answered (Ok outputs) i ≡ pulse_answer b.interval gates
      → cycle_answered (Ok (record { line = line; outputs = outputs })) (record { device = d; interval = i }) ≡ cycle_answer b pins gates
  unfolding lower
  cycle_passes line outputs p q = of_both (Chips.cycle_answered (Ok line) d) (pulse_answered (Ok outputs) i) p q

  pub chip_refuses : (e : Refusal) (outputs : ℕ) → Chips.cycle_answered (Err e) d ≡ Chip'.cycle_answer b.device pins
      → pulse_answered (Ok outputs) i ≡ pulse_answer b.interval gates → refuse_cycle (number e) b ≡ cycle_answer b pins gates
  unfolding lower
  chip_refuses e outputs p q =
      simp (number_not_0 e) at (of_both (Chips.cycle_answered (Err e) d) (pulse_answered (Ok outputs) i) p q)

  pub timer_refuses : (line : ℕ) (f : Refusal) → Chips.cycle_answered (Ok line) d ≡ Chip'.cycle_answer b.device pins
      → pulse_answered (Err f) i ≡ pulse_answer b.interval gates → refuse_cycle (number f) b ≡ cycle_answer b pins gates
  unfolding lower
  timer_refuses line f p q =
      simp (number_not_0 f) at (of_both (Chips.cycle_answered (Ok line) d) (pulse_answered (Err f) i) p q)

  pub both_refuse : (e f r : Refusal) → number r ≡ lower (number e) (number f)
      → Chips.cycle_answered (Err e) d ≡ Chip'.cycle_answer b.device pins → pulse_answered (Err f) i ≡ pulse_answer b.interval gates
      → refuse_cycle (number r) b ≡ cycle_answer b pins gates
  both_refuse e f r h p q =
      simp (sym h, number_not_0 r) at (of_both (Chips.cycle_answered (Err e) d) (pulse_answered (Err f) i) p q)

  -- a jump of n
  module _ (n : ℕ) where
    of_jumps : (y : PulseAnswer) (judged x : JumpAnswer) → y ≡ Interval'.jump_answer b.interval gates n
        → judged ≡ Chip'.jump_answer b.device pins 0 → x ≡ Chip'.jump_answer b.device pins n
        → joined_jump b pins gates n y judged x ≡ jump_answer b pins gates n
    of_jumps y judged x p q r = (λ j. joined_jump b pins gates n (p j) (q j) (r j)) ∙ sym (jump_joined b pins gates n)

    pub jump_passes : (outputs : ℕ) (k : Jumped) → pulse_answered (Ok outputs) i ≡ Interval'.jump_answer b.interval gates n
        → Chips.jump_answered (Ok k) d ≡ Chip'.jump_answer b.device pins n
        → jump_answered (Ok (record { outputs = outputs; totals = k.totals; rounds = k.rounds })) (record { device = d; interval = i })
        ≡ jump_answer b pins gates n
    jump_passes outputs k p r =
        of_jumps (pulse_answered (Ok outputs) i) (Chip'.jump_answer b.device pins 0) (Chips.jump_answered (Ok k) d) p refl r

    -- the chip refuses the jump, and stays
    pub jump_refuses : (outputs : ℕ) (e : Refusal) → pulse_answered (Ok outputs) i ≡ Interval'.jump_answer b.interval gates n
        → Chips.jump_answered (Err e) d ≡ Chip'.jump_answer b.device pins n
        → jump_answered (Err e) (record { device = d; interval = b.interval }) ≡ jump_answer b pins gates n
    jump_refuses outputs e p r =
        let code = ap (λ (a : JumpAnswer). a.code) r in
        let stays = ap (λ (a : JumpAnswer). a.device) r ∙ (jump_refused b.device pins n (λ z. number_some e (code ∙ z))).1.1 in
        ap (λ (x : Device). refuse_jump (number e) (record { device = x; interval = b.interval })) stays
        ∙ simp (number_not_0 e) at
        (of_jumps (pulse_answered (Ok outputs) i) (Chip'.jump_answer b.device pins 0) (Chips.jump_answered (Err e) d) p refl r)

    -- the 82C53 refuses it, and the chip passes or refuses a jump of no cycles
    pub timer_refuses_jump : (f : Refusal) (k : Jumped) → pulse_answered (Err f) i ≡ Interval'.jump_answer b.interval gates n
        → Chips.jump_answered (Ok k) d ≡ Chip'.jump_answer b.device pins 0 → refuse_jump (number f) b ≡ jump_answer b pins gates n
    unfolding lower
    timer_refuses_jump f k p q =
        simp (number_not_0 f) at
        (of_jumps (pulse_answered (Err f) i) (Chips.jump_answered (Ok k) d) (Chip'.jump_answer b.device pins n) p q refl)

    pub both_refuse_jump : (e f r : Refusal) → number r ≡ lower (number e) (number f)
        → pulse_answered (Err f) i ≡ Interval'.jump_answer b.interval gates n
        → Chips.jump_answered (Err e) d ≡ Chip'.jump_answer b.device pins 0 → refuse_jump (number r) b ≡ jump_answer b pins gates n
    both_refuse_jump e f r h p q =
        simp (sym h, number_not_0 f) at
        (of_jumps (pulse_answered (Err f) i) (Chips.jump_answered (Err e) d) (Chip'.jump_answer b.device pins n) p q refl)
