-- Each pair says when its flag last rose: a cycle does to it what one cycle more does to the cycles written down, calls other than cycles
-- and reset leave both, and reset clears both. By induction on the cycles, on the entries of a trace and on the calls.
use Prim.Native.Nat.{ℕ, zero, suc, ◌<◌}
use mathlib.Core.Path.{◌≡◌, refl, ap, ◌∙◌}
use mathlib.Core.Bool.{Bool, true, false, cond, and_comm}
use mathlib.Core.List.{List, [], ◌∷◌}
use native.Mathlib.Omega.{arith}
use lib.Dec.{eqb, eqb→eq}
use lib.ListN.{length, get_or}
use Rattle.machine.specs.declared.FlagTimes.{FlagTimes}
use Rattle.machine.specs.declared.Device.{Device}
use Rattle.machine.specs.declared.Totals.{Totals}
use Rattle.machine.specs.declared.Answer.{Answer}
use Rattle.machine.specs.Answers.{JumpAnswer, RunAnswer, CycleAnswer, TakeAnswer}
use Rattle.machine.specs.Power.{powered_down}
use Rattle.machine.specs.Record.{accepted, pins_ok, pins_of, kind_ok, blank, zeros, reset_of}
use Rattle.machine.specs.Registers.{lacks}
use Rattle.machine.specs.Interrupts.{Source, none, source, offered, none_in_service}
use Rattle.machine.specs.Flags.{flags, rose, risen}
use Rattle.machine.specs.Times.{noted, times_after, never}
use Rattle.machine.specs.Cycle.{steps, cycle_of, cycles}
use Rattle.machine.specs.Calls.{refuse_run, passed_jump, refuse_jump, passed_run, refuse_cycle, passed_cycle, reset_answer, stored, write_answer, cycle_answer, cycles_fault, jump_answer, entry_pins, entry_cycles, trace_fault, trace_cycles, trace_answer, take_of, take_answer, return_answer}
use Rattle.machine.specs.Lists.{Call, play, run, started, machine}
use Rattle.machine.proofs.Choices.{chosen, by_test}
use Rattle.laws.specs.LastRise.{Made, made_held, made_trace, made_by, made, ever_in, number_in, LastRises}
use Rattle.laws.proofs.Tests.{at}
use Rattle.laws.proofs.Flags.{never_both}

-- One place of a list

noted_at : (new : ℕ) (rs : List Bool) (old : List ℕ) (k : ℕ) → k < length old
    → get_or (noted new rs old) k 0 ≡ cond (get_or rs k false) new (get_or old k 0)
unfolding noted
noted_at new [] old k h = refl
noted_at new (r ∷ rs) [] k h = absurd (omega arith)
noted_at new (r ∷ rs) (x ∷ old) zero h = refl
noted_at new (r ∷ rs) (x ∷ old) (suc k) h = noted_at new rs old k (omega arith)

noted_length : (new : ℕ) (rs : List Bool) (old : List ℕ) → length (noted new rs old) ≡ length old
unfolding noted
noted_length new [] old = refl
noted_length new (r ∷ rs) [] = refl
noted_length new (r ∷ rs) (x ∷ old) = ap suc (noted_length new rs old)

risen_at : (before after : List ℕ) (k : ℕ) → length before ≡ length after
    → get_or (risen before after) k false ≡ rose (get_or before k 0) (get_or after k 0)
unfolding risen
risen_at [] [] k e = refl
risen_at [] (a ∷ after) k e = absurd (omega arith)
risen_at (b ∷ before) [] k e = absurd (omega arith)
risen_at (b ∷ before) (a ∷ after) zero e = refl
risen_at (b ∷ before) (a ∷ after) (suc k) e = risen_at before after k (omega arith)

same_rose : (n : ℕ) → rose n n ≡ false
same_rose n = and_comm (eqb n 0) (eqb n 1) ∙ never_both n

-- The pairs are those looked up in the cycles
record Recalls (t : FlagTimes) (ms : List Made) : Type 0 where
  pub evers : length t.ever ≡ 8
  pub numbers : length t.number ≡ 8
  pub ever : (k : ℕ) → k < 8 → get_or t.ever k 0 ≡ ever_in k ms
  pub number : (k : ℕ) → k < 8 → get_or t.number k 0 ≡ number_in k ms

-- one cycle more
module _ (pins : ℕ) (d : Device) (ms : List Made) (r : Recalls d.times ms) where
  abbrev next : Device → List Made
  next e = record { before = d; after = e } ∷ ms

  -- in power-down
  still : Recalls d.times (next d)
  still =
      record {
        evers = r.evers;
        numbers = r.numbers;
        ever = λ k h. rw (same_rose (get_or (flags d) k 0)) (r.ever k h);
        number = λ k h. rw (same_rose (get_or (flags d) k 0)) (r.number k h);
      }

  awake : (l : ℕ) → Recalls (steps d l).times (next (steps d l))
  unfolding steps times_after flags
  awake l =
      record {
        evers = noted_length _ _ d.times.ever ∙ r.evers;
        numbers = noted_length _ _ d.times.number ∙ r.numbers;
        ever = λ k h.
            noted_at _ _ d.times.ever k (omega (arith, r.evers))
            ∙ (λ i. cond (risen_at (flags d) (flags (steps d l)) k refl i) 1 (r.ever k h i));
        number = λ k h.
            noted_at _ _ d.times.number k (omega (arith, r.numbers))
            ∙ (λ i. cond (risen_at (flags d) (flags (steps d l)) k refl i) (steps d l).cycle (r.number k h i));
      }

  cycle_recalls : Recalls (cycle_of pins d).times (next (cycle_of pins d))
  unfolding cycle_of
  cycle_recalls =
      by_test (powered_down d.pcon) (λ t. rw t still) (λ f. rw f (awake (pins_of d.kind pins)))

held_recalls : (n pins : ℕ) (d : Device) (ms : List Made) → Recalls d.times ms → Recalls (cycles n pins d).times (made_held n pins d ms)
unfolding cycles made_held
held_recalls zero pins d ms r = r
held_recalls (suc n) pins d ms r = held_recalls n pins (cycle_of pins d) _ (cycle_recalls pins d ms r)

trace_recalls : (es : List ℕ) (d : Device) (ms : List Made) → Recalls d.times ms → Recalls (trace_cycles es d).times (made_trace es d ms)
unfolding trace_cycles made_trace
trace_recalls [] d ms r = r
trace_recalls (e ∷ es) d ms r =
    trace_recalls es (cycles (entry_cycles e) (entry_pins e) d) _ (held_recalls (entry_cycles e) (entry_pins e) d ms r)

-- Each call

module _ (d : Device) where
  abbrev Kept : Answer → Type 0
  Kept a = a.device.times ≡ d.times

  abbrev KeptTake : TakeAnswer → Type 0
  KeptTake a = a.device.times ≡ d.times

  -- a write, a take and a return leave the pairs, whatever they answer
  write_keeps : (a v : ℕ) → Kept (write_answer d a v)
  unfolding write_answer stored
  write_keeps a v =
      chosen Kept (accepted d) _ _
      (chosen Kept (powered_down d.pcon) _ _ refl (chosen Kept (lacks d.kind a) _ _ refl refl)) refl

  taken : (s : Source) → KeptTake (take_of d s)
  unfolding take_of
  taken none = refl
  taken (source k) = refl

  take_keeps : KeptTake (take_answer d)
  unfolding take_answer
  take_keeps =
      chosen KeptTake (accepted d) _ _
      (chosen KeptTake (powered_down d.pcon) _ _ refl (taken (offered d.pcon d.interrupts))) refl

  return_keeps : Kept (return_answer d)
  unfolding return_answer
  return_keeps =
      chosen Kept (accepted d) _ _
      (chosen Kept (powered_down d.pcon) _ _ refl (chosen Kept (none_in_service d.interrupts) _ _ refl refl)) refl

  -- a call that makes cycles makes them where it passes, and leaves the pairs where it is refused
  module _ (ms new : List Made) (r : Recalls d.times ms) (e : Device) (q : Recalls e.times new) where
    abbrev RecallsJump : JumpAnswer → Type 0
    RecallsJump a = Recalls a.device.times (cond (eqb a.code 0) new ms)

    abbrev RecallsRun : RunAnswer → Type 0
    RecallsRun a = Recalls a.device.times (cond (eqb a.code 0) new ms)

    abbrev RecallsCycle : CycleAnswer → Type 0
    RecallsCycle a = Recalls a.device.times (cond (eqb a.code 0) new ms)

    -- refused by a number that is not 0
    jump_recalls : (t : Totals) (rounds fault : ℕ) (b : Bool) → eqb fault 0 ≡ b → RecallsJump (cond b (passed_jump t rounds e) (refuse_jump fault d))
    jump_recalls t rounds fault true f = q
    jump_recalls t rounds fault false f = rw f r

    run_recalls : (t : Totals) (fault : ℕ) (b : Bool) → eqb fault 0 ≡ b → RecallsRun (cond b (passed_run t e) (refuse_run fault d))
    run_recalls t fault true f = q
    run_recalls t fault false f = rw f r

    trace_answers : (t : Totals) (fault : ℕ)
        → RecallsRun (cond (accepted d) (cond (eqb fault 0) (passed_run t e) (refuse_run fault d)) (refuse_run 1 d))
    trace_answers t fault = chosen RecallsRun (accepted d) _ _ (run_recalls t fault (eqb fault 0) refl) r

    cycle_answers : (pins : ℕ) → RecallsCycle (cond (accepted d) (cond (pins_ok pins) (passed_cycle e) (refuse_cycle 4 d)) (refuse_cycle 1 d))
    cycle_answers pins = chosen RecallsCycle (accepted d) _ _ (chosen RecallsCycle (pins_ok pins) _ _ q r) r

-- no flag ever rose, and no cycle was made
zero_at : List ℕ → ℕ → Bool
zero_at ns k = eqb (get_or ns k 0) 0

none_yet : Recalls never []
unfolding never zero_at
none_yet =
    record {
      evers = refl;
      numbers = refl;
      ever = λ k h. eqb→eq (get_or never.ever k 0) 0 (at (zero_at never.ever) 8 tt k h);
      number = λ k h. eqb→eq (get_or never.number k 0) 0 (at (zero_at never.number) 8 tt k h);
    }

reset_recalls : (kind : ℕ) → Recalls (reset_answer kind).device.times []
unfolding reset_answer reset_of zeros blank
reset_recalls kind = chosen (λ (a : Answer). Recalls a.device.times []) (kind_ok kind) _ _ none_yet none_yet

call_recalls : (c : Call) (d : Device) (ms : List Made) → Recalls d.times ms → Recalls (play c d).device.times (made_by c d ms)
unfolding play made_by cycle_answer jump_answer trace_answer cycles made_held
call_recalls (Call.reset kind) d ms r = reset_recalls kind
call_recalls (Call.read a) d ms r = r
call_recalls (Call.write a v) d ms r = rw (write_keeps d a v) r
call_recalls (Call.cycle pins) d ms r =
    cycle_answers d ms _ r (cycle_of pins d) (held_recalls 1 pins d ms r) pins
call_recalls (Call.jump pins n) d ms r =
    jump_recalls d ms _ r (cycles n pins d) (held_recalls n pins d ms r) _ _ (cycles_fault d pins n) (eqb (cycles_fault d pins n) 0) refl
call_recalls (Call.trace es) d ms r =
    trace_answers d ms _ r (trace_cycles es d) (trace_recalls es d ms r) _ (trace_fault es)
call_recalls (Call.look pins n) d ms r = r
call_recalls Call.offer d ms r = r
call_recalls Call.take d ms r = rw (take_keeps d) r
call_recalls Call.return d ms r = rw (return_keeps d) r
call_recalls (Call.wake pins n) d ms r = r

run_all : (cs : List Call) (d : Device) (ms : List Made) → Recalls d.times ms → Recalls (run cs d).device.times (made cs d ms)
unfolding run made
run_all [] d ms r = r
run_all (c ∷ cs) d ms r = run_all cs (play c d).device (made_by c d ms) (call_recalls c d ms r)

pub last_rises : LastRises
unfolding machine started run
last_rises =
    let all : (kind : ℕ) (cs : List Call) → Recalls (run cs (reset_answer kind).device).device.times (made cs (reset_answer kind).device []) =
    λ kind cs. run_all cs (reset_answer kind).device [] (reset_recalls kind) in
    record { ever = λ kind cs. (all kind cs).ever; number = λ kind cs. (all kind cs).number }
