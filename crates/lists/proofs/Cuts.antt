-- Any cut ends alike: a call that passes leaves the device after its cycles, one for each pin byte, and the cycles of a list of calls
-- are those of its calls in turn. So it is of their overflows, which jumps and trace runs answer.
use Prim.Native.Nat.{ℕ, zero, suc}
use mathlib.Core.Path.{◌≡◌, refl, sym, ap, ◌∙◌}
use mathlib.Core.Bool.{Bool, true, false, cond}
use mathlib.Core.List.{List, [], ◌∷◌, ◌++◌}
use native.Mathlib.Omega.{arith}
use lib.Dec.{eqb}
use borrow.Author.Tests.{eqb-false}
use Rattle.machine.specs.declared.Totals.{Totals}
use Rattle.machine.specs.Answers.{JumpAnswer, RunAnswer}
use Rattle.machine.specs.declared.Device.{Device}
use Rattle.machine.specs.Record.{accepted, pins_ok}
use Rattle.machine.specs.Cycle.{cycle_of, cycles}
use Rattle.machine.specs.Totals.{added, totals_next, totals}
use Rattle.machine.specs.Rounds.{rounds}
use Rattle.machine.specs.Calls.{refuse_jump, passed_jump, refuse_run, passed_run, refuse_cycle, passed_cycle, cycle_answer, cycles_fault, jump_answer, entry_pins, entry_cycles, trace_fault, trace_cycles, trace_totals, trace_answer}
use Rattle.machine.specs.Lists.{Call, Reply, Played, reply_of_jump, reply_of_run, play}
use Rattle.totals.proofs.Sums.{none_added, added_on}
use Rattle.lists.specs.Spelling.{Each}
use Rattle.lists.specs.Demand3.{Chained}
use Rattle.lists.specs.Demand3.Chained.{nothing, then}
use Rattle.lists.specs.Cuts.{over, overflows_over, held, entries_held, pins_of_call, pins_of_calls, Crosses, Counts, totals_in, summed, Passed, Cuts}
use Rattle.lists.proofs.Demand3.{kept_played}

over_append : (xs ys : List ℕ) (d : Device) → over (xs ++ ys) d ≡ over ys (over xs d)
unfolding over
over_append [] ys d = refl
over_append (x ∷ xs) ys d = over_append xs ys (cycle_of x d)

over_held : (n pins : ℕ) (d : Device) → over (held n pins) d ≡ cycles n pins d
unfolding over held cycles
over_held zero pins d = refl
over_held (suc n) pins d = over_held n pins (cycle_of pins d)

over_entries : (es : List ℕ) (d : Device) → over (entries_held es) d ≡ trace_cycles es d
unfolding over entries_held trace_cycles
over_entries [] d = refl
over_entries (e ∷ es) d =
    over_append (held (entry_cycles e) (entry_pins e)) (entries_held es) d
    ∙ (ap (over (entries_held es)) (over_held (entry_cycles e) (entry_pins e) d)
    ∙ over_entries es (cycles (entry_cycles e) (entry_pins e) d))

-- an answer that passes is not one of the refusals
cycle_passed : (a b : Bool) (d e : Device)
    → (cond a (cond b (passed_cycle e) (refuse_cycle 4 d)) (refuse_cycle 1 d)).code ≡ 0
    → (cond a (cond b (passed_cycle e) (refuse_cycle 4 d)) (refuse_cycle 1 d)).device ≡ e
cycle_passed true true d e h = refl
cycle_passed true false d e h = absurd (omega arith)
cycle_passed false b d e h = absurd (omega arith)

run_passed : (b : Bool) (fault : ℕ) (t : Totals) (d e : Device) → eqb fault 0 ≡ b
    → (cond b (passed_run t e) (refuse_run fault d)).code ≡ 0 → cond b (passed_run t e) (refuse_run fault d) ≡ passed_run t e
run_passed true fault t d e q h = refl
run_passed false fault t d e q h = absurd (eqb-false fault 0 q h)

trace_passed : (a b : Bool) (fault : ℕ) (t : Totals) (d e : Device) → eqb fault 0 ≡ b
    → (cond a (cond b (passed_run t e) (refuse_run fault d)) (refuse_run 1 d)).code ≡ 0
    → cond a (cond b (passed_run t e) (refuse_run fault d)) (refuse_run 1 d) ≡ passed_run t e
trace_passed true b fault t d e q h = run_passed b fault t d e q h
trace_passed false b fault t d e q h = absurd (omega arith)

jump_passed : (pins n : ℕ) (d : Device) → (jump_answer d pins n).code ≡ 0
    → jump_answer d pins n ≡ passed_jump (totals n pins d) (rounds n pins d) (cycles n pins d)
unfolding jump_answer
jump_passed pins n d h = go (eqb (cycles_fault d pins n) 0) refl h
  where
    passes : JumpAnswer
    passes = passed_jump (totals n pins d) (rounds n pins d) (cycles n pins d)

    go : (b : Bool) → eqb (cycles_fault d pins n) 0 ≡ b → (cond b passes (refuse_jump (cycles_fault d pins n) d)).code ≡ 0
        → cond b passes (refuse_jump (cycles_fault d pins n) d) ≡ passes
    go true q h = refl
    go false q h = absurd (eqb-false (cycles_fault d pins n) 0 q h)

entries_passed : (es : List ℕ) (d : Device) → (trace_answer d es).code ≡ 0 → trace_answer d es ≡ passed_run (trace_totals es d) (trace_cycles es d)
unfolding trace_answer
entries_passed es d h = trace_passed (accepted d) (eqb (trace_fault es) 0) (trace_fault es) _ d _ refl h

-- a call that passes leaves the device after its cycles
call_over : {c : Call} (x : Crosses c) (d : Device) → (play c d).reply.code ≡ 0 → (play c d).device ≡ over (pins_of_call c) d
unfolding play over pins_of_call cycle_answer
call_over (Crosses.cycle {pins = pins}) d h =
    cycle_passed (accepted d) (pins_ok pins) d (cycle_of pins d) h
call_over (Crosses.jump {pins = pins} {n = n}) d h =
    ap (λ (a : JumpAnswer). a.device) (jump_passed pins n d h) ∙ sym (over_held n pins d)
call_over (Crosses.trace {es = es}) d h =
    ap (λ (a : RunAnswer). a.device) (entries_passed es d h) ∙ sym (over_entries es d)

-- and so does a list of them
list_over : {cs : List Call} {d last : Device} {rs : List Reply} → Chained cs d rs last → Each Crosses cs → Each Passed rs
    → last ≡ over (pins_of_calls cs) d
unfolding over pins_of_calls Each
list_over nothing x p = refl
list_over (then {c = c} {cs = cs} {d = d} k r) (x, xs) (p, ps) =
    let here = kept_played k in
    list_over r xs ps
    ∙ (ap (λ (q : _). over (pins_of_calls cs) q.device) here
    ∙ (ap (over (pins_of_calls cs)) (call_over x d (sym (ap (λ (q : _). q.reply.code) here) ∙ p))
    ∙ sym (over_append (pins_of_call c) (pins_of_calls cs) d)))

-- Overflows

laps_append : (xs ys : List ℕ) (d : Device) → overflows_over (xs ++ ys) d ≡ added (overflows_over xs d) (overflows_over ys (over xs d))
unfolding overflows_over over
laps_append [] ys d = sym (none_added (overflows_over ys d))
laps_append (x ∷ xs) ys d =
    ap (added (totals_next x d)) (laps_append xs ys (cycle_of x d))
    ∙ sym (added_on (totals_next x d) (overflows_over xs (cycle_of x d)) (overflows_over ys (over xs (cycle_of x d))))

laps_held : (n pins : ℕ) (d : Device) → overflows_over (held n pins) d ≡ totals n pins d
unfolding overflows_over held totals
laps_held zero pins d = refl
laps_held (suc n) pins d = ap (added (totals_next pins d)) (laps_held n pins (cycle_of pins d))

laps_entries : (es : List ℕ) (d : Device) → overflows_over (entries_held es) d ≡ trace_totals es d
unfolding overflows_over entries_held trace_totals
laps_entries [] d = refl
laps_entries (e ∷ es) d =
    let one = held (entry_cycles e) (entry_pins e) in
    laps_append one (entries_held es) d
    ∙ (λ i. added (laps_held (entry_cycles e) (entry_pins e) d i)
    ((ap (overflows_over (entries_held es)) (over_held (entry_cycles e) (entry_pins e) d) ∙ laps_entries es (cycles (entry_cycles e) (entry_pins e) d)) i))

-- a call that passes answers the overflows in its cycles
call_laps : {c : Call} (x : Counts c) (d : Device) → (play c d).reply.code ≡ 0 → totals_in (play c d).reply ≡ overflows_over (pins_of_call c) d
unfolding play pins_of_call totals_in
call_laps (Counts.jump {pins = pins} {n = n}) d h =
    ap (λ (a : JumpAnswer). totals_in (reply_of_jump a)) (jump_passed pins n d h) ∙ sym (laps_held n pins d)
call_laps (Counts.trace {es = es}) d h =
    ap (λ (a : RunAnswer). totals_in (reply_of_run a)) (entries_passed es d h) ∙ sym (laps_entries es d)

crosses : {c : Call} → Counts c → Crosses c
crosses Counts.jump = Crosses.jump
crosses Counts.trace = Crosses.trace

-- and so does a list of them
list_laps : {cs : List Call} {d last : Device} {rs : List Reply} → Chained cs d rs last → Each Counts cs → Each Passed rs
    → summed rs ≡ overflows_over (pins_of_calls cs) d
unfolding overflows_over pins_of_calls summed Each
list_laps nothing x p = refl
list_laps (then {c = c} {cs = cs} {d = d} k r) (x, xs) (p, ps) =
    let here = kept_played k in
    let passed = sym (ap (λ (q : Played). q.reply.code) here) ∙ p in
    (λ i. added ((ap (λ (q : Played). totals_in q.reply) here ∙ call_laps x d passed) i)
    ((list_laps r xs ps
    ∙ (ap (λ (q : Played). overflows_over (pins_of_calls cs) q.device) here
    ∙ ap (overflows_over (pins_of_calls cs)) (call_over (crosses x) d passed))) i))
    ∙ sym (laps_append (pins_of_call c) (pins_of_calls cs) d)

pub cuts : Cuts
cuts =
    record {
      alike = λ {cs} {es} {d} xs ys ps qs same a b.
          list_over a xs ps ∙ (ap (λ (pins : List ℕ). over pins d) same ∙ sym (list_over b ys qs));
      totals = λ {cs} {es} {d} xs ys ps qs same a b.
          list_laps a xs ps ∙ (ap (λ (pins : List ℕ). overflows_over pins d) same ∙ sym (list_laps b ys qs));
    }
