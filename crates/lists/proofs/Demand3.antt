-- Demand 3, by induction on the list: each step is what a contract promises, and that is the plain machine's.
use mathlib.Core.Path.{◌≡◌, refl, sym, ap, subst, ◌∙◌}
use mathlib.Core.List.{List, [], ◌∷◌, ◌++◌}
use Prim.Native.Nat.{ℕ, zero}
use native.Mathlib.Omega.{arith}
use lib.ListN.{length}
use Rattle.machine.specs.declared.Device.{Device}
use Rattle.machine.specs.declared.Answer.{Answer}
use Rattle.machine.specs.Answers.{JumpAnswer, RunAnswer, CycleAnswer, TakeAnswer, ReadAnswer, OfferAnswer, LookAnswer}
use Rattle.std.specs.Prelude.{Option, Some, None, Result, Ok, Err}
use Rattle.std.specs.Borrow.{MutBor}
use Rattle.machine.specs.declared.Totals.{Totals}
use Rattle.machine.specs.declared.Jumped.{Jumped}
use Rattle.machine.specs.declared.refusals.Refusal.{Refusal}
use Rattle.machine.specs.Outcomes.{code_of, cycle_answered, jump_answered, run_answered, take_answered, look_answered}
use Rattle.machine.specs.Calls.{reset_answer, read_answer, write_answer, cycle_answer, jump_answer, trace_answer, look_answer, offer_answer, take_answer, return_answer, wake_answer}
use Rattle.machine.proofs.Outcomes.{reset_said, read_said, write_said, cycle_said, jump_said, trace_said, look_said, offer_said, take_said, return_said, wake_said}
use Rattle.machine.specs.Lists.{Call, Value, Reply, Played, Ran, ran, play, run, Start, started, machine, played, reply_of, reply_of_jump, reply_of_run, reply_of_cycle, reply_of_take, reply_of_read, reply_of_offer, reply_of_look}
use Rattle.c51_checkpoint.proofs.Promises.{saved_loaded}
use Rattle.lists.specs.Demand3.{Kept, Chained, Started, AsksNothing, rises_in, offered_after, Tells, ToldInLists, Demand3}
use Rattle.lists.specs.Demand3.Chained.{nothing, then}
use Rattle.lists.proofs.Looks.{look_means, look_tells, wake_means, wake_tells}
use Rattle.lists.proofs.Spells.{spelled}
use Rattle.lists.proofs.Replayed.{run_long, replayed}

-- an outcome that is written down as the machine's answer leaves the device of that answer
cycle_kept : (r : Result ℕ Refusal) (f : Device) {a : CycleAnswer} → cycle_answered r f ≡ a
    → played (reply_of_cycle (cycle_answered r f)) f ≡ played (reply_of_cycle a) a.device
cycle_kept (Ok n) f e = ap (λ (a : CycleAnswer). played (reply_of_cycle a) a.device) e
cycle_kept (Err n) f e = ap (λ (a : CycleAnswer). played (reply_of_cycle a) a.device) e

jump_kept : (r : Result Jumped Refusal) (f : Device) {a : JumpAnswer} → jump_answered r f ≡ a
    → played (reply_of_jump (jump_answered r f)) f ≡ played (reply_of_jump a) a.device
jump_kept (Ok j) f e = ap (λ (a : JumpAnswer). played (reply_of_jump a) a.device) e
jump_kept (Err n) f e = ap (λ (a : JumpAnswer). played (reply_of_jump a) a.device) e

run_kept : (r : Result Totals Refusal) (f : Device) {a : RunAnswer} → run_answered r f ≡ a
    → played (reply_of_run (run_answered r f)) f ≡ played (reply_of_run a) a.device
run_kept (Ok t) f e = ap (λ (a : RunAnswer). played (reply_of_run a) a.device) e
run_kept (Err n) f e = ap (λ (a : RunAnswer). played (reply_of_run a) a.device) e

take_kept : (r : Result ℕ Refusal) (f : Device) {a : TakeAnswer} → take_answered r f ≡ a
    → played (reply_of_take (take_answered r f)) f ≡ played (reply_of_take a) a.device
take_kept (Ok n) f e = ap (λ (a : TakeAnswer). played (reply_of_take a) a.device) e
take_kept (Err n) f e = ap (λ (a : TakeAnswer). played (reply_of_take a) a.device) e

-- a call that keeps its contract is played as the machine plays it
pub kept_played : {c : Call} {d : Device} {p : Played} → Kept c d p → p ≡ play c d
unfolding play
kept_played (Kept.reset κ x y r e) = ap (λ (a : Answer). played (reply_of a) a.device) e
kept_played (Kept.read {d = d} r e) = ap (λ (a : ReadAnswer). played (reply_of_read a) d) e.0
kept_played (Kept.write κ x y r e) = ap (λ (a : Answer). played (reply_of a) a.device) e
kept_played (Kept.cycle κ x y r e) = cycle_kept r y.now e
kept_played (Kept.jump κ x y r e) = jump_kept r y.now e
kept_played (Kept.trace κ ι x y es r e) = run_kept r y.now e
kept_played (Kept.look {d = d} r e) = ap (λ (a : LookAnswer). played (reply_of_look a) d) e.0
kept_played (Kept.offer {d = d} r e) = ap (λ (a : OfferAnswer). played (reply_of_offer a) d) e.0
kept_played (Kept.take κ x y r e) = take_kept r y.now e
kept_played (Kept.return κ x y r e) = ap (λ (a : Answer). played (reply_of a) a.device) e
kept_played (Kept.wake {d = d} r e) = ap (λ (a : LookAnswer). played (reply_of_look a) d) e.0

chained : {cs : List Call} {d : Device} {rs : List Reply} {last : Device} → Chained cs d rs last → ran rs last ≡ run cs d
unfolding run
chained nothing = refl
chained (then {cs = cs} {p = p} k r) =
    ap (λ (m : Ran). ran (p.reply ∷ m.replies) m.device) (chained r)
    ∙ ap (λ (q : Played). ran (q.reply ∷ (run cs q.device).replies) (run cs q.device).device) (kept_played k)

-- a device as it is lent
abbrev lent : Device → MutBor Device
lent d = record { ref_ptr = (0, 0); ghost_name = zero; now = d }

-- each call on any device: the outcome whose answer the machine's is
module _ (d : Device) where
  reset_kept : (kind : ℕ) → Kept (Call.reset kind) d (played (reply_of (reset_answer kind)) (reset_answer kind).device)
  reset_kept kind =
      let a = reset_answer kind in
      let s = reset_said kind in
      subst (λ (x : Answer). Kept (Call.reset kind) d (played (reply_of x) a.device)) s.1
      (Kept.reset [] (lent d) (lent a.device) s.0 s.1)

  read_kept : (a : ℕ) → Kept (Call.read a) d (played (reply_of_read (read_answer d a)) d)
  unfolding play
  read_kept a =
      let s = read_said d a in
      subst (λ (x : ReadAnswer). Kept (Call.read a) d (played (reply_of_read x) d)) s.1
      (Kept.read s.0 (s.1, ap reply_of_read s.1))

  write_kept : (a v : ℕ) → Kept (Call.write a v) d (played (reply_of (write_answer d a v)) (write_answer d a v).device)
  write_kept a v =
      let b = write_answer d a v in
      let s = write_said d a v in
      subst (λ (x : Answer). Kept (Call.write a v) d (played (reply_of x) b.device)) s.1
      (Kept.write [] (lent d) (lent b.device) s.0 s.1)

  cycle_kept_of : (pins : ℕ) → Kept (Call.cycle pins) d (played (reply_of_cycle (cycle_answer d pins)) (cycle_answer d pins).device)
  cycle_kept_of pins =
      let a = cycle_answer d pins in
      let s = cycle_said d pins in
      subst (λ (x : CycleAnswer). Kept (Call.cycle pins) d (played (reply_of_cycle x) a.device)) s.1
      (Kept.cycle [] (lent d) (lent a.device) s.0 s.1)

  jump_kept_of : (pins n : ℕ)
      → Kept (Call.jump pins n) d (played (reply_of_jump (jump_answer d pins n)) (jump_answer d pins n).device)
  jump_kept_of pins n =
      let a = jump_answer d pins n in
      let s = jump_said d pins n in
      subst (λ (x : JumpAnswer). Kept (Call.jump pins n) d (played (reply_of_jump x) a.device)) s.1
      (Kept.jump [] (lent d) (lent a.device) s.0 s.1)

  trace_kept_of : (es : List ℕ) → Kept (Call.trace es) d (played (reply_of_run (trace_answer d es)) (trace_answer d es).device)
  trace_kept_of es =
      let a = trace_answer d es in
      let s = trace_said d es in
      subst (λ (x : RunAnswer). Kept (Call.trace es) d (played (reply_of_run x) a.device)) s.1
      (Kept.trace [] [] (lent d) (lent a.device) (record { ref_ptr = (0, 0); now = es }) s.0 s.1)

  look_kept : (pins n : ℕ) → Kept (Call.look pins n) d (played (reply_of_look (look_answer d pins n)) d)
  unfolding play
  look_kept pins n =
      let s = look_said d pins n in
      subst (λ (x : LookAnswer). Kept (Call.look pins n) d (played (reply_of_look x) d)) s.1
      (Kept.look s.0 (s.1, ap reply_of_look s.1))

  offer_kept : Kept Call.offer d (played (reply_of_offer (offer_answer d)) d)
  unfolding play
  offer_kept =
      let s = offer_said d in
      subst (λ (x : OfferAnswer). Kept Call.offer d (played (reply_of_offer x) d)) s.1
      (Kept.offer s.0 (s.1, ap reply_of_offer s.1))

  take_kept_of : Kept Call.take d (played (reply_of_take (take_answer d)) (take_answer d).device)
  take_kept_of =
      let a = take_answer d in
      let s = take_said d in
      subst (λ (x : TakeAnswer). Kept Call.take d (played (reply_of_take x) a.device)) s.1
      (Kept.take [] (lent d) (lent a.device) s.0 s.1)

  return_kept : Kept Call.return d (played (reply_of (return_answer d)) (return_answer d).device)
  return_kept =
      let a = return_answer d in
      let s = return_said d in
      subst (λ (x : Answer). Kept Call.return d (played (reply_of x) a.device)) s.1
      (Kept.return [] (lent d) (lent a.device) s.0 s.1)

  wake_kept : (pins n : ℕ) → Kept (Call.wake pins n) d (played (reply_of_look (wake_answer d pins n)) d)
  unfolding play
  wake_kept pins n =
      let s = wake_said d pins n in
      subst (λ (x : LookAnswer). Kept (Call.wake pins n) d (played (reply_of_look x) d)) s.1
      (Kept.wake s.0 (s.1, ap reply_of_look s.1))

pub kept_of : (c : Call) (d : Device) → Kept c d (play c d)
unfolding play
kept_of (Call.reset kind) d = reset_kept d kind
kept_of (Call.read a) d = read_kept d a
kept_of (Call.write a v) d = write_kept d a v
kept_of (Call.cycle pins) d = cycle_kept_of d pins
kept_of (Call.jump pins n) d = jump_kept_of d pins n
kept_of (Call.trace es) d = trace_kept_of d es
kept_of (Call.look pins n) d = look_kept d pins n
kept_of Call.offer d = offer_kept d
kept_of Call.take d = take_kept_of d
kept_of Call.return d = return_kept d
kept_of (Call.wake pins n) d = wake_kept d pins n

every_list : (cs : List Call) (d : Device) → Chained cs d (run cs d).replies (run cs d).device
unfolding run
every_list [] d = nothing
every_list (c ∷ cs) d = then (kept_of c d) (every_list cs (play c d).device)

asks_nothing : AsksNothing
asks_nothing =
    record {
      resets = λ κ d kind. tt;
      reads = λ d a. tt;
      writes = λ κ d a v. tt;
      saves = λ κ d buffer. tt;
      loads = λ κ ι d file. tt;
      cycles = λ κ d pins. tt;
      jumps = λ κ d pins n. tt;
      traces = λ κ ι d es. tt;
      looks = λ d pins n. tt;
      offers = λ d. tt;
      takes = λ κ d. tt;
      returns = λ κ d. tt;
      wakes = λ d pins n. tt;
    }

-- a start that keeps its contract is the machine's
pub start_is : {start : Start} {a : Answer} → Started start a → a ≡ started start
unfolding started
start_is (Started.reset κ x y r e) = e
start_is (Started.load κ ι x y file r e) = e

-- a list in two parts: the second from the state that the first leaves
run_append : (xs ys : List Call) (d : Device) → (run (xs ++ ys) d).replies ≡ (run xs d).replies ++ (run ys (run xs d).device).replies
unfolding run
run_append [] ys d = refl
run_append (x ∷ xs) ys d = ap (λ (rs : List Reply). (play x d).reply ∷ rs) (run_append xs ys (play x d).device)

run_further : (xs ys : List Call) (d : Device) → (run (xs ++ ys) d).device ≡ (run ys (run xs d).device).device
unfolding run
run_further [] ys d = refl
run_further (x ∷ xs) ys d = run_further xs ys (play x d).device

-- two lists, the second from where the first ends
run_joined : (xs ys : List Call) (d mid last : Device) (earlier later : List Reply)
    → ran earlier mid ≡ run xs d → ran later last ≡ run ys mid → ran (earlier ++ later) last ≡ run (xs ++ ys) d
run_joined xs ys d mid last earlier later e f =
    let g = f ∙ ap (λ (m : Ran). run ys m.device) e in
    (λ i. ran ((e i).replies ++ (g i).replies) (g i).device)
    ∙ (λ i. ran (sym (run_append xs ys d) i) (sym (run_further xs ys d) i))

-- the first members after two equally long parts of one list
heads : (xs us ys vs : List Reply) (a b : Reply) → length xs ≡ length us → xs ++ (a ∷ ys) ≡ us ++ (b ∷ vs) → a ≡ b
heads [] [] ys vs a b l e = cc
heads [] (u ∷ us) ys vs a b l e = absurd (omega arith)
heads (x ∷ xs) [] ys vs a b l e = absurd (omega arith)
heads (x ∷ xs) (u ∷ us) ys vs a b l e = heads xs us ys vs a b (omega arith) (cc)

-- the reply at the place of a call is what the machine replies to it there
reply_there : (before after : List Call) (c : Call) (d last : Device) (earlier later : List Reply) (r : Reply)
    → ran (earlier ++ (r ∷ later)) last ≡ run (before ++ (c ∷ after)) d → length earlier ≡ length before
    → r ≡ (play c (run before d).device).reply
unfolding run
reply_there before after c d last earlier later r e l =
    let all = ap (λ (m : Ran). m.replies) e ∙ run_append before (c ∷ after) d in
    let there = (run before d).device in
    heads earlier (run before d).replies later (run after (play c there).device).replies r (play c there).reply (l ∙ sym (run_long before d)) all

-- what the machine's reply tells, the reply in the list tells
told_in_lists : (call : Call) (Told : Device → Value → Type 0)
    → ((d : Device) (r : Reply) → r ≡ (play call d).reply → r.code ≡ 0 → Told d r.value) → ToldInLists call Told
unfolding machine
told_in_lists call Told tells start a before after earlier later r last s c l p =
    let whole = chained c ∙ ap (λ (b : Answer). run (before ++ (call ∷ after)) b.device) (start_is s) in
    tells (machine start before).device r (reply_there before after call (started start).device last earlier later r whole l) p

looks_in_lists : (pins n : ℕ) → ToldInLists (Call.look pins n) (λ d. Tells 1 n (rises_in pins d))
unfolding play
looks_in_lists pins n = told_in_lists (Call.look pins n) _ (λ d r. look_tells pins n d r)

wakes_in_lists : (pins n : ℕ) → ToldInLists (Call.wake pins n) (λ d. Tells 0 n (offered_after pins d))
unfolding play
wakes_in_lists pins n = told_in_lists (Call.wake pins n) _ (λ d r. wake_tells pins n d r)

-- the code of what a look gives
look_code : (r : Result (Option ℕ) Refusal) → (reply_of_look (look_answered r)).code ≡ code_of r
look_code (Ok (Some k)) = refl
look_code (Ok None) = refl
look_code (Err e) = refl

pub demand3 : Demand3
unfolding machine
demand3 =
    record {
      from_any = chained;
      from_start = λ start {a} {cs} s c. chained c ∙ ap (λ (b : Answer). run cs b.device) (start_is s);
      moved = λ {before} {after} {d} {saved} {last} {earlier} {later} κ ι μ s r x y buffer filled file c sized p z same l c'.
          run_joined before after d saved last earlier later (chained c)
          (chained c' ∙ ap (run after) (saved_loaded κ ι μ saved buffer filled x y file s r sized p z same l).1);
      every_list = every_list;
      asks_nothing = asks_nothing;
      looks = λ d pins n r e p. look_means pins n d (look_answered r) e.0 (look_code r ∙ p);
      looks_in_lists = looks_in_lists;
      wakes = λ d pins n r e p. wake_means pins n d (look_answered r) e.0 (look_code r ∙ p);
      wakes_in_lists = wakes_in_lists;
      spelled = spelled;
      replayed = replayed;
    }
