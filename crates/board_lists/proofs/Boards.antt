-- Lists of calls on the board, by induction on the list: each step is what a contract promises, and that is the plain board's.
use mathlib.Core.Path.{◌≡◌, refl, ap, ap₂, subst, ◌∙◌}
use Prim.Native.Nat.{ℕ, zero}
use mathlib.Core.List.{List, [], ◌∷◌, map}
use Rattle.machine.specs.declared.Device.{Device}
use Rattle.machine.specs.declared.Answer.{Answer}
use Rattle.machine.specs.Lists.{Reply, says}
use Rattle.machine.specs.Lists as Chip
use Rattle.interval.specs.declared.Interval.{Interval}
use Rattle.std.specs.Prelude.{Result, Ok, Err}
use Rattle.std.specs.Borrow.{MutBor}
use Rattle.machine.specs.declared.refusals.Refusal.{Refusal}
use Rattle.interval.specs.Answers.{WriteAnswer, ReadAnswer, PulseAnswer}
use Rattle.interval.specs.Calls.{write_answer, read_answer, pulse_answer, jump_answer}
use Rattle.interval.specs.Outcomes.{read_answered, pulse_answered}
use Rattle.interval.proofs.Outcomes.{write_said, read_said, pulse_said, jump_said}
use Rattle.board.specs.declared.BoardCycled.{BoardCycled}
use Rattle.board.specs.declared.BoardJumped.{BoardJumped}
use Rattle.board.specs.Board as Both
use Rattle.board.specs.Outcomes.{cycle_answered, jump_answered}
use Rattle.board.proofs.Outcomes.{cycle_said, board_jump_said}
use Rattle.interval.specs.Lists.{Played, played, Ran, ran, reply_of_write, reply_of_read, reply_of_pulse, run_by}
use Rattle.interval.specs.Lists as Timer
use Rattle.board.specs.declared.Board.{Board}
use Rattle.board.specs.Answers.{BoardCycleAnswer, BoardJumpAnswer}
use Rattle.board.specs.Lists.{Call, board, reply_of_cycle, reply_of_jump, play, run, machine}
use Rattle.lists.proofs.Demand3.{start_is, demand3, kept_played, kept_of}
use Rattle.board_lists.specs.Boards.{KeptTimer, Kept, Chained, AsksNothing, Boards}

-- an outcome that is written down as the plain answer leaves what that answer leaves
read_kept : (r : Result ℕ Refusal) (i : Interval) {a : ReadAnswer} → read_answered r i ≡ a
    → played (reply_of_read (read_answered r i)) i ≡ played (reply_of_read a) a.interval
read_kept (Ok n) i e = ap (λ (a : ReadAnswer). played (reply_of_read a) a.interval) e
read_kept (Err n) i e = ap (λ (a : ReadAnswer). played (reply_of_read a) a.interval) e

pulse_kept : (r : Result ℕ Refusal) (i : Interval) {a : PulseAnswer} → pulse_answered r i ≡ a
    → played (reply_of_pulse (pulse_answered r i)) i ≡ played (reply_of_pulse a) a.interval
pulse_kept (Ok n) i e = ap (λ (a : PulseAnswer). played (reply_of_pulse a) a.interval) e
pulse_kept (Err n) i e = ap (λ (a : PulseAnswer). played (reply_of_pulse a) a.interval) e

cycle_kept : (r : Result BoardCycled Refusal) (b : Board) {a : BoardCycleAnswer} → cycle_answered r b ≡ a
    → played (reply_of_cycle (cycle_answered r b)) b ≡ played (reply_of_cycle a) a.board
cycle_kept (Ok c) b e = ap (λ (a : BoardCycleAnswer). played (reply_of_cycle a) a.board) e
cycle_kept (Err n) b e = ap (λ (a : BoardCycleAnswer). played (reply_of_cycle a) a.board) e

jump_kept : (r : Result BoardJumped Refusal) (b : Board) {a : BoardJumpAnswer} → jump_answered r b ≡ a
    → played (reply_of_jump (jump_answered r b)) b ≡ played (reply_of_jump a) a.board
jump_kept (Ok j) b e = ap (λ (a : BoardJumpAnswer). played (reply_of_jump a) a.board) e
jump_kept (Err n) b e = ap (λ (a : BoardJumpAnswer). played (reply_of_jump a) a.board) e

-- a call that keeps its contract is played as the plain board plays it
timer_played : {c : Timer.Call} {i : Interval} {p : Played Interval} → KeptTimer c i p → p ≡ Timer.play c i
unfolding Timer.play
timer_played (KeptTimer.reset e) = ap (played (says 0 Chip.nothing)) e
timer_played (KeptTimer.write κ c d r e) = ap (λ (a : WriteAnswer). played (reply_of_write a) a.interval) e
timer_played (KeptTimer.read κ c d r e) = read_kept r d.now e
timer_played (KeptTimer.pulse κ c d r e) = pulse_kept r d.now e
timer_played (KeptTimer.jump κ c d r e) = pulse_kept r d.now e

all_played : {c : Call} {b : Board} {p : Played Board} → Kept c b p → p ≡ play c b
unfolding play
all_played (Kept.chip {i = i} k) = ap (λ (p : Chip.Played). played p.reply (board p.device i)) (kept_played k)
all_played (Kept.timer {d = d} k) = ap (λ (p : Played Interval). played p.reply (board d p.state)) (timer_played k)
all_played (Kept.cycle κ b c r e) = cycle_kept r c.now e
all_played (Kept.jump κ b c r e) = jump_kept r c.now e

chained : {cs : List Call} {b : Board} {rs : List Reply} {last : Board} → Chained cs b rs last → ran rs last ≡ run cs b
unfolding run_by
chained Chained.nothing = refl
chained (Chained.then {cs = cs} {p = p} k r) =
    ap (λ (m : Ran Board). ran (p.reply ∷ m.replies) m.state) (chained r)
    ∙ ap (λ (q : Played Board). ran (q.reply ∷ (run cs q.state).replies) (run cs q.state).state) (all_played k)

-- what is lent
abbrev lent : {A : Type 0} → A → MutBor A
lent x = record { ref_ptr = (0, 0); ghost_name = zero; now = x }

-- each call on any board: the outcome whose answer the plain one is
timer_kept : (c : Timer.Call) (i : Interval) → KeptTimer c i (Timer.play c i)
unfolding Timer.play
timer_kept Timer.Call.reset i = KeptTimer.reset refl
timer_kept (Timer.Call.write a v) i =
    let b = write_answer i a v in
    let s = write_said i a v in
    subst (λ (x : WriteAnswer). KeptTimer (Timer.Call.write a v) i (played (reply_of_write x) b.interval)) s.1
    (KeptTimer.write [] (lent i) (lent b.interval) s.0 s.1)
timer_kept (Timer.Call.read a) i =
    let b = read_answer i a in
    let s = read_said i a in
    subst (λ (x : ReadAnswer). KeptTimer (Timer.Call.read a) i (played (reply_of_read x) b.interval)) s.1
    (KeptTimer.read [] (lent i) (lent b.interval) s.0 s.1)
timer_kept (Timer.Call.pulse gates) i =
    let b = pulse_answer i gates in
    let s = pulse_said i gates in
    subst (λ (x : PulseAnswer). KeptTimer (Timer.Call.pulse gates) i (played (reply_of_pulse x) b.interval)) s.1
    (KeptTimer.pulse [] (lent i) (lent b.interval) s.0 s.1)
timer_kept (Timer.Call.jump gates n) i =
    let b = jump_answer i gates n in
    let s = jump_said i gates n in
    subst (λ (x : PulseAnswer). KeptTimer (Timer.Call.jump gates n) i (played (reply_of_pulse x) b.interval)) s.1
    (KeptTimer.jump [] (lent i) (lent b.interval) s.0 s.1)

all_kept : (c : Call) (b : Board) → Kept c b (play c b)
unfolding play
all_kept (Call.chip c) b = Kept.chip (kept_of c b.device)
all_kept (Call.timer c) b = Kept.timer (timer_kept c b.interval)
all_kept (Call.cycle pins gates) b =
    let a = Both.cycle_answer b pins gates in
    let s = cycle_said b pins gates in
    subst (λ (x : BoardCycleAnswer). Kept (Call.cycle pins gates) b (played (reply_of_cycle x) a.board)) s.1
    (Kept.cycle [] (lent b) (lent a.board) s.0 s.1)
all_kept (Call.jump pins gates n) b =
    let a = Both.jump_answer b pins gates n in
    let s = board_jump_said b pins gates n in
    subst (λ (x : BoardJumpAnswer). Kept (Call.jump pins gates n) b (played (reply_of_jump x) a.board)) s.1
    (Kept.jump [] (lent b) (lent a.board) s.0 s.1)

every_list : (cs : List Call) (b : Board) → Chained cs b (run cs b).replies (run cs b).state
unfolding run_by
every_list [] b = Chained.nothing
every_list (c ∷ cs) b = Chained.then (all_kept c b) (every_list cs (play c b).state)

asks_nothing : AsksNothing
asks_nothing =
    record {
      chip = demand3.asks_nothing;
      resets = tt;
      writes = λ κ c a v. tt;
      reads = λ κ c a. tt;
      pulses = λ κ c gates. tt;
      jumps = λ κ c gates n. tt;
      board_cycles = λ κ b pins gates. tt;
      board_jumps = λ κ b pins gates n. tt;
    }

-- one chip alone
chip_alone : (cs : List Chip.Call) (d : Device) (i : Interval)
    → run (map Call.chip cs) (board d i) ≡ ran (Chip.run cs d).replies (board (Chip.run cs d).device i)
unfolding run_by play Chip.run
chip_alone [] d i = refl
chip_alone (c ∷ cs) d i =
    ap (λ (m : Ran Board). ran ((Chip.play c d).reply ∷ m.replies) m.state) (chip_alone cs (Chip.play c d).device i)

timer_alone : (cs : List Timer.Call) (d : Device) (i : Interval)
    → run (map Call.timer cs) (board d i) ≡ ran (run_by Timer.play cs i).replies (board d (run_by Timer.play cs i).state)
unfolding run_by play
timer_alone [] d i = refl
timer_alone (c ∷ cs) d i =
    ap (λ (m : Ran Board). ran ((Timer.play c i).reply ∷ m.replies) m.state) (timer_alone cs d (Timer.play c i).state)

pub boards : Boards
unfolding machine
boards =
    record {
      from_any = chained;
      from_start = λ start {a} {i} {cs} s f c. chained c ∙ ap₂ (λ (b : Answer) (j : Interval). run cs (board b.device j)) (start_is s) f;
      every_list = every_list;
      asks_nothing = asks_nothing;
      chip_alone = chip_alone;
      timer_alone = timer_alone;
    }
