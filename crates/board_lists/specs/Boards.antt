-- A whole list of calls on a board against the plain board of document 02, request Three: any calls of the chip and of the 82C53, and
-- cycles and jumps of both, as demand 3 is of the chip alone. No promise is written out here: `Learnt` is what the check reads off a
-- function's contract, and what a caller of it learns.
use Rattle.std.specs.Prelude.{ℕ, ◌≡◌, List, [], ◌∷◌, map, Result}
use base.Fml.{Lft}
use Rattle.std.specs.Borrow.{MutBor}
use Rattle.machine.specs.declared.refusals.Refusal.{Refusal}
use Rattle.machine.specs.declared.Device.{Device}
use Rattle.machine.specs.declared.Answer.{Answer}
use Rattle.machine.specs.Lists.{Reply, says}
use Rattle.machine.specs.Lists as Chip
use Rattle.interval.specs.declared.Interval.{Interval}
use Rattle.interval.specs.Lists.{Played, played, ran, reply_of_write, reply_of_read, reply_of_pulse}
use Rattle.interval.specs.Lists as Timer
use Rattle.board.specs.declared.Board.{Board}
use Rattle.board.specs.declared.BoardCycled.{BoardCycled}
use Rattle.board.specs.declared.BoardJumped.{BoardJumped}
use Rattle.board.specs.Outcomes.{cycle_answered, jump_answered}
use Rattle.interval.specs.Outcomes.{write_answered, read_answered, pulse_answered}
use Rattle.board.specs.Lists.{Call, board, reply_of_cycle, reply_of_jump, run, machine}
use Rattle.lists.specs.Demand3 as OfChip
use Rattle.c53.proofs.reset.Reads as reset-reads
use Rattle.c53.proofs.write.Reads as write-reads
use Rattle.c53.proofs.read.Reads as read-reads
use Rattle.c53.proofs.pulse.Reads as pulse-reads
use Rattle.c53.proofs.jump.Reads as jump-reads
use Rattle.board.proofs.cycle.Reads as board-cycle-reads
use Rattle.board.proofs.jump.Reads as board-jump-reads

-- A call of the 82C53: the reply and the chip after it, as the public function's contract promises them
pub data KeptTimer : Timer.Call → Interval → Played Interval → Type 0 where
  reset : {c r : Interval}
      → reset-reads.Learnt tt tt r tt
      → KeptTimer Timer.Call.reset c (played (says 0 Chip.nothing) r)
  write : (κ : Lft) (c d : MutBor Interval) {a v : ℕ} (r : Result (Unit {0}) Refusal)
      → write-reads.Learnt (κ, tt) (c, (a, (v, tt))) r (d, (a, (v, tt)))
      → KeptTimer (Timer.Call.write a v) c.now (played (reply_of_write (write_answered r d.now)) d.now)
  read : (κ : Lft) (c d : MutBor Interval) {a : ℕ} (r : Result ℕ Refusal)
      → read-reads.Learnt (κ, tt) (c, (a, tt)) r (d, (a, tt))
      → KeptTimer (Timer.Call.read a) c.now (played (reply_of_read (read_answered r d.now)) d.now)
  pulse : (κ : Lft) (c d : MutBor Interval) {gates : ℕ} (r : Result ℕ Refusal)
      → pulse-reads.Learnt (κ, tt) (c, (gates, tt)) r (d, (gates, tt))
      → KeptTimer (Timer.Call.pulse gates) c.now (played (reply_of_pulse (pulse_answered r d.now)) d.now)
  jump : (κ : Lft) (c d : MutBor Interval) {gates n : ℕ} (r : Result ℕ Refusal)
      → jump-reads.Learnt (κ, tt) (c, (gates, (n, tt))) r (d, (gates, (n, tt)))
      → KeptTimer (Timer.Call.jump gates n) c.now (played (reply_of_pulse (pulse_answered r d.now)) d.now)

-- A call on the board: one of the chip is kept as demand 3 has it; a chip's own call leaves the other chip as it is
pub data Kept : Call → Board → Played Board → Type 0 where
  chip : {c : Chip.Call} {d : Device} {i : Interval} {p : Chip.Played}
      → OfChip.Kept c d p
      → Kept (Call.chip c) (board d i) (played p.reply (board p.device i))
  timer : {c : Timer.Call} {d : Device} {i : Interval} {p : Played Interval}
      → KeptTimer c i p
      → Kept (Call.timer c) (board d i) (played p.reply (board d p.state))
  cycle : (κ : Lft) (b c : MutBor Board) {pins gates : ℕ} (r : Result BoardCycled Refusal)
      → board-cycle-reads.Learnt (κ, tt) (b, (pins, (gates, tt))) r (c, (pins, (gates, tt)))
      → Kept (Call.cycle pins gates) b.now (played (reply_of_cycle (cycle_answered r c.now)) c.now)
  jump : (κ : Lft) (b c : MutBor Board) {pins gates n : ℕ} (r : Result BoardJumped Refusal)
      → board-jump-reads.Learnt (κ, tt) (b, (pins, (gates, (n, tt)))) r (c, (pins, (gates, (n, tt))))
      → Kept (Call.jump pins gates n) b.now (played (reply_of_jump (jump_answered r c.now)) c.now)

-- A list of calls, each on the board as the one before left it: all replies, and the board at the end
pub data Chained : List Call → Board → List Reply → Board → Type 0 where
  nothing : {b : Board} → Chained [] b [] b
  then : {c : Call} {cs : List Call} {b : Board} {p : Played Board} {rs : List Reply} {last : Board}
      → Kept c b p → Chained cs p.state rs last → Chained (c ∷ cs) b (p.reply ∷ rs) last

-- No public call asks anything of its caller: those of the chip, as demand 3 has it, of the 82C53 and of the board
pub record AsksNothing : Type 0 where
  pub chip : OfChip.AsksNothing
  pub resets : reset-reads.Asked tt tt
  pub writes : (κ : Lft) (c : MutBor Interval) (a v : ℕ) → write-reads.Asked (κ, tt) (c, (a, (v, tt)))
  pub reads : (κ : Lft) (c : MutBor Interval) (a : ℕ) → read-reads.Asked (κ, tt) (c, (a, tt))
  pub pulses : (κ : Lft) (c : MutBor Interval) (gates : ℕ) → pulse-reads.Asked (κ, tt) (c, (gates, tt))
  pub jumps : (κ : Lft) (c : MutBor Interval) (gates n : ℕ) → jump-reads.Asked (κ, tt) (c, (gates, (n, tt)))
  pub board_cycles : (κ : Lft) (b : MutBor Board) (pins gates : ℕ) → board-cycle-reads.Asked (κ, tt) (b, (pins, (gates, tt)))
  pub board_jumps : (κ : Lft) (b : MutBor Board) (pins gates n : ℕ) → board-jump-reads.Asked (κ, tt) (b, (pins, (gates, (n, tt))))

-- Demand 3 of the board
pub record Boards : Type 0 where
  -- any list of calls from any board: every reply, and both chips at the end, are the plain board's
  pub from_any : {cs : List Call} {b : Board} {rs : List Reply} {last : Board} → Chained cs b rs last → ran rs last ≡ run cs b
  -- the same from what reset gives both chips, or of the chip from the device of a file: the plain board's only inputs are the kind, 51
  -- or 52, or the file's bytes, and the list
  pub from_start : (start : Chip.Start) {a : Answer} {i : Interval} {cs : List Call} {rs : List Reply} {last : Board}
      → OfChip.Started start a → reset-reads.Learnt tt tt i tt
      → Chained cs (board a.device i) rs last → ran rs last ≡ machine start cs
  -- every list makes such a chain, refused calls included
  pub every_list : (cs : List Call) (b : Board) → Chained cs b (run cs b).replies (run cs b).state
  pub asks_nothing : AsksNothing
  -- a list of calls of one chip does on the board what it does to that chip alone, and leaves the other as it is
  pub chip_alone : (cs : List Chip.Call) (d : Device) (i : Interval)
      → run (map Call.chip cs) (board d i) ≡ ran (Chip.run cs d).replies (board (Chip.run cs d).device i)
  pub timer_alone : (cs : List Timer.Call) (d : Device) (i : Interval)
      → run (map Call.timer cs) (board d i) ≡ ran (Timer.run_by Timer.play cs i).replies (board d (Timer.run_by Timer.play cs i).state)
