-- Demand 3: a whole list of public calls against the plain machine of document 01, and what a look ahead and a wake look answer.
-- No promise is written out here: `Learnt` is what the check reads off a function's contract, and what a caller of it learns.
use Rattle.std.specs.Prelude.{ℕ, ◌-◌, ◌*◌, ◌≤◌, ◌<◌, ◌≡◌, Bool, true, false, List, [], ◌∷◌, ◌++◌, length, drop, Option, Result, Ok}
use base.Fml.{Lft}
use Rattle.std.specs.Borrow.{Bor, MutBor}
use Rattle.machine.specs.declared.Device.{Device}
use Rattle.machine.specs.declared.Answer.{Answer}
use Rattle.machine.specs.declared.Totals.{Totals}
use Rattle.machine.specs.declared.Jumped.{Jumped}
use Rattle.machine.specs.declared.refusals.Refusal.{Refusal}
use Rattle.machine.specs.Answers.{LookAnswer, LookAnswer as Look}
use Rattle.machine.specs.Outcomes.{code_of, answered, cycle_answered, jump_answered, run_answered, take_answered, read_answered, offer_answered, look_answered}
use Rattle.machine.specs.Cycle.{cycles}
use Rattle.machine.specs.Calls.{rises, offers_to}
use Rattle.machine.specs.Lists.{Call, Value, Reply, Played, Ran, ran, run, Start, machine, played, number, reply_of, reply_of_jump, reply_of_run, reply_of_cycle, reply_of_take, reply_of_read, reply_of_offer, reply_of_look}
use Rattle.calls.specs.Row.{answer_words}
use Rattle.checkpoint.specs.Moves.{Sized}
use Rattle.lists.specs.Script.{Script, call_words, replies_in, Replayed}
use Rattle.lists.specs.Spelling.{Each, Fits, Addressable, lent_of, script_of, Room, Spells}
use Rattle.c51_access.proofs.reset.Reads as reset-reads
use Rattle.c51_access.proofs.read.Reads as read-reads
use Rattle.c51_access.proofs.write.Reads as write-reads
use Rattle.c51_checkpoint.proofs.save.Reads as save-reads
use Rattle.c51_checkpoint.proofs.load.Reads as load-reads
use Rattle.c51_run.proofs.cycle.Reads as cycle-reads
use Rattle.c51_run.proofs.jump.Reads as jump-reads
use Rattle.c51_run.proofs.trace.Reads as trace-reads
use Rattle.c51_run.proofs.look.Reads as look-reads
use Rattle.c51_run.proofs.wake.Reads as wake-reads
use Rattle.c51_interrupt.proofs.offer.Reads as offer-reads
use Rattle.c51_interrupt.proofs.take.Reads as take-reads
use Rattle.c51_interrupt.proofs.reti.Reads as return-reads

-- A call on a device: the reply and the device after it, as the public function's contract promises them. A call that alters the device
-- is lent it; reads, offers and looks are given a copy, and alter nothing
pub data Kept : Call → Device → Played → Type 0 where
  reset : (κ : Lft) (d e : MutBor Device) {kind : ℕ} (r : Result (Unit {0}) Refusal)
      → reset-reads.Learnt (κ, tt) (d, (kind, tt)) r (e, (kind, tt))
      → Kept (Call.reset kind) d.now (played (reply_of (answered r e.now)) e.now)
  read : {a : ℕ} {d : Device} (r : Result ℕ Refusal)
      → read-reads.Learnt tt (d, (a, tt)) r (d, (a, tt))
      → Kept (Call.read a) d (played (reply_of_read (read_answered r)) d)
  write : (κ : Lft) (d e : MutBor Device) {a v : ℕ} (r : Result (Unit {0}) Refusal)
      → write-reads.Learnt (κ, tt) (d, (a, (v, tt))) r (e, (a, (v, tt)))
      → Kept (Call.write a v) d.now (played (reply_of (answered r e.now)) e.now)
  cycle : (κ : Lft) (d e : MutBor Device) {pins : ℕ} (r : Result ℕ Refusal)
      → cycle-reads.Learnt (κ, tt) (d, (pins, tt)) r (e, (pins, tt))
      → Kept (Call.cycle pins) d.now (played (reply_of_cycle (cycle_answered r e.now)) e.now)
  jump : (κ : Lft) (d e : MutBor Device) {pins n : ℕ} (r : Result Jumped Refusal)
      → jump-reads.Learnt (κ, tt) (d, (pins, (n, tt))) r (e, (pins, (n, tt)))
      → Kept (Call.jump pins n) d.now (played (reply_of_jump (jump_answered r e.now)) e.now)
  trace : (κ ι : Lft) (d e : MutBor Device) (es : Bor (List ℕ)) (r : Result Totals Refusal)
      → trace-reads.Learnt (κ, (ι, tt)) (d, (es, tt)) r (e, (es, tt))
      → Kept (Call.trace es.now) d.now (played (reply_of_run (run_answered r e.now)) e.now)
  look : {pins n : ℕ} {d : Device} (r : Result (Option ℕ) Refusal)
      → look-reads.Learnt tt (d, (pins, (n, tt))) r (d, (pins, (n, tt)))
      → Kept (Call.look pins n) d (played (reply_of_look (look_answered r)) d)
  offer : {d : Device} (r : Result (Option ℕ) Refusal)
      → offer-reads.Learnt tt (d, tt) r (d, tt)
      → Kept Call.offer d (played (reply_of_offer (offer_answered r)) d)
  take : (κ : Lft) (d e : MutBor Device) (r : Result ℕ Refusal)
      → take-reads.Learnt (κ, tt) (d, tt) r (e, tt)
      → Kept Call.take d.now (played (reply_of_take (take_answered r e.now)) e.now)
  return : (κ : Lft) (d e : MutBor Device) (r : Result (Unit {0}) Refusal)
      → return-reads.Learnt (κ, tt) (d, tt) r (e, tt)
      → Kept Call.return d.now (played (reply_of (answered r e.now)) e.now)
  wake : {pins n : ℕ} {d : Device} (r : Result (Option ℕ) Refusal)
      → wake-reads.Learnt tt (d, (pins, (n, tt))) r (d, (pins, (n, tt)))
      → Kept (Call.wake pins n) d (played (reply_of_look (look_answered r)) d)

-- A list of calls, each on the device as the one before left it: all replies, and the device at the end
pub data Chained : List Call → Device → List Reply → Device → Type 0 where
  nothing : {d : Device} → Chained [] d [] d
  then : {c : Call} {cs : List Call} {d : Device} {p : Played} {rs : List Reply} {last : Device}
      → Kept c d p → Chained cs p.device rs last → Chained (c ∷ cs) d (p.reply ∷ rs) last

-- Where a list starts: the answer of a reset, or of a load of any file, as the contract promises it, over any device that is lent
pub data Started : Start → Answer → Type 0 where
  reset : (κ : Lft) (d e : MutBor Device) {kind : ℕ} (r : Result (Unit {0}) Refusal)
      → reset-reads.Learnt (κ, tt) (d, (kind, tt)) r (e, (kind, tt)) → Started (Start.from_reset kind) (answered r e.now)
  load : (κ ι : Lft) (d e : MutBor Device) (file : Bor (List ℕ)) (r : Result (Unit {0}) Refusal)
      → load-reads.Learnt (κ, (ι, tt)) (d, (file, tt)) r (e, (file, tt)) → Started (Start.from_file file.now) (answered r e.now)

-- No public call asks anything of its caller
pub record AsksNothing : Type 0 where
  pub resets : (κ : Lft) (d : MutBor Device) (kind : ℕ) → reset-reads.Asked (κ, tt) (d, (kind, tt))
  pub reads : (d : Device) (a : ℕ) → read-reads.Asked tt (d, (a, tt))
  pub writes : (κ : Lft) (d : MutBor Device) (a v : ℕ) → write-reads.Asked (κ, tt) (d, (a, (v, tt)))
  pub saves : (κ : Lft) (d : Device) (buffer : MutBor (List ℕ)) → save-reads.Asked (κ, tt) (d, (buffer, tt))
  pub loads : (κ ι : Lft) (d : MutBor Device) (file : Bor (List ℕ)) → load-reads.Asked (κ, (ι, tt)) (d, (file, tt))
  pub cycles : (κ : Lft) (d : MutBor Device) (pins : ℕ) → cycle-reads.Asked (κ, tt) (d, (pins, tt))
  pub jumps : (κ : Lft) (d : MutBor Device) (pins n : ℕ) → jump-reads.Asked (κ, tt) (d, (pins, (n, tt)))
  pub traces : (κ ι : Lft) (d : MutBor Device) (es : Bor (List ℕ)) → trace-reads.Asked (κ, (ι, tt)) (d, (es, tt))
  pub looks : (d : Device) (pins n : ℕ) → look-reads.Asked tt (d, (pins, (n, tt)))
  pub offers : (d : Device) → offer-reads.Asked tt (d, tt)
  pub takes : (κ : Lft) (d : MutBor Device) → take-reads.Asked (κ, tt) (d, tt)
  pub returns : (κ : Lft) (d : MutBor Device) → return-reads.Asked (κ, tt) (d, tt)
  pub wakes : (d : Device) (pins n : ℕ) → wake-reads.Asked tt (d, (pins, (n, tt)))

-- What the looks ask, of the cycles that a pin byte makes from d: a flag rises in cycle k, counted from 1; an interrupt is offered
-- after k of them
abbrev pub rises_in : ℕ → Device → ℕ → Bool
rises_in pins d k = rises (cycles (k - 1) pins d) (cycles k pins d)

abbrev pub offered_after : ℕ → Device → ℕ → Bool
offered_after pins d k = offers_to (cycles k pins d)

-- k is the first from a start to n at which it is so
pub record First (start n : ℕ) (so : ℕ → Bool) (k : ℕ) : Type 0 where
  pub from : start ≤ k
  pub within : k ≤ n
  pub here : so k ≡ true
  pub before : (j : ℕ) → start ≤ j → j < k → so j ≡ false

-- it is so at none of them
abbrev pub Never : ℕ → ℕ → (ℕ → Bool) → Type 0
Never start n so = (k : ℕ) → start ≤ k → k ≤ n → so k ≡ false

-- The answer k exactly when k is the first; none exactly when there is none
pub record Looks (start n : ℕ) (so : ℕ → Bool) (answer : LookAnswer) : Type 0 where
  pub names : (k : ℕ) → answer ≡ Look.At k → First start n so k
  pub named : (k : ℕ) → First start n so k → answer ≡ Look.At k
  pub none_said : answer ≡ Look.Nothing → Never start n so
  pub none_is : Never start n so → answer ≡ Look.Nothing

-- The same of a reply: the value is the number k, or none
pub record Tells (start n : ℕ) (so : ℕ → Bool) (said : Value) : Type 0 where
  pub names : (k : ℕ) → said ≡ number k → First start n so k
  pub named : (k : ℕ) → First start n so k → said ≡ number k
  pub none_said : said ≡ Value.none → Never start n so
  pub none_is : Never start n so → said ≡ Value.none

-- A call at any place of any list from any start, reset of kind 51 or 52 or an accepted file: what its reply tells, if it passes, of the
-- state which the machine has there
abbrev pub ToldInLists : Call → (Device → Value → Type 0) → Type 0
ToldInLists call Told =
    (start : Start) (a : Answer) (before after : List Call) (earlier later : List Reply) (r : Reply) (last : Device)
    → Started start a
    → Chained (before ++ (call ∷ after)) a.device (earlier ++ (r ∷ later)) last
    → length earlier ≡ length before → r.code ≡ 0
    → Told (machine start before).device r.value

-- What a replay leaves: the machine's state, its replies as they read back from the answers, and what lies past them as it was
pub record Same (m : Ran) (n : ℕ) (last : Device) (before after : List ℕ) : Type 0 where
  pub state : last ≡ m.device
  pub replies : replies_in n after ≡ m.replies
  pub past : drop (n * answer_words) after ≡ drop (n * answer_words) before

-- Demand 3
pub record Demand3 : Type 0 where
  -- any list of calls from any device: every reply, and the device at the end, are the plain machine's
  pub from_any : {cs : List Call} {d : Device} {rs : List Reply} {last : Device} → Chained cs d rs last → ran rs last ≡ run cs d
  -- the same from what reset gives the kind, 51 or 52, and from the device of a file: the machine's only inputs are the kind or the file's
  -- bytes, and the list
  pub from_start : (start : Start) {a : Answer} {cs : List Call} {rs : List Reply} {last : Device}
      → Started start a → Chained cs a.device rs last → ran rs last ≡ machine start cs
  -- a list that is cut anywhere by a move, saved on one computer and loaded on another: every reply, and the device at the end, are
  -- those of the list without the move
  pub moved : {before after : List Call} {d saved last : Device} {earlier later : List Reply} (κ ι μ : Lft)
      (s r : Result (Unit {0}) Refusal) (x y : MutBor Device) (buffer filled : MutBor (List ℕ)) (file : Bor (List ℕ)) → Chained before d earlier saved → Sized saved
      → save-reads.Learnt (κ, tt) (saved, (buffer, tt)) s (saved, (filled, tt)) → s ≡ Ok tt → file.now ≡ filled.now
      → load-reads.Learnt (ι, (μ, tt)) (x, (file, tt)) r (y, (file, tt)) → Chained after y.now later last
      → ran (earlier ++ later) last ≡ run (before ++ after) d
  -- every list makes such a chain, refused calls included
  pub every_list : (cs : List Call) (d : Device) → Chained cs d (run cs d).replies (run cs d).device
  pub asks_nothing : AsksNothing
  -- a look ahead that passes names k exactly when cycle k is the first of the n in which a flag rises, and none exactly when there
  -- is none
  pub looks : (d : Device) (pins n : ℕ) (r : Result (Option ℕ) Refusal)
      → look-reads.Learnt tt (d, (pins, (n, tt))) r (d, (pins, (n, tt))) → code_of r ≡ 0
      → Looks 1 n (rises_in pins d) (look_answered r)
  pub looks_in_lists : (pins n : ℕ) → ToldInLists (Call.look pins n) (λ d. Tells 1 n (rises_in pins d))
  -- a wake look that passes names k exactly when k is the first from 0 to n after which an interrupt is offered, and none exactly when
  -- there is none
  pub wakes : (d : Device) (pins n : ℕ) (r : Result (Option ℕ) Refusal)
      → wake-reads.Learnt tt (d, (pins, (n, tt))) r (d, (pins, (n, tt))) → code_of r ≡ 0
      → Looks 0 n (offered_after pins d) (look_answered r)
  pub wakes_in_lists : (pins n : ℕ) → ToldInLists (Call.wake pins n) (λ d. Tells 0 n (offered_after pins d))
  -- every list whose arguments fit their types is spelled by a script, where its slices can be addressed
  pub spelled : (cs : List Call) → Each Fits cs → Addressable 8 (length cs * call_words) → Addressable 4 (length (lent_of cs))
      → Spells (script_of cs) cs
  -- what `replay` is promised to leave, of a script that spells a list
  pub replayed : (cs : List Call) (s : Script) (d last : Device) (before after : List ℕ) → Spells s cs → Room (length cs) before
      → Replayed d s before last after → Same (run cs d) (length cs) last before after
