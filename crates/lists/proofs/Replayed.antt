-- What `replay` is promised to do, for every list of calls: the replies read back from its answers and the device that it
-- returns are the plain machine's. By induction on the replies.
use Prim.Native.Nat.{ℕ, zero, suc, ◌*◌, ◌≤◌}
use mathlib.Core.Path.{◌≡◌, refl, sym, ap, ap₂, ◌∙◌}
use mathlib.Core.List.{List, [], ◌∷◌, ◌++◌, append_assoc}
use native.Mathlib.Omega.{arith}
use lib.ListN.{length, take, drop, length-append}
use lib.Seq.{drop-append_seam}
use borrow.Author.Tests.{ne_eqb}
use contract.Lifetimes.{Lfts}
use denote.Ref.{Bor, MutBor}
use Rattle.machine.specs.declared.Device.{Device}
use Rattle.machine.specs.Answers.{ReadAnswer, OfferAnswer, LookAnswer, ReadAnswer as Read, OfferAnswer as Offer, LookAnswer as Look}
use Rattle.machine.specs.Calls.{read_answer, look_answer, wake_answer, offer_answer}
use Rattle.machine.specs.Lists.{Call, Reply, Value, Ran, says, play, run, Start, machine, reply_of_read, reply_of_offer, reply_of_look}
use Rattle.machine.specs.Lists.Value.{numbers, none}
use Rattle.machine.specs.Lists.Start.{from_reset, from_file}
use Rattle.calls.specs.Row.{most_numbers, answer_words, none_mark, padded, row_of}
use Rattle.lists.specs.Script.{Script, script, rows_of, written, first_reply, replies_in, Answered, Replayed, ReplayedFrom}
use Rattle.lists.specs.Spelling.{Each, Room, Spells}
use Rattle.lists.specs.Demand3.{Same}
use Rattle.lists.proofs.Replays.{row_long}
use Rattle.lists.proofs.replay.Reads as replay-reads
use Rattle.lists.proofs.replay_from_reset.Reads as from-reset-reads
use Rattle.lists.proofs.replay_from_file.Reads as from-file-reads

-- as many replies as calls
pub run_long : (cs : List Call) (d : Device) → length (run cs d).replies ≡ length cs
unfolding run
run_long [] d = refl
run_long (c ∷ cs) d = ap suc (run_long cs (play c d).device)

-- an answer has no more numbers than a row has room for
Few : Value → Type 0
Few (numbers ns) = length ns ≤ most_numbers
Few none = Unit {0}

abbrev FewIn : Reply → Type 0
FewIn r = Few r.value

few_read : (a : ReadAnswer) → FewIn (reply_of_read a)
unfolding Few
few_read (Read.Refused k) = omega arith
few_read (Read.Value v) = omega arith

few_offer : (a : OfferAnswer) → FewIn (reply_of_offer a)
unfolding Few
few_offer (Offer.Refused k) = omega arith
few_offer (Offer.Vector v) = omega arith
few_offer Offer.Nothing = tt

few_look : (a : LookAnswer) → FewIn (reply_of_look a)
unfolding Few
few_look (Look.Refused k) = omega arith
few_look (Look.At k) = omega arith
few_look Look.Nothing = tt

few : (c : Call) (d : Device) → FewIn (play c d).reply
unfolding play Few
few (Call.reset kind) d = omega arith
few (Call.read a) d = few_read (read_answer d a)
few (Call.write a v) d = omega arith
few (Call.cycle pins) d = omega arith
few (Call.jump pins n) d = omega arith
few (Call.trace es) d = omega arith
few (Call.look pins n) d = few_look (look_answer d pins n)
few Call.offer d = few_offer (offer_answer d)
few Call.take d = omega arith
few Call.return d = omega arith
few (Call.wake pins n) d = few_look (wake_answer d pins n)

all_few : (cs : List Call) (d : Device) → Each FewIn (run cs d).replies
unfolding run Each
all_few [] d = tt
all_few (c ∷ cs) d = (few c d, all_few cs (play c d).device)

-- a reply as it is written reads back as itself, whatever follows it
take_padded : (n : ℕ) (ns more : List ℕ) → length ns ≤ n → take (length ns) (padded n ns ++ more) ≡ ns
take_padded n [] more h = refl
take_padded zero (m ∷ ns) more h = absurd (omega arith)
take_padded (suc n) (m ∷ ns) more h = ap (λ (xs : List ℕ). m ∷ xs) (take_padded n ns more (omega arith))

reads_back : (r : Reply) (more : List ℕ) → FewIn r → first_reply (row_of r ++ more) ≡ r
unfolding Few
reads_back r more f = go r.value f
  where
    go : (v : Value) → Few v → first_reply (row_of (says r.code v) ++ more) ≡ says r.code v
    go (numbers ns) h =
        let e = ne_eqb (length ns) none_mark (λ q. omega arith) in
        simp (e, take_padded most_numbers ns more h)
    go none h = refl

-- the rows read back as the replies
all_back : (rs : List Reply) (more : List ℕ) → Each FewIn rs → replies_in (length rs) (rows_of rs ++ more) ≡ rs
unfolding replies_in rows_of Each
all_back [] more f = refl
all_back (r ∷ rs) more f =
    let e = append_assoc (row_of r) (rows_of rs) more in
    ap₂ (λ (q : Reply) (qs : List Reply). q ∷ qs) (ap first_reply e ∙ reads_back r (rows_of rs ++ more) f.0)
    (ap (λ (xs : List ℕ). replies_in (length rs) (drop answer_words xs)) e
    ∙ (ap (replies_in (length rs)) (ap (λ (k : ℕ). drop k (row_of r ++ (rows_of rs ++ more))) (sym (row_long r)) ∙ drop-append_seam (row_of r) (rows_of rs ++ more))
    ∙ all_back rs more f.1))

rows_long : (rs : List Reply) → length (rows_of rs) ≡ length rs * answer_words
unfolding rows_of
rows_long [] = refl
rows_long (r ∷ rs) = let e = rows_long rs in omega (arith, length-append (row_of r) (rows_of rs), row_long r)

same : (m : Ran) (n : ℕ) (last : Device) (before after : List ℕ) → length m.replies ≡ n → Each FewIn m.replies
    → Answered m last before after → Same m n last before after
unfolding written
same m n last before after e f a =
    let rs = m.replies in
    let beyond = drop (length (rows_of rs)) before in
    let long : length (rows_of rs) ≡ n * answer_words = omega (arith, rows_long rs) in
    record {
      state = a.state;
      replies = (λ i. replies_in (sym e i) (a.answers i)) ∙ all_back rs beyond f;
      past =
          (λ i. drop (sym long i) (a.answers i)) ∙ (drop-append_seam (rows_of rs) beyond ∙ ap (λ (k : ℕ). drop k before) long);
    }

-- a script that spells a list
pub replayed : (cs : List Call) (s : Script) (d last : Device) (before after : List ℕ) → Spells s cs → Room (length cs) before
    → Replayed d s before last after → Same (run cs d) (length cs) last before after
replayed cs s d last before after w r e =
    same (run cs d) (length cs) last before after (run_long cs d) (all_few cs d) (rw (w.spelled before r) at e)

-- The slices of a replay, and the answers as it leaves them
module _ (calls lent : Bor (List ℕ)) (before after : MutBor (List ℕ)) where
  abbrev given : Script
  given = script calls.now lent.now

  -- from any device
  pub replays : (κs : Lfts 3) (d last : Device) (cs : List Call) → Spells given cs → Room (length cs) before.now
      → replay-reads.Learnt κs (d, (calls, (lent, (before, tt)))) last (d, (calls, (lent, (after, tt))))
      → Same (run cs d) (length cs) last before.now after.now
  replays κs d last cs = replayed cs given d last before.now after.now

  -- from where the plain machine starts
  from_start : (start : Start) (last : Device) (cs : List Call) → Spells given cs → Room (length cs) before.now
      → ReplayedFrom start given before.now last after.now → Same (machine start cs) (length cs) last before.now after.now
  unfolding machine
  from_start start last cs s r e =
      same (machine start cs) (length cs) last before.now after.now (run_long cs _) (all_few cs _) (rw (s.spelled before.now r) at e)

  -- from what reset gives a kind
  pub replays_from_reset : (κs : Lfts 3) (kind : ℕ) (last : Device) (cs : List Call) → Spells given cs → Room (length cs) before.now
      → from-reset-reads.Learnt κs (kind, (calls, (lent, (before, tt)))) last (kind, (calls, (lent, (after, tt))))
      → Same (machine (from_reset kind) cs) (length cs) last before.now after.now
  replays_from_reset κs kind = from_start (from_reset kind)

  -- from the device of a file
  pub replays_from_file : (κs : Lfts 4) (file : Bor (List ℕ)) (last : Device) (cs : List Call) → Spells given cs → Room (length cs) before.now
      → from-file-reads.Learnt κs (file, (calls, (lent, (before, tt)))) last (file, (calls, (lent, (after, tt))))
      → Same (machine (from_file file.now) cs) (length cs) last before.now after.now
  replays_from_file κs file = from_start (from_file file.now)

  -- none of them asks anything of its caller
  pub replay_asks_nothing : (κs : Lfts 3) (d : Device) (kind : ℕ)
      → replay-reads.Asked κs (d, (calls, (lent, (before, tt)))) × from-reset-reads.Asked κs (kind, (calls, (lent, (before, tt))))
  replay_asks_nothing κs d kind = (tt, tt)

  pub replay_from_file_asks_nothing : (κs : Lfts 4) (file : Bor (List ℕ)) → from-file-reads.Asked κs (file, (calls, (lent, (before, tt))))
  replay_from_file_asks_nothing κs file = tt
