-- What a save and a load answer, by the cases that the code goes by.
use Prim.Native.Nat.{ℕ, ◌<◌, ◌≤◌}
use mathlib.Core.Path.{◌≡◌, sym, ap, ◌∙◌}
use mathlib.Core.Bool.{true, false}
use mathlib.Core.List.{List, []}
use native.Mathlib.Omega.{arith}
use lib.Dec.{eqb}
use lib.ListN.{length, drop, drop_of_length-le}
use lib.Seq.{drop-cons}
use borrow.Author.Tests.{eqb-true, eq-eqb, ne_eqb}
use Rattle.machine.specs.declared.Device.{Device}
use Rattle.machine.specs.declared.refusals.Refusal.{Refusal}
use Rattle.machine.specs.Outcomes.{number}
use Rattle.machine.specs.Record.{accepted, zeros}
use Rattle.machine.specs.Calls.{passed, refuse}
use Rattle.machine.specs.Checkpoint.{values_of, file_of, save_fault, save_answer, kind_in, finished, load_answer, device_with}
use Rattle.machine.specs.Checkpoint.Reading.{reading, faulty}
use Rattle.machine.proofs.Choices.{by_test}
use Rattle.machine.proofs.Outcomes.{number_not_0}
use Rattle.record.proofs.Accepted.{ranges_of}
use Rattle.layout.specs.Order.{length_of}
use Rattle.layout.proofs.Order.{Kind, file_long}
use Rattle.checkpoint.specs.declared.Reading.{Reading}
use Rattle.values.specs.Values.{cut}
use Rattle.checkpoint.proofs.Steps.{all}
use Rattle.checkpoint.proofs.Loaded.{kind_read, loaded_made}

-- a save

pub kind_of : (d : Device) → accepted d ≡ true → Kind d.kind
kind_of d ok = (ranges_of d ok).kind

module _ (d : Device) (size : ℕ) where
  pub save_bad : accepted d ≡ false → 1 ≡ save_fault d size
  unfolding save_fault
  save_bad bad = rw bad

  module _ (ok : accepted d ≡ true) where
    long : length (file_of d) ≡ length_of d.kind
    unfolding file_of
    long = file_long d.kind (values_of d) (kind_of d ok)

    pub save_other : (size ≡ length_of d.kind → ⊥) → 15 ≡ save_fault d size
    unfolding save_fault
    save_other other =
        let e = ne_eqb size (length (file_of d)) (λ q. other (q ∙ long)) in
        rw (ok, e)

    pub save_whole : size ≡ length_of d.kind → 0 ≡ save_fault d size
    unfolding save_fault
    save_whole same =
        let e = eq-eqb size (length (file_of d)) (same ∙ sym long) in
        rw (ok, e)

  -- a save that is not refused: the record is accepted, and the buffer has the file's length
  pub not_refused : save_fault d size ≡ 0 → (accepted d ≡ true) × (size ≡ length_of d.kind)
  unfolding save_fault
  not_refused z =
      by_test (accepted d)
      (λ ok.
      by_test (eqb size (length (file_of d)))
      (λ same. (ok, eqb-true size (length (file_of d)) same ∙ long ok))
      (λ other. let e : 15 ≡ 0 = rw (ok, other) at z in absurd (omega arith)))
      (λ bad. let e : 1 ≡ 0 = rw bad at z in absurd (omega arith))

-- what it leaves
module _ (d : Device) (buffer : List ℕ) where
  pub save_refused : (e : Refusal) → number e ≡ save_fault d (length buffer)
      → (number e ≡ (save_answer d buffer).code) × (buffer ≡ (save_answer d buffer).buffer)
  unfolding save_answer
  save_refused e f =
      let n : eqb (save_fault d (length buffer)) 0 ≡ false = rw f at (number_not_0 e) in
      (f, rw n)

  pub save_passed : 0 ≡ save_fault d (length buffer) → (after : List ℕ) → after ≡ file_of d
      → (0 ≡ (save_answer d buffer).code) × (after ≡ (save_answer d buffer).buffer)
  unfolding save_answer
  save_passed z after w =
      let n = eq-eqb (save_fault d (length buffer)) 0 (sym z) in
      (z, rw n w)

-- the same of the machine's answer: where it is 0 the buffer is the file, and it is so for an accepted record and a buffer of its length
pub saved_file : (d : Device) (buffer : List ℕ) → (save_answer d buffer).code ≡ 0 → (save_answer d buffer).buffer ≡ file_of d
unfolding save_answer
saved_file d buffer z = rw (eq-eqb (save_fault d (length buffer)) 0 z)

pub accepted_when : (d : Device) (buffer : List ℕ) → (save_answer d buffer).code ≡ 0 → accepted d ≡ true
unfolding save_answer
accepted_when d buffer z = (not_refused d (length buffer) z).0

pub save_ready : (d : Device) (buffer : List ℕ) → accepted d ≡ true → length buffer ≡ length (file_of d) → (save_answer d buffer).code ≡ 0
unfolding save_answer save_fault
save_ready d buffer ok same = rw (ok, eq-eqb (length buffer) (length (file_of d)) same)

-- a load

-- by what the file is read as
module _ (file : List ℕ) where
  pub load_faulty : (e : Refusal) → faulty (number e) ≡ all (kind_in file) file → refuse (number e) zeros ≡ load_answer file
  unfolding load_answer finished
  load_faulty e f = ap (finished (kind_in file)) f

  module _ (r : Reading) (e : reading r.values (drop r.at file) ≡ all (kind_in file) file) where
    pub load_over : r.at < length file → refuse 15 zeros ≡ load_answer file
    unfolding load_answer finished
    load_over l =
        let over = ap (reading r.values) (drop-cons file r.at 0 l) in
        ap (finished (kind_in file)) (sym over ∙ e)

    pub load_whole : length file ≤ r.at → passed (device_with (kind_in file) (cut r.values)) ≡ load_answer file
    unfolding load_answer finished
    load_whole l =
        let whole = ap (reading r.values) (drop_of_length-le file l) in
        ap passed (loaded_made (kind_in file) (kind_read file) file r.values [] (sym e ∙ whole))
        ∙ ap (finished (kind_in file)) (sym whole ∙ e)
