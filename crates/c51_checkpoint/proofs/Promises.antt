-- What a caller learns from the contracts, `Learnt`, of a move: a device that is saved and loaded again is the same, and a file that is
-- loaded and saved again is the same.
use mathlib.Core.Path.{◌≡◌, refl, sym, ap, ◌∙◌}
use mathlib.Core.Bool.{true}
use mathlib.Core.List.{List}
use Prim.Native.Nat.{ℕ}
use base.Fml.{Lft}
use denote.Ref.{Bor}
use denote.MutBor.{MutBor}
use lib.ListN.{length}
use Rattle.std.specs.Prelude.{Result, Ok, Err}
use Rattle.machine.specs.declared.Device.{Device}
use Rattle.machine.specs.declared.refusals.Refusal.{Refusal}
use Rattle.machine.specs.Outcomes.{code_of, answered}
use Rattle.machine.proofs.Outcomes.{number_some}
use Rattle.machine.specs.declared.Answer.{Answer}
use Rattle.machine.specs.Record.{accepted}
use Rattle.machine.specs.Calls.{passed}
use Rattle.machine.specs.Checkpoint.{file_of, save_answer, load_answer}
use Rattle.layout.specs.Bytes.{Bytes}
use Rattle.checkpoint.specs.Moves.{Sized}
use Rattle.checkpoint.proofs.Moves.{moves}
use Rattle.c51_checkpoint.proofs.Answers.{accepted_when, save_ready, saved_file}
use Rattle.c51_checkpoint.proofs.save.Reads as save-reads
use Rattle.c51_checkpoint.proofs.load.Reads as load-reads

-- an outcome whose number is 0
passes : (r : Result (Unit {0}) Refusal) → code_of r ≡ 0 → r ≡ Ok tt
passes (Ok x) z = refl
passes (Err e) z = absurd (number_some e z)

-- a save that passes, and a load of what it wrote
pub saved_loaded : (κ ι ν : Lft) (d : Device) (buffer filled : MutBor (List ℕ)) (before after : MutBor Device) (file : Bor (List ℕ))
    (r s : Result (Unit {0}) Refusal) → Sized d
    → save-reads.Learnt (κ, tt) (d, (buffer, tt)) r (d, (filled, tt)) → r ≡ Ok tt → file.now ≡ filled.now
    → load-reads.Learnt (ι, (ν, tt)) (before, (file, tt)) s (after, (file, tt)) → (s ≡ Ok tt) × (after.now ≡ d)
saved_loaded κ ι ν d buffer filled before after file r s sized w z e l =
    let fault : (save_answer d buffer.now).code ≡ 0 = sym w.0 ∙ ap code_of z in
    let ok = accepted_when d buffer.now fault in
    let back : answered s after.now ≡ passed d =
    l ∙ (ap load_answer (e ∙ (w.1 ∙ saved_file d buffer.now fault)) ∙ moves.back d sized ok) in
    (passes s (ap (λ (b : Answer). b.code) back), ap (λ (b : Answer). b.device) back)

-- a load that passes, and a save of its device into a buffer of the file's length
pub loaded_saved : (κ ι ν : Lft) (file : Bor (List ℕ)) (before after : MutBor Device) (buffer filled : MutBor (List ℕ))
    (r s : Result (Unit {0}) Refusal) → Bytes file.now
    → load-reads.Learnt (ι, (ν, tt)) (before, (file, tt)) r (after, (file, tt)) → r ≡ Ok tt → length buffer.now ≡ length file.now
    → save-reads.Learnt (κ, tt) (after.now, (buffer, tt)) s (after.now, (filled, tt))
    → (s ≡ Ok tt) × (filled.now ≡ file.now)
loaded_saved κ ι ν file before after buffer filled r s bytes l z same w =
    let code = ap (λ (b : Answer). b.code) l in
    let passed_so : (load_answer file.now).code ≡ 0 = sym code ∙ ap code_of z in
    let only = moves.only file.now bytes passed_so ∙ ap (λ (b : Answer). file_of b.device) (sym l) in
    let ok = ap (λ (b : Answer). accepted b.device) l ∙ moves.welcome file.now passed_so in
    let free = save_ready after.now buffer.now ok (same ∙ ap length only) in
    (passes s (w.0 ∙ free), w.1 ∙ (saved_file after.now buffer.now free ∙ sym only))

-- the device of a file that is not refused is accepted by every call
pub loaded_welcome : (ι ν : Lft) (file : Bor (List ℕ)) (before after : MutBor Device) (r : Result (Unit {0}) Refusal)
    → load-reads.Learnt (ι, (ν, tt)) (before, (file, tt)) r (after, (file, tt)) → r ≡ Ok tt → accepted after.now ≡ true
loaded_welcome ι ν file before after r l z =
    ap (λ (b : Answer). accepted b.device) l
    ∙ moves.welcome file.now (sym (ap (λ (b : Answer). b.code) l) ∙ ap code_of z)
