-- What a move keeps: reading what was written gives that device (Back), an accepted file is the one that the writer makes and its device
-- is accepted (Loaded), and every fault is one of three, met by cases of the parts.
use Prim.Native.Nat.{ℕ}
use mathlib.Core.Path.{◌≡◌, refl, sym, ap, subst, ◌∙◌}
use mathlib.Core.Bool.{Bool, true, false, cond}
use mathlib.Core.List.{List, [], ◌∷◌, append-nil}
use mathlib.Core.Logic.{◌⊎◌, inl, inr}
use native.Mathlib.Omega.{arith}
use lib.Dec.{eqb, leb}
use lib.ListN.{length, take, drop, set, replicate}
use Rattle.machine.specs.declared.Device.{Device}
use Rattle.machine.specs.declared.Answer.{Answer}
use Rattle.machine.specs.declared.Part.{Part}
use Rattle.machine.specs.declared.Part.TheVariants.{Mark, Value}
use Rattle.machine.specs.Registers.{table, implemented_in, implemented}
use Rattle.machine.specs.Record.{accepted, zeros}
use Rattle.machine.specs.Calls.{passed}
use Rattle.machine.specs.Checkpoint.{Reading, bytes_of, number_of, values_of, places, device_of, joined, section, register_entries, number_entries, time_entries, layout, written, file_of, holds, judged, read_part, read_parts, finished, kind_in, load_answer}
use Rattle.machine.specs.Checkpoint.Reading.{reading, faulty}
use Rattle.record.proofs.Accepted.{ranges_of}
use Rattle.layout.specs.Bytes.{Bytes}
use Rattle.layout.proofs.Order.{Kind, file_long}
use Rattle.checkpoint.specs.Moves.{Sized, Moves}
use Rattle.checkpoint.proofs.Steps.{all}
use Rattle.checkpoint.proofs.Loaded.{kind_read, loaded_accepted, loaded_written}
use Rattle.checkpoint.proofs.Back.{device_back, read_back}

-- the file of a device says its kind
kind_written : (kind : ℕ) (values : List ℕ) → Kind kind → kind_in (written (layout kind) values) ≡ kind
unfolding layout section joined register_entries number_entries time_entries table implemented_in implemented written bytes_of
kind_written kind values (inl e) = subst (λ (k : ℕ). kind_in (written (layout k) values) ≡ k) (sym e) refl
kind_written kind values (inr e) = subst (λ (k : ℕ). kind_in (written (layout k) values) ≡ k) (sym e) refl

back : (d : Device) → Sized d → accepted d ≡ true → load_answer (file_of d) ≡ passed d
unfolding load_answer file_of finished
back d sized ok =
    let e = kind_written d.kind (values_of d) (ranges_of d ok).kind in
    ap (λ (kind : ℕ). finished kind (all kind (file_of d))) e
    ∙ (ap (finished d.kind) (read_back d sized ok) ∙ ap passed (device_back d sized))

-- a file's answer, by how its reading ends
record Good (file : List ℕ) (a : Answer) : Type 0 where
  welcome : accepted a.device ≡ true
  only : Bytes file → file ≡ file_of a.device

record Bad (a : Answer) : Type 0 where
  number : (a.code ≡ 15) ⊎ ((a.code ≡ 16) ⊎ (a.code ≡ 17))
  device : a.device ≡ zeros

data Ends (file : List ℕ) (a : Answer) : Type 0 where
  good : a.code ≡ 0 → Good file a → Ends file a
  bad : Bad a → Ends file a

-- a fault is 15, 16 or 17
abbrev Fault : Reading → Type 0
Fault (reading values bytes) = Unit {0}
Fault (faulty n) = (n ≡ 15) ⊎ ((n ≡ 16) ⊎ (n ≡ 17))

-- a test that a reading goes on by, or a fault
either : (b : Bool) (n : ℕ) (r : Reading) → (n ≡ 15) ⊎ ((n ≡ 16) ⊎ (n ≡ 17)) → Fault r → Fault (cond b r (faulty n))
either true n r e f = f
either false n r e f = e

part_fault : (kind : ℕ) (p : Part) (r : Reading) → Fault r → Fault (read_part kind p r)
unfolding read_part judged
part_fault kind p (faulty n) f = f
part_fault kind (Mark m) (reading values bytes) f =
    either (leb 1 (length bytes)) 15 _ (inl refl)
    (either (eqb (number_of (take 1 bytes)) m) 16 (reading values (drop 1 bytes)) (inr (inl refl)) tt)
part_fault kind (Value place width) (reading values bytes) f =
    let next = set values place (number_of (take width bytes)) in
    either (leb width (length bytes)) 15 _ (inl refl)
    (either (holds kind place next) 17 (reading next (drop width bytes)) (inr (inr refl)) tt)

parts_fault : (kind : ℕ) (parts : List Part) (r : Reading) → Fault r → Fault (read_parts kind parts r)
unfolding read_parts
parts_fault kind [] r f = f
parts_fault kind (p ∷ parts) r f = parts_fault kind parts (read_part kind p r) (part_fault kind p r f)

finished_so : (file : List ℕ) (r : Reading) → all (kind_in file) file ≡ r → Fault r → Ends file (finished (kind_in file) r)
unfolding finished
finished_so file (faulty n) e f = bad (record { number = f; device = refl })
finished_so file (reading values (b ∷ bytes)) e f = bad (record { number = inl refl; device = refl })
finished_so file (reading values []) e f =
    let kind = kind_in file in
    good refl
    (record {
      welcome = loaded_accepted kind (kind_read file) file values [] e;
      only = λ b. loaded_written kind (kind_read file) file values [] e b ∙ append-nil (file_of (device_of kind values));
    })

ends_so : (file : List ℕ) → Ends file (load_answer file)
unfolding load_answer
ends_so file =
    let kind = kind_in file in
    finished_so file (all kind file) refl (parts_fault kind (layout kind) (reading (replicate places 0) file) tt)

-- no fault is 0
never : {A : Type 0} (n : ℕ) → n ≡ 0 → (n ≡ 15) ⊎ ((n ≡ 16) ⊎ (n ≡ 17)) → A
never n z (inl e) = absurd (omega arith)
never n z (inr (inl e)) = absurd (omega arith)
never n z (inr (inr e)) = absurd (omega arith)

passes_so : {P : Type 0} (file : List ℕ) (a : Answer) → Ends file a → a.code ≡ 0 → (Good file a → P) → P
passes_so file a (good z g) e f = f g
passes_so file a (bad b) e f = never a.code e b.number

refused_so : (file : List ℕ) (a : Answer) → Ends file a → (a.code ≡ 0 → ⊥) → Bad a
refused_so file a (good z g) n = absurd (n z)
refused_so file a (bad b) n = b

pub moves : Moves
unfolding file_of
moves =
    record {
      long51 = λ d e. subst (λ (k : ℕ). length (written (layout k) (values_of d)) ≡ 297) (sym e) (file_long 51 (values_of d) (inl refl));
      long52 = λ d e. subst (λ (k : ℕ). length (written (layout k) (values_of d)) ≡ 307) (sym e) (file_long 52 (values_of d) (inr refl));
      back = back;
      only = λ file b e. passes_so file (load_answer file) (ends_so file) e (λ g. g.only b);
      welcome = λ file e. passes_so file (load_answer file) (ends_so file) e (λ g. g.welcome);
      refused = λ file n. let r = refused_so file (load_answer file) (ends_so file) n in (r.number, r.device);
    }
