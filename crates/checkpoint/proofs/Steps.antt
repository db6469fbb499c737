-- A reading goes on by a part: the code's step is the definition's, and so are all of them.
use Prim.Native.Nat.{ℕ, ◌+◌, ◌-◌, ◌<◌, ◌≤◌}
use mathlib.Core.Path.{◌≡◌, refl, sym, ap, ap₂, ◌∙◌}
use mathlib.Core.Bool.{Bool, true, false, cond}
use mathlib.Core.List.{List, [], ◌∷◌}
use native.Mathlib.Omega.{arith}
use lib.Dec.{eqb, leb}
use lib.ListN.{length, take, drop, set, length-drop, replicate}
use lib.Seq.{drop-drop}
use borrow.Author.Tests.{le-leb, lt-leb}
use Rattle.std.specs.Prelude.{Result, Ok, Err}
use Rattle.machine.specs.declared.Part.{Part}
use Rattle.machine.specs.declared.refusals.Refusal.{Refusal}
use Rattle.machine.specs.declared.refusals.Refusal.TheVariants.{BadLayout, BadValue}
use Rattle.machine.specs.declared.Part.TheVariants.{Mark, Value}
use Rattle.machine.specs.Checkpoint as Checkpoint
use Rattle.machine.specs.Checkpoint.{number_of, layout, width_of, places, holds, judged, read_part, read_parts}
use Rattle.machine.specs.Checkpoint.Reading.{reading, faulty}
use Rattle.machine.specs.Outcomes.{number}
use Rattle.layout.specs.Order.{part_count, part_at}
use Rattle.layout.proofs.Order.{Kind}
use Rattle.checkpoint.specs.declared.Reading.{Reading}
use Rattle.checkpoint.specs.Reads.{taken_by, fault_of}
use Rattle.checkpoint.proofs.Writes.{parts_from, parts_on, parts_out}

-- a part that is whole, by its fault
abbrev pub unless_fault : Result (Unit {0}) Refusal → Checkpoint.Reading → Checkpoint.Reading
unless_fault (Ok x) s = s
unless_fault (Err e) s = faulty (number e)

judged_by : (kind : ℕ) (p : Part) (n : ℕ) (values rest : List ℕ)
    → unless_fault (fault_of kind p n (taken_by p n values)) (reading (taken_by p n values) rest) ≡ judged kind p n values rest
unfolding fault_of taken_by judged
judged_by kind (Mark m) n values rest = go (eqb n m)
  where
    go : (b : Bool) → unless_fault (cond b (Ok tt) (Err BadLayout)) (reading values rest) ≡ cond b (reading values rest) (faulty 16)
    go true = refl
    go false = refl
judged_by kind (Value place width) n values rest = go (holds kind place (set values place n))
  where
    next : Checkpoint.Reading
    next = reading (set values place n) rest

    go : (b : Bool) → unless_fault (cond b (Ok tt) (Err BadValue)) next ≡ cond b next (faulty 17)
    go true = refl
    go false = refl

-- what a reading of the code stands for
abbrev here : List ℕ → Reading → Checkpoint.Reading
here file r = reading r.values (drop r.at file)

module _ (kind : ℕ) (file : List ℕ) (p : Part) (r : Reading) (h : r.at ≤ length file) where
  -- a file cut short
  pub step_short : length file - r.at < width_of p → faulty 15 ≡ read_part kind p (here file r)
  unfolding read_part
  step_short l =
      let t : leb (width_of p) (length (drop r.at file)) ≡ false = lt-leb (width_of p) (length (drop r.at file)) (omega (arith, length-drop r.at file)) in
      rw t

  -- a part that is whole
  whole : width_of p ≤ length file - r.at → (n : ℕ) → n ≡ number_of (take (width_of p) (drop r.at file))
      → unless_fault (fault_of kind p n (taken_by p n r.values)) (reading (taken_by p n r.values) (drop (r.at + width_of p) file))
      ≡ read_part kind p (here file r)
  unfolding read_part
  whole l n en =
      let t : leb (width_of p) (length (drop r.at file)) ≡ true = le-leb (width_of p) (length (drop r.at file)) (omega (arith, length-drop r.at file)) in
      let u : read_part kind p (here file r)
      ≡ judged kind p (number_of (take (width_of p) (drop r.at file))) r.values (drop (width_of p) (drop r.at file)) = rw t in
      judged_by kind p n r.values (drop (r.at + width_of p) file)
      ∙ (ap₂ (λ (m : ℕ) (rest : List ℕ). judged kind p m r.values rest) en (sym (drop-drop (width_of p) r.at file)) ∙ sym u)

  pub step_whole : (width n : ℕ) (values : List ℕ) (fault : Result (Unit {0}) Refusal) → width ≤ length file - r.at → width ≡ width_of p
      → n ≡ number_of (take (r.at + width - r.at) (drop r.at file)) → values ≡ taken_by p n r.values → fault ≡ fault_of kind p n values
      → unless_fault fault (reading values (drop (r.at + width) file)) ≡ read_part kind p (here file r)
  step_whole width n values fault l w en v f =
      let wide : r.at + width - r.at ≡ width_of p = omega (arith, w) in
      let judgement = f ∙ ap (fault_of kind p n) v in
      (λ k. unless_fault (judgement k) (reading (v k) (drop (r.at + w k) file)))
      ∙ whole (rw w at l) n (en ∙ ap (λ (k : ℕ). number_of (take k (drop r.at file))) wide)

-- The loop over the parts

-- what the whole file is read as
abbrev pub all : ℕ → List ℕ → Checkpoint.Reading
all kind file = read_parts kind (layout kind) (reading (replicate places 0) file)

-- a fault stays, whatever parts are left over
stays : (kind : ℕ) (parts : List Part) (n : ℕ) → read_parts kind parts (faulty n) ≡ faulty n
unfolding read_part read_parts
stays kind [] n = refl
stays kind (p ∷ parts) n = stays kind parts n

pub record Halfway (kind : ℕ) (file : List ℕ) (r : Reading) (n : ℕ) : Type 0 where
  pub within : n ≤ part_count kind
  pub inside : r.at ≤ length file
  pub rest : read_parts kind (parts_from kind n) (here file r) ≡ all kind file

module _ (kind : ℕ) (file : List ℕ) where
  pub read_first : Halfway kind file (record { at = 0; values = replicate places 0 }) 0
  read_first = record { within = omega arith; inside = omega arith; rest = refl }

  module _ (k : Kind kind) (r : Reading) (n : ℕ) (w : Halfway kind file r n) where
    module _ (p : Part) (h : n < part_count kind) (ep : p ≡ part_at kind n) where
      on : (next : Checkpoint.Reading) → next ≡ read_part kind p (here file r) → read_parts kind (parts_from kind (n + 1)) next ≡ all kind file
      unfolding read_parts
      on next e =
          ap (read_parts kind (parts_from kind (n + 1))) (e ∙ ap (λ (q : Part). read_part kind q (here file r)) ep)
          ∙ (ap (λ (parts : List Part). read_parts kind parts (here file r)) (sym (parts_on kind n k h)) ∙ w.rest)

      pub read_on : (s : Reading) → here file s ≡ read_part kind p (here file r) → s.at ≤ length file → Halfway kind file s (n + 1)
      read_on s e i = record { within = omega arith; inside = i; rest = on (here file s) e }

      pub read_fault : (e : ℕ) → faulty e ≡ read_part kind p (here file r) → faulty e ≡ all kind file
      read_fault e f = sym (stays kind (parts_from kind (n + 1)) e) ∙ on (faulty e) f

    pub read_out : part_count kind ≤ n → here file r ≡ all kind file
    unfolding read_parts
    read_out h = ap (λ (parts : List Part). read_parts kind parts (here file r)) (sym (parts_out kind n k h)) ∙ w.rest
