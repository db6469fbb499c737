-- Reading what was written gives that device: the values that are read are, place by place, those that were written.
use Prim.Native.Nat.{ℕ, suc, ◌-◌, ◌^◌, ◌<◌, ◌≤◌}
use mathlib.Core.Path.{◌≡◌, refl, sym, ap, subst, ◌∙◌}
use mathlib.Core.Bool.{Bool, true, false, ◌&&◌}
use mathlib.Core.List.{List, [], ◌∷◌, ◌++◌, map, append_assoc, append-nil}
use mathlib.Core.Logic.{inl, inr}
use native.Mathlib.Nat.{mod-eq_of_lt}
use native.Mathlib.Omega.{arith}
use lib.Dec.{eqb, ltb, lit≤}
use lib.ListN.{length, get_or, set, replicate, length-set, length-replicate, get_or-eq_default, get_or-replicate}
use lib.Seq.{get_or-set_same, get_or-set_other, ext_get_or}
use borrow.Author.Tests.{eqb-true, eqb-false, ltb-true, ltb-false, lt-ltb, le-ltb, eq-eqb}
use Rattle.machine.specs.declared.Device.{Device}
use Rattle.machine.specs.declared.Part.{Part}
use Rattle.machine.specs.declared.Part.TheVariants.{Mark, Value}
use Rattle.machine.specs.Registers.{table, implemented_in, implemented}
use Rattle.machine.specs.Record.{Register, registers, Hidden, hidden_fields, accepted}
use Rattle.machine.specs.Checkpoint.{bytes_of, number_of, times_listed, values_of, place_of_received, place_of_sbuf, places, device_with, device_of, joined, section, register_entries, number_entries, time_entries, layout, width_of, number_at, written, file_of, holds, read_parts}
use Rattle.machine.specs.Checkpoint.Reading.{reading}
use Rattle.machine.proofs.Choices.{by_test, and_two}
use Rattle.laws.specs.Ranges.{Ranges}
use Rattle.laws.proofs.Arrays.{elements, whole}
use Rattle.record.proofs.Accepted.{ranges_of}
use Rattle.layout.proofs.Bytes.{bytes_length, number_bytes}
use Rattle.layout.proofs.Order.{Kind}
use Rattle.values.specs.Values.{most_at}
use Rattle.checkpoint.specs.Moves.{Sized}
use Rattle.values.proofs.Fields.{fits}
use Rattle.checkpoint.proofs.Front.{up_to, front_accepted}
use Rattle.checkpoint.proofs.Steps.{all}
use Rattle.checkpoint.proofs.Passes.{Passes, passes_read}
use Rattle.checkpoint.proofs.Passes.Passes.{ends, mark, value}

-- Parts whose values stand at one place after the other, from k on, each with room for what its field has room for
abbrev consecutive : ℕ → List Part → Bool
consecutive k [] = true
consecutive k (Mark m ∷ parts) = ltb m 256 && consecutive k parts
consecutive k (Value place width ∷ parts) = (eqb place k && ltb (most_at place) (256 ^ width)) && consecutive (suc k) parts

-- the place past them
abbrev past : ℕ → List Part → ℕ
past k [] = k
past k (Mark m ∷ parts) = past k parts
past k (Value place width ∷ parts) = past (suc k) parts

past_most : (k : ℕ) (parts : List Part) → k ≤ past k parts
past_most k [] = omega arith
past_most k (Mark m ∷ parts) = past_most k parts
past_most k (Value place width ∷ parts) = let h = past_most (suc k) parts in omega arith

module _ (kind : ℕ) (values : List ℕ) (full : length values ≡ places) (ok : accepted (device_of kind values) ≡ true)
    (same : get_or values place_of_received 0 ≡ get_or values place_of_sbuf 0) (wide : get_or values place_of_received 0 ≤ 2 ^ 64 - 1) where
  abbrev v : ℕ → ℕ
  v p = get_or values p 0

  -- the values that are read so far
  record Front (us : List ℕ) (k : ℕ) : Type 0 where
    long : length us ≡ places
    at : (p : ℕ) → get_or us p 0 ≡ up_to k v p

  first : Front (replicate places 0) 0
  first =
      record {
        long = length-replicate {A = ℕ} places 0;
        at = λ p.
            by_test (ltb p places) (λ t. get_or-replicate places p 0 0 (ltb-true p places t))
            (λ t. get_or-eq_default (replicate places 0) 0 {n = p} (omega (arith, ltb-false p places t, length-replicate {A = ℕ} places 0)))
            ∙ zero_up p;
      }
    where
      zero_up : (p : ℕ) → 0 ≡ up_to 0 v p
      zero_up p = let e : ltb p 0 ≡ false = le-ltb p 0 (omega arith) in rw e

  -- one value more
  one_more : (k p : ℕ) → (p ≡ k → ⊥) → up_to k v p ≡ up_to (suc k) v p
  one_more k p other =
      by_test (ltb p k)
      (λ t. let l = ltb-true p k t in let e : ltb p (suc k) ≡ true = lt-ltb p (suc k) (omega arith) in rw (t, e))
      (λ t. let l = ltb-false p k t in
      by_test (ltb p (suc k)) (λ u. absurd (other (omega (arith, ltb-true p (suc k) u)))) (λ u. rw (t, u)))

  here : (k : ℕ) → up_to (suc k) v k ≡ v k
  here k = let e : ltb k (suc k) ≡ true = lt-ltb k (suc k) (omega arith) in rw e

  next : (us : List ℕ) (k : ℕ) → k < places → Front us k → Front (set us k (v k)) (suc k)
  next us k h f =
      record {
        long = length-set us k (v k) ∙ f.long;
        at = λ p.
            by_test (eqb p k)
            (λ t. let e = eqb-true p k t in
            subst (λ (q : ℕ). get_or (set us k (v k)) q 0 ≡ up_to (suc k) v q) (sym e)
            (get_or-set_same us k (v k) 0 (omega (arith, f.long)) ∙ sym (here k)))
            (λ t. let n = eqb-false p k t in
            get_or-set_other us k p (v k) 0 n ∙ (f.at p ∙ one_more k p n));
      }

  -- a value that is 0 need not be read
  skip : (us : List ℕ) (k : ℕ) → v k ≡ 0 → Front us k → Front us (suc k)
  skip us k z f =
      record {
        long = f.long;
        at = λ p.
            by_test (eqb p k)
            (λ t. let e = eqb-true p k t in
            let l : ltb k k ≡ false = le-ltb k k (omega arith) in
            let u : up_to k v k ≡ 0 = rw l in
            f.at p ∙ subst (λ (q : ℕ). up_to k v q ≡ up_to (suc k) v q) (sym e) (u ∙ sym (here k ∙ z)))
            (λ t. f.at p ∙ one_more k p (eqb-false p k t));
      }

  -- it holds
  front_holds : (us : List ℕ) (k : ℕ) → Front us (suc k) → holds kind k us ≡ true
  unfolding holds
  front_holds us k f =
      let a : accepted (device_of kind us) ≡ true =
      ap (λ (w : ℕ → ℕ). accepted (device_with kind w)) (λ i p. f.at p i) ∙ front_accepted (suc k) v kind ok in
      by_test (eqb k place_of_received)
      (λ t.
      let e = eqb-true k place_of_received t in
      let g : Front us 26 = subst (λ (q : ℕ). Front us (suc q)) e f in
      let s : eqb (get_or us place_of_received 0) (get_or us place_of_sbuf 0) ≡ true =
      eq-eqb _ _ (g.at place_of_received ∙ (same ∙ sym (g.at place_of_sbuf))) in
      rw (a, t) s)
      (λ t. rw (a, t) refl)

  -- what is written of some parts is read, and the values go on by theirs
  record Reads (parts : List Part) (us more : List ℕ) (k : ℕ) : Type 0 where
    last : List ℕ
    passes : Passes kind parts us (written parts values ++ more) last more
    front : Front last (past k parts)

  reads : (parts : List Part) (us more : List ℕ) (k : ℕ) → consecutive k parts ≡ true → past k parts ≤ places → Front us k → Reads parts us more k
  unfolding written bytes_of
  reads [] us more k c h f = record { last = us; passes = ends; front = f }
  reads (Mark m ∷ parts) us more k c h f =
      let s = and_two (ltb m 256) (consecutive k parts) c in
      let r = reads parts us more k s.1 h f in
      record {
        last = r.last;
        passes =
            subst (λ (b : ℕ). Passes kind (Mark m ∷ parts) us (b ∷ (written parts values ++ more)) r.last more)
            (sym (mod-eq_of_lt (ltb-true m 256 s.0))) (mark r.passes);
        front = r.front;
      }
  reads (Value place width ∷ parts) us more k c h f =
      let s = and_two (eqb place k && ltb (most_at place) (256 ^ width)) (consecutive (suc k) parts) c in
      let t = and_two (eqb place k) (ltb (most_at place) (256 ^ width)) s.0 in
      let e = eqb-true place k t.0 in
      let l : k < places = let q = past_most (suc k) parts in omega arith in
      let m : v place ≤ most_at place = fits kind v ok wide place (omega arith) in
      let chunk = bytes_of width (v place) in
      let n : number_of chunk ≡ v place = number_bytes width (v place) (omega (arith, ltb-true (most_at place) (256 ^ width) t.1)) in
      let g : Front (set us place (number_of chunk)) (suc k) =
      subst (λ (q : ℕ). Front (set us place q) (suc k)) (sym n)
      (subst (λ (q : ℕ). Front (set us q (v q)) (suc k)) (sym e) (next us k l f)) in
      let r = reads parts (set us place (number_of chunk)) more (suc k) s.1 h g in
      let w : holds kind place (set us place (number_of chunk)) ≡ true =
      subst (λ (q : ℕ). holds kind q (set us place (number_of chunk)) ≡ true) (sym e) (front_holds (set us place (number_of chunk)) k g) in
      record {
        last = r.last;
        passes =
            subst (λ (b : List ℕ). Passes kind (Value place width ∷ parts) us b r.last more)
            (sym (append_assoc chunk (written parts values) more))
            (value chunk (bytes_length width (v place)) w r.passes);
        front = r.front;
      }

  -- all of them
  all_read : (us : List ℕ) → Front us places → us ≡ values
  all_read us f =
      ext_get_or 0 us values (f.long ∙ sym full)
      (λ p h. f.at p ∙ (let e : ltb p places ≡ true = lt-ltb p places (omega (arith, f.long)) in rw e))

-- the sections

passes_append : (kind : ℕ) {parts more : List Part} {us bytes mid rest last end : List ℕ}
    → Passes kind parts us bytes mid rest → Passes kind more mid rest last end → Passes kind (parts ++ more) us bytes last end
passes_append kind ends q = q
passes_append kind (mark p) q = mark (passes_append kind p q)
passes_append kind (value chunk l h p) q = value chunk l h (passes_append kind p q)

written_append : (parts more : List Part) (values : List ℕ) → written (parts ++ more) values ≡ written parts values ++ written more values
unfolding written
written_append [] more values = refl
written_append (p ∷ parts) more values =
    ap (λ (xs : List ℕ). bytes_of (width_of p) (number_at values p) ++ xs) (written_append parts more values)
    ∙ sym (append_assoc (bytes_of (width_of p) (number_at values p)) (written parts values) (written more values))

abbrev register_section : ℕ → List Part
register_section kind = section (register_entries kind 0 table)

abbrev other_sections : List Part
other_sections = section (number_entries 16 25) ++ section (time_entries 41 8)

registers_consecutive : (kind : ℕ) → Kind kind → consecutive 0 (register_section kind) ≡ true
unfolding section joined register_entries table implemented_in implemented most_at
registers_consecutive kind (inl e) = subst (λ (k : ℕ). consecutive 0 (register_section k) ≡ true) (sym e) refl
registers_consecutive kind (inr e) = subst (λ (k : ℕ). consecutive 0 (register_section k) ≡ true) (sym e) refl

registers_past51 : past 0 (register_section 51) ≡ 11
unfolding section joined register_entries table implemented_in implemented
registers_past51 = refl

registers_past52 : past 0 (register_section 52) ≡ 16
unfolding section joined register_entries table implemented_in implemented
registers_past52 = refl

registers_most : (kind : ℕ) → Kind kind → past 0 (register_section kind) ≤ places
registers_most kind (inl e) = subst (λ (k : ℕ). past 0 (register_section k) ≤ places) (sym e) (rw registers_past51 (lit≤ tt))
registers_most kind (inr e) = subst (λ (k : ℕ). past 0 (register_section k) ≤ places) (sym e) (rw registers_past52 (lit≤ tt))

others_consecutive : consecutive 16 other_sections ≡ true
unfolding section joined number_entries time_entries most_at
others_consecutive = refl

others_past : past 16 other_sections ≡ places
unfolding section joined number_entries time_entries
others_past = refl

-- A device

abbrev front : Device → List ℕ → List ℕ
front d rest = map (λ (r : Register). r.value) (registers d) ++ (map (λ (h : Hidden). h.value) (hidden_fields d) ++ rest)

module _ (d : Device) (sized : Sized d) where
  levels : elements 0 7 0 d.levels ≡ d.levels
  levels = whole 0 7 d.levels sized.levels

  ever : elements 0 8 0 d.times.ever ≡ d.times.ever
  ever = whole 0 8 d.times.ever sized.ever

  number : elements 0 8 0 d.times.number ≡ d.times.number
  number = whole 0 8 d.times.number sized.number

  -- its values, element by element
  spelt : front d (elements 0 7 0 d.levels ++ times_listed (elements 0 8 0 d.times.ever) (elements 0 8 0 d.times.number)) ≡ values_of d
  unfolding values_of
  spelt = λ i. front d (levels i ++ times_listed (ever i) (number i))

  values_long : length (values_of d) ≡ places
  unfolding registers hidden_fields times_listed
  values_long = ap length (sym spelt)

  -- the device of its values
  pub device_back : device_of d.kind (values_of d) ≡ d
  unfolding registers hidden_fields times_listed device_with
  device_back =
      ap (device_of d.kind) (sym spelt)
      ∙ (λ i. record {
        kind = d.kind;
        pcon = d.pcon;
        timers = d.timers;
        timer2 = d.timer2;
        serial = d.serial;
        interrupts = d.interrupts;
        levels = levels i;
        cycle = d.cycle;
        times = record { ever = ever i; number = number i };
      })

  -- SBUF stands for the received byte
  received_twice : get_or (values_of d) place_of_received 0 ≡ get_or (values_of d) place_of_sbuf 0
  unfolding values_of registers hidden_fields
  received_twice = refl

  module _ (ok : accepted d ≡ true) where
    ranges : Ranges d
    ranges = ranges_of d ok

    wide : get_or (values_of d) place_of_received 0 ≤ 2 ^ 64 - 1
    unfolding values_of registers hidden_fields
    wide = let r = ranges.serial.received in omega arith

    values_ok : accepted (device_of d.kind (values_of d)) ≡ true
    values_ok = ap accepted device_back ∙ ok

    abbrev At : List ℕ → ℕ → Type 0
    At us k = Front d.kind (values_of d) values_long values_ok received_twice wide us k

    -- the registers, and on kind 51 those that it lacks
    after_registers : (us : List ℕ) → Kind d.kind → At us (past 0 (register_section d.kind)) → At us 16
    unfolding values_of registers hidden_fields
    after_registers us (inl e) f =
        let z = ranges.absent e in
        let g : At us 11 = subst (λ (k : ℕ). At us k) (ap (λ (kind : ℕ). past 0 (register_section kind)) e ∙ registers_past51) f in
        let on = skip d.kind (values_of d) values_long values_ok received_twice wide us in
        on 15 z.th2 (on 14 z.tl2 (on 13 z.rcap2h (on 12 z.rcap2l (on 11 z.t2con g))))
    after_registers us (inr e) f =
        subst (λ (k : ℕ). At us k) (ap (λ (kind : ℕ). past 0 (register_section kind)) e ∙ registers_past52) f

    pub read_back : all d.kind (file_of d) ≡ reading (values_of d) []
    unfolding file_of layout
    read_back =
        let kind = d.kind in
        let values = values_of d in
        let k = ranges.kind in
        let registered = reads kind values values_long values_ok received_twice wide (register_section kind) (replicate places 0)
        (written other_sections values) 0 (registers_consecutive kind k) (registers_most kind k)
        (first kind values values_long values_ok received_twice wide) in
        let others = reads kind values values_long values_ok received_twice wide other_sections registered.last [] 16
        others_consecutive (omega (arith, others_past)) (after_registers registered.last k registered.front) in
        let last : others.last ≡ values =
        all_read kind values values_long values_ok received_twice wide others.last (subst (λ (n : ℕ). At others.last n) others_past others.front) in
        let none : written other_sections values ++ [] ≡ written other_sections values = append-nil (written other_sections values) in
        let second = subst (λ (bytes : List ℕ). Passes kind other_sections registered.last bytes others.last []) none others.passes in
        let both = passes_append kind registered.passes second in
        ap (λ (bytes : List ℕ). read_parts kind (layout kind) (reading (replicate places 0) bytes)) (written_append (register_section kind) other_sections values)
        ∙ (passes_read kind both ∙ ap (λ (us : List ℕ). reading us []) last)
