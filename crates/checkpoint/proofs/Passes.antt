-- A reading without a fault, part by part: what it says of the bytes and of the values. By induction on the parts.
use Prim.Native.Nat.{ℕ, suc, ◌+◌, ◌*◌, ◌≤◌}
use mathlib.Core.Path.{◌≡◌, refl, sym, ap, ap₂, subst, ◌∙◌}
use mathlib.Core.Bool.{Bool, true, false, cond, ◌&&◌, true≢false}
use mathlib.Core.List.{List, [], ◌∷◌, ◌++◌, append_assoc}
use native.Mathlib.Nat.{mod-eq_of_lt}
use native.Mathlib.Omega.{arith}
use lib.Dec.{eqb, leb, ltb}
use lib.ListN.{length, get_or, take, drop, set, length-set, take-append-drop, length-append}
use lib.Seq.{length-take-le, get_or-set_same, get_or-set_other, take-append_seam, drop-append_seam}
use borrow.Author.Tests.{eqb-true, eqb-false, leb-true, ltb-true, le-leb, eq-eqb}
use Rattle.machine.specs.declared.Part.{Part}
use Rattle.machine.specs.declared.Part.TheVariants.{Mark, Value}
use Rattle.machine.specs.Record.{accepted}
use Rattle.machine.specs.Checkpoint.{Reading, bytes_of, number_of, device_of, place_of_received, place_of_sbuf, places, written, holds, judged, read_part, read_parts}
use Rattle.machine.specs.Checkpoint.Reading.{reading, faulty}
use Rattle.machine.proofs.Choices.{by_test, and_two}
use Rattle.layout.specs.Bytes.{Bytes}
use Rattle.layout.proofs.Bytes.{bytes_number, bytes_parts}

-- from some values and bytes, over the parts, to other values and the bytes that are left
pub data Passes (kind : ℕ) : List Part → List ℕ → List ℕ → List ℕ → List ℕ → Type 0 where
  ends : {values bytes : List ℕ} → Passes kind [] values bytes values bytes
  mark : {m : ℕ} {parts : List Part} {values bytes last rest : List ℕ}
      → Passes kind parts values bytes last rest → Passes kind (Mark m ∷ parts) values (m ∷ bytes) last rest
  value : {place width : ℕ} {parts : List Part} {values bytes last rest : List ℕ} (chunk : List ℕ) → length chunk ≡ width
      → holds kind place (set values place (number_of chunk)) ≡ true
      → Passes kind parts (set values place (number_of chunk)) bytes last rest
      → Passes kind (Value place width ∷ parts) values (chunk ++ bytes) last rest

-- A reading that ends without a fault passes so

faulty_stays : (kind : ℕ) (parts : List Part) (n : ℕ) → read_parts kind parts (faulty n) ≡ faulty n
unfolding read_parts read_part
faulty_stays kind [] n = refl
faulty_stays kind (p ∷ parts) n = faulty_stays kind parts n

abbrev is_faulty : Reading → Bool
is_faulty (reading values bytes) = false
is_faulty (faulty n) = true

abbrev values_in : Reading → List ℕ
values_in (reading values bytes) = values
values_in (faulty n) = []

abbrev bytes_in : Reading → List ℕ
bytes_in (reading values bytes) = bytes
bytes_in (faulty n) = []

never : {A : Type 0} (kind : ℕ) (parts : List Part) (n : ℕ) (last rest : List ℕ) → read_parts kind parts (faulty n) ≡ reading last rest → A
never kind parts n last rest e = absurd (true≢false (ap is_faulty (sym (faulty_stays kind parts n) ∙ e)))

-- one byte as a number
one_byte : (bytes : List ℕ) → 1 ≤ length bytes → bytes ≡ number_of (take 1 bytes) ∷ drop 1 bytes
unfolding number_of
one_byte [] h = absurd (omega arith)
one_byte (b ∷ bytes) h = ap (λ (x : ℕ). x ∷ bytes) (omega arith)

pub passes : (kind : ℕ) (parts : List Part) (values bytes last rest : List ℕ)
    → read_parts kind parts (reading values bytes) ≡ reading last rest → Passes kind parts values bytes last rest
unfolding read_parts read_part judged
passes kind [] values bytes last rest e =
    subst (λ (r : Reading). Passes kind [] values bytes (values_in r) (bytes_in r)) e ends
passes kind (Mark m ∷ parts) values bytes last rest e =
    by_test (leb 1 (length bytes))
    (λ t. by_test (eqb (number_of (take 1 bytes)) m)
    (λ u.
    let on : read_parts kind parts (reading values (drop 1 bytes)) ≡ reading last rest = rw (t, u) at e in
    let whole = one_byte bytes (leb-true _ _ t) ∙ ap (λ (x : ℕ). x ∷ drop 1 bytes) (eqb-true _ _ u) in
    subst (λ (bs : List ℕ). Passes kind (Mark m ∷ parts) values bs last rest) (sym whole)
    (mark (passes kind parts values (drop 1 bytes) last rest on)))
    (λ u. never kind parts 16 last rest (rw (t, u) at e)))
    (λ t. never kind parts 15 last rest (rw t at e))
passes kind (Value place width ∷ parts) values bytes last rest e =
    let chunk = take width bytes in
    let next = set values place (number_of chunk) in
    by_test (leb width (length bytes))
    (λ t. by_test (holds kind place next)
    (λ u.
    let on : read_parts kind parts (reading next (drop width bytes)) ≡ reading last rest = rw (t, u) at e in
    subst (λ (bs : List ℕ). Passes kind (Value place width ∷ parts) values bs last rest) (take-append-drop width bytes)
    (value chunk (length-take-le width bytes (leb-true _ _ t)) u (passes kind parts next (drop width bytes) last rest on)))
    (λ u. never kind parts 17 last rest (rw (t, u) at e)))
    (λ t. never kind parts 15 last rest (rw t at e))

-- and what passes so ends so
pub passes_read : (kind : ℕ) {parts : List Part} {values bytes last rest : List ℕ}
    → Passes kind parts values bytes last rest → read_parts kind parts (reading values bytes) ≡ reading last rest
unfolding read_parts read_part judged number_of
passes_read kind ends = refl
passes_read kind (mark {m} {bytes = bytes} p) =
    let t : leb 1 (suc (length bytes)) ≡ true = le-leb 1 (suc (length bytes)) (omega arith) in
    let u : eqb (m + 256 * 0) m ≡ true = eq-eqb (m + 256 * 0) m (omega arith) in
    rw (t, u) (passes_read kind p)
passes_read kind (value {place} {width} {parts} {values} {bytes} {last} {rest} chunk l h p) =
    let t : leb width (length (chunk ++ bytes)) ≡ true = le-leb width (length (chunk ++ bytes)) (omega (arith, length-append chunk bytes)) in
    let front : take width (chunk ++ bytes) ≡ chunk = ap (λ (k : ℕ). take k (chunk ++ bytes)) (sym l) ∙ take-append_seam chunk bytes in
    let back : drop width (chunk ++ bytes) ≡ bytes = ap (λ (k : ℕ). drop k (chunk ++ bytes)) (sym l) ∙ drop-append_seam chunk bytes in
    rw (t, front, back, h) (passes_read kind p)

-- The values that are read are accepted

pub still_accepted : (kind : ℕ) {parts : List Part} {values bytes last rest : List ℕ}
    → Passes kind parts values bytes last rest → accepted (device_of kind values) ≡ true → accepted (device_of kind last) ≡ true
unfolding holds
still_accepted kind ends a = a
still_accepted kind (mark p) a = still_accepted kind p a
still_accepted kind (value chunk l h p) a = still_accepted kind p (and_two _ _ h).0

-- The places of a layout: each value has its own

-- no part from here on has the place
abbrev pub fresh : ℕ → List Part → Bool
fresh place [] = true
fresh place (Mark m ∷ parts) = fresh place parts
fresh place (Value q width ∷ parts) = cond (eqb place q) false (fresh place parts)

-- what stands at such a place stays
kept : (kind place : ℕ) {parts : List Part} {values bytes last rest : List ℕ}
    → Passes kind parts values bytes last rest → fresh place parts ≡ true → get_or last place 0 ≡ get_or values place 0
kept kind place ends f = refl
kept kind place (mark p) f = kept kind place p f
kept kind place (value {place = q} {values = values} chunk l h p) f =
    by_test (eqb place q)
    (λ t. absurd (true≢false (sym f ∙ rw t)))
    (λ t. kept kind place p (rw t at f) ∙ get_or-set_other values q place (number_of chunk) 0 (eqb-false place q t))

-- as many values as before
pub as_many : (kind : ℕ) {parts : List Part} {values bytes last rest : List ℕ} → Passes kind parts values bytes last rest → length last ≡ length values
as_many kind ends = refl
as_many kind (mark p) = as_many kind p
as_many kind (value {place = place} {values = values} chunk l h p) = as_many kind p ∙ length-set values place (number_of chunk)

-- every value has a place of its own, among the values
abbrev pub distinct : List Part → Bool
distinct [] = true
distinct (Mark m ∷ parts) = distinct parts
distinct (Value place width ∷ parts) = ltb place places && (fresh place parts && distinct parts)

-- Bytes that are read are those that the values read are written as
pub read_as_written : (kind : ℕ) {parts : List Part} {values bytes last rest : List ℕ}
    → Passes kind parts values bytes last rest → distinct parts ≡ true → length values ≡ places → Bytes bytes
    → bytes ≡ written parts last ++ rest
unfolding written bytes_of Bytes
read_as_written kind ends d n b = refl
read_as_written kind (mark {m = m} p) d n b =
    ap₂ (λ (x : ℕ) (xs : List ℕ). x ∷ xs) (sym (mod-eq_of_lt b.0)) (read_as_written kind p d n b.1)
read_as_written kind (value {place = place} {width = width} {parts = parts} {values = values} {bytes = bytes} {last = last} {rest = rest} chunk l h p) d n b =
    let s = and_two (ltb place places) (fresh place parts && distinct parts) d in
    let t = and_two (fresh place parts) (distinct parts) s.1 in
    let b2 = bytes_parts chunk bytes b in
    let at : get_or last place 0 ≡ number_of chunk =
    kept kind place p t.0 ∙ get_or-set_same values place (number_of chunk) 0 (omega (arith, ltb-true place places s.0, n)) in
    let here : bytes_of width (get_or last place 0) ≡ chunk = ap₂ bytes_of (sym l) at ∙ bytes_number chunk b2.0 in
    let more = read_as_written kind p t.1 (length-set values place (number_of chunk) ∙ n) b2.1 in
    ap₂ (λ (xs ys : List ℕ). xs ++ ys) (sym here) more ∙ sym (append_assoc (bytes_of width (get_or last place 0)) (written parts last) rest)

-- the received byte among the hidden fields is compared, and neither it nor the SBUF entry is read again
abbrev pub compared : List Part → Bool
compared [] = false
compared (Mark m ∷ parts) = compared parts
compared (Value place width ∷ parts) =
    cond (eqb place place_of_received) (fresh place_of_received parts && fresh place_of_sbuf parts) (compared parts)

pub same_received : (kind : ℕ) {parts : List Part} {values bytes last rest : List ℕ}
    → Passes kind parts values bytes last rest → compared parts ≡ true → get_or last place_of_received 0 ≡ get_or last place_of_sbuf 0
unfolding holds
same_received kind ends c = absurd (true≢false (sym c))
same_received kind (mark p) c = same_received kind p c
same_received kind (value {place = place} {parts = parts} {values = values} {last = last} chunk l h p) c =
    by_test (eqb place place_of_received)
    (λ t.
    let f = and_two (fresh place_of_received parts) (fresh place_of_sbuf parts) (rw t at c) in
    let next = set values place (number_of chunk) in
    let u = and_two (accepted (device_of kind next)) (cond (eqb place place_of_received) (eqb (get_or next place_of_received 0) (get_or next place_of_sbuf 0)) true) h in
    let e : eqb (get_or next place_of_received 0) (get_or next place_of_sbuf 0) ≡ true = rw t at u.1 in
    kept kind place_of_received p f.0 ∙ (eqb-true _ _ e ∙ sym (kept kind place_of_sbuf p f.1)))
    (λ t. same_received kind p (rw t at c))
