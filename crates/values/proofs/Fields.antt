-- The values of an accepted device, each within what its field has room for: place by place, from the ranges.
use Prim.Native.Nat.{ℕ, zero, suc, ◌-◌, ◌^◌, ◌<◌, ◌≤◌}
use mathlib.Core.Path.{◌≡◌, subst, sym}
use mathlib.Core.Bool.{true, ◌&&◌}
use mathlib.Core.List.{List, [], ◌∷◌}
use mathlib.Core.Logic.{⊎_elim}
use native.Mathlib.Nat.{not-suc-le-zero, le_of_suc-le-suc, eq-or-lt_of_le, le-pred_of_lt, le_trans}
use native.Mathlib.Omega.{arith}
use lib.Dec.{T, eqb, leb, lit≤}
use borrow.Author.Tests.{leb-true, eqb-true}
use Rattle.machine.specs.Times.{pair_ok, pairs_ok}
use Rattle.machine.specs.Record.{serial_mode, last_position, levels_ok, accepted}
use Rattle.machine.specs.Checkpoint.{device_with, places, place_of_received}
use Rattle.machine.proofs.Choices.{chosen, and_two, by_test}
use Rattle.machine.proofs.Accepted.{Each}
use Rattle.machine.proofs.Accepted.Each.{done, ◌&◌}
use Rattle.laws.specs.Ranges.{Ranges}
use Rattle.record.proofs.Accepted.{ranges_of}
use Rattle.values.specs.Values.{most_at}

infixl 5 ◌and◌
-- a fact of every place below n
pub data Below (P : ℕ → Type 0) : ℕ → Type 0 where
  nowhere : Below P 0
  ◌and◌ : {n : ℕ} → Below P n → P n → Below P (suc n)

pub at_place : {P : ℕ → Type 0} (n : ℕ) → Below P n → (p : ℕ) → p < n → P p
at_place zero nowhere p h = absurd (not-suc-le-zero h)
at_place {P} (suc n) (b and x) p h =
    ⊎_elim (λ e. subst P (sym e) x) (λ l. at_place n b p l) (eq-or-lt_of_le (le_of_suc-le-suc h))

-- saved levels
levels_each : (ls : List ℕ) → levels_ok ls ≡ true → Each (λ (l : ℕ). l ≤ 1) ls
levels_each [] e = done
levels_each (l ∷ ls) e =
    let h = and_two (leb l 1) (levels_ok ls) e in
    leb-true _ _ h.0 & levels_each ls h.1

-- the pairs of the flag times
pub pair_fits : (e n : ℕ) → pair_ok e n ≡ true → (e ≤ 1) × (n ≤ 2 ^ 64 - 1)
pair_fits e n h =
    by_test (eqb e 1 && leb n (2 ^ 64 - 1))
    (λ t. let s = and_two (eqb e 1) (leb n (2 ^ 64 - 1)) t in let q = eqb-true e 1 s.0 in (omega arith, leb-true _ _ s.1))
    (λ t. let z : (eqb e 0 && eqb n 0) ≡ true = rw t at h in
    let s = and_two (eqb e 0) (eqb n 0) z in
    let q = eqb-true e 0 s.0 in
    let u = eqb-true n 0 s.1 in
    (omega arith, omega arith))

unfoldable Pairs : List ℕ → List ℕ → Type 0
Pairs [] number = Unit {0}
Pairs (e ∷ ever) [] = Unit {0}
Pairs (e ∷ ever) (n ∷ number) = ((e ≤ 1) × (n ≤ 2 ^ 64 - 1)) × Pairs ever number

pairs_each : (ever number : List ℕ) → pairs_ok ever number ≡ true → Pairs ever number
unfolding pairs_ok Pairs
pairs_each [] number h = tt
pairs_each (e ∷ ever) [] h = tt
pairs_each (e ∷ ever) (n ∷ number) h =
    let s = and_two (pair_ok e n) (pairs_ok ever number) h in
    (pair_fits e n s.0, pairs_each ever number s.1)

-- a field of few values has room in a byte
byte : {m x : ℕ} → x ≤ m → T (leb m 255) → x ≤ 255
byte h small = le_trans h (lit≤ small)

last : (scon : ℕ) {x : ℕ} → x ≤ last_position scon → x ≤ 255
last scon h = le_trans h (chosen (λ (m : ℕ). m ≤ 255) (leb 2 (serial_mode scon)) 11 10 (lit≤ tt) (lit≤ tt))

module _ (kind : ℕ) (v : ℕ → ℕ) where
  abbrev Fits : ℕ → Type 0
  Fits p = v p ≤ most_at p

  fits_with : Ranges (device_with kind v)
      → Each (λ (l : ℕ). l ≤ 1) (v 34 ∷ v 35 ∷ v 36 ∷ v 37 ∷ v 38 ∷ v 39 ∷ v 40 ∷ [])
      → Pairs (v 41 ∷ v 43 ∷ v 45 ∷ v 47 ∷ v 49 ∷ v 51 ∷ v 53 ∷ v 55 ∷ []) (v 42 ∷ v 44 ∷ v 46 ∷ v 48 ∷ v 50 ∷ v 52 ∷ v 54 ∷ v 56 ∷ [])
      → v place_of_received ≤ 2 ^ 64 - 1 → Below Fits places
  unfolding device_with most_at Pairs
  fits_with r (l0 & l1 & l2 & l3 & l4 & l5 & l6 & done) ((e0, n0), ((e1, n1), ((e2, n2), ((e3, n3), ((e4, n4), ((e5, n5), ((e6, n6), ((e7, n7), _)))))))) w =
      let t = r.timers in
      let u = r.timer2 in
      let s = r.serial in
      let i = r.interrupts in
      nowhere
      and le-pred_of_lt r.pcon
      and le-pred_of_lt t.tcon
      and le-pred_of_lt t.tmod
      and le-pred_of_lt t.tl0
      and le-pred_of_lt t.tl1
      and le-pred_of_lt t.th0
      and le-pred_of_lt t.th1
      and le-pred_of_lt s.scon
      and le-pred_of_lt s.received
      and le-pred_of_lt i.ie
      and le-pred_of_lt i.ip
      and le-pred_of_lt u.t2con
      and le-pred_of_lt u.rcap2l
      and le-pred_of_lt u.rcap2h
      and le-pred_of_lt u.tl2
      and le-pred_of_lt u.th2
      and last (v 7) s.send.position
      and le_trans s.send.value (lit≤ tt)
      and byte s.send.counter tt
      and last (v 7) s.receive.position
      and le_trans s.receive.value (lit≤ tt)
      and byte s.receive.counter tt
      and byte s.receive.votes tt
      and byte s.receive.sample tt
      and byte s.half tt
      and w
      and byte t.due0 tt
      and byte t.due1 tt
      and byte u.due2 tt
      and byte i.seen tt
      and byte i.polled tt
      and byte i.low tt
      and byte i.high tt
      and omega (arith, r.cycle)
      and byte l0 tt
      and byte l1 tt
      and byte l2 tt
      and byte l3 tt
      and byte l4 tt
      and byte l5 tt
      and byte l6 tt
      and byte e0 tt
      and n0
      and byte e1 tt
      and n1
      and byte e2 tt
      and n2
      and byte e3 tt
      and n3
      and byte e4 tt
      and n4
      and byte e5 tt
      and n5
      and byte e6 tt
      and n6
      and byte e7 tt
      and n7

  -- an accepted device's values have room, each in its field
  pub fits : accepted (device_with kind v) ≡ true → v place_of_received ≤ 2 ^ 64 - 1 → (p : ℕ) → p < places → v p ≤ most_at p
  unfolding device_with
  fits ok w =
      let r = ranges_of (device_with kind v) ok in
      at_place places (fits_with r (levels_each _ r.levels) (pairs_each _ _ r.times) w)
