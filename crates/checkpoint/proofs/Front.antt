-- The values of an accepted device as far as they are read, 0 past them, are those of an accepted device too. Field by field: the values
-- that bound others, SCON and each ever, stand before them.
use Prim.Native.Nat.{ℕ, suc, ◌^◌, ◌<◌, ◌≤◌}
use mathlib.Core.Path.{◌≡◌, refl}
use mathlib.Core.Bool.{true, cond, ◌&&◌}
use mathlib.Core.List.{List, [], ◌∷◌}
use native.Mathlib.Omega.{arith}
use lib.Bits.{bit_and, and_zero_l}
use lib.Dec.{eqb, leb, ltb, lit<}
use borrow.Author.Tests.{ltb-true, lt-ltb, eq-eqb}
use Rattle.machine.specs.Registers.{within}
use Rattle.machine.specs.Record.{last_position, levels_ok, accepted}
use Rattle.machine.specs.Times.{pair_ok, pairs_ok}
use Rattle.machine.specs.Checkpoint.{device_with}
use Rattle.machine.proofs.Choices.{cond_has, by_test, and_two}
use Rattle.laws.specs.Ranges.{Ranges}
use Rattle.record.proofs.Accepted.{ranges_of, accepted_of}

-- the values of the first k places
abbrev pub up_to : ℕ → (ℕ → ℕ) → ℕ → ℕ
up_to k v p = cond (ltb p k) (v p) 0

-- the values at some places
abbrev at : (ℕ → ℕ) → List ℕ → List ℕ
at f [] = []
at f (p ∷ ps) = f p ∷ at f ps

-- and at the places after them
abbrev after : (ℕ → ℕ) → List ℕ → List ℕ
after f [] = []
after f (p ∷ ps) = f (suc p) ∷ after f ps

-- an ever without its number
ever_alone : (e n : ℕ) → pair_ok e n ≡ true → pair_ok e 0 ≡ true
ever_alone e n h =
    by_test (eqb e 1) (λ t. rw t refl)
    (λ t. let u : (eqb e 0 && eqb n 0) ≡ true = rw t at h in rw (t, (and_two (eqb e 0) (eqb n 0) u).0) refl)

module _ (k : ℕ) (v : ℕ → ℕ) where
  abbrev w : ℕ → ℕ
  w = up_to k v

  -- what a value has and 0 has
  keeps : (P : ℕ → Type 0) (p : ℕ) → P (v p) → P 0 → P (w p)
  keeps P p h z = cond_has P (ltb p k) (v p) 0 (λ _. h) (λ _. z)

  byte : (p : ℕ) → v p < 256 → w p < 256
  byte p h = keeps (λ x. x < 256) p h (lit< tt)

  most : (m p : ℕ) → v p ≤ m → w p ≤ m
  most m p h = keeps (λ x. x ≤ m) p h (omega arith)

  bits : (m p : ℕ) → within m (v p) ≡ true → within m (w p) ≡ true
  bits m p h = keeps (λ x. within m x ≡ true) p h (eq-eqb (bit_and 0 m) 0 (and_zero_l m))

  gone : (p : ℕ) → v p ≡ 0 → w p ≡ 0
  gone p h = keeps (λ x. x ≡ 0) p h refl

  -- a position is read after SCON
  position : (p : ℕ) → 7 < p → v p ≤ last_position (v 7) → w p ≤ last_position (w 7)
  position p l h =
      cond_has (λ x. x ≤ last_position (w 7)) (ltb p k) (v p) 0
      (λ t. let e : ltb 7 k ≡ true = lt-ltb 7 k (omega (arith, ltb-true p k t)) in rw e h)
      (λ t. omega arith)

  levels : (ps : List ℕ) → levels_ok (at v ps) ≡ true → levels_ok (at w ps) ≡ true
  levels [] h = refl
  levels (p ∷ ps) h =
      let s = and_two (leb (v p) 1) (levels_ok (at v ps)) h in
      rw (keeps (λ x. leb x 1 ≡ true) p s.0 refl) (levels ps s.1)

  -- a number is read after its ever
  pair : (p : ℕ) → pair_ok (v p) (v (suc p)) ≡ true → pair_ok (w p) (w (suc p)) ≡ true
  pair p h =
      by_test (ltb (suc p) k)
      (λ t. let e : ltb p k ≡ true = lt-ltb p k (omega (arith, ltb-true (suc p) k t)) in rw (t, e) h)
      (λ t. rw t (keeps (λ x. pair_ok x 0 ≡ true) p (ever_alone (v p) (v (suc p)) h) refl))

  pairs : (ps : List ℕ) → pairs_ok (at v ps) (after v ps) ≡ true → pairs_ok (at w ps) (after w ps) ≡ true
  unfolding pairs_ok
  pairs [] h = refl
  pairs (p ∷ ps) h =
      let s = and_two (pair_ok (v p) (v (suc p))) (pairs_ok (at v ps) (after v ps)) h in
      rw (pair p s.0) (pairs ps s.1)

  front_ranges : (kind : ℕ) → Ranges (device_with kind v) → Ranges (device_with kind w)
  unfolding device_with
  front_ranges kind r =
      let t = r.timers in
      let u = r.timer2 in
      let s = r.serial in
      let i = r.interrupts in
      record {
        kind = r.kind;
        pcon = byte 0 r.pcon;
        pcon_bits = bits _ 0 r.pcon_bits;
        timers =
            record {
              tcon = byte 1 t.tcon;
              tmod = byte 2 t.tmod;
              tl0 = byte 3 t.tl0;
              tl1 = byte 4 t.tl1;
              th0 = byte 5 t.th0;
              th1 = byte 6 t.th1;
              due0 = most 1 26 t.due0;
              due1 = most 1 27 t.due1;
            };
        timer2 =
            record {
              t2con = byte 11 u.t2con;
              rcap2l = byte 12 u.rcap2l;
              rcap2h = byte 13 u.rcap2h;
              tl2 = byte 14 u.tl2;
              th2 = byte 15 u.th2;
              due2 = most 1 28 u.due2;
            };
        absent =
            λ e. let z = r.absent e in record {
              t2con = gone 11 z.t2con;
              rcap2l = gone 12 z.rcap2l;
              rcap2h = gone 13 z.rcap2h;
              tl2 = gone 14 z.tl2;
              th2 = gone 15 z.th2;
              due2 = gone 28 z.due2;
            };
        serial =
            record {
              scon = byte 7 s.scon;
              send =
                  record {
                    position = position 16 (lit< tt) s.send.position;
                    value = most 511 17 s.send.value;
                    counter = most 15 18 s.send.counter;
                  };
              receive =
                  record {
                    position = position 19 (lit< tt) s.receive.position;
                    value = most 511 20 s.receive.value;
                    counter = most 15 21 s.receive.counter;
                    votes = most 2 22 s.receive.votes;
                    sample = most 1 23 s.receive.sample;
                  };
              half = most 1 24 s.half;
              received = byte 8 s.received;
            };
        interrupts =
            record {
              ie = byte 9 i.ie;
              ie_bits = bits _ 9 i.ie_bits;
              ip = byte 10 i.ip;
              ip_bits = bits _ 10 i.ip_bits;
              seen = most 63 29 i.seen;
              polled = most 63 30 i.polled;
              low = most 1 31 i.low;
              high = most 1 32 i.high;
            };
        levels = levels (34 ∷ 35 ∷ 36 ∷ 37 ∷ 38 ∷ 39 ∷ 40 ∷ []) r.levels;
        cycle = keeps (λ x. x < 2 ^ 64) 33 r.cycle (lit< tt);
        times = pairs (41 ∷ 43 ∷ 45 ∷ 47 ∷ 49 ∷ 51 ∷ 53 ∷ 55 ∷ []) r.times;
      }

  pub front_accepted : (kind : ℕ) → accepted (device_with kind v) ≡ true → accepted (device_with kind w) ≡ true
  front_accepted kind ok = accepted_of (device_with kind w) (front_ranges kind (ranges_of (device_with kind v) ok))
