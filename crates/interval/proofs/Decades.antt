-- The decades of a number, both ways, and counting down by a borrow.
use mathlib.Core.Path.{◌≡◌, sym, ap, ◌∙◌}
use mathlib.Core.Bool.{true}
use Prim.Native.Nat.{ℕ, zero, suc, ◌+◌, ◌*◌, ◌/◌, ◌%◌, ◌<◌, ◌≤◌}
use native.Mathlib.Omega.{arith}
use lib.Dec.{leb}
use borrow.Author.Tests.{ne_eqb, le-leb, leb-true}
use Rattle.machine.specs.Bits.{field}
use Rattle.machine.proofs.Choices.{and_four}
use Rattle.interval.specs.Count.{most, one_below, digits_ok, decimal, decades}
use Rattle.interval.specs.Decades.{borrowed, DecadesCount}
use Rattle.interval.proofs.Counts.{below_zero, below_suc}

-- four digits, written in decades: each is read back
record Read (v a b c d : ℕ) : Type 0 where
  thousands : field 12 4 v ≡ a
  hundreds : field 8 4 v ≡ b
  tens : field 4 4 v ≡ c
  ones : field 0 4 v ≡ d

read_back : (a b c d : ℕ) → a < 16 → b < 16 → c < 16 → d < 16 → Read (a * 4096 + b * 256 + c * 16 + d) a b c d
read_back a b c d ha hb hc hd =
    let v = a * 4096 + b * 256 + c * 16 + d in
    let q3 : v / 4096 ≡ a = omega arith in
    let q2 : v / 256 ≡ a * 16 + b = omega arith in
    let q1 : v / 16 ≡ (a * 16 + b) * 16 + c = omega arith in
    record {
      thousands = ap (λ (q : ℕ). q % 16) q3 ∙ (omega arith);
      hundreds = ap (λ (q : ℕ). q % 16) q2 ∙ (omega arith);
      tens = ap (λ (q : ℕ). q % 16) q1 ∙ (omega arith);
      ones = omega arith;
    }

record Read10 (n a b c d : ℕ) : Type 0 where
  thousands : n / 1000 ≡ a
  hundreds : n / 100 % 10 ≡ b
  tens : n / 10 % 10 ≡ c
  ones : n % 10 ≡ d

read_back10 : (a b c d : ℕ) → b < 10 → c < 10 → d < 10 → Read10 (a * 1000 + b * 100 + c * 10 + d) a b c d
read_back10 a b c d hb hc hd =
    let n = a * 1000 + b * 100 + c * 10 + d in
    let q2 : n / 100 ≡ a * 10 + b = omega arith in
    let q1 : n / 10 ≡ (a * 10 + b) * 10 + c = omega arith in
    record {
      thousands = omega arith;
      hundreds = ap (λ (q : ℕ). q % 10) q2 ∙ (omega arith);
      tens = ap (λ (q : ℕ). q % 10) q1 ∙ (omega arith);
      ones = omega arith;
    }

-- the digits of a number make the number
digits10 : (n : ℕ) → n / 1000 * 1000 + n / 100 % 10 * 100 + n / 10 % 10 * 10 + n % 10 ≡ n
digits10 n = sum (n / 10) (n / 100) (n / 1000) (n % 10) (n / 10 % 10) (n / 100 % 10) (omega arith) (omega arith) (omega arith)
  where
    sum : (q1 q2 q3 r0 r1 r2 : ℕ) → q1 * 10 + r0 ≡ n → q2 * 10 + r1 ≡ q1 → q3 * 10 + r2 ≡ q2
        → q3 * 1000 + r2 * 100 + r1 * 10 + r0 ≡ n
    sum q1 q2 q3 r0 r1 r2 e0 e1 e2 = omega arith

digits16 : (v : ℕ) → v ≤ 65535 → field 12 4 v * 4096 + field 8 4 v * 256 + field 4 4 v * 16 + field 0 4 v ≡ v
digits16 v h =
    sum (v / 16) (v / 256) (v / 4096) (field 0 4 v) (field 4 4 v) (field 8 4 v) (field 12 4 v) (omega arith) (omega arith) (omega arith) (omega arith)
  where
    sum : (q1 q2 q3 r0 r1 r2 r3 : ℕ) → q1 * 16 + r0 ≡ v → q2 * 16 + r1 ≡ q1 → q3 * 16 + r2 ≡ q2 → r3 ≡ q3
        → r3 * 4096 + r2 * 256 + r1 * 16 + r0 ≡ v
    sum q1 q2 q3 r0 r1 r2 r3 e0 e1 e2 e3 = omega arith

-- the digits of a number up to 9,999
read : (n : ℕ) → n ≤ 9999 → Read (decades n) (n / 1000) (n / 100 % 10) (n / 10 % 10) (n % 10)
unfolding decades
read n h = read_back (n / 1000) (n / 100 % 10) (n / 10 % 10) (n % 10) (omega arith) (omega arith) (omega arith) (omega arith)

decimal_decades : (n : ℕ) → n ≤ 9999 → decimal (decades n) ≡ n
unfolding decimal
decimal_decades n h =
    let r = read n h in
    simp (r.thousands, r.hundreds, r.tens, r.ones) (digits10 n)

decades_decimal : (v : ℕ) → v ≤ 65535 → digits_ok v ≡ true → decades (decimal v) ≡ v
unfolding decimal decades digits_ok
decades_decimal v h e =
    let p = and_four (leb (field 12 4 v) 9) (leb (field 8 4 v) 9) (leb (field 4 4 v) 9) (leb (field 0 4 v) 9) e in
    let b = leb-true (field 8 4 v) 9 p.0.1 in
    let c = leb-true (field 4 4 v) 9 p.1.0 in
    let d = leb-true (field 0 4 v) 9 p.1.1 in
    let r =
    read_back10 (field 12 4 v) (field 8 4 v) (field 4 4 v) (field 0 4 v) (omega arith) (omega arith) (omega arith) in
    simp (r.thousands, r.hundreds, r.tens, r.ones) (digits16 v h)

pub decimal_le : (v : ℕ) → digits_ok v ≡ true → decimal v ≤ 9999
unfolding decimal digits_ok
decimal_le v e =
    let p = and_four (leb (field 12 4 v) 9) (leb (field 8 4 v) 9) (leb (field 4 4 v) 9) (leb (field 0 4 v) 9) e in
    sum (field 12 4 v) (field 8 4 v) (field 4 4 v) (field 0 4 v) (leb-true _ _ p.0.0) (leb-true _ _ p.0.1) (leb-true _ _ p.1.0) (leb-true _ _ p.1.1)
  where
    sum : (a b c d : ℕ) → a ≤ 9 → b ≤ 9 → c ≤ 9 → d ≤ 9 → a * 1000 + b * 100 + c * 10 + d ≤ 9999
    sum a b c d ha hb hc hd = omega arith

digits_ok_lem : (n : ℕ) → n ≤ 9999 → digits_ok (decades n) ≡ true
unfolding digits_ok
digits_ok_lem n h =
    let r = read n h in
    simp (r.thousands, r.hundreds, r.tens, r.ones, le-leb (n / 1000) 9 (omega arith), le-leb (n / 100 % 10) 9 (omega arith), le-leb (n / 10 % 10) 9 (omega arith), le-leb (n % 10) 9 (omega arith))

-- a number that is given by its digits, in decades
written : (a b c d : ℕ) → b < 10 → c < 10 → d < 10 → decades (a * 1000 + b * 100 + c * 10 + d) ≡ a * 4096 + b * 256 + c * 16 + d
unfolding decades
written a b c d hb hc hd =
    let r = read_back10 a b c d hb hc hd in
    simp (r.thousands, r.hundreds, r.tens, r.ones)

-- one below a number that is not 0
one_less : (n m : ℕ) → n ≡ suc m → one_below 9999 n ≡ m
one_less n m e = ap (one_below 9999) e ∙ below_suc 9999 m

-- by the lowest digit that is not 0
borrow_digits : (a b c d : ℕ) → a < 10 → b < 10 → c < 10 → d < 10
    → decades (one_below 9999 (a * 1000 + b * 100 + c * 10 + d)) ≡ borrowed (a * 4096 + b * 256 + c * 16 + d)
borrow_digits a b c (suc d) ha hb hc hd =
    let r = read_back a b c (suc d) (omega arith) (omega arith) (omega arith) (omega arith) in
    ap decades (one_less (a * 1000 + b * 100 + c * 10 + suc d) (a * 1000 + b * 100 + c * 10 + d) (omega arith))
    ∙ written a b c d hb hc (omega arith)
    ∙ sym (simp (r.ones, ne_eqb (suc d) 0 (λ e. omega arith)) (omega arith))
borrow_digits a b (suc c) zero ha hb hc hd =
    let r = read_back a b (suc c) zero (omega arith) (omega arith) (omega arith) (omega arith) in
    ap decades (one_less (a * 1000 + b * 100 + suc c * 10 + zero) (a * 1000 + b * 100 + c * 10 + 9) (omega arith))
    ∙ written a b c 9 hb (omega arith) (omega arith)
    ∙ sym (simp (r.ones, r.tens, ne_eqb (suc c) 0 (λ e. omega arith)) (omega arith))
borrow_digits a (suc b) zero zero ha hb hc hd =
    let r = read_back a (suc b) zero zero (omega arith) (omega arith) (omega arith) (omega arith) in
    ap decades (one_less (a * 1000 + suc b * 100 + zero * 10 + zero) (a * 1000 + b * 100 + 9 * 10 + 9) (omega arith))
    ∙ written a b 9 9 (omega arith) (omega arith) (omega arith)
    ∙ sym (simp (r.ones, r.tens, r.hundreds, ne_eqb (suc b) 0 (λ e. omega arith)) (omega arith))
borrow_digits (suc a) zero zero zero ha hb hc hd =
    let r = read_back (suc a) zero zero zero (omega arith) (omega arith) (omega arith) (omega arith) in
    ap decades (one_less (suc a * 1000 + zero * 100 + zero * 10 + zero) (a * 1000 + 9 * 100 + 9 * 10 + 9) (omega arith))
    ∙ written a 9 9 9 (omega arith) (omega arith) (omega arith)
    ∙ sym (simp (r.ones, r.tens, r.hundreds, r.thousands, ne_eqb (suc a) 0 (λ e. omega arith)) (omega arith))
borrow_digits zero zero zero zero ha hb hc hd = ap decades (below_zero 9999) ∙ written 9 9 9 9 (omega arith) (omega arith) (omega arith)

borrows : (n : ℕ) → n ≤ 9999 → decades (one_below 9999 n) ≡ borrowed (decades n)
unfolding decades
borrows n h =
    ap (λ (m : ℕ). decades (one_below 9999 m)) (sym (digits10 n))
    ∙ borrow_digits (n / 1000) (n / 100 % 10) (n / 10 % 10) (n % 10) (omega arith) (omega arith) (omega arith) (omega arith)

pub decades_count : DecadesCount
unfolding most
decades_count =
    record {
      shows = decimal_decades;
      shown = decades_decimal;
      digits = digits_ok_lem;
      within = λ v h. decimal_le v;
      borrows = borrows;
    }
