-- Timer 2's counts in turn, by the laws of counting at 16 bits: up to FFFF they add up, and past it they go on from
-- the reload value. And T2EX's copy.
use Rattle.std.proofs.Common.{◌≡◌, ℕ, ◌+◌, ◌-◌, ◌/◌, ◌%◌, ◌<◌, ◌≤◌, Bool, true, false, cond, sym, ap, ◌∙◌, add-zero, add_assoc, arith}
use Rattle.machine.specs.declared.Counted16.{Counted16}
use Rattle.machine.specs.declared.Timer2.{Timer2}
use Rattle.machine.specs.Timer2.{count_times, rcap2, count2, with_count2, with_rcap2}
use Rattle.laws.specs.Counting.{overflows_or, lap_from}
use Rattle.laws.proofs.Counting.{counts_or_up, overflows_or_up, lap, count_times_are}

-- a count and the overflows so far
abbrev pub at : ℕ → ℕ → Counted16
at n o = record { count = n; overflows = o }

count_times_eq : {a b : Counted16} → a.count ≡ b.count → a.overflows ≡ b.overflows → a ≡ b
count_times_eq p q = λ i. record { count = p i; overflows = q i }

-- m counts that stay at most FFFF add m
pub count_times_on : (m r n o : ℕ) → n + m < 65536 → count_times m r (at n o) ≡ at (n + m) o
count_times_on m r n o h =
    count_times_are m r n o ∙ count_times_eq (counts_or_up m 16 r n h) (ap (λ (k : ℕ). o + k) (overflows_or_up m 16 r n h) ∙ add-zero o)

-- with more counts left than FFFF is away, those past the overflow go on from the reload value
pub count_times_over : (m r n o : ℕ) → n < 65536 → lap_from 16 n ≤ m
    → count_times m r (at n o) ≡ count_times (m - lap_from 16 n) r (at r (o + 1))
count_times_over m r n o h g =
    let l = lap m 16 r n h g in
    count_times_are m r n o
    ∙ count_times_eq l.count (ap (λ (k : ℕ). o + k) l.over ∙ sym (add_assoc o 1 (overflows_or (m - lap_from 16 n) 16 r r)))
    ∙ sym (count_times_are (m - lap_from 16 n) r r (o + 1))

-- T2EX's copy, byte by byte: after it the count and RCAP2 are one pair
pub copied_by_bytes : (b : Bool) (t : Timer2) → t.rcap2l < 256 → t.tl2 < 256
    → record {
      t2con = t.t2con;
      rcap2l = cond b t.tl2 t.rcap2l;
      rcap2h = cond b t.th2 t.rcap2h;
      tl2 = cond b t.tl2 t.rcap2l;
      th2 = cond b t.th2 t.rcap2h;
      due2 = t.due2;
    }
    ≡ cond b (with_rcap2 (count2 t) t) (with_count2 (rcap2 t) t)
copied_by_bytes true t h l =
    let low : t.tl2 ≡ count2 t % 256 = omega arith in
    let high : t.th2 ≡ count2 t / 256 = omega arith in
    λ i. record { t2con = t.t2con; rcap2l = low i; rcap2h = high i; tl2 = t.tl2; th2 = t.th2; due2 = t.due2 }
copied_by_bytes false t h l =
    let low : t.rcap2l ≡ rcap2 t % 256 = omega arith in
    let high : t.rcap2h ≡ rcap2 t / 256 = omega arith in
    λ i. record { t2con = t.t2con; rcap2l = t.rcap2l; rcap2h = t.rcap2h; tl2 = low i; th2 = high i; due2 = t.due2 }
