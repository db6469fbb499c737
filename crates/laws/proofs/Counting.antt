-- Laws of counting for any width: one count, also of a number parted over two registers; m counts in turn with a
-- reload; and m counts at once. By induction on the counts.
use mathlib.Core.Path.{◌≡◌, refl, sym, ap, ap₂, ◌∙◌}
use mathlib.Core.Bool.{cond}
use mathlib.Core.Logic.{⊎_elim}
use Prim.Native.Nat.{ℕ, zero, suc, ◌+◌, ◌-◌, ◌*◌, ◌/◌, ◌%◌, ◌^◌, ◌<◌, ◌≤◌}
use native.Mathlib.Nat.{add-zero, zero-add, add_comm, add_assoc, mod-eq_of_lt, mod_self, mod-add-mod, mod-eq-sub-mod, div-eq_of_lt, div_self, div-eq-sub-div, eq-or-lt_of_le, div-add-mod', mul-add-div_right}
use native.Mathlib.Omega.{arith}
use lib.Dec.{eqb, ltb}
use lib.Pow.{pow_pos, mod-mod-pow, field}
use borrow.Author.Tests.{ltb-true, ltb-false, eqb-true, eqb-false, ne_eqb}
use Rattle.machine.specs.declared.Count.{Count}
use Rattle.machine.specs.Counting.{next, overflow, next_or}
use Rattle.machine.specs.Timer2.{count_once, count_times}
use Rattle.machine.proofs.Choices.{cond_has, by_test}
use Rattle.machine.proofs.Counting.{next_lt, next_or_lt}
use Rattle.laws.specs.Counting.{counts, overflows, counts_or, overflows_or, lap_from, count_after, overflows_after}

-- ---- one count

-- short of all ones: one up, no overflow
pub next_up : (w n : ℕ) → n + 1 < 2 ^ w → next w n ≡ n + 1
next_up w n h = mod-eq_of_lt h

pub overflow_up : (w n : ℕ) → n + 1 < 2 ^ w → overflow w n ≡ 0
overflow_up w n h = div-eq_of_lt h

pub overflow_over : (w n : ℕ) → n + 1 ≡ 2 ^ w → overflow w n ≡ 1
overflow_over w n e = ap (λ (m : ℕ). m / 2 ^ w) e ∙ div_self (pow_pos w)

-- so an overflow comes at all ones
pub overflow_at : (w n : ℕ) → n < 2 ^ w → overflow w n ≡ cond (eqb n (2 ^ w - 1)) 1 0
overflow_at w n h =
    by_test (eqb n (2 ^ w - 1)) (λ e. overflow_over w n (omega (arith, eqb-true n (2 ^ w - 1) e, h)) ∙ rw e refl)
    (λ e. overflow_up w n (omega (arith, eqb-false n (2 ^ w - 1) e, h)) ∙ rw e refl)

-- a number up to p: p goes to zero, and carries
to_zero : (p m : ℕ) → 0 < m → m ≤ p → cond (eqb (m % p) 0) 1 0 ≡ m / p
to_zero p m h l =
    ⊎_elim
    (λ e. simp (e, mod_self p, div_self {n = p} (omega arith)))
    (λ less. simp (mod-eq_of_lt {n = m} {m = p} less, div-eq_of_lt {n = m} {m = p} less, ne_eqb m 0 (omega arith)))
    (eq-or-lt_of_le l)

-- a count of w bits overflows exactly where the next number is zero
pub carry : (w n : ℕ) → n < 2 ^ w → cond (eqb (next w n) 0) 1 0 ≡ overflow w n
carry w n h = to_zero (2 ^ w) (n + 1) (omega arith) (omega arith)

-- a timer's pair after a count, field by field
pub count_eq : {a b : Count} → a.tl ≡ b.tl → a.th ≡ b.th → a.overflow ≡ b.overflow → a ≡ b
count_eq p q r = λ i. record { tl = p i; th = q i; overflow = r i }

-- with a reload
pub next_or_up : (w reload n : ℕ) → n + 1 < 2 ^ w → next_or w reload n ≡ n + 1
next_or_up w reload n h = simp (overflow_up w n h) (next_up w n h)

pub next_or_over : (w reload n : ℕ) → n + 1 ≡ 2 ^ w → next_or w reload n ≡ reload
next_or_over w reload n e = simp (overflow_over w n e)

-- a number of j + k bits parted at bit k, as a timer's is over TH and TL: what a sum that is not cut leaves in either
pub next_low : (j k n : ℕ) → next (j + k) n % 2 ^ k ≡ (n + 1) % 2 ^ k
next_low j k n = mod-mod-pow (n + 1) j k

pub next_high : (j k n : ℕ) → next (j + k) n / 2 ^ k ≡ (n + 1) / 2 ^ k % 2 ^ j
next_high j k n = field (n + 1) j k

-- ---- m counts in turn, each overflow giving the reload value

one_more : (n m : ℕ) → n + 1 + m ≡ n + suc m
one_more n m = omega arith

-- in the first lap
pub counts_or_up : (m w reload n : ℕ) → n + m < 2 ^ w → counts_or m w reload n ≡ n + m
unfolding counts_or
counts_or_up zero w reload n h = sym (add-zero n)
counts_or_up (suc m) w reload n h =
    ap (counts_or m w reload) (next_or_up w reload n (omega arith)) ∙ counts_or_up m w reload (n + 1) (omega arith) ∙ one_more n m

pub overflows_or_up : (m w reload n : ℕ) → n + m < 2 ^ w → overflows_or m w reload n ≡ 0
unfolding overflows_or
overflows_or_up zero w reload n h = refl
overflows_or_up (suc m) w reload n h =
    ap₂ (λ (o c : ℕ). o + overflows_or m w reload c) (overflow_up w n (omega arith)) (next_or_up w reload n (omega arith))
    ∙ zero-add (overflows_or m w reload (n + 1)) ∙ overflows_or_up m w reload (n + 1) (omega arith)

-- past the first lap: the counts left over go on from the reload value
pub record Lap (m w reload n : ℕ) : Type 0 where
  pub count : counts_or m w reload n ≡ counts_or (m - lap_from w n) w reload reload
  pub over : overflows_or m w reload n ≡ 1 + overflows_or (m - lap_from w n) w reload reload

pub lap : (m w reload n : ℕ) → n < 2 ^ w → lap_from w n ≤ m → Lap m w reload n
unfolding counts_or overflows_or
lap zero w reload n h p = absurd (omega arith)
lap (suc m) w reload n h p =
    by_test (ltb (n + 1) (2 ^ w))
    (λ e.
    let l = ltb-true (n + 1) (2 ^ w) e in
    let left : m - lap_from w (n + 1) ≡ suc m - lap_from w n = omega arith in
    let more = lap m w reload (n + 1) l (omega arith) in
    record {
      count = ap (counts_or m w reload) (next_or_up w reload n l) ∙ more.count ∙ ap (λ (k : ℕ). counts_or k w reload reload) left;
      over =
          ap₂ (λ (o c : ℕ). o + overflows_or m w reload c) (overflow_up w n l) (next_or_up w reload n l)
          ∙ zero-add (overflows_or m w reload (n + 1)) ∙ more.over
          ∙ ap (λ (k : ℕ). 1 + overflows_or k w reload reload) left;
    })
    (λ e.
    let g = ltb-false (n + 1) (2 ^ w) e in
    let l : n + 1 ≡ 2 ^ w = omega arith in
    let left : m ≡ suc m - lap_from w n = omega arith in
    record {
      count = ap₂ (λ (k c : ℕ). counts_or k w reload c) left (next_or_over w reload n l);
      over =
          ap₂ (λ (o c : ℕ). o + overflows_or m w reload c) (overflow_over w n l) (next_or_over w reload n l)
          ∙ ap (λ (k : ℕ). 1 + overflows_or k w reload reload) left;
    })

-- the count stays one of w bits
pub counts_or_lt : (m w reload n : ℕ) → reload < 2 ^ w → n < 2 ^ w → counts_or m w reload n < 2 ^ w
unfolding counts_or
counts_or_lt zero w reload n r h = h
counts_or_lt (suc m) w reload n r h = counts_or_lt m w reload (next_or w reload n) r (next_or_lt w reload n r)

-- ---- several counts of Timer 2 are counts of 16 bits with a reload
pub count_times_are : (m reload c o : ℕ)
    → count_times m reload (record { count = c; overflows = o })
    ≡ record { count = counts_or m 16 reload c; overflows = o + overflows_or m 16 reload c }
unfolding counts_or overflows_or count_once count_times
count_times_are zero reload c o = λ i. record { count = c; overflows = sym (add-zero o) i }
count_times_are (suc m) reload c o =
    count_times_are m reload (next_or 16 reload c) (o + overflow 16 c)
    ∙ (λ i. record {
      count = counts_or m 16 reload (next_or 16 reload c);
      overflows = add_assoc o (overflow 16 c) (overflows_or m 16 reload (next_or 16 reload c)) i;
    })

-- ---- m counts at once, without a reload and with one, the short first lap included. A jump goes by rounds and cites
-- none of these: they are for the requests that count over a stretch, Seven (overflow totals) and Twelve (cycles left
-- in a frame)

-- the count is the sum in w bits, and the overflows are what is carried out of them
pub counts_mod : (m w n : ℕ) → n < 2 ^ w → counts m w n ≡ (n + m) % 2 ^ w
unfolding counts
counts_mod zero w n h = sym (ap (λ (k : ℕ). k % 2 ^ w) (add-zero n) ∙ mod-eq_of_lt h)
counts_mod (suc m) w n h =
    counts_mod m w (next w n) (next_lt w n) ∙ mod-add-mod (n + 1) (2 ^ w) m ∙ ap (λ (k : ℕ). k % 2 ^ w) (one_more n m)

pub overflows_div : (m w n : ℕ) → n < 2 ^ w → overflows m w n ≡ (n + m) / 2 ^ w
unfolding overflows
overflows_div zero w n h = sym (ap (λ (k : ℕ). k / 2 ^ w) (add-zero n) ∙ div-eq_of_lt h)
overflows_div (suc m) w n h =
    ap (λ (k : ℕ). overflow w n + k) (overflows_div m w (next w n) (next_lt w n))
    ∙ sym (mul-add-div_right (pow_pos w) (overflow w n) (next w n + m))
    ∙ ap (λ (k : ℕ). k / 2 ^ w) (carried (overflow w n * 2 ^ w) (next w n) (div-add-mod' (n + 1) (2 ^ w)))
  where
    carried : (a b : ℕ) → a + b ≡ n + 1 → a + (b + m) ≡ n + suc m
    carried a b e = omega arith

-- m counts from the reload value itself
record Round (m w reload : ℕ) : Type 0 where
  count : counts_or m w reload reload ≡ reload + m % lap_from w reload
  over : overflows_or m w reload reload ≡ m / lap_from w reload

short : (m w reload : ℕ) → m < lap_from w reload → Round m w reload
short m w reload l =
    record {
      count = counts_or_up m w reload reload (omega arith) ∙ ap (λ (k : ℕ). reload + k) (sym (mod-eq_of_lt l));
      over = overflows_or_up m w reload reload (omega arith) ∙ sym (div-eq_of_lt l);
    }

round : (most m w reload : ℕ) → m ≤ most → reload < 2 ^ w → Round m w reload
round zero m w reload h r = short m w reload (omega arith)
round (suc most) m w reload h r =
    by_test (ltb m (lap_from w reload)) (λ e. short m w reload (ltb-true m (lap_from w reload) e))
    (λ e.
    let g = ltb-false m (lap_from w reload) e in
    let first = lap m w reload reload r g in
    let others = round most (m - lap_from w reload) w reload (omega arith) r in
    record {
      count = first.count ∙ others.count ∙ ap (λ (k : ℕ). reload + k) (sym (mod-eq-sub-mod g));
      over =
          first.over ∙ ap (λ (k : ℕ). 1 + k) others.over ∙ add_comm 1 ((m - lap_from w reload) / lap_from w reload)
          ∙ sym (div-eq-sub-div (omega arith) g);
    })

-- past the first lap
pub counts_or_past : (m w reload n : ℕ) → reload < 2 ^ w → n < 2 ^ w → lap_from w n ≤ m
    → counts_or m w reload n ≡ reload + (m - lap_from w n) % lap_from w reload
counts_or_past m w reload n r h p =
    (lap m w reload n h p).count ∙ (round (m - lap_from w n) (m - lap_from w n) w reload (omega arith) r).count

pub overflows_or_past : (m w reload n : ℕ) → reload < 2 ^ w → n < 2 ^ w → lap_from w n ≤ m
    → overflows_or m w reload n ≡ 1 + (m - lap_from w n) / lap_from w reload
overflows_or_past m w reload n r h p =
    (lap m w reload n h p).over
    ∙ ap (λ (k : ℕ). 1 + k) (round (m - lap_from w n) (m - lap_from w n) w reload (omega arith) r).over

-- in the first lap or past it
pub counts_or_after : (m w reload n : ℕ) → reload < 2 ^ w → n < 2 ^ w → counts_or m w reload n ≡ count_after m w reload n
unfolding count_after
counts_or_after m w reload n r h =
    cond_has (λ (c : ℕ). counts_or m w reload n ≡ c) (ltb m (lap_from w n)) _ _
    (λ e. counts_or_up m w reload n (omega (arith, ltb-true m (lap_from w n) e)))
    (λ e. counts_or_past m w reload n r h (ltb-false m (lap_from w n) e))

pub overflows_or_after : (m w reload n : ℕ) → reload < 2 ^ w → n < 2 ^ w → overflows_or m w reload n ≡ overflows_after m w reload n
unfolding overflows_after
overflows_or_after m w reload n r h =
    cond_has (λ (o : ℕ). overflows_or m w reload n ≡ o) (ltb m (lap_from w n)) _ _
    (λ e. overflows_or_up m w reload n (omega (arith, ltb-true m (lap_from w n) e)))
    (λ e. overflows_or_past m w reload n r h (ltb-false m (lap_from w n) e))
