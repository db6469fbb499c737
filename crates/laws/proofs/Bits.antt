-- Laws of single bits and fields, for any place: the code's masks and shifts are the definitions' bits, and what
-- setting, clearing and putting a bit leaves; by the kit's laws of masks, and by taking a number apart at the bit.
use mathlib.Core.Path.{◌≡◌, refl, sym, ap, ap₂, ◌∙◌, subst}
use mathlib.Core.Bool.{Bool, true, false, cond}
use mathlib.Core.Logic.{◌≢◌}
use Prim.Native.Nat.{ℕ, zero, suc, ◌+◌, ◌-◌, ◌*◌, ◌/◌, ◌%◌, ◌^◌, ◌<◌, ◌≤◌, min}
use native.Mathlib.Nat.{pow-suc, mod-lt, zero-lt-suc, mod-eq_of_lt, one-mul, div-one, div-add-mod', div-lt_iff_lt-mul, mod-mod, suc-mul, zero-mul}
use native.Mathlib.Numerals.{one-add}
use native.Mathlib.Omega.{arith}
use lib.Dec.{eqb, ltb}
use mir.Val.{bool_byte}
use borrow.Author.Tests.{ltb-true, ltb-false}
use lib.Pow as P
use lib.Pow.{pow-lt, pow_pos, pow-add, split, high, low, mod-mod-pow, shl_exact, shr_lt, shr_mod, shr-shr, ones_lt, suc_ones}
use lib.Arith.{bin_ind, digits_mod}
use lib.Bits.{bit_and, bit_or, and_mask, and_comm, and_high, and_step, and_shr, and_block, and_self, and_zero_r, or_add_and, or_shifted, or_zero_r}
use Rattle.machine.specs.Bits.{bit, set_bit, clear_bit, put_bit, field}
use Rattle.machine.specs.Timers.{flagged}
use Rattle.machine.proofs.Choices.{chosen, cond_ap}

-- a bit is 0 or 1
pub bit_below : (k x : ℕ) → bit k x < 2
bit_below k x = mod-lt (x / 2 ^ k) (zero-lt-suc 1)

-- `(x >> k) & 1`
pub and_one : (x k : ℕ) → bit_and (x / 2 ^ k) 1 ≡ bit k x
and_one x k = and_mask (x / 2 ^ k) 1

top : (k : ℕ) → 2 ^ (1 + k) - 2 ^ k ≡ 2 ^ k
top k = rw (one-add, pow-suc) (omega arith)

-- `x & (1 << k)`
pub and_bit : (x k : ℕ) → bit_and x (2 ^ k) ≡ bit k x * 2 ^ k
and_bit x k = ap (bit_and x) (sym (top k)) ∙ and_high x 1 k

set_from : (b r x p : ℕ) → b < 2 → r + b * p ≡ x + p → r ≡ x + (1 - b) * p
set_from zero r x p h e = omega arith
set_from (suc zero) r x p h e = omega arith
set_from (suc (suc b)) r x p h e = absurd (omega arith)

-- `x | (1 << k)`
pub or_bit : (x k : ℕ) → bit_or x (2 ^ k) ≡ set_bit k x
or_bit x k =
    set_from (bit k x) (bit_or x (2 ^ k)) x (2 ^ k) (bit_below k x)
    (ap (λ (n : ℕ). bit_or x (2 ^ k) + n) (sym (and_bit x k)) ∙ or_add_and x (2 ^ k))

-- `x | (1 << k)` on bytes
pub or_shl : (x k : ℕ) → k < 8 → bit_or x (1 * 2 ^ k % 256) ≡ set_bit k x
or_shl x k h =
    ap (bit_or x) (ap (λ (n : ℕ). n % 256) (one-mul (2 ^ k)) ∙ mod-eq_of_lt {n = 2 ^ k} {m = 256} (pow-lt {i = k} {j = 8} h))
    ∙ or_bit x k

-- a register pair in 16 bits, k of them in the low register: `(high << k) | low`
pub join : (k high low : ℕ) → k ≤ 8 → high < 256 → low < 2 ^ k → bit_or (high * 2 ^ k % 2 ^ 16) low ≡ high * 2 ^ k + low
join k high low h u l = ap (λ (n : ℕ). bit_or n low) (shl_exact {a = high} 8 k 16 u (omega arith)) ∙ or_shifted high k low l

-- the low k bits of a register of j + k bits put anew, the others kept: `(x & (ones << k)) | (n & (2^k - 1))`
pub put_below : (j k x n : ℕ) → x < 2 ^ (j + k)
    → bit_or (bit_and x (2 ^ (j + k) - 2 ^ k)) (bit_and n (2 ^ k - 1)) ≡ x / 2 ^ k * 2 ^ k + n % 2 ^ k
put_below j k x n h =
    ap₂ bit_or (and_high x j k ∙ ap (λ (q : ℕ). q * 2 ^ k) (shr_mod j k h)) (and_mask n k)
    ∙ or_shifted (x / 2 ^ k) k (n % 2 ^ k) (mod-lt n (pow_pos k))

-- `x & (2^w - 1)`, and `(x >> k) & (2^w - 1)`
pub and_low : (x w : ℕ) → bit_and x (2 ^ w - 1) ≡ field 0 w x
and_low x w = and_mask x w ∙ ap (λ (n : ℕ). n % 2 ^ w) (sym (div-one x))

pub and_field : (x k w : ℕ) → bit_and (x / 2 ^ k) (2 ^ w - 1) ≡ field k w x
and_field x k w = and_mask (x / 2 ^ k) w

-- what the code's masks and the definitions' bits both come to, for `simp`
pub low1 : (x : ℕ) → bit_and x 1 ≡ x % 2
low1 x = and_mask x 1

pub low2 : (x : ℕ) → bit_and x 3 ≡ x % 4
low2 x = and_mask x 2

pub low3 : (x : ℕ) → bit_and x 7 ≡ x % 8
low3 x = and_mask x 3

pub low4 : (x : ℕ) → bit_and x 15 ≡ x % 16
low4 x = and_mask x 4

pub low5 : (x : ℕ) → bit_and x 31 ≡ x % 32
low5 x = and_mask x 5

pub low8 : (x : ℕ) → bit_and x 255 ≡ x % 256
low8 x = and_mask x 8

pub low24 : (x : ℕ) → bit_and x 0xffffff ≡ x % 0x1000000
low24 x = and_mask x 24

-- `u8::from(b)`
pub from_bool : (b : Bool) → bool_byte b ≡ cond b 1 0
from_bool true = refl
from_bool false = refl

pub ruleset bits = (low1, low2, low3, low4, low5, low8, low24, div-one)

-- ---- bits and fields after setBit, clearBit, put_bit, at any place: a number is the digits above bit k, bit k, and
-- the k below it

parts : (k x : ℕ) → (x / 2 ^ k / 2 * 2 + bit k x) * 2 ^ k + x % 2 ^ k ≡ x
parts k x = ap (λ (q : ℕ). q * 2 ^ k + x % 2 ^ k) (div-add-mod' (x / 2 ^ k) 2) ∙ split x k

put_from : (h b c p l x : ℕ) → (h * 2 + b) * p + l ≡ x → x - b * p + c * p ≡ (h * 2 + c) * p + l
put_from h b c p l x e = omega arith

put_parts : (k c x : ℕ) → put_bit k c x ≡ (x / 2 ^ k / 2 * 2 + c) * 2 ^ k + x % 2 ^ k
put_parts k c x = put_from (x / 2 ^ k / 2) (bit k x) c (2 ^ k) (x % 2 ^ k) x (parts k x)

-- clearBit and setBit are put_bit of 0 and of 1
pub clear_put : (k x : ℕ) → clear_bit k x ≡ put_bit k 0 x
clear_put k x = omega arith

pub set_put : (k x : ℕ) → set_bit k x ≡ put_bit k 1 x
set_put k x = set_is (x / 2 ^ k / 2) (bit k x) (2 ^ k) (x % 2 ^ k) x (bit_below k x) (parts k x) ∙ sym (put_parts k 1 x)
  where
    set_is : (h b p l x : ℕ) → b < 2 → (h * 2 + b) * p + l ≡ x → x + (1 - b) * p ≡ (h * 2 + 1) * p + l
    set_is h zero p l x b e = omega arith
    set_is h (suc zero) p l x b e = omega arith
    set_is h (suc (suc n)) p l x b e = absurd (omega arith)

-- from bit k up
put_shr : (k c x : ℕ) → put_bit k c x / 2 ^ k ≡ x / 2 ^ k / 2 * 2 + c
put_shr k c x = ap (λ (n : ℕ). n / 2 ^ k) (put_parts k c x) ∙ high (x / 2 ^ k / 2 * 2 + c) k (mod-lt x (pow_pos k))

-- the k bits below are kept
pub put_low : (k c x : ℕ) → put_bit k c x % 2 ^ k ≡ x % 2 ^ k
put_low k c x = ap (λ (n : ℕ). n % 2 ^ k) (put_parts k c x) ∙ low (x / 2 ^ k / 2 * 2 + c) k (mod-lt x (pow_pos k))

-- and the bits above
pub put_high : (k c x : ℕ) → c < 2 → put_bit k c x / 2 ^ (k + 1) ≡ x / 2 ^ (k + 1)
put_high k c x h =
    sym (shr-shr (put_bit k c x) k 1) ∙ ap (λ (n : ℕ). n / 2) (put_shr k c x) ∙ (omega arith) ∙ shr-shr x k 1

-- bit k itself
pub bit_put : (k c x : ℕ) → c < 2 → bit k (put_bit k c x) ≡ c
bit_put k c x h = ap (λ (n : ℕ). n % 2) (put_shr k c x) ∙ (omega arith)

-- a field of the k low bits of a number is the same field of the number
field_low : (j w k x : ℕ) → j + w ≤ k → field j w (x % 2 ^ k) ≡ field j w x
field_low j w k x h =
    sym (P.field (x % 2 ^ k) w j) ∙ ap (λ (n : ℕ). n / 2 ^ j) cut ∙ P.field x w j
  where
    less : (k - (w + j)) + (w + j) ≡ k
    less = omega arith

    cut : x % 2 ^ k % 2 ^ (w + j) ≡ x % 2 ^ (w + j)
    cut = subst (λ (n : ℕ). x % 2 ^ n % 2 ^ (w + j) ≡ x % 2 ^ (w + j)) less (mod-mod-pow x (k - (w + j)) (w + j))

-- the bits from j up are those of the bits from k up, where k is below j
shr_above : (j k x : ℕ) → k ≤ j → x / 2 ^ j ≡ x / 2 ^ k / 2 ^ (j - k)
shr_above j k x h = ap (λ (n : ℕ). x / 2 ^ n) more ∙ sym (shr-shr x k (j - k))
  where
    more : j ≡ k + (j - k)
    more = omega arith

-- a field all below bit k, or all above it, is kept
pub field_put_below : (j w k c x : ℕ) → j + w ≤ k → field j w (put_bit k c x) ≡ field j w x
field_put_below j w k c x h = sym (field_low j w k (put_bit k c x) h) ∙ ap (field j w) (put_low k c x) ∙ field_low j w k x h

pub field_put_above : (j w k c x : ℕ) → k < j → c < 2 → field j w (put_bit k c x) ≡ field j w x
field_put_above j w k c x h l =
    ap (λ (n : ℕ). n % 2 ^ w)
    (shr_above j (k + 1) (put_bit k c x) (omega arith) ∙ ap (λ (n : ℕ). n / 2 ^ (j - (k + 1))) (put_high k c x l)
    ∙ sym (shr_above j (k + 1) x (omega arith)))

-- every other bit is kept
pub bit_put_other : (j k c x : ℕ) → j ≢ k → c < 2 → bit j (put_bit k c x) ≡ bit j x
bit_put_other j k c x d h = side (ltb j k) refl
  where
    side : (b : Bool) → ltb j k ≡ b → bit j (put_bit k c x) ≡ bit j x
    side true e = let l = ltb-true j k e in field_put_below j 1 k c x (omega arith)
    side false e = let l = ltb-false j k e in field_put_above j 1 k c x (omega arith) h

-- a number of w bits stays one
pub put_lt : (w k c x : ℕ) → k < w → c < 2 → x < 2 ^ w → put_bit k c x < 2 ^ w
put_lt w k c x h l b =
    subst (λ (n : ℕ). put_bit k c x < n) whole
    ((div-lt_iff_lt-mul (pow_pos (k + 1))).0
    (subst (λ (n : ℕ). n < 2 ^ (w - (k + 1))) (sym (put_high k c x l))
    ((div-lt_iff_lt-mul (pow_pos (k + 1))).1 (subst (λ (n : ℕ). x < n) (sym whole) b))))
  where
    less : (w - (k + 1)) + (k + 1) ≡ w
    less = omega arith

    whole : 2 ^ (w - (k + 1)) * 2 ^ (k + 1) ≡ 2 ^ w
    whole = sym (pow-add 2 (w - (k + 1)) (k + 1)) ∙ ap (λ (n : ℕ). 2 ^ n) less

-- the same of setBit and clearBit
pub bit_set : (k x : ℕ) → bit k (set_bit k x) ≡ 1
bit_set k x = ap (bit k) (set_put k x) ∙ bit_put k 1 x (omega arith)

pub bit_set_other : (j k x : ℕ) → j ≢ k → bit j (set_bit k x) ≡ bit j x
bit_set_other j k x d = ap (bit j) (set_put k x) ∙ bit_put_other j k 1 x d (omega arith)

pub field_set_above : (j w k x : ℕ) → k < j → field j w (set_bit k x) ≡ field j w x
field_set_above j w k x h = ap (field j w) (set_put k x) ∙ field_put_above j w k 1 x h (omega arith)

pub set_lt : (w k x : ℕ) → k < w → x < 2 ^ w → set_bit k x < 2 ^ w
set_lt w k x h l = subst (λ (n : ℕ). n < 2 ^ w) (sym (set_put k x)) (put_lt w k 1 x h (omega arith) l)

-- a flag that an overflow sets: the bit, the other bits, no overflow, and the width
pub bit_flagged : (k o x : ℕ) → bit k (flagged k o x) ≡ cond (eqb o 1) 1 (bit k x)
unfolding flagged
bit_flagged k o x = cond_ap (bit k) (eqb o 1) (set_bit k x) x ∙ ap (λ (n : ℕ). cond (eqb o 1) n (bit k x)) (bit_set k x)

pub bit_flagged_other : (j k o x : ℕ) → j ≢ k → bit j (flagged k o x) ≡ bit j x
unfolding flagged
bit_flagged_other j k o x d = chosen (λ (n : ℕ). bit j n ≡ bit j x) (eqb o 1) (set_bit k x) x (bit_set_other j k x d) refl

pub flagged_none : (k x : ℕ) → flagged k 0 x ≡ x
unfolding flagged
flagged_none k x = refl

pub flagged_lt : (w k o x : ℕ) → k < w → x < 2 ^ w → flagged k o x < 2 ^ w
unfolding flagged
flagged_lt w k o x h l = chosen (λ (n : ℕ). n < 2 ^ w) (eqb o 1) _ _ (set_lt w k x h l) l

pub clear_lt : (w k x : ℕ) → x < 2 ^ w → clear_bit k x < 2 ^ w
clear_lt w k x l = omega arith

-- a bit put where it stands already changes nothing, and of two puts at one place the later counts
pub put_same : (k x : ℕ) → put_bit k (bit k x) x ≡ x
put_same k x = put_parts k (bit k x) x ∙ parts k x

pub set_same : (k x : ℕ) → bit k x ≡ 1 → set_bit k x ≡ x
set_same k x e = set_put k x ∙ ap (λ (c : ℕ). put_bit k c x) (sym e) ∙ put_same k x

pub put_put : (k c d x : ℕ) → d < 2 → put_bit k c (put_bit k d x) ≡ put_bit k c x
put_put k c d x h =
    put_parts k c (put_bit k d x)
    ∙ ap₂ (λ (q l : ℕ). (q * 2 + c) * 2 ^ k + l) (ap (λ (n : ℕ). n / 2) (put_shr k d x) ∙ (omega arith)) (put_low k d x)
    ∙ sym (put_parts k c x)

-- ---- the code's masks at any width

-- `b << k`, nothing shifted out
pub shl_bit : (w k b : ℕ) → k < w → b < 2 → b * 2 ^ k % 2 ^ w ≡ b * 2 ^ k
shl_bit w k b h l = shl_exact {a = b} 1 k w l (omega arith)

-- `x & !(1 << k)`
pub and_not : (w k x : ℕ) → k < w → x < 2 ^ w → bit_and x (2 ^ w - 1 - 2 ^ k) ≡ clear_bit k x
and_not w k x h l =
    ap₂ bit_and (sym (split x k)) mask
    ∙ and_block k (x / 2 ^ k) ((2 ^ j - 1) * 2 + 0) (x % 2 ^ k) (2 ^ k - 1) (mod-lt x (pow_pos k)) (ones_lt k)
    ∙ ap₂ (λ (q r : ℕ). q * 2 ^ k + r) upper (and_mask (x % 2 ^ k) k ∙ mod-mod x (2 ^ k))
    ∙ sym (put_parts k 0 x) ∙ sym (clear_put k x)
  where
    j : ℕ
    j = w - (k + 1)

    less : j + (k + 1) ≡ w
    less = omega arith

    mask_of : (p q n : ℕ) → zero < q → n ≡ suc p * (q * 2) → n - 1 - q ≡ (p * 2 + 0) * q + (q - 1)
    mask_of p q n hq e = omega (arith, e ∙ suc-mul p (q * 2))

    mask : 2 ^ w - 1 - 2 ^ k ≡ ((2 ^ j - 1) * 2 + 0) * 2 ^ k + (2 ^ k - 1)
    mask =
        mask_of (2 ^ j - 1) (2 ^ k) (2 ^ w) (pow_pos k)
        (ap (λ (n : ℕ). 2 ^ n) (sym less) ∙ pow-add 2 j (k + 1)
        ∙ ap₂ (λ (m n : ℕ). m * n) (sym (suc_ones j)) (pow-add 2 k 1))

    above : x / 2 ^ k / 2 < 2 ^ j
    above = subst (λ (n : ℕ). n < 2 ^ j) (sym (shr-shr x k 1)) (shr_lt j (k + 1) (subst (λ (n : ℕ). x < 2 ^ n) (sym less) l))

    upper : bit_and (x / 2 ^ k) ((2 ^ j - 1) * 2 + 0) ≡ x / 2 ^ k / 2 * 2 + 0
    upper =
        ap (λ (q : ℕ). bit_and q ((2 ^ j - 1) * 2 + 0)) (sym (div-add-mod' (x / 2 ^ k) 2))
        ∙ and_block 1 (x / 2 ^ k / 2) (2 ^ j - 1) (x / 2 ^ k % 2) 0 (mod-lt (x / 2 ^ k) (zero-lt-suc 1)) (zero-lt-suc 1)
        ∙ ap₂ (λ (q r : ℕ). q * 2 + r) (and_mask (x / 2 ^ k / 2) j ∙ mod-eq_of_lt above) (and_zero_r (x / 2 ^ k % 2))

-- on a byte, by a constant and by a shift
pub clear_bit_lem : (k : ℕ) → k < 8 → (x : ℕ) → x < 256 → bit_and x (255 - 2 ^ k) ≡ clear_bit k x
clear_bit_lem k h x l = and_not 8 k x h l

pub clear_shl : (k x : ℕ) → k < 8 → x < 256 → bit_and x (255 - 1 * 2 ^ k % 256) ≡ clear_bit k x
clear_shl k x h l =
    ap (λ (n : ℕ). bit_and x (255 - n)) (shl_bit 8 k 1 h (omega arith) ∙ one-mul (2 ^ k)) ∙ clear_bit_lem k h x l

-- `(x & !(1 << k)) | (b << k)`
pub or_put : (k b x : ℕ) → b < 2 → bit_or (clear_bit k x) (b * 2 ^ k) ≡ put_bit k b x
or_put k zero x h = ap (bit_or (clear_bit k x)) (zero-mul (2 ^ k)) ∙ or_zero_r (clear_bit k x) ∙ clear_put k x
or_put k (suc zero) x h =
    ap (bit_or (clear_bit k x)) (one-mul (2 ^ k)) ∙ or_bit (clear_bit k x) k ∙ set_put k (clear_bit k x)
    ∙ ap (put_bit k 1) (clear_put k x) ∙ put_put k 1 0 x (omega arith)
or_put k (suc (suc b)) x h = absurd (omega arith)

pub put_mask : (w k b x : ℕ) → k < w → b < 2 → x < 2 ^ w
    → bit_or (bit_and x (2 ^ w - 1 - 1 * 2 ^ k % 2 ^ w)) (b * 2 ^ k % 2 ^ w) ≡ put_bit k b x
put_mask w k b x h l m =
    ap₂ (λ (i j : ℕ). bit_or (bit_and x (2 ^ w - 1 - i)) j) (shl_bit w k 1 h (omega arith) ∙ one-mul (2 ^ k)) (shl_bit w k b h l)
    ∙ ap (λ (n : ℕ). bit_or n (b * 2 ^ k)) (and_not w k x h m) ∙ or_put k b x l

-- ---- a number within a mask, `x & m ≡ x`; the kit's `and_le_l`, `and_le_r` bound a masked number

pub bit_and_lem : (k a b : ℕ) → bit k (bit_and a b) ≡ min (bit k a) (bit k b)
bit_and_lem k a b =
    ap (λ (n : ℕ). n % 2) (and_shr a b k ∙ and_step (a / 2 ^ k) (b / 2 ^ k)) ∙ digits_mod (bit_and (a / 2 ^ k / 2) (b / 2 ^ k / 2)) small
  where
    small : min (bit k a) (bit k b) < 2
    small = omega (arith, bit_below k a)

pub and_assoc : (a b c : ℕ) → bit_and (bit_and a b) c ≡ bit_and a (bit_and b c)
and_assoc =
    bin_ind (λ (a : ℕ). (b c : ℕ) → bit_and (bit_and a b) c ≡ bit_and a (bit_and b c)) (λ b c. refl)
    (λ a ih b c. and_step (bit_and a b) c
    ∙ ap₂ (λ (q r : ℕ). q * 2 + r) (ap (λ (n : ℕ). bit_and n (c / 2)) (and_shr a b 1) ∙ ih (b / 2) (c / 2) ∙ ap (bit_and (a / 2)) (sym (and_shr b c 1)))
    (ap (λ (n : ℕ). min n (c % 2)) (low_and a b) ∙ (omega arith) ∙ ap (min (a % 2)) (sym (low_and b c)))
    ∙ sym (and_step a (bit_and b c)))
  where
    low_and : (a b : ℕ) → bit_and a b % 2 ≡ min (a % 2) (b % 2)
    low_and a b = ap (λ (n : ℕ). n % 2) (sym (div-one (bit_and a b))) ∙ bit_and_lem 0 a b ∙ ap₂ (λ (x y : ℕ). min (x % 2) (y % 2)) (div-one a) (div-one b)

-- a masked number is within the mask
pub and_twice : (x m : ℕ) → bit_and (bit_and x m) m ≡ bit_and x m
and_twice x m = and_assoc x m m ∙ ap (bit_and x) (and_self m)

-- a number of w bits is within w ones, and only such a number
pub lt_within : (w x : ℕ) → x < 2 ^ w → bit_and x (2 ^ w - 1) ≡ x
lt_within w x h = and_mask x w ∙ mod-eq_of_lt h

-- clearing a bit keeps a byte within its mask
pub clear_within : (k m x : ℕ) → k < 8 → x < 256 → bit_and x m ≡ x → bit_and (clear_bit k x) m ≡ clear_bit k x
clear_within k m x h l e =
    ap (λ (n : ℕ). bit_and n m) (sym cleared)
    ∙ (and_assoc x (255 - 2 ^ k) m
    ∙ (ap (bit_and x) (and_comm (255 - 2 ^ k) m) ∙ (sym (and_assoc x m (255 - 2 ^ k)) ∙ (ap (λ (n : ℕ). bit_and n (255 - 2 ^ k)) e ∙ cleared))))
  where
    cleared : bit_and x (255 - 2 ^ k) ≡ clear_bit k x
    cleared = clear_bit_lem k h x l
