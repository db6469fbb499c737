-- The code's masks are the definitions' bits: laws for any source, and tests computed over all bytes.
use mathlib.Core.Path.{◌≡◌, refl, sym, ap, ◌∙◌}
use mathlib.Core.Bool.{Bool, true, false, cond, ◌&&◌, ◌||◌, and-true, and-false}
use Prim.Native.Nat.{ℕ, zero, suc, ◌+◌, ◌*◌, ◌/◌, ◌%◌, ◌<◌, min}
use native.Mathlib.Nat.{zero-div}
use native.Mathlib.Omega.{arith}
use lib.Dec.{T, eqb, ltb, eqb→eq, eqb-suc-zero, lit<}
use lib.Bits.{bit_and, bit_or, and_le_l, and_le_r, mask_lt, or_shifted_r}
use lib.Count.{count_trailing_zeros}
use Rattle.std.specs.Prelude.{Option, Some, None}
use Rattle.std.specs.Bool.{then_some}
use Rattle.machine.proofs.Choices.{chosen, cond_ap}
use Rattle.laws.proofs.Bits.{bit_below, bit_and_lem}
use Rattle.laws.proofs.Tests.{all, at}
use Rattle.machine.specs.Bits.{bit}
use Rattle.machine.specs.Registers.{IE0, TF0, IE1, TF1, RI, TI, TF2, EXF2, EA}
use Rattle.machine.specs.declared.Interrupts.{Interrupts}
use Rattle.machine.specs.Interrupts.{Source, none, source, some_source, either, seen_of, first_of, sources, asks, asks_marked, or_else, choice, vector_of}
use Rattle.interrupts.specs.Number.{source_of, first_set}

-- the four flags of TCON in seen
flags : ℕ → ℕ
flags x = bit IE0 x + bit TF0 x * 2 + bit IE1 x * 4 + bit TF1 x * 8

gathers : ℕ → Bool
gathers x = eqb (bit_or (bit_and (x / 2) 0x05) (bit_and (x / 16) 0x0a)) (flags x)

gathered : (x : ℕ) → x < 256 → bit_or (bit_and (x / 2) 0x05) (bit_and (x / 16) 0x0a) ≡ flags x
unfolding gathers flags
gathered x h = eqb→eq (bit_or (bit_and (x / 2) 0x05) (bit_and (x / 16) 0x0a)) (flags x) (at gathers 256 tt x h)

flags_few : (x : ℕ) → flags x < 16
unfolding flags
flags_few x = omega arith

-- either of two bits, by a mask of both
finds : ℕ → ℕ → ℕ → ℕ → Bool
finds a b mask x = eqb (cond (eqb (bit_and x mask) 0) 0 1) (either (bit a x) (bit b x))

weighed : (t : Bool) (w : ℕ) → cond t 0 w ≡ cond t 0 1 * w
weighed true w = omega arith
weighed false w = omega arith

found : (a b mask w : ℕ) → T (all (finds a b mask) 256) → (x : ℕ) → x < 256
    → cond (eqb (bit_and x mask) 0) 0 w ≡ either (bit a x) (bit b x) * w
unfolding finds
found a b mask w t x h =
    weighed (eqb (bit_and x mask) 0) w
    ∙ ap (λ (n : ℕ). n * w) (eqb→eq (cond (eqb (bit_and x mask) 0) 0 1) (either (bit a x) (bit b x)) (at (finds a b mask) 256 t x h))

pub either_few : (a b : ℕ) → either a b < 2
unfolding either
either_few a b = chosen (λ (n : ℕ). n < 2) (eqb a 1 || eqb b 1) 1 0 (lit< tt) (lit< tt)

stacked : (f a b : ℕ) → f < 16 → a < 2 → b < 2 → bit_or (bit_or f (a * 16)) (b * 32) ≡ f + a * 16 + b * 32
stacked f a b hf ha hb =
    ap (λ (n : ℕ). bit_or n (b * 32)) (or_shifted_r a 4 f hf) ∙ or_shifted_r b 5 (a * 16 + f) (omega arith) ∙ omega arith

-- seen by masks
pub seen_by_masks : (tcon scon t2con : ℕ) → tcon < 256 → scon < 256 → t2con < 256
    → bit_or
    (bit_or (bit_or (bit_and (tcon / 2) 0x05) (bit_and (tcon / 16) 0x0a)) (cond (eqb (bit_and scon 0x03) 0) 0 0x10))
    (cond (eqb (bit_and t2con 0xc0) 0) 0 0x20)
    ≡ seen_of tcon scon t2con
unfolding seen_of finds either flags
seen_by_masks tcon scon t2con h k l =
    rw (gathered tcon h, found RI TI 0x03 0x10 tt scon k, found TF2 EXF2 0xc0 0x20 tt t2con l)
    (stacked (flags tcon) (either (bit RI scon) (bit TI scon)) (either (bit TF2 t2con) (bit EXF2 t2con)) (flags_few tcon)
    (either_few (bit RI scon) (bit TI scon)) (either_few (bit TF2 t2con) (bit EXF2 t2con)))

-- the lowest bit that is set, by the count of zeros below it: one of the six, or none
same : Option ℕ → Option ℕ → Bool
same (Some a) (Some b) = eqb a b
same (Some a) None = false
same None (Some b) = false
same None None = true

same→eq : (a b : Option ℕ) → T (same a b) → a ≡ b
unfolding same
same→eq (Some a) (Some b) t = ap Some (eqb→eq a b t)
same→eq (Some a) None t = absurd t
same→eq None (Some b) t = absurd t
same→eq None None t = refl

trailing : ℕ → Option ℕ
trailing x = then_some (ltb (count_trailing_zeros 8 x) 6) (count_trailing_zeros 8 x)

counts : ℕ → Bool
counts x = same (trailing x) (source_of (first_set x))

pub trailing_first : (x : ℕ) → x < 256
    → then_some (ltb (count_trailing_zeros 8 x) 6) (count_trailing_zeros 8 x) ≡ source_of (first_set x)
unfolding same trailing counts count_trailing_zeros first_set first_of
trailing_first x h = same→eq (trailing x) (source_of (first_set x)) (at counts 256 tt x h)

-- a bit of a mask is set where both are
both : (p q : ℕ) → p < 2 → q < 2 → eqb (min p q) 1 ≡ eqb p 1 && eqb q 1
both zero zero h l = refl
both zero (suc zero) h l = refl
both (suc zero) zero h l = refl
both (suc zero) (suc zero) h l = refl
both zero (suc (suc q)) h l = absurd (omega arith)
both (suc zero) (suc (suc q)) h l = absurd (omega arith)
both (suc (suc p)) q h l = absurd (omega arith)

set_and : (k a b : ℕ) → eqb (bit k (bit_and a b)) 1 ≡ eqb (bit k a) 1 && eqb (bit k b) 1
set_and k a b = rw (bit_and_lem k a b) (both (bit k a) (bit k b) (bit_below k a) (bit_below k b))

-- the sources that IE lets ask, and those of them that are polled
abbrev pub let_by : ℕ → ℕ
let_by ie = cond (eqb (bit EA ie) 1) (bit_and ie 0x3f) 0

abbrev pub asking : Interrupts → ℕ
asking i = bit_and i.polled (let_by i.ie)

set_let : (k ie : ℕ) → bit k 0x3f ≡ 1
    → eqb (bit k (let_by ie)) 1 ≡ eqb (bit k ie) 1 && eqb (bit EA ie) 1
set_let k ie one = by (eqb (bit EA ie) 1)
  where
    by : (t : Bool) → eqb (bit k (cond t (bit_and ie 0x3f) 0)) 1 ≡ eqb (bit k ie) 1 && t
    by true = rw (set_and k ie 0x3f, one, and-true)
    by false = rw (zero-div, and-false)

set_asking : (i : Interrupts) (k : ℕ) → bit k 0x3f ≡ 1 → asks i k ≡ eqb (bit k (asking i)) 1
set_asking i k one =
    sym (set_and k i.polled (let_by i.ie) ∙ ap (λ (b : Bool). eqb (bit k i.polled) 1 && b) (set_let k i.ie one))

set_marked : (i : Interrupts) (k : ℕ) → bit k 0x3f ≡ 1 → asks_marked i k ≡ eqb (bit k (bit_and (asking i) i.ip)) 1
set_marked i k one =
    ap (λ (b : Bool). b && eqb (bit k i.ip) 1) (set_asking i k one) ∙ sym (set_and k (asking i) i.ip)

-- the first of the six that asks is the lowest bit set
first_set_lem : (f : ℕ → Bool) (x : ℕ) → ((k : ℕ) → bit k 0x3f ≡ 1 → f k ≡ eqb (bit k x) 1) → first_of f sources ≡ first_set x
unfolding first_of first_set
first_set_lem f x e =
    λ j. cond (e 0 refl j) (source 0)
    (cond (e 1 refl j) (source 1)
    (cond (e 2 refl j) (source 2)
    (cond (e 3 refl j) (source 3) (cond (e 4 refl j) (source 4) (cond (e 5 refl j) (source 5) none)))))

-- any of the six bits set is a source
names : ℕ → Bool
names zero = true
names (suc x) = some_source (first_set (suc x))

stands : (s b : Source) → T (some_source s) → or_else s b ≡ s
stands none b t = absurd t
stands (source k) b t = refl

or_else_lem : (x : ℕ) (b : Source) → x < 64 → or_else (first_set x) b ≡ cond (eqb x 0) b (first_set x)
unfolding names first_set first_of
or_else_lem zero b h = refl
or_else_lem (suc x) b h = rw eqb-suc-zero (stands (first_set (suc x)) b (at names 64 tt (suc x) h))

no_source : first_set 0 ≡ none
unfolding first_set first_of
no_source = refl

let_few : (ie : ℕ) → let_by ie < 64
let_few ie = chosen (λ (n : ℕ). n < 64) (eqb (bit EA ie) 1) (bit_and ie 0x3f) 0 (mask_lt ie 6) (lit< tt)

marked_few : (i : Interrupts) → bit_and (asking i) i.ip < 64
marked_few i =
    omega (arith, and_le_l (asking i) i.ip, and_le_r i.polled (let_by i.ie), let_few i.ie)

-- the choice by masks: marked sources before others, none while high is in service, only marked ones while low is
pub choice_by_masks : (i : Interrupts)
    → first_set
    (cond (eqb i.high 1) 0
    (cond (eqb (bit_and (asking i) i.ip) 0) (cond (eqb i.low 1) 0 (asking i)) (bit_and (asking i) i.ip)))
    ≡ choice i
unfolding choice
choice_by_masks i =
    simp (cond_ap first_set, no_source, first_set_lem (asks_marked i) (bit_and (asking i) i.ip) (set_marked i), first_set_lem (asks i) (asking i) (set_asking i), or_else_lem (bit_and (asking i) i.ip) (cond (eqb i.low 1) none (first_set (asking i))) (marked_few i))

-- the vector by a shift
steps : ℕ → Bool
steps k = eqb (bit_or (k * 8 % 256) 0x03) (vector_of k)

pub vector_by_shift : (k : ℕ) → k < 6 → bit_or (k * 8 % 256) 0x03 ≡ vector_of k
unfolding steps
vector_by_shift k h = eqb→eq (bit_or (k * 8 % 256) 0x03) (vector_of k) (at steps 6 tt k h)
