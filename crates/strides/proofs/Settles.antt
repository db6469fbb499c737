-- What a settled device is, fact by fact, and that steps 6 to 8 of a cycle then change nothing.
use Prim.Native.Nat.{ℕ, zero, suc, ◌<◌}
use mathlib.Core.Path.{◌≡◌, refl, sym, ap, ◌∙◌}
use mathlib.Core.Bool.{Bool, true, false, cond, ◌&&◌, ◌||◌, not}
use mathlib.Core.Logic.{◌≢◌}
use native.Mathlib.Omega.{arith}
use lib.Dec.{eqb}
use lib.ListN.{get_or}
use borrow.Author.Tests.{eq-eqb, eqb-true, eqb-false, not-true}
use Rattle.machine.specs.declared.Device.{Device}
use Rattle.machine.specs.Bits.{bit, set_bit, clear_bit, put_bit}
use Rattle.machine.specs.Registers.{RXD, INT0, INT1, IT0, IT1, IE0, IE1}
use Rattle.machine.specs.Power.{powered_down}
use Rattle.machine.specs.Record.{levels_of}
use Rattle.machine.specs.Interrupts.{external, seen_of}
use Rattle.machine.specs.Cycle.{falls, externals}
use Rattle.machine.specs.Same.{same}
use Rattle.strides.specs.Stride.{level_settled, timers_settled, start_next, serial_settled, interrupts_settled, others_settled, settled_at}
use Rattle.laws.proofs.Bits.{bit_below, bit_set, bit_set_other, bit_put, bit_put_other, clear_put, set_same, put_same}
use Rattle.machine.proofs.Choices.{chosen, and_two, and_four}
use Rattle.strides.proofs.Bools.{same_equal, same_self}
use Rattle.laws.proofs.Flags.{never_both}

-- seen as the flags have it
abbrev pub seen_in : Device → ℕ
seen_in d = seen_of d.timers.tcon d.serial.scon d.timer2.t2con

-- the facts of a settled device
pub record Rest (l : ℕ) (d : Device) : Type 0 where
  pub awake : powered_down d.pcon ≡ false
  pub levels : d.levels ≡ levels_of l
  pub due0 : d.timers.due0 ≡ 0
  pub due1 : d.timers.due1 ≡ 0
  pub due2 : d.timer2.due2 ≡ 0
  pub level0 : level_settled IT0 IE0 (bit INT0 l) d.timers.tcon ≡ true
  pub level1 : level_settled IT1 IE1 (bit INT1 l) d.timers.tcon ≡ true
  pub sends : d.serial.send.position ≡ 0
  pub receives : d.serial.receive.position ≡ 0
  pub starts : start_next (bit RXD l) d.serial ≡ false
  pub seen : d.interrupts.seen ≡ seen_in d
  pub polled : d.interrupts.polled ≡ seen_in d

pub settled_rest : (l : ℕ) (d : Device) → settled_at l d ≡ true → Rest l d
unfolding settled_at others_settled timers_settled serial_settled
settled_rest l d e =
    let t = d.timers in
    let s = d.serial in
    let i = d.interrupts in
    let starting = start_next (bit RXD l) s in
    let whole = and_two (serial_settled (bit RXD l) s) (others_settled l d) e in
    let up = and_two (not (powered_down d.pcon)) _ whole.1 in
    let serial = and_two (eqb s.send.position 0 && eqb s.receive.position 0) (not starting) whole.0 in
    let rests = and_two (eqb s.send.position 0) (eqb s.receive.position 0) serial.0 in
    let others =
    and_four (same d.levels (levels_of l)) (timers_settled l t) (eqb d.timer2.due2 0) (interrupts_settled (seen_in d) i) up.1 in
    let timers =
    and_four (eqb t.due0 0) (eqb t.due1 0) (level_settled IT0 IE0 (bit INT0 l) t.tcon)
    (level_settled IT1 IE1 (bit INT1 l) t.tcon) others.0.1 in
    let last = and_two (eqb i.seen (seen_in d)) (eqb i.polled (seen_in d)) others.1.1 in
    record {
      awake = not-true (powered_down d.pcon) up.0;
      levels = same_equal d.levels (levels_of l) others.0.0;
      due0 = eqb-true t.due0 0 timers.0.0;
      due1 = eqb-true t.due1 0 timers.0.1;
      due2 = eqb-true d.timer2.due2 0 others.1.0;
      level0 = timers.1.0;
      level1 = timers.1.1;
      sends = eqb-true s.send.position 0 rests.0;
      receives = eqb-true s.receive.position 0 rests.1;
      starts = not-true starting serial.1;
      seen = eqb-true i.seen (seen_in d) last.0;
      polled = eqb-true i.polled (seen_in d) last.1;
    }

pub rest_settled : (l : ℕ) (d : Device) → Rest l d → settled_at l d ≡ true
unfolding settled_at others_settled timers_settled serial_settled
rest_settled l d r =
    simp (
      r.awake,
      r.levels,
      same_self (levels_of l),
      r.due0,
      r.due1,
      r.due2,
      r.level0,
      r.level1,
      r.sends,
      r.receives,
      r.starts,
      eq-eqb d.interrupts.seen (seen_in d) r.seen,
      eq-eqb d.interrupts.polled (seen_in d) r.polled,
    )

-- no pin falls from the level that it has
still : (n : ℕ) → ◌≡◌ {A = ℕ} (cond (eqb n 1 && eqb n 0) 1 0) 0
still n = ap (λ (b : Bool). cond b 1 0) (never_both n)

pub no_fall : (l k : ℕ) → get_or (levels_of l) k 0 ≡ bit k l → falls (levels_of l) l k ≡ 0
unfolding falls
no_fall l k e = ap (λ (n : ℕ). cond (eqb n 1 && eqb (bit k l) 0) 1 0) e ∙ still (bit k l)

-- An external interrupt with no fall

-- bit k cleared: what it reads, what another bit reads, and where it was 0 already
clear_reads : (k x : ℕ) → bit k (clear_bit k x) ≡ 0
clear_reads k x = ap (bit k) (clear_put k x) ∙ bit_put k 0 x (omega arith)

clear_other : (j k x : ℕ) → j ≢ k → bit j (clear_bit k x) ≡ bit j x
clear_other j k x h = ap (bit j) (clear_put k x) ∙ bit_put_other j k 0 x h (omega arith)

clear_same : (k x : ℕ) → bit k x ≡ 0 → clear_bit k x ≡ x
clear_same k x e = clear_put k x ∙ (ap (λ (b : ℕ). put_bit k b x) (sym e) ∙ put_same k x)

module _ (it ie level tcon : ℕ) where
  -- at its level it stays
  external_rest : level < 2 → level_settled it ie level tcon ≡ true → external it ie 0 level tcon ≡ tcon
  unfolding external
  external_rest f = go (eqb (bit it tcon) 1) level f
    where
      go : (edge : Bool) (level : ℕ) → level < 2 → (edge || not (eqb (bit ie tcon) level)) ≡ true
          → cond edge tcon (cond (eqb level 0) (set_bit ie tcon) (clear_bit ie tcon)) ≡ tcon
      go true n h e = refl
      go false zero h e = set_same ie tcon (omega (arith, bit_below ie tcon, eqb-false (bit ie tcon) 0 (not-true (eqb (bit ie tcon) 0) e)))
      go false (suc zero) h e = clear_same ie tcon (omega (arith, bit_below ie tcon, eqb-false (bit ie tcon) 1 (not-true (eqb (bit ie tcon) 1) e)))
      go false (suc (suc n)) h e = absurd (omega arith)

  -- where it stays it is at its level
  external_level : level < 2 → bit ie tcon ≡ bit ie (external it ie 0 level tcon) → level_settled it ie level tcon ≡ true
  unfolding external
  external_level f = go (eqb (bit it tcon) 1) level f
    where
      go : (edge : Bool) (level : ℕ) → level < 2
          → bit ie tcon ≡ bit ie (cond edge tcon (cond (eqb level 0) (set_bit ie tcon) (clear_bit ie tcon)))
          → (edge || not (eqb (bit ie tcon) level)) ≡ true
      go true n h e = refl
      go false zero h e = ap (λ (b : ℕ). not (eqb b 0)) (e ∙ bit_set ie tcon)
      go false (suc zero) h e = ap (λ (b : ℕ). not (eqb b 1)) (e ∙ clear_reads ie tcon)
      go false (suc (suc n)) h e = absurd (omega arith)

  -- the other bits stay
  external_other : (k : ℕ) → k ≢ ie → bit k (external it ie 0 level tcon) ≡ bit k tcon
  unfolding external
  external_other k h =
      chosen (λ (x : ℕ). bit k x ≡ bit k tcon) (eqb (bit it tcon) 1) tcon _ refl
      (chosen (λ (x : ℕ). bit k x ≡ bit k tcon) (eqb level 0) (set_bit ie tcon) (clear_bit ie tcon) (bit_set_other k ie tcon h) (clear_other k ie tcon h))

-- Step 6 with no fall
module _ (l tcon : ℕ) where
  -- TCON after INT0, and after INT1
  zeroth : ℕ
  zeroth = external IT0 IE0 0 (bit INT0 l) tcon

  first : ℕ
  first = external IT1 IE1 0 (bit INT1 l) zeroth

  externals_are : externals (levels_of l) l tcon ≡ first
  unfolding externals levels_of zeroth first
  externals_are = λ i. external IT1 IE1 (no_fall l INT1 refl i) (bit INT1 l) (external IT0 IE0 (no_fall l INT0 refl i) (bit INT0 l) tcon)

  pub externals_rest : level_settled IT0 IE0 (bit INT0 l) tcon ≡ true → level_settled IT1 IE1 (bit INT1 l) tcon ≡ true
      → externals (levels_of l) l tcon ≡ tcon
  unfolding zeroth first
  externals_rest p q =
      externals_are
      ∙ (ap (external IT1 IE1 0 (bit INT1 l)) (external_rest IT0 IE0 (bit INT0 l) tcon (bit_below INT0 l) p)
      ∙ external_rest IT1 IE1 (bit INT1 l) tcon (bit_below INT1 l) q)

  -- where step 6 leaves IE0, and IE1
  pub externals_level0 : bit IE0 tcon ≡ bit IE0 (externals (levels_of l) l tcon) → level_settled IT0 IE0 (bit INT0 l) tcon ≡ true
  unfolding zeroth first
  externals_level0 e =
      external_level IT0 IE0 (bit INT0 l) tcon (bit_below INT0 l)
      (e ∙ (ap (bit IE0) externals_are ∙ external_other IT1 IE1 (bit INT1 l) zeroth IE0 (omega arith)))

  pub externals_level1 : bit IE1 tcon ≡ bit IE1 (externals (levels_of l) l tcon) → level_settled IT1 IE1 (bit INT1 l) tcon ≡ true
  unfolding zeroth first
  externals_level1 e =
      let it = external_other IT0 IE0 (bit INT0 l) tcon IT1 (omega arith) in
      let ie = external_other IT0 IE0 (bit INT0 l) tcon IE1 (omega arith) in
      (λ i. eqb (sym it i) 1 || not (eqb (sym ie i) (bit INT1 l)))
      ∙ external_level IT1 IE1 (bit INT1 l) zeroth (bit_below INT1 l) (ie ∙ (e ∙ ap (bit IE1) externals_are))
