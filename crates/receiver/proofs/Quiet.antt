-- A resting receiver: ticks with no start bit waiting sample the line. By induction on the ticks.
use Rattle.std.proofs.Common.{◌≡◌, ℕ, zero, suc, Bool, false, cond, eqb, sym, refl, ap, ◌∙◌, eq-eqb}
use mathlib.Core.Bool.{and-false}
use lib.Dec.{eqb-suc-zero}
use Rattle.machine.specs.declared.Serial.{Serial}
use Rattle.machine.specs.Bits.{bit}
use Rattle.machine.specs.Registers.{REN}
use Rattle.machine.specs.Serial as S
use Rattle.machine.specs.Serial.{with_receive, with_sample}
use Rattle.machine.proofs.Choices.{cond_same}

-- the last line sample at l
abbrev pub sampled : ℕ → Serial → Serial
sampled l s = with_receive (with_sample l s.receive) s

-- once the line is sampled no start bit waits
none_sampled : (rxd : ℕ) (s : Serial) → S.start_found rxd (sampled rxd s) ≡ false
unfolding S.start_found
none_sampled zero s = and-false (eqb (bit REN s.scon) 1)
none_sampled (suc n) s = simp (eqb-suc-zero, and-false)

rest_tick : (rxd : ℕ) (s : Serial) → s.receive.position ≡ 0 → S.start_found rxd s ≡ false → S.receive_tick rxd s ≡ sampled rxd s
unfolding S.receive_tick S.receive_start
rest_tick rxd s p w = simp (eq-eqb s.receive.position 0 p, w)

pub rest_receive_ticks : (n rxd : ℕ) (s : Serial) → s.receive.position ≡ 0 → S.start_found rxd s ≡ false
    → S.receive_ticks n rxd s ≡ sampled (cond (eqb n 0) s.receive.sample rxd) s
unfolding S.receive_ticks
rest_receive_ticks zero rxd s p w = refl
rest_receive_ticks (suc n) rxd s p w =
    ap (S.receive_ticks n rxd) (rest_tick rxd s p w) ∙ rest_receive_ticks n rxd (sampled rxd s) p (none_sampled rxd s)
    ∙ ap (λ (l : ℕ). sampled l s) (cond_same (eqb n 0) rxd ∙ sym (ap (λ (z : Bool). cond z s.receive.sample rxd) (eqb-suc-zero n)))
