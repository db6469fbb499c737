-- At most 16 ticks of the sender are one sum on its counter, and one move where that rolls over: by induction on the
-- ticks.
use mathlib.Core.Path.{◌≡◌, ap, sym, ◌∙◌}
use mathlib.Core.Bool.{cond}
use mathlib.Core.Logic.{⊎_elim}
use Prim.Native.Nat.{ℕ, zero, suc, ◌+◌, ◌-◌, ◌%◌, ◌≤◌, ◌<◌}
use native.Mathlib.Nat.{eq-or-lt_of_le}
use native.Mathlib.Omega.{arith}
use lib.Dec.{eqb}
use lib.Bits.{bit_or}
use borrow.Author.Tests.{eq-eqb, ne_eqb}
use Rattle.machine.specs.declared.Serial.{Serial}
use Rattle.machine.specs.Bits.{set_bit}
use Rattle.machine.specs.Record.{last_position}
use Rattle.machine.specs.Registers.{TI}
use Rattle.machine.specs.Serial.{with_send, send_at, send_move, send_tick, send_ticks}
use Rattle.machine.proofs.Choices.{cond_ap}
use Rattle.laws.proofs.Bits.{or_bit}

-- TI by a mask
pub ti_set : (scon : ℕ) → bit_or scon 2 ≡ set_bit TI scon
ti_set scon = or_bit scon TI

-- the send counter at c
abbrev pub send_counter : ℕ → Serial → Serial
send_counter c s = with_send s.scon (record { position = s.send.position; value = s.send.value; counter = c }) s

-- a move looks at no counter
pub move_counter : (c : ℕ) (s : Serial) → send_counter c (send_move s) ≡ send_move (send_counter c s)
unfolding send_move
move_counter c s =
    let p = s.send.position in
    let done = with_send (set_bit TI s.scon) (send_at 0 s.send) s in
    let next = with_send s.scon (send_at (p + 1) s.send) s in
    let last = eqb p (last_position s.scon) in
    cond_ap (send_counter c) (eqb p 0) s (cond last done next)
    ∙ ap (cond (eqb p 0) (send_counter c s)) (cond_ap (send_counter c) last done next)

tick_counts : (s : Serial) → s.send.counter < 15 → send_tick s ≡ send_counter (s.send.counter + 1) s
unfolding send_tick
tick_counts s h =
    let e : (s.send.counter + 1) % 16 ≡ s.send.counter + 1 = omega arith in
    simp (ne_eqb s.send.counter 15 (λ d. omega arith), e)

tick_moves : (s : Serial) → s.send.counter ≡ 15 → send_tick s ≡ send_move (send_counter 0 s)
unfolding send_tick
tick_moves s h =
    let e : (s.send.counter + 1) % 16 ≡ 0 = omega arith in
    simp (eq-eqb s.send.counter 15 h, e)

pub ticks_count : (n : ℕ) (s : Serial) → s.send.counter + n ≤ 15 → send_ticks n s ≡ send_counter (s.send.counter + n) s
unfolding send_ticks
ticks_count zero s h =
    let e : s.send.counter ≡ s.send.counter + 0 = omega arith in
    ap (λ (c : ℕ). send_counter c s) e
ticks_count (suc n) s h =
    let e : s.send.counter + 1 + n ≡ s.send.counter + suc n = omega arith in
    ap (send_ticks n) (tick_counts s (omega arith)) ∙ ticks_count n (send_counter (s.send.counter + 1) s) (omega arith)
    ∙ ap (λ (c : ℕ). send_counter c s) e

pub ticks_move : (n : ℕ) (s : Serial) → n ≤ 16 → s.send.counter ≤ 15 → 16 ≤ s.send.counter + n
    → send_ticks n s ≡ send_move (send_counter (s.send.counter + n - 16) s)
unfolding send_ticks
ticks_move zero s m h l = absurd (omega arith)
ticks_move (suc n) s m h l =
    let k = s.send.counter + suc n - 16 in
    ⊎_elim
    (λ d.
    let z : 0 + n ≡ k = omega arith in
    ap (send_ticks n) (tick_moves s d ∙ sym (move_counter 0 s))
    ∙ ticks_count n (send_counter 0 (send_move s)) (omega arith)
    ∙ ap (λ (c : ℕ). send_counter c (send_move s)) z
    ∙ move_counter k s)
    (λ b.
    let z : s.send.counter + 1 + n - 16 ≡ k = omega arith in
    ap (send_ticks n) (tick_counts s b)
    ∙ ticks_move n (send_counter (s.send.counter + 1) s) (omega arith) (omega arith) (omega arith)
    ∙ ap (λ (c : ℕ). send_move (send_counter c s)) z)
    (eq-or-lt_of_le h)
