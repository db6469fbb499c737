-- Two records with equal fields are equal.
use Prim.Native.Nat.{ℕ}
use mathlib.Core.Path.{◌≡◌}
use Rattle.machine.specs.declared.Timers.{Timers}
use Rattle.machine.specs.declared.TimersCounted.{TimersCounted}
use Rattle.machine.specs.declared.Timer2.{Timer2}

-- the registers that a stride moves; the others are the same
pub timers_path : {a b : Timers} → a.tcon ≡ b.tcon → a.tmod ≡ b.tmod → a.tl0 ≡ b.tl0 → a.tl1 ≡ b.tl1
    → a.th0 ≡ b.th0 → a.th1 ≡ b.th1 → a.due0 ≡ b.due0 → a.due1 ≡ b.due1 → a ≡ b
timers_path p q r s t u v w =
    λ i. record { tcon = p i; tmod = q i; tl0 = r i; tl1 = s i; th0 = t i; th1 = u i; due0 = v i; due1 = w i }

pub timers_counted_path : {a b : TimersCounted} → a.timers ≡ b.timers → a.overflow0 ≡ b.overflow0 → a.overflow_th0 ≡ b.overflow_th0
    → a.overflow1 ≡ b.overflow1 → a ≡ b
timers_counted_path p q r s = λ i. record { timers = p i; overflow0 = q i; overflow_th0 = r i; overflow1 = s i }

-- Timer 2 with the same T2CON, RCAP2 and due mark
pub count2_path : (t : Timer2) {a b c d : ℕ} → a ≡ b → c ≡ d
    → ◌≡◌ {A = Timer2} (record { t2con = t.t2con; rcap2l = t.rcap2l; rcap2h = t.rcap2h; tl2 = a; th2 = c; due2 = t.due2 })
    (record { t2con = t.t2con; rcap2l = t.rcap2l; rcap2h = t.rcap2h; tl2 = b; th2 = d; due2 = t.due2 })
count2_path t p q =
    λ i. record { t2con = t.t2con; rcap2l = t.rcap2l; rcap2h = t.rcap2h; tl2 = p i; th2 = q i; due2 = t.due2 }
