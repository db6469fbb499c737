-- The values of a device: those of each part, and what has room in the fields that the code has for them.
use Rattle.std.specs.Prelude.{ℕ, ◌+◌, ◌-◌, ◌%◌, ◌^◌, Bool, true, cond, ◌&&◌, ◌||◌, List, [], ◌∷◌, eqb, leb, ltb, get_or}
use Rattle.machine.specs.declared.Timers.{Timers}
use Rattle.machine.specs.declared.Timer2.{Timer2}
use Rattle.machine.specs.declared.Sender.{Sender}
use Rattle.machine.specs.declared.Receiver.{Receiver}
use Rattle.machine.specs.declared.Serial.{Serial}
use Rattle.machine.specs.declared.Interrupts.{Interrupts}
use Rattle.machine.specs.Checkpoint.{place_of_received}

-- the values of the parts, as the code lists them
abbrev pub timer_values : Timers → List ℕ
timer_values t =
    t.tcon ∷ t.tmod ∷ t.tl0 ∷ t.tl1 ∷ t.th0 ∷ t.th1 ∷ t.due0 ∷ t.due1 ∷ []

abbrev pub timer2_values : Timer2 → List ℕ
timer2_values t = t.t2con ∷ t.rcap2l ∷ t.rcap2h ∷ t.tl2 ∷ t.th2 ∷ t.due2 ∷ []

abbrev pub send_values : Sender → List ℕ
send_values u = u.position ∷ u.value ∷ u.counter ∷ []

abbrev pub receive_values : Receiver → List ℕ
receive_values x = x.position ∷ x.value ∷ x.counter ∷ x.votes ∷ x.sample ∷ []

abbrev pub serial_values : Serial → List ℕ
serial_values s = s.scon ∷ s.half ∷ s.received ∷ []

abbrev pub interrupt_values : Interrupts → List ℕ
interrupt_values i = i.ie ∷ i.ip ∷ i.seen ∷ i.polled ∷ i.low ∷ i.high ∷ []

-- the most that the field at a place has room for: 16 bits for the two values of the serial port, 64 for the cycle number and the
-- numbers of the flag times, 8 for all others; the received byte among the hidden fields has no field of its own and is only compared
unfoldable pub most_at : ℕ → ℕ
most_at place =
    cond (eqb place 17 || eqb place 20) 0xffff
    (cond ((eqb place place_of_received || eqb place 33) || (leb 41 place && eqb (place % 2) 0)) (2 ^ 64 - 1) 0xff)

-- each value has room in its field: those of a list from a place on, and all
unfoldable pub narrow_from : ℕ → List ℕ → Bool
narrow_from place [] = true
narrow_from place (x ∷ xs) = leb x (most_at place) && narrow_from (place + 1) xs

abbrev pub narrow : List ℕ → Bool
narrow values = narrow_from 0 values

-- a value cut to its field
unfoldable pub cut : List ℕ → ℕ → ℕ
cut values place =
    let x = get_or values place 0 in
    cond (ltb (most_at place) 65536) (x % (most_at place + 1)) x
