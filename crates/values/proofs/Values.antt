-- The values of a device, as the code lists them, are the definition's: an array is the list of its elements.
use Prim.Native.Nat.{ℕ}
use mathlib.Core.Path.{◌≡◌, ◌∙◌}
use mathlib.Core.List.{List, [], ◌∷◌, ◌++◌, map}
use lib.ListN.{length, get_or}
use Rattle.machine.specs.declared.Device.{Device}
use Rattle.machine.specs.Record.{Register, registers, Hidden, hidden_fields}
use Rattle.machine.specs.Checkpoint.{times_listed, values_of}
use Rattle.laws.proofs.Arrays.{whole}
use Rattle.values.specs.Values.{timer_values, timer2_values, send_values, receive_values, serial_values, interrupt_values}

abbrev pub listed : ℕ → ℕ → List ℕ → List ℕ → List ℕ → List ℕ → List ℕ → List ℕ → List ℕ → List ℕ → List ℕ
listed pcon cycle t t2 u x s i l f =
    let at : List ℕ → ℕ → ℕ = λ a k. get_or a k 0 in
    pcon ∷ at t 0 ∷ at t 1 ∷ at t 2 ∷ at t 3 ∷ at t 4 ∷ at t 5 ∷ at s 0 ∷ at s 2 ∷ at i 0 ∷ at i 1
    ∷ at t2 0 ∷ at t2 1 ∷ at t2 2 ∷ at t2 3 ∷ at t2 4
    ∷ at u 0 ∷ at u 1 ∷ at u 2 ∷ at x 0 ∷ at x 1 ∷ at x 2 ∷ at x 3 ∷ at x 4 ∷ at s 1 ∷ at s 2
    ∷ at t 6 ∷ at t 7 ∷ at t2 5 ∷ at i 2 ∷ at i 3 ∷ at i 4 ∷ at i 5 ∷ cycle
    ∷ at l 0 ∷ at l 1 ∷ at l 2 ∷ at l 3 ∷ at l 4 ∷ at l 5 ∷ at l 6
    ∷ at f 0 ∷ at f 1 ∷ at f 2 ∷ at f 3 ∷ at f 4 ∷ at f 5 ∷ at f 6 ∷ at f 7
    ∷ at f 8 ∷ at f 9 ∷ at f 10 ∷ at f 11 ∷ at f 12 ∷ at f 13 ∷ at f 14 ∷ at f 15 ∷ []

-- with the saved levels and the flag times
abbrev pub listed_with : Device → List ℕ → List ℕ → List ℕ
listed_with d l f =
    listed d.pcon d.cycle (timer_values d.timers) (timer2_values d.timer2) (send_values d.serial.send)
    (receive_values d.serial.receive) (serial_values d.serial) (interrupt_values d.interrupts) l f

pub listed_is : (d : Device) (l f : List ℕ) → l ≡ d.levels → length l ≡ 7 → f ≡ times_listed d.times.ever d.times.number
    → length f ≡ 16 → listed_with d l f ≡ values_of d
unfolding values_of registers hidden_fields
listed_is d l f el hl ef hf =
    let ul = whole 0 7 l hl ∙ el in
    let uf = whole 0 16 f hf ∙ ef in
    λ k. map (λ (r : Register). r.value) (registers d) ++ (map (λ (h : Hidden). h.value) (hidden_fields d) ++ (ul k ++ uf k))
