-- The guards of a public call: what a test gave is what the machine asks, by the test's contract and the branch that was taken.
use mathlib.Core.Path.{◌≡◌, sym, ap, ◌∙◌}
use mathlib.Core.Bool.{Bool, true, false}
use Rattle.machine.specs.declared.Device.{Device}
use Rattle.machine.specs.Lists.{Call, Reply, play}

pub yes : {given asked : Bool} → given ≡ asked → given ≡ true → asked ≡ true
yes e t = sym e ∙ t

pub no : {given asked : Bool} → given ≡ asked → given ≡ false → asked ≡ false
no e t = sym e ∙ t

-- an answer that is the machine's, with what a definition reads off both
pub told : {A B : Type 0} (f : A → B) {r a : A} → r ≡ a → (r ≡ a) × (f r ≡ f a)
told f e = (e, ap f e)

-- an answer is the machine's, and the number and values that a definition gives for it are the machine's reply
abbrev pub Says : {A : Type 0} → (A → Reply) → Call → Device → A → A → Type 0
Says numbers call d a r = (r ≡ a) × (numbers r ≡ (play call d).reply)
