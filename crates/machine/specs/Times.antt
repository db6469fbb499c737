-- Document 02, request Six: when each of the eight flags last rose. The flags stand in document 01's order (Flags.antt).
use Rattle.std.specs.Prelude.{ℕ, ◌-◌, ◌^◌, Bool, true, false, cond, ◌&&◌, ◌||◌, List, [], ◌∷◌, eqb, leb}
use Rattle.machine.specs.declared.FlagTimes.{FlagTimes}

-- what a cycle leaves of a list with a place for each flag: the new value where the flag rises, otherwise what stood there
unfoldable pub noted : {A : Type 0} → A → List Bool → List A → List A
noted new [] old = old
noted new (r ∷ rs) [] = []
noted new (r ∷ rs) (x ∷ old) = cond r new x ∷ noted new rs old

-- a flag that rises in a cycle did ever, and last in that one; the number kept is the cycle number after it
unfoldable pub times_after : ℕ → List Bool → FlagTimes → FlagTimes
times_after number rs t = record { ever = noted 1 rs t.ever; number = noted number rs t.number }

-- a pair says ever with any number, or never with 0
abbrev pub pair_ok : ℕ → ℕ → Bool
pair_ok ever number = (eqb ever 1 && leb number (2 ^ 64 - 1)) || (eqb ever 0 && eqb number 0)

unfoldable pub pairs_ok : List ℕ → List ℕ → Bool
pairs_ok [] [] = true
pairs_ok [] (n ∷ number) = false
pairs_ok (e ∷ ever) [] = false
pairs_ok (e ∷ ever) (n ∷ number) = pair_ok e n && pairs_ok ever number

abbrev pub times_ok : FlagTimes → Bool
times_ok t = pairs_ok t.ever t.number

-- no flag ever rose
unfoldable pub never : FlagTimes
never =
    record {
      ever = 0 ∷ 0 ∷ 0 ∷ 0 ∷ 0 ∷ 0 ∷ 0 ∷ 0 ∷ [];
      number = 0 ∷ 0 ∷ 0 ∷ 0 ∷ 0 ∷ 0 ∷ 0 ∷ 0 ∷ [];
    }
