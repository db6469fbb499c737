-- Rounds of steps of any kind, some of which are busy: a busy step is a round, and so is a longest run of others. By induction on the
-- length of the run.
use Prim.Native.Nat.{ℕ, zero, suc, ◌+◌, ◌<◌}
use mathlib.Core.Path.{◌≡◌, refl, sym, ap, ◌∙◌}
use mathlib.Core.Bool.{Bool, true, false}
use mathlib.Core.List.{List, [], ◌∷◌}
use mathlib.Core.Logic.{◌⊎◌, inl, inr}
use native.Mathlib.Nat.{zero-add, suc-add}
use native.Mathlib.Omega.{arith}
use Rattle.machine.specs.Rounds.{busy_cycles, quiet_runs, rounds_of}

-- steps from a state on: the state after n of them, and which of the n are busy
pub record Marked {S : Type 0} (busy : S → Bool) (next : S → S) (after : ℕ → S → S) (marks : ℕ → S → List Bool) : Type 0 where
  pub stays : (s : S) → after 0 s ≡ s
  pub goes : (n : ℕ) (s : S) → after (suc n) s ≡ after n (next s)
  pub none : (s : S) → marks 0 s ≡ []
  pub more : (n : ℕ) (s : S) → marks (suc n) s ≡ busy s ∷ marks n (next s)

-- a list of marks

-- a busy step
marks_busy : (ms : List Bool) → rounds_of (true ∷ ms) ≡ suc (rounds_of ms)
unfolding busy_cycles quiet_runs
marks_busy ms = omega arith

-- the last of a run, at the end or before a busy step
marks_last : rounds_of (false ∷ []) ≡ suc (rounds_of [])
unfolding busy_cycles quiet_runs
marks_last = refl

marks_ends : (ms : List Bool) → rounds_of (false ∷ true ∷ ms) ≡ suc (rounds_of (true ∷ ms))
unfolding busy_cycles quiet_runs
marks_ends ms = omega arith

-- one that is not the last
marks_on : (ms : List Bool) → rounds_of (false ∷ false ∷ ms) ≡ rounds_of (false ∷ ms)
unfolding busy_cycles quiet_runs
marks_on ms = refl

abbrev counted : List Bool → ℕ
counted ms = rounds_of ms

module _ {S : Type 0} {busy : S → Bool} {next : S → S} {after : ℕ → S → S} {marks : ℕ → S → List Bool} (w : Marked busy next after marks) where
  -- the first step's mark
  first : (n : ℕ) (s : S) {b : Bool} → busy s ≡ b → marks (suc n) s ≡ b ∷ marks n (next s)
  first n s e = w.more n s ∙ ap (λ (x : Bool). x ∷ marks n (next s)) e

  one : (s : S) → after 1 s ≡ next s
  one s = w.goes 0 s ∙ w.stays (next s)

  -- a busy step is a round
  pub busy_round : (n : ℕ) (s : S) → busy s ≡ true → rounds_of (marks (suc n) s) ≡ suc (rounds_of (marks n (after 1 s)))
  busy_round n s e =
      ap counted (first n s e) ∙ (marks_busy (marks n (next s)) ∙ ap (λ (t : S). suc (rounds_of (marks n t))) (sym (one s)))

  -- and so is a run of others, up to the end or to a busy step
  last_round : (n : ℕ) (s : S) → busy s ≡ false → (n ≡ 0) ⊎ (busy (next s) ≡ true) → rounds_of (marks (suc n) s) ≡ suc (rounds_of (marks n (next s)))
  last_round zero s e ends =
      ap counted (first 0 s e ∙ ap (λ (ms : List Bool). false ∷ ms) (w.none (next s)))
      ∙ (marks_last ∙ ap (λ (ms : List Bool). suc (rounds_of ms)) (sym (w.none (next s))))
  last_round (suc n) s e (inl z) = absurd (omega arith)
  last_round (suc n) s e (inr b) =
      ap counted (first (suc n) s e ∙ ap (λ (ms : List Bool). false ∷ ms) (first n (next s) b))
      ∙ (marks_ends (marks n (next (next s))) ∙ ap (λ (ms : List Bool). suc (rounds_of ms)) (sym (first n (next s) b)))

  pub quiet_round : (m n : ℕ) (s : S) → ((j : ℕ) → j < suc m → busy (after j s) ≡ false) → (n ≡ 0) ⊎ (busy (after (suc m) s) ≡ true)
      → rounds_of (marks (suc (m + n)) s) ≡ suc (rounds_of (marks n (after (suc m) s)))
  quiet_round zero n s quiet ends =
      let here : busy s ≡ false = ap busy (sym (w.stays s)) ∙ quiet 0 (omega arith) in
      rw (zero-add, one s) (last_round n s here (rw (one s) at ends))
  quiet_round (suc m) n s quiet ends =
      let here : busy s ≡ false = ap busy (sym (w.stays s)) ∙ quiet 0 (omega arith) in
      let there : busy (next s) ≡ false = ap busy (sym (one s)) ∙ quiet 1 (omega arith) in
      let on = quiet_round m n (next s) (λ j h. ap busy (sym (w.goes j s)) ∙ quiet (suc j) (omega arith)) (rw (w.goes (suc m) s) at ends) in
      rw (suc-add, w.goes (suc m) s)
      (ap counted (first (suc (m + n)) s here ∙ ap (λ (ms : List Bool). false ∷ ms) (first (m + n) (next s) there))
      ∙ (marks_on (marks (m + n) (next (next s))) ∙ (ap counted (sym (first (m + n) (next s) there)) ∙ on)))
