-- Cycles that nothing refuses: the record is accepted, and there are no more of them than a jump's most; and a trace has no more entries
-- than a trace's most. What an outcome that is an Err says of a test of the plain machine's number.
use Prim.Native.Nat.{ℕ, ◌≤◌}
use mathlib.Core.Path.{◌≡◌, refl, sym, ◌∙◌}
use mathlib.Core.Bool.{Bool, true, false, cond}
use mathlib.Core.List.{List}
use native.Mathlib.Omega.{arith}
use borrow.Author.Tests.{leb-true, ne_eqb}
use lib.Dec.{leb, eqb}
use lib.ListN.{length}
use Rattle.machine.specs.declared.Device.{Device}
use Rattle.machine.specs.declared.refusals.Refusal.{Refusal}
use Rattle.machine.specs.Record.{accepted, pins_ok}
use Rattle.machine.specs.Calls.{longest, cycles_fault, most_entries, first_bad, trace_fault}
use Rattle.machine.specs.Outcomes.{number}
use Rattle.machine.proofs.Outcomes.{number_some}

-- a refusal's number is no passed call's
pub refuses : (e : Refusal) {fault : ℕ} → number e ≡ fault → eqb fault 0 ≡ false
refuses e {fault} h = ne_eqb fault 0 (λ z. number_some e (h ∙ z))

pub record Made (d : Device) (n : ℕ) : Type 0 where
  pub good : accepted d ≡ true
  pub within : n ≤ longest

pub made : (d : Device) (pins n : ℕ) → 0 ≡ cycles_fault d pins n → Made d n
unfolding cycles_fault
made d pins n e = go (accepted d) (pins_ok pins) (leb n longest) refl refl (sym e)
  where
    go : (a b c : Bool) → accepted d ≡ a → leb n longest ≡ c → ◌≡◌ {A = ℕ} (cond a (cond b (cond c 0 5) 4) 1) 0 → Made d n
    go true true true p q h = record { good = p; within = leb-true n longest q }
    go true true false p q h = absurd (omega arith)
    go true false c p q h = absurd (omega arith)
    go false b c p q h = absurd (omega arith)

pub few_entries : (es : List ℕ) → 0 ≡ trace_fault es → length es ≤ most_entries
unfolding trace_fault
few_entries es e = go (leb (length es) most_entries) refl (sym e)
  where
    go : (b : Bool) → leb (length es) most_entries ≡ b → ◌≡◌ {A = ℕ} (cond b (first_bad es) 5) 0 → length es ≤ most_entries
    go true p h = leb-true (length es) most_entries p
    go false p h = absurd (omega arith)
