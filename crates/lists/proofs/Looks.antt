-- What a look answers means, both ways, for the look ahead and the wake look alike: by one induction that gives, with the answer, why it
-- is that one.
use Prim.Native.Nat.{ℕ, zero, suc, ◌+◌, ◌≤◌, ◌<◌}
use mathlib.Core.Path.{◌≡◌, refl, sym, ap, ◌∙◌, subst}
use mathlib.Core.Bool.{Bool, true, false, cond}
use native.Mathlib.Nat.{le_antisymm}
use native.Mathlib.Omega.{arith}
use lib.Dec.{eqb, ltb}
use borrow.Author.Tests.{ltb-true, ltb-false, eqb-true, eqb-false}
use Rattle.machine.specs.declared.Device.{Device}
use Rattle.machine.specs.Answers.{LookAnswer, LookAnswer as Look}
use Rattle.machine.specs.Cycle.{cycle_of, cycles}
use Rattle.machine.specs.Calls.{first_cycle, rises, first_rise, offers_to, wakes, first_offer, cycles_fault, judged_look, look_answer, wake_answer}
use Rattle.machine.specs.Lists.{Reply, number, reply_of_look}
use Rattle.machine.specs.Lists.Value.{none}
use Rattle.machine.proofs.Choices.{clash, by_test}
use Rattle.lists.specs.Demand3.{rises_in, offered_after, First, Never, Looks, Tells}

-- an answer of a search from a start to n, and why it is that one
data Found (start n : ℕ) (so : ℕ → Bool) : LookAnswer → Type 0 where
  at : (k : ℕ) → First start n so k → Found start n so (Look.At k)
  nowhere : Never start n so → Found start n so Look.Nothing

-- The search

module _ (start n : ℕ) (so : ℕ → Bool) where
  -- found at its start
  found_start : start ≤ n → so start ≡ true → Found start n so (Look.At start)
  found_start h e =
      at start (record { from = omega arith; within = h; here = e; before = λ j g l. absurd (omega arith) })

  -- one place more at the front, where it is not so
  not_start : so start ≡ false → {P : ℕ → Type 0} → ((j : ℕ) → suc start ≤ j → P j → so j ≡ false)
      → (j : ℕ) → start ≤ j → P j → so j ≡ false
  not_start e f j h p =
      by_test (eqb j start) (λ t. ap so (eqb-true j start t) ∙ e) (λ t. f j (omega (arith, eqb-false j start t)) p)

  found_more : so start ≡ false → {a : LookAnswer} → Found (suc start) n so a → Found start n so a
  found_more e (at k f) =
      at k (record { from = omega (arith, f.from); within = f.within; here = f.here; before = not_start e f.before })
  found_more e (nowhere f) = nowhere (not_start e f)

-- a search of n cycles, k having gone before: what the test finds is so at k + 1 and on
found_after : (finds : Device → Device → Bool) (k n pins : ℕ) (d : Device) (so : ℕ → Bool)
    → ((j : ℕ) → so (k + suc j) ≡ finds (cycles j pins d) (cycles (suc j) pins d))
    → Found (suc k) (k + n) so (first_cycle finds k n pins d)
unfolding first_cycle cycles
found_after finds k zero pins d so is = nowhere (λ j g h. absurd (omega arith))
found_after finds k (suc n) pins d so is =
    go (finds d (cycle_of pins d)) refl
    (found_after finds (suc k) n pins (cycle_of pins d) so (λ j. ap so (omega arith) ∙ is (suc j)))
  where
    first : so (suc k) ≡ finds d (cycle_of pins d)
    first = ap so (omega arith) ∙ is 0

    go : (b : Bool) → finds d (cycle_of pins d) ≡ b → {a : LookAnswer} → Found (suc (suc k)) (suc k + n) so a
        → Found (suc k) (k + suc n) so (cond b (Look.At (suc k)) a)
    go true e rest = found_start (suc k) (k + suc n) so (omega arith) (first ∙ e)
    go false e {a} rest =
        found_more (suc k) (k + suc n) so (first ∙ e) (subst (λ (m : ℕ). Found (suc (suc k)) m so a) (omega arith) rest)

module _ (pins n : ℕ) (d : Device) where
  -- from cycle 1 on
  searched : (finds : Device → Device → Bool) (so : ℕ → Bool)
      → ((j : ℕ) → so (suc j) ≡ finds (cycles j pins d) (cycles (suc j) pins d)) → Found 1 n so (first_cycle finds 0 n pins d)
  searched finds so is =
      subst (λ (m : ℕ). Found 1 m so (first_cycle finds 0 n pins d)) (omega arith)
      (found_after finds 0 n pins d so (λ j. ap so (omega arith) ∙ is j))

  -- the look ahead, and the wake look, which begins at 0
  rises_found : Found 1 n (rises_in pins d) (first_rise n pins d)
  rises_found = searched rises (rises_in pins d) (λ j. ap (λ (i : ℕ). rises (cycles i pins d) (cycles (suc j) pins d)) (omega arith))

  offers_found : Found 0 n (offered_after pins d) (first_offer n pins d)
  unfolding cycles
  offers_found = go (offers_to d) refl
    where
      go : (b : Bool) → offers_to d ≡ b → Found 0 n (offered_after pins d) (cond b (Look.At 0) (first_cycle wakes 0 n pins d))
      go true e = found_start 0 n (offered_after pins d) (omega arith) e
      go false e = found_more 0 n (offered_after pins d) e (searched wakes (offered_after pins d) (λ j. refl))

-- What is found is what the answer means

not_above : (x y : ℕ) → (y < x → ⊥) → x ≤ y
not_above x y h = go (ltb y x) refl
  where
    go : (b : Bool) → ltb y x ≡ b → x ≤ y
    go true e = absurd (h (ltb-true y x e))
    go false e = ltb-false y x e

module _ {start n : ℕ} {so : ℕ → Bool} where
  -- there is one first
  only : (m k : ℕ) → First start n so m → First start n so k → m ≡ k
  only m k f g =
      le_antisymm (not_above m k (λ h. clash g.here (f.before k g.from h)))
      (not_above k m (λ h. clash f.here (g.before m f.from h)))

  found_means : {a : LookAnswer} → Found start n so a → Looks start n so a
  found_means (at m f) =
      record {
        names = λ k q. let s : m ≡ k = cc in rw s at f;
        named = λ k g. ap Look.At (only m k f g);
        none_said = λ q. let z : ◌≡◌ {A = ℕ} 0 1 = cc in absurd (omega arith);
        none_is = λ g. absurd (clash f.here (g m f.from f.within));
      }
  found_means (nowhere f) =
      record {
        names = λ k q. let z : ◌≡◌ {A = ℕ} 0 1 = cc in absurd (omega arith);
        named = λ k g. absurd (clash g.here (f k g.from g.within));
        none_said = λ q. f;
        none_is = λ g. refl;
      }

  -- the same of what its reply says
  at_tells : (m : ℕ) → Looks start n so (Look.At m) → Tells start n so (number m)
  at_tells m w =
      record {
        names = λ k q. let s : m ≡ k = cc in w.names k (ap Look.At s);
        named = λ k g. let q = w.named k g in cc;
        none_said = λ q. let z : ◌≡◌ {A = ℕ} 0 1 = cc in absurd (omega arith);
        none_is = λ g. let q = w.none_is g in let z : ◌≡◌ {A = ℕ} 0 1 = cc in absurd (omega arith);
      }

  nothing_tells : Looks start n so Look.Nothing → Tells start n so none
  nothing_tells w =
      record {
        names = λ k q. let z : ◌≡◌ {A = ℕ} 0 1 = cc in absurd (omega arith);
        named = λ k g. let q = w.named k g in let z : ◌≡◌ {A = ℕ} 0 1 = cc in absurd (omega arith);
        none_said = λ q. w.none_said refl;
        none_is = λ g. refl;
      }

  found_tells : {a : LookAnswer} → Found start n so a → Tells start n so (reply_of_look a).value
  found_tells (at m f) = at_tells m (found_means (at m f))
  found_tells (nowhere f) = nothing_tells (found_means (nowhere f))

-- A look that passes answers what it found

passes : (b : Bool) (fault : ℕ) (a : LookAnswer) → eqb fault 0 ≡ b → (reply_of_look (cond b a (Look.Refused fault))).code ≡ 0
    → cond b a (Look.Refused fault) ≡ a
passes true fault a q e = refl
passes false fault a q e = absurd (eqb-false fault 0 q e)

module _ (pins n : ℕ) (d : Device) where
  -- for what either look found
  module _ {start : ℕ} {so : ℕ → Bool} (found : LookAnswer) (why : Found start n so found) where
    passed_is : (a : LookAnswer) → a ≡ judged_look d pins n found → (reply_of_look a).code ≡ 0 → a ≡ found
    passed_is a e p =
        let fault = cycles_fault d pins n in
        e ∙ passes (eqb fault 0) fault found refl (ap (λ (x : LookAnswer). (reply_of_look x).code) (sym e) ∙ p)

    means : (a : LookAnswer) → a ≡ judged_look d pins n found → (reply_of_look a).code ≡ 0 → Looks start n so a
    means a e p = rw (passed_is a e p) (found_means why)

    tells : (r : Reply) → r ≡ reply_of_look (judged_look d pins n found) → r.code ≡ 0 → Tells start n so r.value
    tells r e p = rw (e, passed_is (judged_look d pins n found) refl (ap (λ (x : Reply). x.code) (sym e) ∙ p)) (found_tells why)

  pub look_means : (a : LookAnswer) → a ≡ look_answer d pins n → (reply_of_look a).code ≡ 0 → Looks 1 n (rises_in pins d) a
  unfolding look_answer
  look_means = means (first_rise n pins d) (rises_found pins n d)

  pub look_tells : (r : Reply) → r ≡ reply_of_look (look_answer d pins n) → r.code ≡ 0 → Tells 1 n (rises_in pins d) r.value
  unfolding look_answer
  look_tells = tells (first_rise n pins d) (rises_found pins n d)

  pub wake_means : (a : LookAnswer) → a ≡ wake_answer d pins n → (reply_of_look a).code ≡ 0 → Looks 0 n (offered_after pins d) a
  unfolding wake_answer
  wake_means = means (first_offer n pins d) (offers_found pins n d)

  pub wake_tells : (r : Reply) → r ≡ reply_of_look (wake_answer d pins n) → r.code ≡ 0 → Tells 0 n (offered_after pins d) r.value
  unfolding wake_answer
  wake_tells = tells (first_offer n pins d) (offers_found pins n d)
