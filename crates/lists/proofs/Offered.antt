-- Two devices that agree in the five numbers are offered the same: the definition of the choice reads nothing else, and by its contract
-- each call answers what is offered.
use Prim.Native.Nat.{ℕ}
use mathlib.Core.Path.{◌≡◌, refl, sym, ap, ◌∙◌}
use native.Mathlib.Omega.{arith}
use Rattle.machine.specs.declared.Device.{Device}
use Rattle.std.specs.Prelude.{Option, Some, None, Result, Ok, Err}
use borrow.Author.Tests.{eqb-false}
use Rattle.machine.specs.declared.refusals.Refusal.{Refusal}
use Rattle.machine.specs.Answers.{TakeAnswer, LookAnswer, LookAnswer as Look}
use Rattle.machine.specs.Outcomes.{number, code_of, take_answered, offer_answered, look_answered}
use Rattle.machine.proofs.Outcomes.{number_differs, number_not_0}
use Rattle.machine.specs.Interrupts.{Source, none, source, choice, offered, some_source}
use Rattle.machine.specs.Cycle.{cycles}
use Rattle.machine.specs.Calls.{offers_to, offer_answer, take_of, take_answer, wake_answer}
use Rattle.machine.specs.Lists.{reply_of_look}
use Rattle.lists.specs.Offered.{Powered, Agree, Alike, FiveDecide}
use Rattle.lists.proofs.Looks.{wake_means}

-- an outcome is told by its answer

offer_same : (a b : Result (Option ℕ) Refusal) → offer_answered a ≡ offer_answered b → a ≡ b
offer_same (Ok (Some v)) (Ok (Some w)) p = let q : v ≡ w = cc in cc
offer_same (Ok (Some v)) (Ok None) p = cc
offer_same (Ok (Some v)) (Err f) p = cc
offer_same (Ok None) (Ok (Some w)) p = cc
offer_same (Ok None) (Ok None) p = refl
offer_same (Ok None) (Err f) p = cc
offer_same (Err e) (Ok (Some w)) p = cc
offer_same (Err e) (Ok None) p = cc
offer_same (Err e) (Err f) p = let q : number e ≡ number f = cc in ap Err (number_differs e f q)

take_same : (a b : Result ℕ Refusal) (x y : Device) → (take_answered a x).code ≡ (take_answered b y).code
    → (take_answered a x).vector ≡ (take_answered b y).vector → a ≡ b
take_same (Ok v) (Ok w) x y p q = ap Ok q
take_same (Ok v) (Err f) x y p q = absurd (eqb-false (number f) 0 (number_not_0 f) (sym p))
take_same (Err e) (Ok w) x y p q = absurd (eqb-false (number e) 0 (number_not_0 e) p)
take_same (Err e) (Err f) x y p q = ap Err (number_differs e f p)

look_at_0 : (b : Result (Option ℕ) Refusal) → look_answered b ≡ Look.At 0 → b ≡ Ok (Some 0)
look_at_0 (Ok (Some k)) p = let q : k ≡ 0 = cc in cc
look_at_0 (Ok None) p = cc
look_at_0 (Err e) p = cc

look_code : (b : Result (Option ℕ) Refusal) → (reply_of_look (look_answered b)).code ≡ code_of b
look_code (Ok (Some k)) = refl
look_code (Ok None) = refl
look_code (Err e) = refl

module _ (d e : Device) (of-d : Powered d) (of-e : Powered e) (five : Agree d e) where
  choice_alike : choice d.interrupts ≡ choice e.interrupts
  unfolding choice
  choice_alike = rw (five.polled, five.ie, five.ip, five.low, five.high) refl

  offered_alike : offered d.pcon d.interrupts ≡ offered e.pcon e.interrupts
  unfolding offered
  offered_alike = rw (of-d.up, of-e.up) choice_alike

  offer_alike : offer_answer d ≡ offer_answer e
  unfolding offer_answer
  offer_alike = rw (of-d.accepted, of-e.accepted, offered_alike) refl

  -- a take of the same source
  of_source : (s : Source) → ((take_of d s).code ≡ (take_of e s).code) × ((take_of d s).vector ≡ (take_of e s).vector)
  unfolding take_of
  of_source none = (refl, refl)
  of_source (source k) = (refl, refl)

  take_alike : ((take_answer d).code ≡ (take_answer e).code) × ((take_answer d).vector ≡ (take_answer e).vector)
  unfolding take_answer
  take_alike = rw (of-d.accepted, of-e.accepted, of-d.up, of-e.up, offered_alike) (of_source (offered e.pcon e.interrupts))

  -- both are offered something, or neither is
  offers_alike : offers_to d ≡ offers_to e
  offers_alike = ap some_source offered_alike

  -- what names 0 has found that something is offered, and where something is offered 0 is named
  wake_alike : (pins pins' n n' : ℕ) (a b : LookAnswer) → a ≡ wake_answer d pins n → b ≡ wake_answer e pins' n'
      → (reply_of_look b).code ≡ 0 → a ≡ Look.At 0 → b ≡ Look.At 0
  unfolding cycles
  wake_alike pins pins' n n' a b p q passes zero =
      let here = ((wake_means pins n d a p (ap (λ (x : LookAnswer). (reply_of_look x).code) zero)).names 0 zero).here in
      (wake_means pins' n' e b q passes).named 0
      (record {
        from = omega arith;
        within = omega arith;
        here = sym offers_alike ∙ here;
        before = λ j h l. absurd (omega arith);
      })

  alike : Alike d e
  alike =
      record {
        offers = λ a b p q. offer_same a b (p.0 ∙ offer_alike ∙ sym q.0);
        takes = λ κ ι x y x' y' a b f g p q.
            let p' : take_answered a x'.now ≡ take_answer d = rw f at p in
            let q' : take_answered b y'.now ≡ take_answer e = rw g at q in
            take_same a b x'.now y'.now
            (ap (λ (r : TakeAnswer). r.code) p' ∙ take_alike.0 ∙ sym (ap (λ (r : TakeAnswer). r.code) q'))
            (ap (λ (r : TakeAnswer). r.vector) p' ∙ take_alike.1 ∙ sym (ap (λ (r : TakeAnswer). r.vector) q'));
        wakes = λ pins pins' n n' a b p q z at.
            look_at_0 b (wake_alike pins pins' n n' (look_answered a) (look_answered b) p.0 q.0 (look_code b ∙ z) (ap look_answered at));
      }

pub five_decide : FiveDecide
five_decide = alike
