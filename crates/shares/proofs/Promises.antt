-- What a caller learns from the contract of `shares`, `Learnt`, is the definition's answer; and so what that answer says is so.
use Rattle.std.proofs.Common.{ℕ, ◌≡◌, List, Bor, MutBor, Result}
use base.Fml.{Lft}
use Rattle.machine.specs.declared.refusals.Refusal.{Refusal}
use Rattle.machine.specs.Outcomes.{code_of}
use Rattle.slices.specs.Shares.{shares_answer}
use Rattle.shares.specs.Fair.{Says}
use Rattle.shares.proofs.Answers.{answers}
use Rattle.shares.proofs.Fair.{fair_shares}
use Rattle.shares.proofs.shares.Reads as shares-reads

pub shares_promises : (κ ι : Lft) (b : ℕ) (wishes : Bor (List ℕ)) (before after : MutBor (List ℕ)) (r : Result (Unit {0}) Refusal)
    → shares-reads.Learnt (κ, (ι, tt)) (b, (wishes, (before, tt))) r (b, (wishes, (after, tt)))
    → (answers (code_of r) after.now ≡ shares_answer b wishes.now before.now)
    × Says b wishes.now before.now (answers (code_of r) after.now)
shares_promises κ ι b wishes before after r e =
    let same : answers (code_of r) after.now ≡ shares_answer b wishes.now before.now = λ i. record { code = e.0 i; output = e.1 i } in
    (same, rw same (fair_shares.so b wishes.now before.now))
