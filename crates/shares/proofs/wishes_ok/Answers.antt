-- `wishes_ok` is its definition, which recurses as `all` does.
use Rattle.std.proofs.Common.{ℕ, ◌≡◌, refl, ◌∙◌, Bool, ◌&&◌, leb, rules, tests}
use Rattle.std.specs.List.{list_all}
use Rattle.std.proofs.lemmas.Iterator.{YieldsList-from_slice}
use Rattle.std.proofs.lemmas.Iterator.Search.{all_from_yields_List}
use Rattle.std.proofs.lemmas.List.Recursion.{same_from_clauses}
use Rattle.machine.specs.Calls.{longest}
use Rattle.slices.specs.Shares.{wishes_ok}
use Rattle.shares.proofs.wishes_ok.Goals as goal

pub returns : goal.returns
unfolding wishes_ok
returns c =
    let ws = c.args.wishes.now in
    let short = λ (w : ℕ). leb w longest in
    let all : c.all.result ≡ list_all short ws =
    all_from_yields_List short _ _ _ c.all.ensures.ran (YieldsList-from_slice ws cc) (λ x b q k. search (rules, tests)) in
    all ∙ same_from_clauses (list_all short) wishes_ok (λ (w : ℕ) (ok : Bool). leb w longest && ok) refl (λ _ _. refl) (λ _ _. refl) ws
