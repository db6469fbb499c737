-- `noted` is the definition: an array is the list of its eight elements, and each pick is by its contract.
use borrow.Author.Rules.{rules}
use mathlib.Core.Path.{◌≡◌, ap, ◌∙◌}
use mathlib.Core.Bool.{Bool, false, cond}
use mathlib.Core.List.{List}
use Prim.Native.Nat.{ℕ, ◌<◌}
use native.Mathlib.Omega.{arith}
use lib.ListN.{length, get_or}
use Rattle.std.proofs.lemmas.List.{get_or_default}
use Rattle.machine.specs.Times.{noted}
use Rattle.laws.proofs.Arrays.{whole}
use Rattle.flags.proofs.noted.Goals as goal

-- one place, at the default x
place : {A : Type 0} (r : List Bool) (new : A) (old : List A) (k : ℕ) (p y x : A)
    → k < length old → p ≡ cond (get_or r k false) new (get_or old k y) → p ≡ cond (get_or r k false) new (get_or old k x)
place r new old k p y x h e = e ∙ ap (cond (get_or r k false) new) (get_or_default old k y x h)

pub returns : goal.returns
unfolding noted
returns g c =
    let a = c.args in
    let x = c.index-old-0.result in
    let n : length a.old ≡ 8 = search (rules, c.well_formed) in
    simp (
      c.picked.ensures,
      place a.r a.new a.old 1 _ _ x (omega arith) c.picked-2.ensures,
      place a.r a.new a.old 2 _ _ x (omega arith) c.picked-3.ensures,
      place a.r a.new a.old 3 _ _ x (omega arith) c.picked-4.ensures,
      place a.r a.new a.old 4 _ _ x (omega arith) c.picked-5.ensures,
      place a.r a.new a.old 5 _ _ x (omega arith) c.picked-6.ensures,
      place a.r a.new a.old 6 _ _ x (omega arith) c.picked-7.ensures,
      place a.r a.new a.old 7 _ _ x (omega arith) c.picked-8.ensures,
    )
    (λ i. noted a.new (whole false 8 a.r (search (rules, c.well_formed)) i) (whole x 8 a.old n i))
