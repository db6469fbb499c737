-- `levels_ok` is the definition: the array is the list of its seven elements, and the tests are joined from the left.
use mathlib.Core.Path.{ap, ◌∙◌}
use mathlib.Core.Bool.{true}
use mathlib.Core.List.{List, map}
use Prim.Native.Nat.{ℕ}
use lib.Dec.{leb}
use borrow.Author.Rules.{rules}
use Rattle.machine.specs.Record.{levels_ok}
use Rattle.machine.proofs.Choices.{joined}
use Rattle.laws.proofs.Arrays.{elements, whole}
use Rattle.record.proofs.levels_ok.Goals as goal

pub returns : goal.returns
returns c =
    joined true (map (λ (level : ℕ). leb level 1) (elements 0 7 0 c.args.l))
    ∙ ap (λ (l : List ℕ). levels_ok l) (whole 0 7 c.args.l (search rules))
