-- Replies compared, for cards: whether two lists of them are the same.
use Rattle.std.specs.Prelude.{Bool, true, false, ◌&&◌, List, [], ◌∷◌, eqb}
use Rattle.machine.specs.Same.{same}
use Rattle.machine.specs.Lists.{Value, Reply}
use Rattle.machine.specs.Lists.Value.{numbers, none}

unfoldable pub same_value : Value → Value → Bool
same_value (numbers ms) (numbers ns) = same ms ns
same_value (numbers ms) none = false
same_value none (numbers ns) = false
same_value none none = true

unfoldable pub same_reply : Reply → Reply → Bool
same_reply a b = eqb a.code b.code && same_value a.value b.value

unfoldable pub same_replies : List Reply → List Reply → Bool
same_replies [] [] = true
same_replies [] (b ∷ bs) = false
same_replies (a ∷ more) [] = false
same_replies (a ∷ more) (b ∷ bs) = same_reply a b && same_replies more bs
