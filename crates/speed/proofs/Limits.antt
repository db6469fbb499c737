-- The test of the limits holds exactly within them.
use Rattle.std.proofs.Common.{ℕ, ◌≡◌, true, arith}
use Rattle.std.proofs.lemmas.Bool.Decides.{nat_tests}
use Rattle.baud.specs.Speed.{allowed}
use Rattle.speed.specs.Chosen.{Allowed}

module _ (crystal rate tolerance : ℕ) where
  pub limits : allowed crystal rate tolerance ≡ true → Allowed crystal rate tolerance
  unfolding allowed
  limits e =
      record {
        crystal_least = grind (arith, nat_tests);
        crystal_most = grind (arith, nat_tests);
        rate_least = grind (arith, nat_tests);
        rate_most = grind (arith, nat_tests);
        tolerance_most = grind (arith, nat_tests);
      }

  pub limits_met : Allowed crystal rate tolerance → allowed crystal rate tolerance ≡ true
  unfolding allowed
  limits_met a = grind (arith, nat_tests)
