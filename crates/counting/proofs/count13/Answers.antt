-- `count13` is its definition: the sum over the pair, which has room for the carry, is parted at TL's 5 bits as one
-- count of 13 is.
use Rattle.std.proofs.Common.{ℕ, ◌+◌, ◌*◌, ◌/◌, sym, refl, ap, ◌∙◌, arith}
use Rattle.laws.proofs.Bits.{low8, put_below}
use Rattle.laws.proofs.Counting.{count_eq, next_low, next_high}
use Rattle.machine.specs.Counting.{pair13, count13}
use Rattle.counting.proofs.count13.Goals as goal

pub returns : goal.returns
unfolding count13
returns c =
    let tl = c.args.p.tl in
    let n = pair13 tl c.args.p.th in
    simp c.of13-n.ensures
    (count_eq (put_below 3 5 tl (n + 1) (omega arith) ∙ ap (λ (m : ℕ). tl / 32 * 32 + m) (sym (next_low 8 5 n)))
    (low8 ((n + 1) / 32) ∙ sym (next_high 8 5 n)) refl)
