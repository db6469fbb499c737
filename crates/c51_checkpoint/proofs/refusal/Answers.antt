-- `refusal` is the definition: by the record check, and the buffer's length.
use Rattle.laws.proofs.Guards.{yes, no}
use Rattle.c51_checkpoint.proofs.Answers.{save_bad, save_other, save_whole}
use Rattle.c51_checkpoint.proofs.refusal.Goals as goal

pub returns-then-not-accepts : goal.returns-then-not-accepts
returns-then-not-accepts c = save_bad _ _ (no c.accepts.ensures c.if-not-accepts.true)

pub returns-then-size-length : goal.returns-then-size-length
returns-then-size-length c =
    save_other _ _ (yes c.accepts.ensures c.if-not-accepts.false) (rw c.length.ensures at c.if-size-length.true)

pub returns : goal.returns
returns c =
    save_whole _ _ (yes c.accepts.ensures c.if-not-accepts.false) (rw c.length.ensures at c.if-size-length.false)
