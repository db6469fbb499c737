-- A share is no more than its wish, and so no more than a jump's most: the jump by it passes, and is its cycles. By induction, calls that
-- pass add up their cycles.
use Prim.Native.Nat.{ℕ, zero, suc, ◌+◌, ◌≤◌, ◌<◌}
use mathlib.Core.Path.{◌≡◌, refl, sym, ap, ◌∙◌}
use mathlib.Core.List.{List, [], ◌∷◌}
use native.Mathlib.Omega.{arith}
use lib.ListN.{length, get_or}
use borrow.Author.Tests.{le-leb}
use Rattle.machine.specs.declared.Device.{Device}
use Rattle.std.specs.Prelude.{Result, Ok, Err}
use Rattle.machine.specs.declared.Jumped.{Jumped}
use Rattle.machine.specs.declared.refusals.Refusal.{Refusal}
use Rattle.machine.specs.Answers.{JumpAnswer, CycleAnswer}
use Rattle.machine.specs.Outcomes.{code_of, jump_answered}
use Rattle.machine.specs.Cycle.{cycle_of, cycles}
use Rattle.machine.specs.Totals.{totals}
use Rattle.machine.specs.Rounds.{rounds}
use Rattle.machine.specs.Calls.{longest, passed_cycle, passed_jump, cycle_answer, cycles_fault, jump_answer}
use Rattle.machine.specs.Lists.{Call, Reply, Played, play}
use Rattle.strides.proofs.Runs.{cycles_add, cycles_one}
use Rattle.jump.proofs.Keeps.{cycles_accepted}
use Rattle.slices.specs.Shares.{Shared, total}
use Rattle.shares.specs.Fair.{Says}
use Rattle.shares.specs.Fair.Says.{given, bad_tunnels, bad_wish}
use Rattle.shares.proofs.Answers.{answers}
use Rattle.shares.proofs.Promises.{shares_promises}
use Rattle.lists.specs.Spelling.{Each}
use Rattle.lists.specs.Demand3.{Kept, Chained}
use Rattle.lists.specs.Demand3.Chained.{nothing, then}
use Rattle.lists.proofs.Demand3.{kept_played}
use Rattle.tunnels.specs.Advances.{Share, Ready, singly, jumps, Ends, Advances}
use Rattle.tunnels.specs.Advances.Share.{share}

-- a share is at most its wish, and so at most 2^40
said_most : (b : ℕ) (ws before : List ℕ) (a : Shared) → Says b ws before a → a.code ≡ 0 → (i : ℕ) → i < length ws
    → get_or a.output i 0 ≤ longest
said_most b ws before a (given s l f) z i h = let m = f.most i h in let w = l.wish i h in omega arith
said_most b ws before a (bad_tunnels n) z i h = absurd (omega arith)
said_most b ws before a (bad_wish s n) z i h = absurd (omega arith)

share_most : {n : ℕ} → Share n → n ≤ longest
share_most (share κ ι b wishes before shares r i e z h) =
    said_most b wishes.now before.now (answers (code_of r) shares.now) (shares_promises κ ι b wishes before shares r e).1 z i h

-- calls on a device that is ready pass
module _ (pins : ℕ) (d : Device) (ready : Ready pins d) where
  cycle_passes : cycle_answer d pins ≡ passed_cycle (cycle_of pins d)
  unfolding cycle_answer
  cycle_passes = rw (ready.record_ok, ready.pins_accepted)

  jump_passes : (n : ℕ) → n ≤ longest → jump_answer d pins n ≡ passed_jump (totals n pins d) (rounds n pins d) (cycles n pins d)
  unfolding jump_answer cycles_fault
  jump_passes n h = rw (ready.record_ok, ready.pins_accepted, le-leb n longest h)

  cycles_ready : (n : ℕ) → Ready pins (cycles n pins d)
  cycles_ready n = record { record_ok = cycles_accepted n pins d ready.record_ok; pins_accepted = ready.pins_accepted }

-- a call that passes and makes m cycles, on a device that is ready
record Makes (m pins : ℕ) (d : Device) (p : Played) : Type 0 where
  passed : p.reply.code ≡ 0
  end : p.device ≡ cycles m pins d

cycle_makes : (pins : ℕ) (d : Device) {p : Played} → Ready pins d → Kept (Call.cycle pins) d p → Makes 1 pins d p
unfolding play
cycle_makes pins d ready k =
    let e = kept_played k in
    let a = cycle_passes pins d ready in
    record {
      passed = ap (λ (p : Played). p.reply.code) e ∙ ap (λ (r : CycleAnswer). r.code) a;
      end = ap (λ (p : Played). p.device) e ∙ (ap (λ (r : CycleAnswer). r.device) a ∙ sym (cycles_one pins d));
    }

jump_makes : (n pins : ℕ) (d : Device) {p : Played} → n ≤ longest → Ready pins d → Kept (Call.jump pins n) d p → Makes n pins d p
unfolding play
jump_makes n pins d h ready k =
    let e = kept_played k in
    let a = jump_passes pins d ready n h in
    record {
      passed = ap (λ (p : Played). p.reply.code) e ∙ ap (λ (r : JumpAnswer). r.code) a;
      end = ap (λ (p : Played). p.device) e ∙ ap (λ (r : JumpAnswer). r.device) a;
    }

-- such a call leaves a device that is ready, and with those after it
still_ready : (m pins : ℕ) {d : Device} {p : Played} → Makes m pins d p → Ready pins d → Ready pins p.device
still_ready m pins {d} c ready = rw c.end (cycles_ready pins d ready m)

and_then : (m n pins : ℕ) {d last : Device} {p : Played} {rs : List Reply} → Makes m pins d p → Ends n pins p.device rs last
    → Ends (m + n) pins d (p.reply ∷ rs) last
unfolding Each
and_then m n pins {d} c e =
    record {
      passed = (c.passed, e.passed);
      end = e.end ∙ (ap (cycles n pins) c.end ∙ sym (cycles_add m n pins d));
    }

cycles_end : (n pins : ℕ) {d last : Device} {rs : List Reply} → Ready pins d → Chained (singly n pins) d rs last → Ends n pins d rs last
unfolding singly cycles Each
cycles_end zero pins ready nothing = record { passed = tt; end = refl }
cycles_end (suc n) pins {d} ready (then k r) =
    let c = cycle_makes pins d ready k in
    let more : 1 + n ≡ suc n = omega arith in
    rw more at (and_then 1 n pins c (cycles_end n pins (still_ready 1 pins c ready) r))

jumps_end : (ns : List ℕ) (pins : ℕ) {d last : Device} {rs : List Reply} → Each Share ns → Ready pins d → Chained (jumps ns pins) d rs last
    → Ends (total ns) pins d rs last
unfolding jumps total cycles Each
jumps_end [] pins shares ready nothing = record { passed = tt; end = refl }
jumps_end (n ∷ ns) pins {d} (s, ss) ready (then k r) =
    let c = jump_makes n pins d (share_most s) ready k in
    and_then n (total ns) pins c (jumps_end ns pins ss (still_ready n pins c ready) r)

-- what a jump gives, written down, has its code and the device that it leaves
jump_told : (r : Result Jumped Refusal) (e : Device) → ((jump_answered r e).code ≡ code_of r) × ((jump_answered r e).device ≡ e)
jump_told (Ok j) e = (refl, refl)
jump_told (Err f) e = (refl, refl)

pub advances : Advances
advances =
    record {
      by_share = λ κ n pins d e r s ready k.
          let a = k ∙ jump_passes pins d.now ready n (share_most s) in
          let j = jump_told r e.now in
          (sym j.0 ∙ ap (λ (r : JumpAnswer). r.code) a, sym j.1 ∙ ap (λ (r : JumpAnswer). r.device) a);
      by_cycles = cycles_end;
      by_slices = jumps_end;
    }
