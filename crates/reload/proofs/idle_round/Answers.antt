-- A round has its cycles and reaches where they end: by the laws of rounds, in both of its ways.
use Rattle.std.proofs.Common.{◌≡◌, ℕ, ◌+◌, ◌-◌, min, sym, ap, ◌∙◌, arith, ne_eqb}
use Rattle.reload.specs.Reload.{raised, unwound}
use Rattle.reload.proofs.Rounds.{round_over, round_up}
use Rattle.reload.proofs.idle_round.Goals as goal

pub returns-then-room-eq0 : goal.returns-then-room-eq0
returns-then-room-eq0 c =
    let x = c.args.x in
    round_over c.args.k (unwound x) c.args.left (omega (arith, c.if-room-eq0.true)) c.requires.0 c.reloaded.ensures

pub returns-else-room-eq0 : goal.returns-else-room-eq0
unfolding raised
returns-else-room-eq0 c =
    let x = c.args.x in
    let room = x.room_fits in
    let some = c.if-room-eq0.false in
    let used = c.min-used.ensures in
    let whole : 255 - (255 - x.room) ≡ x.room = omega arith in
    let up : 255 - (x.room - c.min-used.result) ≡ 255 - x.room + c.min-used.result = omega arith in
    round_up c.args.k (unwound x) c.args.left (ne_eqb (255 - x.room) 255 (λ z. omega arith)) (omega arith) c.requires.0 (used ∙ ap (λ (m : ℕ). min m c.args.left) (sym whole))
    (λ i. record { tl1 = up i; th1 = 255 - x.full; half = x.half; counter = x.counter; sample = x.sample })
