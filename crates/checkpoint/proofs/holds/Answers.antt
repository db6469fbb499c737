-- `checkpoint::holds` is the definition: with room in the fields the record check is that of the values, and without room number 1 would
-- refuse them.
use mathlib.Core.Path.{◌≡◌, refl, sym, ap, ap₂, ◌∙◌}
use mathlib.Core.Bool.{Bool, true, false, cond, not, ◌&&◌, ◌||◌}
use native.Mathlib.Omega.{arith}
use borrow.Author.Rules.{rules}
use lib.Dec.{eqb}
use lib.ListN.{length, get_or}
use mir.Syntax.{w64}
use mir.Val.{Fits}
use Rattle.machine.specs.Record.{accepted}
use Rattle.machine.specs.Checkpoint.{holds, places, place_of_received, place_of_sbuf}
use Rattle.values.proofs.Room.{made_same, refused_wide}
use Rattle.checkpoint.proofs.holds.Goals as goal

-- the test of the received byte
either : (b c : Bool) → (not b || c) ≡ cond b c true
either true c = refl
either false c = refl

pub returns-else-narrow : goal.returns-else-narrow
unfolding holds
returns-else-narrow c =
    let wide : Fits w64 (get_or c.args.v place_of_received 0) = search (rules, c.well_formed) in
    let long : length c.args.v ≡ places = search (rules, c.well_formed) in
    let e = sym c.narrow.ensures ∙ c.if-narrow.false in
    simp (refused_wide c.args.v long (omega (arith, wide)) e c.args.kind)

pub returns-then-narrow : goal.returns-then-narrow
unfolding holds
returns-then-narrow c =
    let long : length c.args.v ≡ places = search (rules, c.well_formed) in
    let e = sym c.narrow.ensures ∙ c.if-narrow.true in
    ap₂ ◌&&◌ (c.accepts.ensures ∙ ap accepted (c.device_of-d.ensures ∙ made_same c.args.v long e c.args.kind))
    (either (eqb c.args.place place_of_received) (eqb (get_or c.args.v place_of_received 0) (get_or c.args.v place_of_sbuf 0)))
