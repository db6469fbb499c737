-- A flag rises where a mask of what rises is not 0: by the laws of these masks, register by register.
use mathlib.Core.Path.{◌∙◌}
use mathlib.Core.Bool.{◌||◌}
use Prim.Native.Nat.{◌≤◌}
use native.Mathlib.Omega.{arith}
use Rattle.flags.proofs.Masks.{tcon_rises, scon_rises, t2con_rises, flags_rise}
use Rattle.flags.proofs.any_rises.Goals as goal

pub returns : goal.returns
returns c =
    let b = c.args.before in
    let a = c.args.after in
    let tcon : b.tcon ≤ 255 = omega arith in
    let scon : b.scon ≤ 255 = omega arith in
    let t2con : b.t2con ≤ 255 = omega arith in
    (λ i. (tcon_rises b.tcon a.tcon tcon i || scon_rises b.scon a.scon scon i) || t2con_rises b.t2con a.t2con t2con i)
    ∙ flags_rise b.tcon b.scon b.t2con a.tcon a.scon a.t2con
