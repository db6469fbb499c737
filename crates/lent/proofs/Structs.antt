-- The device as the struct that is lent, and where an answer to C has it, and its code; and overflow totals.
use mathlib.Core.Path.{refl}
use mathlib.Core.List.{[], ◌∷◌}
use mir.Val.{WT}
use denote.Laws.{Is}
use denote.Struct.Declared.{row}
use denote.Struct.Laws as LL
use Rattle.machine.specs.contracts.Device as Device
use Rattle.machine.proofs.Device.TheLaws as Device'
use Rattle.machine.specs.contracts.Answer as Answer
use Rattle.machine.proofs.Answer.TheLaws as Answer'
use Rattle.machine.specs.contracts.Totals as Totals
use Rattle.machine.proofs.Totals.TheLaws as Totals'
use Rattle.lent.proofs.Lent.{Struct, value, Carries, Byte}

abbrev pub device : Struct
device = record { type = Device.the_type; laws = Device'.the_laws; plains = Device'.the_plain }

abbrev pub answer_carries : Carries device Answer.the_type Answer'.the_laws 1
answer_carries = record { struct = λ r. r.device; offset = 8; found = refl; held = λ r. refl; owns = λ r known. known.1.0 }

abbrev pub answer_code : Byte Answer.the_type Answer'.the_laws 0
answer_code = record { byte = λ r. r.code; offset = 0; found = refl; held = λ r. refl; fits = λ r known. known.0.1 }

-- overflow totals
abbrev pub totals : Struct
totals = record { type = Totals.the_type; laws = Totals'.the_laws; plains = Totals'.the_plain }

-- and what is known of them: each fits its 64 bits
abbrev pub totals_typed : (t : (Totals.the_type).D) → Is (row Totals.the_type) t (value totals t ∷ []) → WT (value totals t)
totals_typed t is =
    let known = LL.owed Totals.the_type Totals'.the_laws t _ is in
    (record { fits = known.0.1 }, (record { fits = known.1.0.1 }, (record { fits = known.1.1.0.1 }, tt)))
