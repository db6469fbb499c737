-- An offer's answer as numbers for C: 1 and the vector, or 0 and 0; a refused call gives its number and zeros.
use Rattle.machine.specs.declared.Device.{Device}
use Rattle.machine.specs.Answers.{OfferAnswer, OfferAnswer as Offer}
use Rattle.machine.specs.Calls.{offer_answer}
use Rattle.c51_offer.specs.declared.OfferedAnswer.{OfferedAnswer}

abbrev pub offered_of : OfferAnswer → OfferedAnswer
offered_of (Offer.Refused k) = record { code = k; offered = 0; vector = 0 }
offered_of (Offer.Vector v) = record { code = 0; offered = 1; vector = v }
offered_of Offer.Nothing = record { code = 0; offered = 0; vector = 0 }

unfoldable pub offered_answer : Device → OfferedAnswer
offered_answer d = offered_of (offer_answer d)
