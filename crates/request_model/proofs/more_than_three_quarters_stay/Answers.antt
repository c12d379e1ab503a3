use Rattle.std.proofs.Common.{refl}
use Rattle.request_model.proofs.CallerLemmas.{fits_in_place_is, fits_in_place_so}
use Rattle.request_model.proofs.more_than_three_quarters_stay.Goals as goal

pub returns-clause-exactly : goal.returns-clause-exactly
returns-clause-exactly c = λ s m. (fits_in_place_is s m, λ why. fits_in_place_so s m why.0 why.1)

pub returns-clause-edge : goal.returns-clause-edge
returns-clause-edge c = (refl, refl)
