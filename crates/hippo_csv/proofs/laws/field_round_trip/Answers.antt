use Rattle.hippo_csv.proofs.RoundTripTheorem as theorem
use Rattle.hippo_csv.proofs.laws.field_round_trip.Goals as goal

pub returns : goal.returns
returns c = theorem.field_round_trip
