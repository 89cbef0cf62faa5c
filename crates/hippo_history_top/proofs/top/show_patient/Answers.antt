-- What the state knows of its history is what is searched with.
use Rattle.hippo_history_top.proofs.top.show_patient.Goals as goal

pub returns : goal.returns
returns g c = record {
  shows = c.show_sought.ensures.shows c.args.state.now (λ history stands. record { valid = stands.valid; names = stands.names; book = stands.book; count = stands.count });
}
