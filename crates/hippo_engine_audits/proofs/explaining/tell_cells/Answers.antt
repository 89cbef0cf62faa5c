use Rattle.hippo_engine_audits.proofs.explaining.tell_cells.Goals as goal

pub returns : goal.returns
returns g c = record {
  tells = record {
    found = c.denied_cells-found.result;
    denies = c.denied_cells-found.ensures.denies;
    ended_so = c.say_cells.ensures.ended;
    said = c.say_cells.ensures.said;
  };
}
