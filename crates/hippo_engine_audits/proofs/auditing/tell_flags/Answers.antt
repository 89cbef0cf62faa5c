use Rattle.std.specs.Result.{result_map_both}
use Rattle.hippo_engine_audits.proofs.AuditingLemmas.{ended_view}
use Rattle.hippo_engine_audits.proofs.auditing.tell_flags.Goals as goal

pub returns : goal.returns
returns g c = record {
  tells = record {
    found = result_map_both (λ job. job.waiting) (λ fault. fault) c.looked_over-found.result;
    finds = c.looked_over-found.ensures.finds;
    ended_so = ended_view c.say_flags.result c.looked_over-found.result c.say_flags.ensures.ended;
    said = c.say_flags.ensures.said;
  };
}
