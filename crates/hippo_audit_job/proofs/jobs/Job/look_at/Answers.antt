-- The flag is found and added; or it is not found, or memory for it runs out.
use Rattle.std.proofs.Common.{refl, arith}
use Rattle.hippo_audit_job.proofs.FlagLemmas.{number_above, LooksOn-flagged, LooksOn-short, LooksOn-failed}
use Rattle.hippo_audit_job.proofs.jobs.Job.look_at.Goals as goal

pub overflow_sub-self : goal.overflow_sub-self
overflow_sub-self g c =
    let above = number_above g.X.Examiner.terms c.args.self.now c.requires.may.is_sound c.args.entry c.requires.first in
    omega (arith, above)

pub find_flag-requires : goal.find_flag-requires
find_flag-requires g c =
    let above = number_above g.X.Examiner.terms c.args.self.now c.requires.may.is_sound c.args.entry c.requires.first in
    let order = c.requires.may.is_sound.asked in
    record {
      may = record {
        ready = c.requires.may.ready;
        is_sound = c.requires.may.is_sound.examiner_is;
        order = omega (arith, above, order);
        tables = c.requires.may.is_sound.tables;
      };
    }

pub add-requires : goal.add-requires
add-requires g c =
    let above = number_above g.X.Examiner.terms c.args.self.now c.requires.may.is_sound c.args.entry c.requires.first in
    let counted = c.requires.may.is_sound.counted in
    omega (arith, above, counted)

pub returns-in-Ok-add-clause-looks : goal.returns-in-Ok-add-clause-looks
returns-in-Ok-add-clause-looks g c =
    rw c.in-Ok-add.ensures.ok
    (LooksOn-flagged g.X.Examiner.terms c.args.self.now c.requires.may.is_sound c.args.entry c.requires.first c.requires.may.within c.args.past.now c.find_flag.new.examiner (g.P.Keeper.state c.args.keeper.now) (g.P.Keeper.state c.find_flag.new.keeper) c.args.steps.now c.find_flag.new.steps c.in-Ok.flag c.in-Ok.ensures)

pub returns-in-Ok-add-clause-used : goal.returns-in-Ok-add-clause-used
returns-in-Ok-add-clause-used g c = rw c.in-Ok-add.ensures.ok refl

pub returns-in-Ok-add-clause-others : goal.returns-in-Ok-add-clause-others
returns-in-Ok-add-clause-others g c = rw c.in-Ok-add.ensures.ok (record { reached_is = refl; unbroken_is = refl })

pub returns-in-Err-add-clause-looks : goal.returns-in-Err-add-clause-looks
returns-in-Err-add-clause-looks g c =
    rw c.in-Err-add.ensures.err
    (LooksOn-short g.X.Examiner.terms c.args.self.now c.requires.may.is_sound c.args.entry c.requires.first c.requires.may.within c.args.past.now c.find_flag.new.examiner (g.P.Keeper.state c.args.keeper.now) (g.P.Keeper.state c.find_flag.new.keeper) c.args.steps.now c.find_flag.new.steps c.in-Ok.flag c.in-Ok.ensures)

pub returns-in-Err-add-clause-others : goal.returns-in-Err-add-clause-others
returns-in-Err-add-clause-others g c = rw c.in-Err-add.ensures.err (record { reached_is = refl; unbroken_is = refl })

pub returns-in-Err-clause-looks : goal.returns-in-Err-clause-looks
returns-in-Err-clause-looks g c =
    LooksOn-failed g.X.Examiner.terms c.args.self.now c.requires.may.is_sound c.args.entry c.requires.first c.requires.may.within c.args.past.now c.find_flag.new.examiner (g.P.Keeper.state c.args.keeper.now) (g.P.Keeper.state c.find_flag.new.keeper) c.args.steps.now c.find_flag.new.steps c.in-Err.fault c.in-Err.ensures

pub returns-in-Err-clause-others : goal.returns-in-Err-clause-others
returns-in-Err-clause-others g c = record { reached_is = refl; unbroken_is = refl }
