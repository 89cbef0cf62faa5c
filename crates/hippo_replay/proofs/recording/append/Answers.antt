-- The entry's form was given to the keeper, or there was no memory for it.
use Rattle.std.proofs.Common.{◌∙◌, ap, arith}
use Rattle.hippo_model.specs.declared.stored.StoredEntry.{StoredEntry}
use Rattle.hippo_replay.proofs.RecordingLemmas.{KeepsEntry-AppendsEntry, KeepsEntry-short}
use Rattle.hippo_replay.proofs.recording.append.Goals as goal

pub append-requires : goal.append-requires
append-requires g c =
    let number = ap (λ (kept : StoredEntry). kept.seq) c.in-Ok.ensures.form in
    record {
      ready = c.requires.may.ready;
      number = omega (arith, number, c.requires.may.number);
      next = λ tells. number ∙ c.requires.may.next tells;
    }

pub returns-in-Ok : goal.returns-in-Ok
returns-in-Ok g c = record { keeps = λ state follows. KeepsEntry-AppendsEntry c.args.entry.now c.in-Ok.kept c.append.result state (g.P.Keeper.state c.args.keeper.now) (g.P.Keeper.state c.append.new.self) c.in-Ok.ensures.form c.append.ensures.appends follows }

pub returns-in-Err : goal.returns-in-Err
returns-in-Err g c = record { keeps = λ state follows. KeepsEntry-short c.args.entry.now state (g.P.Keeper.state c.args.keeper.now) c.requires.may.ready }
