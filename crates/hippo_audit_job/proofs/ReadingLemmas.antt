-- A batch of the logged queries of an audit's period, read ahead.
use Rattle.std.proofs.Common.{◌≡◌, ◌∙◌, sym, ap, refl, subst, arith, ℕ, ◌<◌, Bool, true, false, ◌&&◌, [], Result, Ok, Err}
use Rattle.std.specs.Prelude.{◌==◌, int_le}
use Rattle.hippo_model.specs.declared.audit.Audit.{Audit}
use Rattle.hippo_model.specs.declared.entry.Act.{Act}
use Rattle.hippo_model.specs.declared.entry.Act.TheVariants.{Asked, Create, Insert, Update, Delete, Purpose, Recipient, Item, Authorize, Deauthorize, Allow, Revoke, Choice}
use Rattle.hippo_model.specs.declared.entry.Entry.{Entry}
use Rattle.hippo_model.specs.HandedOver.{is_question}
use Rattle.hippo_model.specs.StoredForms.{act_kind, stored}
use Rattle.hippo_keeper.specs.declared.faults.KeeperFault.{KeeperFault}
use Rattle.hippo_keeper.specs.Keeping.{Store, KeeperState}
use Rattle.hippo_keeper.specs.Selecting.{was_asked_in, selected_entries, ReadsEntries}
use Rattle.hippo_typing.specs.Meanings.{meaning}
use Rattle.hippo_backlog.specs.declared.faults.ReadFault.{ReadFault}
use Rattle.hippo_backlog.specs.Calls.{read_fault, reading_as_call}
use Rattle.hippo_backlog.specs.ReadingAhead.{ReadAhead, with_piece}
use Rattle.hippo_backlog.proofs.AheadLemmas.{IsAhead-read, reached_by-least, reached_by-further}
use Rattle.hippo_backlog.proofs.CallLemmas.{undamaged_by, reading_as_call-read_fault}
use Rattle.hippo_keeper.proofs.CallLemmas.{KeepsSame-Stays, IsAfterCall-as}
use Rattle.hippo_keeper.proofs.Results.{err_of, well}
use Rattle.hippo_audit_job.specs.Looking.{is_question_in_period, ReadsAhead}

and_assoc : (a b c : Bool) → (a && b && c) ≡ (a && (b && c))
and_assoc true b c = refl
and_assoc false b c = refl

kind_of_questions : (act : Act) → (act_kind act == 13) ≡ is_question act
kind_of_questions (Create schema) = refl
kind_of_questions (Insert table row) = refl
kind_of_questions (Update table row) = refl
kind_of_questions (Delete table key) = refl
kind_of_questions (Purpose name) = refl
kind_of_questions (Recipient name) = refl
kind_of_questions (Item name kind) = refl
kind_of_questions (Authorize user purpose recipient) = refl
kind_of_questions (Deauthorize user purpose recipient) = refl
kind_of_questions (Allow purpose recipient table columns item days) = refl
kind_of_questions (Revoke purpose recipient table columns) = refl
kind_of_questions (Choice subject item agreed) = refl
kind_of_questions (Asked user purpose recipient text) = refl

-- the stored form of an entry shows whether it is a logged query of the period
pub same_test : (audit : Audit) (entry : Entry) → was_asked_in audit.from audit.to (stored entry) ≡ is_question_in_period audit entry
same_test audit entry =
    ap (λ (kind : Bool). kind && int_le audit.from entry.moment && int_le entry.moment audit.to) (kind_of_questions entry.act)
    ∙ and_assoc (is_question entry.act) (int_le audit.from entry.moment) (int_le entry.moment audit.to)

abbrev reads_ok : Store → Result Store KeeperFault
reads_ok piece = Ok piece

module _ (audit : Audit) (max end : ℕ) (old : ReadAhead) (before after : KeeperState) (reached : ℕ) (used : old.waiting ≡ []) (reached_is : reached ≡ old.reached) where
  -- a batch is read
  pub ReadsAhead-piece : (piece : Store) (new : ReadAhead) → new ≡ with_piece max end piece old → 0 < max → ReadsEntries (was_asked_in audit.from audit.to) reached max (Ok piece) before after → ReadsAhead audit end (well ReadFault) old new before after
  ReadsAhead-piece piece new new_is some reads_so =
      let reads = subst (λ (n : ℕ). ReadsEntries (was_asked_in audit.from audit.to) n max (Ok piece) before after) reached_is reads_so in
      let least = reached_by-least max end piece old.reached in
      subst (λ (a : ReadAhead). ReadsAhead audit end (well ReadFault) old a before after) (sym new_is) (record {
        is_after = IsAfterCall-as true false (reads_ok piece) (reading_as_call (well ReadFault)) before after refl reads.call;
        stays = λ tells. KeepsSame-Stays before after (reads.stays tells);
        order = reads.ok.order;
        last = least;
        onward = reached_by-further max end piece old.reached some reads.ok.order;
        undamaged = λ number e. absurd cc;
        told = λ tells history store within place split.
            let handed = reads.ok.told tells ∙ ap (λ (s : Store). selected_entries (was_asked_in audit.from audit.to) old.reached max s) (sym store.forms) in
            (IsAhead-read (is_question_in_period audit) place old history split (was_asked_in audit.from audit.to) (same_test audit) meaning store.valid max end piece used handed within).0;
      })

  -- or the read failed
  pub ReadsAhead-fault : (fault : KeeperFault) → ReadsEntries (was_asked_in audit.from audit.to) reached max (Err fault) before after → ReadsAhead audit end (err_of (Unit {0}) (read_fault fault)) old old before after
  ReadsAhead-fault fault reads = record {
    is_after = IsAfterCall-as true false (err_of Store fault) (reading_as_call (err_of (Unit {0}) (read_fault fault))) before after (reading_as_call-read_fault (Unit {0}) Store fault) reads.call;
    stays = λ tells. KeepsSame-Stays before after (reads.stays tells);
    order = rw used tt;
    last = rw used (omega arith);
    onward = tt;
    undamaged = undamaged_by fault;
    told = λ tells history store within place split. split;
  }
