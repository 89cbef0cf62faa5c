-- A watch that fits a history, when one more entry is added or removed again; and the tuple that it
-- shares with a question.
use Rattle.std.proofs.Common.{◌≡◌, ◌∙◌, sym, ap, subst, true, false, List, [], ◌∷◌, ◌++◌, Option, None, Some}
use Rattle.hippo_values.specs.declared.names.Name.{Name}
use Rattle.hippo_model.specs.declared.audit.Audit.{Audit}
use Rattle.hippo_model.specs.declared.audit.SharedRow.{SharedRow}
use Rattle.hippo_model.specs.declared.entry.Act.{Act}
use Rattle.hippo_model.specs.declared.entry.Entry.{Entry}
use Rattle.hippo_model.specs.declared.schema.Schema.{Schema}
use Rattle.hippo_model.specs.Terms.{History}
use Rattle.hippo_model.specs.Histories.{schema_at}
use Rattle.hippo_tables.specs.declared.tables.Tables.{Tables}
use Rattle.hippo_tables.specs.Standing.{TablesStandFor}
use Rattle.hippo_typing.specs.Meanings.{meaning}
use Rattle.hippo_model_laws.specs.Hits.{HasNoHits}
use Rattle.hippo_model_laws.proofs.HitsTheorem.{shares_none}
use Rattle.hippo_backlog.proofs.VersionsTheorem.{schemas_last}
use Rattle.hippo_audit_job.specs.Examining.{IsAuditOf}
use Rattle.hippo_audit_job.proofs.JobLemmas.{IsAuditOf-longer}
use Rattle.hippo_watch_counts.specs.declared.counts.AuditHits.{AuditHits}
use Rattle.hippo_watch_counts.specs.Counts.{AreHits, HasNone, taken_in, taken_back}
use Rattle.hippo_watch_counts.proofs.ChangedCounts.{AreHits-no_version, AreHits-taken_in, AreHits-taken_back, audit_stays}
use Rattle.hippo_watch.specs.declared.alarms.AskedNow.{AskedNow}
use Rattle.hippo_watch.specs.Alarms.{SharesNext}
use Rattle.hippo_watch.specs.Watches.{IsWatchOf, WatchFollows, WatchGoesBack, SharesWatched}
use Rattle.hippo_watch.proofs.AlarmLemmas.{query, context, shared_then}
use Rattle.hippo_model.specs.Validity.{is_valid}
use Rattle.hippo_model.specs.Versions.{is_version}

module _ (history : History) (entry : Entry) (valid : is_valid meaning (history ++ entry ∷ []) ≡ true) where
  lasts : (table : Name) (schema : Schema) → schema_at history table ≡ Some schema → schema_at (history ++ entry ∷ []) table ≡ Some schema
  lasts table schema at = schemas_last meaning history (entry ∷ []) table schema valid at

  -- if an entry changes no row, a watch fits the longer history
  pub IsWatchOf-no_version : (watch : AuditHits) → is_version entry.act ≡ false → IsWatchOf history watch → IsWatchOf (history ++ entry ∷ []) watch
  IsWatchOf-no_version watch none is = record {
    audit_is = IsAuditOf-longer history (entry ∷ []) valid watch.audit is.audit_is;
    hits_are = AreHits-no_version history watch.audit entry lasts is.audit_is.created watch.hits none is.hits_are;
  }

module _ (tables : Tables) (act : Act) (old new : AuditHits) where
  -- a watch that takes an act in fits the longer history
  pub follows_so : ((history : History) → TablesStandFor tables history → new ≡ taken_in history act old) → WatchFollows tables act old new
  follows_so takes = λ history entry is next watches.
      let audit = old.audit in
      let stays = (audit_stays history entry.act old).0 in
      let takes_so : new ≡ taken_in history entry.act old = takes history next.stands ∙ ap (λ (a : Act). taken_in history a old) (sym is) in
      subst (IsWatchOf (history ++ entry ∷ [])) (sym takes_so) (record {
        audit_is = subst (IsAuditOf (history ++ entry ∷ [])) (sym stays) (IsAuditOf-longer history (entry ∷ []) next.valid audit watches.audit_is);
        hits_are = subst (λ (a : Audit). AreHits (history ++ entry ∷ []) a (taken_in history entry.act old).hits) (sym stays)
            (AreHits-taken_in history audit entry (lasts history entry next.valid) watches.audit_is.created watches.audit_is.differ next.few old.hits watches.hits_are);
      })

  -- a watch that takes it back fits the history again
  pub goes_back_so : ((history : History) → TablesStandFor tables history → new ≡ taken_back history act old) → WatchGoesBack tables act old new
  goes_back_so takes = λ history entry is next was.
      let stays = (audit_stays history entry.act old).1 in
      let takes_so : new ≡ taken_back history entry.act old = takes history next.stands ∙ ap (λ (a : Act). taken_back history a old) (sym is) in
      subst (IsWatchOf history) (sym takes_so) (record {
        audit_is = subst (IsAuditOf history) (sym stays) was.audit_is;
        hits_are = subst (λ (a : Audit). AreHits history a (taken_back history entry.act old).hits) (sym stays)
            (AreHits-taken_back history old.audit entry (lasts history entry next.valid) was.audit_is.created was.audit_is.differ next.few old.hits was.is_now.hits_are);
      })

module _ (asked : AskedNow) (watch : AuditHits) where
  -- the tuple that its audit shares
  pub shares_audited : (found : Option (List SharedRow)) → SharesNext asked watch.audit found → SharesWatched asked watch found
  shares_audited found shares = λ history entry next is. shares history entry next is.audit_is

  -- if a table has no hits, nothing is shared
  pub shares_unhit : HasNone watch.audit watch.hits → SharesWatched asked watch None
  shares_unhit unhit = λ history entry next is.
      let none : HasNoHits history watch.audit = record { table = unhit.table; within = unhit.within; none = sym (is.hits_are.each unhit.table unhit.within) ∙ unhit.none } in
      sym (shared_then asked watch.audit history entry next ∙ shares_none history watch.audit none (context asked watch.audit) (query asked watch.audit))
