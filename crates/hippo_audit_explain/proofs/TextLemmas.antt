-- From the tables of a query to the denied cells of a logged query.
use Rattle.std.proofs.Common.{◌≡◌, ◌≤◌, ◌∙◌, ℕ, true, false, List, [], length, take, drop, Option, Some, None, Result, Ok, Err, refl, sym, ap, subst, arith}
use Rattle.std.specs.Prelude.{◌-◌, is_some}
use Rattle.std.specs.Option.{option_map_or}
use Rattle.std.proofs.lemmas.Bool.{false≢true}
use Rattle.std.proofs.lemmas.List.{take-append-drop}
use Rattle.std.proofs.lemmas.Option.{none-some, same_Some}
use Rattle.hippo_values.specs.Texts.{Txt}
use Rattle.hippo_values.specs.declared.names.Name.{Name}
use Rattle.hippo_model.specs.declared.entry.Act.TheVariants.{Asked}
use Rattle.hippo_model.specs.declared.entry.Entry.{Entry}
use Rattle.hippo_model.specs.declared.query.Query.{Query}
use Rattle.hippo_model.specs.Denials.{Denial, query_denials, denials_in, denials}
use Rattle.hippo_model.specs.Terms.{History}
use Rattle.hippo_model.specs.Verdicts.{Context}
use Rattle.hippo_model.specs.Versions.{versions}
use Rattle.hippo_keeper.specs.Answering.{has_failed}
use Rattle.hippo_keeper.specs.Keeping.{KeeperState, IsReady}
use Rattle.hippo_typing_catalog.specs.Catalogs.{KnownNames}
use Rattle.hippo_policy.specs.declared.book.PolicyBook.{PolicyBook}
use Rattle.hippo_typing.specs.Meanings.{meaning_in, meaning}
use Rattle.hippo_backlog.specs.declared.faults.ReadFault.TheVariants.{Keeper, Damaged, Memory}
use Rattle.hippo_keeper.proofs.CallLemmas.{KeepsSame-here, IsAfterCall-none, IsAfterCall-as}
use Rattle.hippo_audit_explain.specs.declared.faults.DenialsFault.{DenialsFault}
use Rattle.hippo_audit_explain.specs.declared.faults.DenialsFault.TheVariants.{Read, TooMany}
use Rattle.hippo_audit_explain.specs.declared.rows.RulesThen.{RulesThen}
use Rattle.hippo_audit_explain.specs.Listing.{rules_context}
use Rattle.hippo_audit_explain.specs.Denying.{listing_as_call, FitsQuery, FitsText, tables_denials, text_denials, tables_versions, AddsDenials, ReadsDenials, IsAnswer, Denies}
use Rattle.hippo_audit_explain.proofs.QuestionLemmas.{meanings_last, has_tables, was_asked}
use Rattle.hippo_audit_explain.proofs.VersionCounts.{tables_versions-within}
use Rattle.hippo_audit_explain.proofs.DenyingLemmas.{ReadsDenials-none, ReadsDenials-weaker}

module _ (text : Txt) (names : KnownNames) (rules : RulesThen) (limit : ℕ) where
  abbrev Fits : History → Type 0
  Fits = FitsText text names rules.count rules.book.now

  -- a text means now what it meant at its own time
  meant : (history : History) → Fits history → (query : Query) × (meaning (take rules.count history) text ≡ Some query) × (meaning_in names text ≡ Some query)
  meant history fit = by (meaning (take rules.count history) text) refl fit.means
    where
      by : (found : Option Query) → meaning (take rules.count history) text ≡ found → is_some found ≡ true → (query : Query) × (meaning (take rules.count history) text ≡ Some query) × (meaning_in names text ≡ Some query)
      by None is some = absurd (false≢true some)
      by (Some query) is some = (
        query,
        is,
        ap (λ (k : KnownNames). meaning_in k text) fit.known
            ∙ sym (ap (λ (h : History). meaning h text) (take-append-drop rules.count history))
            ∙ meanings_last (take rules.count history) (drop rules.count history) text query is,
      )

  -- the denied cells of the query that a text means
  pub text_read : (query : Query) (result : Result (Unit {0}) DenialsFault) (old new : List Denial) (before after : KeeperState) (steps steps' : ℕ) → meaning_in names text ≡ Some query
      → ReadsDenials (FitsQuery query.tables names rules.count rules.book.now) (tables_denials rules query query.tables) (tables_versions query.tables) limit result old new before after steps steps'
      → ReadsDenials Fits (text_denials rules text) versions limit result old new before after steps steps'
  text_read query result old new before after steps steps' means reads =
      ReadsDenials-weaker result old new before after steps steps' (λ history store fit.
      let was = meant history fit in
      let same : was.0 ≡ query = same_Some was.0 query (sym was.2 ∙ means) in
      let then_meant : meaning (take rules.count history) text ≡ Some query = was.1 ∙ ap Some same in
      let tables = has_tables (take rules.count history) text query then_meant in (
        record { rules = fit.rules; known = fit.known; created = tables.created; within = fit.within },
        sym (ap (λ (found : Option Query). option_map_or (query_denials (take rules.count history) (rules_context rules)) found []) then_meant),
        tables_versions-within query.tables history tables.differ,
      )) reads

  -- the text of a logged query means something
  pub text_means_nothing : (number : ℕ) (cells : List Denial) (keeper : KeeperState) (steps : ℕ) → IsReady true keeper → meaning_in names text ≡ None
      → ReadsDenials Fits (text_denials rules text) versions limit (Err (Read (Damaged number))) cells cells keeper keeper steps steps
  text_means_nothing number cells keeper steps ready nothing =
      ReadsDenials-none (Err (Read (Damaged number))) cells cells keeper steps ready refl
      (λ history store fit. let was = meant history fit in none-some was.0 (sym nothing ∙ was.2))

  pub text_unread : (cells : List Denial) (keeper : KeeperState) (steps : ℕ) → IsReady true keeper
      → ReadsDenials Fits (text_denials rules text) versions limit (Err (Read Memory)) cells cells keeper keeper steps steps
  text_unread cells keeper steps ready = ReadsDenials-none (Err (Read Memory)) cells cells keeper steps ready refl (λ history store fit. tt)

-- the result, if the list of cells was empty before
abbrev pub answered : Result (Unit {0}) DenialsFault → List Denial → Result (List Denial) DenialsFault
answered (Ok tt) cells = Ok cells
answered (Err fault) cells = Err fault

answer_of : (limit : ℕ) (wanted : List Denial) (result : Result (Unit {0}) DenialsFault) (cells : List Denial) → (result ≡ Ok tt → length cells ≤ limit) → AddsDenials limit wanted result [] cells → IsAnswer limit wanted (answered result cells)
answer_of limit wanted (Ok tt) cells within adds = (adds, subst (λ (l : List Denial). length l ≤ limit) adds (within refl))
answer_of limit wanted (Err TooMany) cells within adds = adds
answer_of limit wanted (Err (Read Keeper)) cells within adds = tt
answer_of limit wanted (Err (Read (Damaged number))) cells within adds = adds
answer_of limit wanted (Err (Read Memory)) cells within adds = tt

answered_same : (result : Result (Unit {0}) DenialsFault) (cells : List Denial) → has_failed (listing_as_call (answered result cells)) ≡ has_failed (listing_as_call result)
answered_same (Ok tt) cells = refl
answered_same (Err TooMany) cells = refl
answered_same (Err (Read Keeper)) cells = refl
answered_same (Err (Read (Damaged number))) cells = refl
answered_same (Err (Read Memory)) cells = refl

-- a logged query's denied cells were listed, or not
pub question_denies : (limit : ℕ) (entry : Entry) (user purpose recipient : Name) (text : Txt) (names : KnownNames) (book : PolicyBook) (count : ℕ) (result : Result (Unit {0}) DenialsFault) (cells : List Denial) (before after : KeeperState) (steps steps' : ℕ)
    → entry.act ≡ Asked user purpose recipient text → count ≡ entry.seq - 1 → (result ≡ Ok tt → length cells ≤ limit)
    → (let context : Context = record { purpose = purpose; recipient = recipient; moment = entry.moment } in
    ReadsDenials (FitsText text names count book) (λ history. option_map_or (query_denials (take count history) context) (meaning (take count history) text) []) versions limit result [] cells before after steps steps')
    → Denies limit entry names book (answered result cells) before after steps steps'
question_denies limit entry user purpose recipient text names book count result cells before after steps steps' act counted within reads = record {
  call = IsAfterCall-as true false (listing_as_call result) (listing_as_call (answered result cells)) before after (answered_same result cells) reads.call;
  stays = reads.stays;
  told = λ tells history store known rules stands.
      let asked = was_asked history entry user purpose recipient text stands act in
      let added = reads.told tells history store (record {
        rules = rules;
        known = known;
        means = subst (λ (n : ℕ). is_some (meaning (take n history) text) ≡ true) (sym counted) asked.means;
        within = subst (λ (n : ℕ). n ≤ length history) (sym counted) asked.within;
      }) in
      let wanted : denials_in meaning (take count history) entry.moment (Asked user purpose recipient text) ≡ denials meaning history entry =
      ap (λ (n : ℕ). denials_in meaning (take n history) entry.moment (Asked user purpose recipient text)) counted
      ∙ ap (denials_in meaning (take (entry.seq - 1) history) entry.moment) (sym act) in
      record {
        answer = subst (λ (w : List Denial). IsAnswer limit w (answered result cells)) wanted (answer_of limit _ result cells within added.adds);
        few = added.few;
      };
}

-- nothing was denied to an entry that is not a logged query
pub none_denied : (limit : ℕ) (entry : Entry) (names : KnownNames) (book : PolicyBook) (keeper : KeeperState) (steps : ℕ) → IsReady true keeper
    → ((history : History) → denials meaning history entry ≡ []) → Denies limit entry names book (Ok []) keeper keeper steps steps
none_denied limit entry names book keeper steps ready none = record {
  call = IsAfterCall-none (listing_as_call {A = List Denial} (Ok [])) keeper refl ready;
  stays = λ tells. KeepsSame-here keeper;
  told = λ tells history store known rules stands. record {
    answer = (sym (none history), subst (λ (l : List Denial). length l ≤ limit) (sym (none history)) (omega arith));
    few = omega arith;
  };
}
