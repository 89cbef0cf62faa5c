-- What is left of an act of each kind, by what is decided.
use Rattle.std.proofs.Common.{◌≡◌, ◌∙◌, ℕ, ℤ, Bool, true, false, not, ◌&&◌, List, [], ◌∷◌, Option, Some, None, Ok, Result, refl, sym, ap, subst, ◌+◌, ◌-◌, ◌<◌, ◌≤◌, drop, get_or, arith}
use Rattle.std.specs.Prelude.{is_some, is_none, nat_eq, nat_lt, bytes_eq, filter, length, option_map, option_and_then, IfOk, OnOk, if◌then◌else◌}
use Rattle.std.specs.Bool.{then_some}
use Rattle.std.specs.List.{list_any}
use Rattle.std.specs.Ordering.{int_eq}
use Rattle.std.proofs.lemmas.Bool.{false≢true}
use Rattle.std.proofs.lemmas.List.{drop_all, drop_more}
use Rattle.std.proofs.lemmas.Result.{IfOk-weaker, on_ok_weaker}
use Rattle.hippo_values.specs.declared.memory.Memory.{Memory}
use Rattle.hippo_values.specs.declared.names.Name.{Name}
use Rattle.hippo_model.specs.declared.entry.Act.{Act}
use Rattle.hippo_model.specs.declared.entry.Act.TheVariants.{Create, Insert, Update, Delete, Purpose, Recipient, Item, Authorize, Deauthorize, Allow, Revoke, Choice, Asked}
use Rattle.hippo_model.specs.declared.entry.Entry.{Entry}
use Rattle.hippo_model.specs.declared.schema.Schema.{Schema}
use Rattle.hippo_model.specs.Histories.{schema_at}
use Rattle.hippo_model.specs.Rows.{key_of, row_at}
use Rattle.hippo_model.specs.Rules.{rule_at, choice_at}
use Rattle.hippo_model.specs.Terms.{History, Key, Place, Row}
use Rattle.hippo_tables.specs.declared.tables.Tables.{Tables}
use Rattle.hippo_tables.specs.Finished.{live_row}
use Rattle.hippo_tables.specs.Standing.{TablesStandFor}
use Rattle.hippo_history_carry.specs.declared.decided.Decided.{Decided}
use Rattle.hippo_history_carry.specs.Carrying.{may_stay, rule_on, columns_left, is_granted_again, is_inserted_again, birth_of, birth_left, act_left}
use Rattle.hippo_history_carry.specs.Decisions.{IsDecidedBy, is_granted_in, is_chosen_in, is_ruled_in, is_born_in, AddsGrant, AddsChoice, AddsBirth, AddsCells}
use Rattle.hippo_history_carry.specs.Leaving.{LeavesAct, undecided}
use Rattle.hippo_history_carry.proofs.DecideLemmas.{some_if_test, not_some, decides-silent, decides-grant, decides-choice, decides-rule, decides-birth, decides-nowhere}

-- acts that decide on no matter
abbrev pub is_silent : Act → Bool
is_silent (Create schema) = true
is_silent (Update table row) = true
is_silent (Delete table key) = true
is_silent (Purpose name) = true
is_silent (Recipient name) = true
is_silent (Item name kind) = true
is_silent (Asked user purpose recipient text) = true
is_silent act = false

module _ (tables : Tables) (result : Result (Option Act) Memory) (old : Decided) where
  silent_left : (act : Act) → is_silent act ≡ true → (history later : History) → then_some (may_stay act) act ≡ act_left history later act
  silent_left (Create schema) is history later = refl
  silent_left (Update table row) is history later = refl
  silent_left (Delete table key) is history later = refl
  silent_left (Purpose name) is history later = refl
  silent_left (Recipient name) is history later = refl
  silent_left (Item name kind) is history later = refl
  silent_left (Asked user purpose recipient text) is history later = refl
  silent_left (Insert table row) is history later = absurd (false≢true is)
  silent_left (Authorize user purpose recipient) is history later = absurd (false≢true is)
  silent_left (Deauthorize user purpose recipient) is history later = absurd (false≢true is)
  silent_left (Allow purpose recipient table columns item days) is history later = absurd (false≢true is)
  silent_left (Revoke purpose recipient table columns) is history later = absurd (false≢true is)
  silent_left (Choice subject item agreed) is history later = absurd (false≢true is)

  silent_decides : (act : Act) → is_silent act ≡ true → (history later : History) (entry : Entry) → entry.act ≡ act → IsDecidedBy history old later → IsDecidedBy history old (entry ∷ later)
  silent_decides (Create schema) is history later entry e decides = decides-silent history later entry (Create schema) e old decides (λ n u p r. refl) (λ s i. refl) (λ n c. refl) (λ s k n m. refl)
  silent_decides (Update table row) is history later entry e decides = decides-silent history later entry (Update table row) e old decides (λ n u p r. refl) (λ s i. refl) (λ n c. refl) (λ s k n m. refl)
  silent_decides (Delete table key) is history later entry e decides = decides-silent history later entry (Delete table key) e old decides (λ n u p r. refl) (λ s i. refl) (λ n c. refl) (λ s k n m. refl)
  silent_decides (Purpose name) is history later entry e decides = decides-silent history later entry (Purpose name) e old decides (λ n u p r. refl) (λ s i. refl) (λ n c. refl) (λ s k n m. refl)
  silent_decides (Recipient name) is history later entry e decides = decides-silent history later entry (Recipient name) e old decides (λ n u p r. refl) (λ s i. refl) (λ n c. refl) (λ s k n m. refl)
  silent_decides (Item name kind) is history later entry e decides = decides-silent history later entry (Item name kind) e old decides (λ n u p r. refl) (λ s i. refl) (λ n c. refl) (λ s k n m. refl)
  silent_decides (Asked user purpose recipient text) is history later entry e decides = decides-silent history later entry (Asked user purpose recipient text) e old decides (λ n u p r. refl) (λ s i. refl) (λ n c. refl) (λ s k n m. refl)
  silent_decides (Insert table row) is history later entry e decides = absurd (false≢true is)
  silent_decides (Authorize user purpose recipient) is history later entry e decides = absurd (false≢true is)
  silent_decides (Deauthorize user purpose recipient) is history later entry e decides = absurd (false≢true is)
  silent_decides (Allow purpose recipient table columns item days) is history later entry e decides = absurd (false≢true is)
  silent_decides (Revoke purpose recipient table columns) is history later entry e decides = absurd (false≢true is)
  silent_decides (Choice subject item agreed) is history later entry e decides = absurd (false≢true is)

  as_ok : (P : Type 0) → P → OnOk result P
  as_ok P holds = by result
    where
      by : (r : Result (Option Act) Memory) → OnOk r P
      by (Ok value) = holds
      by other = tt

  pub leaves-silent : (act : Act) → is_silent act ≡ true → IfOk result (λ left. left ≡ then_some (may_stay act) act) → LeavesAct act tables result old old
  leaves-silent act is left = record {
    left = λ history later stands decides. IfOk-weaker result (λ l. l ≡ then_some (may_stay act) act) (λ l. l ≡ act_left history later act) (λ l e. e ∙ silent_left act is history later) left;
    decides = λ history later entry e stands decides. as_ok (IsDecidedBy history old (entry ∷ later)) (silent_decides act is history later entry e decides);
  }

  module _ (new : Decided) where
    -- a word on an authorization
    module _ (user purpose recipient : Name) (adds : OnOk result (AddsGrant old new user purpose recipient)) where
      granted_left : (act : Act) → IfOk result (λ left. left ≡ then_some (not (is_granted_in old user purpose recipient)) act) → (history later : History) → IsDecidedBy history old later
          → IfOk result (λ left. left ≡ then_some (not (is_granted_again user purpose recipient later)) act)
      granted_left act left history later decides =
          IfOk-weaker result (λ l. l ≡ then_some (not (is_granted_in old user purpose recipient)) act) (λ l. l ≡ then_some (not (is_granted_again user purpose recipient later)) act)
          (λ l e. e ∙ ap (λ (b : Bool). then_some (not b) act) (decides.grants user purpose recipient)) left

      pub leaves-authorize : IfOk result (λ left. left ≡ then_some (not (is_granted_in old user purpose recipient)) (Authorize user purpose recipient)) → LeavesAct (Authorize user purpose recipient) tables result old new
      leaves-authorize left = record {
        left = λ history later stands decides. granted_left (Authorize user purpose recipient) left history later decides;
        decides = λ history later entry e stands decides. on_ok_weaker result
            (λ added. decides-grant history later entry (Authorize user purpose recipient) e old decides new user purpose recipient added (λ n u p r. some_if_test (bytes_eq user u && bytes_eq purpose p && bytes_eq recipient r) _) (λ s i. refl) (λ n c. refl) (λ s k n m. refl)) adds;
      }

      pub leaves-deauthorize : IfOk result (λ left. left ≡ then_some (not (is_granted_in old user purpose recipient)) (Deauthorize user purpose recipient)) → LeavesAct (Deauthorize user purpose recipient) tables result old new
      leaves-deauthorize left = record {
        left = λ history later stands decides. granted_left (Deauthorize user purpose recipient) left history later decides;
        decides = λ history later entry e stands decides. on_ok_weaker result
            (λ added. decides-grant history later entry (Deauthorize user purpose recipient) e old decides new user purpose recipient added (λ n u p r. some_if_test (bytes_eq user u && bytes_eq purpose p && bytes_eq recipient r) _) (λ s i. refl) (λ n c. refl) (λ s k n m. refl)) adds;
      }

    -- a choice
    pub leaves-choice : (subject : ℤ) (item : Name) (agreed : Bool) → IfOk result (λ left. left ≡ then_some (not (is_chosen_in old subject item)) (Choice subject item agreed)) → OnOk result (AddsChoice old new subject item)
        → LeavesAct (Choice subject item agreed) tables result old new
    leaves-choice subject item agreed left adds = record {
      left = λ history later stands decides. IfOk-weaker result (λ l. l ≡ then_some (not (is_chosen_in old subject item)) (Choice subject item agreed)) (λ l. l ≡ then_some (is_none (choice_at later subject item)) (Choice subject item agreed))
          (λ l e. e ∙ ap (λ (b : Bool). then_some b (Choice subject item agreed)) (ap not (decides.choices subject item) ∙ not_some (choice_at later subject item))) left;
      decides = λ history later entry e stands decides. on_ok_weaker result
          (λ added. decides-choice history later entry (Choice subject item agreed) e old decides new subject item added (λ s i. some_if_test (int_eq subject s && bytes_eq item i) agreed) (λ n u p r. refl) (λ n c. refl) (λ s k n m. refl)) adds;
    }

    -- a rule
    module _ (purpose recipient table : Name) (columns : List Place) (adds : OnOk result (AddsCells old new purpose recipient table columns)) where
      same_columns : (history later : History) → IsDecidedBy history old later → undecided old purpose recipient table columns ≡ columns_left purpose recipient table columns later
      same_columns history later decides i = filter (λ column. (ap not (decides.cells purpose recipient table column) ∙ not_some (rule_at later purpose recipient table column)) i) columns

      rule_stays : (rule : List Place → Act) → IfOk result (λ left. left ≡ rule_on rule (undecided old purpose recipient table columns)) → (history later : History) → IsDecidedBy history old later
          → IfOk result (λ left. left ≡ rule_on rule (columns_left purpose recipient table columns later))
      rule_stays rule left history later decides =
          IfOk-weaker result (λ l. l ≡ rule_on rule (undecided old purpose recipient table columns)) (λ l. l ≡ rule_on rule (columns_left purpose recipient table columns later))
          (λ l e. e ∙ ap (rule_on rule) (same_columns history later decides)) left

      pub leaves-allow : (item : Option Name) (days : Option ℕ) → IfOk result (λ left. left ≡ rule_on (λ columns. Allow purpose recipient table columns item days) (undecided old purpose recipient table columns))
          → LeavesAct (Allow purpose recipient table columns item days) tables result old new
      leaves-allow item days left = record {
        left = λ history later stands decides. rule_stays (λ columns. Allow purpose recipient table columns item days) left history later decides;
        decides = λ history later entry e stands decides. on_ok_weaker result
            (λ added. decides-rule history later entry (Allow purpose recipient table columns item days) e old decides new purpose recipient table columns added
            (λ n p r t c. some_if_test (bytes_eq purpose p && bytes_eq recipient r && bytes_eq table t && list_any (nat_eq c) columns) _) (λ n u p r. refl) (λ s i. refl) (λ s k n m. refl)) adds;
      }

      pub leaves-revoke : IfOk result (λ left. left ≡ rule_on (Revoke purpose recipient table) (undecided old purpose recipient table columns)) → LeavesAct (Revoke purpose recipient table columns) tables result old new
      leaves-revoke left = record {
        left = λ history later stands decides. rule_stays (Revoke purpose recipient table) left history later decides;
        decides = λ history later entry e stands decides. on_ok_weaker result
            (λ added. decides-rule history later entry (Revoke purpose recipient table columns) e old decides new purpose recipient table columns added
            (λ n p r t c. some_if_test (bytes_eq purpose p && bytes_eq recipient r && bytes_eq table t && list_any (nat_eq c) columns) _) (λ n u p r. refl) (λ s i. refl) (λ s k n m. refl)) adds;
      }

-- an INSERT into a table that does not exist
pub leaves-nowhere : (tables : Tables) (decided : Decided) (table : Name) (row : Row) → ((history : History) → TablesStandFor tables history → None ≡ schema_at history table) → LeavesAct (Insert table row) tables (Ok None) decided decided
leaves-nowhere tables decided table row there = record {
  left = λ history later stands decides. ap (option_and_then (λ schema. birth_of history later table schema (key_of schema.key row))) (there history stands);
  decides = λ history later entry e stands decides. decides-nowhere history later entry table row e (sym (there history stands)) decided decides;
}

-- an INSERT into one that exists
module _ (tables : Tables) (result : Result (Option Act) Memory) (old new : Decided) (table : Name) (row : Row) (schema : Schema) (key : Key) (is : key ≡ key_of schema.key row) (there : (history : History) → TablesStandFor tables history → Some schema ≡ schema_at history table) where
  pub leaves-birth : ((history later : History) (s : Schema) → TablesStandFor tables history → IsDecidedBy history old later → schema_at history table ≡ Some s → IfOk result (λ left. left ≡ birth_of history later table s key))
      → OnOk result (AddsBirth old new table key) → LeavesAct (Insert table row) tables result old new
  leaves-birth left adds = record {
    left = λ history later stands decides. IfOk-weaker result (λ l. l ≡ birth_of history later table schema key) (λ l. l ≡ act_left history later (Insert table row))
        (λ l e. e ∙ ap (birth_of history later table schema) is ∙ ap (option_and_then (λ s. birth_of history later table s (key_of s.key row))) (there history stands))
        (left history later schema stands decides (sym (there history stands)));
    decides = λ history later entry e stands decides. on_ok_weaker result
        (λ added. decides-birth history later entry table row e schema (sym (there history stands)) old decides new (subst (λ (k : Key). AddsBirth old new table k) is added)) adds;
  }

-- walking backwards
pub none_yet : (entries : History) → drop (length entries - 0) entries ≡ []
none_yet entries = drop_all (length entries - 0) entries (omega arith)

pub one_more_entry : (entries : History) (place : ℕ) (entry : Entry) → place < length entries → entry ≡ get_or entries (length entries - 1 - place) entry → drop (length entries - (place + 1)) entries ≡ entry ∷ drop (length entries - place) entries
one_more_entry entries place entry within is =
    let here : length entries - (place + 1) ≡ length entries - 1 - place = omega arith in
    let next : length entries - 1 - place + 1 ≡ length entries - place = omega arith in
    ap (λ (n : ℕ). drop n entries) here ∙ drop_more entries (length entries - 1 - place) entry (omega arith)
    ∙ (λ i. sym is i ∷ drop (next i) entries)

pub all_of_them : (entries : History) (place : ℕ) → length entries ≤ place → drop (length entries - place) entries ≡ entries
all_of_them entries place past = let none : length entries - place ≡ 0 = omega arith in ap (λ (n : ℕ). drop n entries) none
