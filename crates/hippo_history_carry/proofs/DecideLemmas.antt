-- The matters on which some entries of a history decide, with one more entry before them.
use Rattle.std.proofs.Common.{◌≡◌, ◌∙◌, ℕ, ℤ, Bool, true, false, cond, not, ◌&&◌, ◌||◌, List, [], ◌∷◌, Option, Some, None, refl, sym, ap}
use Rattle.std.specs.Prelude.{is_some, is_none, nat_eq, bytes_eq}
use Rattle.std.specs.Bool.{then_some}
use Rattle.std.specs.Option.{option_or, option_map_or}
use Rattle.std.specs.List.{list_any}
use Rattle.std.specs.Ordering.{int_eq}
use Rattle.std.specs.Cmp.Lexicographic.{pointwise, lists_ties}
use Rattle.std.proofs.lemmas.Slice.Eq.{bytes_eq-Decides}
use Rattle.indexmap.specs.IndexSet.{contains}
use Rattle.hippo_values.specs.declared.names.Name.{Name}
use Rattle.hippo_values.specs.contracts.values.ValuePartialEq.TheImpl as values
use Rattle.hippo_values.specs.Order.{value_cmp, same_cells}
use Rattle.hippo_values.specs.OrderLaws.{value_ties}
use Rattle.hippo_model.specs.declared.entry.Act.{Act}
use Rattle.hippo_model.specs.declared.entry.Act.TheVariants.{Create, Insert, Update, Delete, Purpose, Recipient, Item, Authorize, Deauthorize, Allow, Revoke, Choice, Asked}
use Rattle.hippo_model.specs.declared.entry.Entry.{Entry}
use Rattle.hippo_model.specs.declared.schema.Schema.{Schema}
use Rattle.hippo_model.specs.Histories.{last_word, schema_at}
use Rattle.hippo_model.specs.Rows.{key_of}
use Rattle.hippo_model.specs.Rules.{RuledCell, rule_in, rule_at, choice_in, choice_at, authorization_in}
use Rattle.hippo_model.specs.Terms.{History, Key, Place, Row}
use Rattle.hippo_tables.proofs.StandingLemmas.{schema_at-named}
use Rattle.hippo_history_carry.specs.declared.decided.Decided.{Decided}
use Rattle.hippo_history_carry.specs.declared.keys.CellKey.{CellKey}
use Rattle.hippo_history_carry.specs.declared.keys.ChoiceKey.{ChoiceKey}
use Rattle.hippo_history_carry.specs.declared.keys.GrantKey.{GrantKey}
use Rattle.hippo_history_carry.specs.declared.keys.RowKey.{RowKey}
use Rattle.hippo_history_carry.specs.Carrying.{is_granted_again, is_inserted_again, inserts_key}
use Rattle.hippo_history_carry.specs.Decisions.{same_grant, same_subject, same_ruled, same_born, is_granted_in, is_chosen_in, is_ruled_in, is_born_in, IsDecidedBy, AddsGrant, AddsChoice, AddsBirth, AddsCells}

some_of_or : {A : Type 0} (later first : Option A) → is_some (option_or later first) ≡ (is_some first || is_some later)
some_of_or (Some word) None = refl
some_of_or (Some word) (Some other) = refl
some_of_or None None = refl
some_of_or None (Some word) = refl

pub some_if_test : {A : Type 0} (test : Bool) (word : A) → is_some (then_some test word) ≡ test
some_if_test true word = refl
some_if_test false word = refl

pub not_some : {A : Type 0} (word : Option A) → not (is_some word) ≡ is_none word
not_some None = refl
not_some (Some word) = refl

and_three : (a b c : Bool) → (a && b && c) ≡ (a && (b && c))
and_three true b c = refl
and_three false b c = refl

and_four : (a b c d : Bool) → (a && b && c && d) ≡ (a && (b && (c && d)))
and_four true true c d = refl
and_four true false c d = refl
and_four false b c d = refl

module _ (entry : Entry) (later : History) where
  pub more_grants : (user purpose recipient : Name) → is_granted_again user purpose recipient (entry ∷ later)
      ≡ (is_some (authorization_in user purpose recipient entry.seq entry.act) || is_granted_again user purpose recipient later)
  more_grants user purpose recipient =
      some_of_or (last_word (λ (e : Entry). authorization_in user purpose recipient e.seq e.act) later) (authorization_in user purpose recipient entry.seq entry.act)

  pub more_choices : (subject : ℤ) (item : Name) → is_some (choice_at (entry ∷ later) subject item) ≡ (is_some (choice_in subject item entry.act) || is_some (choice_at later subject item))
  more_choices subject item = some_of_or (choice_at later subject item) (choice_in subject item entry.act)

  pub more_rules : (purpose recipient table : Name) (column : Place) → is_some (rule_at (entry ∷ later) purpose recipient table column)
      ≡ (is_some (rule_in (record { purpose = purpose; recipient = recipient; table = table; column = column }) entry.seq entry.act) || is_some (rule_at later purpose recipient table column))
  more_rules purpose recipient table column =
      some_of_or (rule_at later purpose recipient table column) (rule_in (record { purpose = purpose; recipient = recipient; table = table; column = column }) entry.seq entry.act)

-- whether an act decides on a matter of each kind
abbrev pub is_about_nobody : Act → Type 0
is_about_nobody act = (number : ℕ) (user purpose recipient : Name) → is_some (authorization_in user purpose recipient number act) ≡ false

abbrev pub chooses_nothing : Act → Type 0
chooses_nothing act = (subject : ℤ) (item : Name) → is_some (choice_in subject item act) ≡ false

abbrev pub rules_nothing : Act → Type 0
rules_nothing act = (number : ℕ) (cell : RuledCell) → is_some (rule_in cell number act) ≡ false

abbrev pub inserts_nothing : Act → Type 0
inserts_nothing act = (schema : Schema) (key : Key) (number : ℕ) (moment : ℤ) → inserts_key schema key (record { seq = number; moment = moment; act = act }) ≡ false

module _ (history later : History) (entry : Entry) (act : Act) (is : entry.act ≡ act) (old : Decided) (decides : IsDecidedBy history old later) where
  still_granted : is_about_nobody act → (user purpose recipient : Name) → is_granted_in old user purpose recipient ≡ is_granted_again user purpose recipient (entry ∷ later)
  still_granted nobody user purpose recipient =
      decides.grants user purpose recipient
      ∙ sym (more_grants entry later user purpose recipient ∙ ap (λ (b : Bool). b || is_granted_again user purpose recipient later) (ap (λ (a : Act). is_some (authorization_in user purpose recipient entry.seq a)) is ∙ nobody entry.seq user purpose recipient))

  still_chosen : chooses_nothing act → (subject : ℤ) (item : Name) → is_chosen_in old subject item ≡ is_some (choice_at (entry ∷ later) subject item)
  still_chosen nothing subject item =
      decides.choices subject item
      ∙ sym (more_choices entry later subject item ∙ ap (λ (b : Bool). b || is_some (choice_at later subject item)) (ap (λ (a : Act). is_some (choice_in subject item a)) is ∙ nothing subject item))

  still_ruled : rules_nothing act → (purpose recipient table : Name) (column : Place) → is_ruled_in old purpose recipient table column ≡ is_some (rule_at (entry ∷ later) purpose recipient table column)
  still_ruled nothing purpose recipient table column =
      let cell : RuledCell = record { purpose = purpose; recipient = recipient; table = table; column = column } in
      decides.cells purpose recipient table column
      ∙ sym (more_rules entry later purpose recipient table column ∙ ap (λ (b : Bool). b || is_some (rule_at later purpose recipient table column)) (ap (λ (a : Act). is_some (rule_in cell entry.seq a)) is ∙ nothing entry.seq cell))

  still_born : inserts_nothing act → (table : Name) (key : Key) (schema : Schema) → schema_at history table ≡ Some schema → is_born_in old table key ≡ is_inserted_again schema key (entry ∷ later)
  still_born nothing table key schema there =
      decides.births table key schema there
      ∙ sym (ap (λ (b : Bool). b || is_inserted_again schema key later) (ap (λ (a : Act). inserts_key schema key (record { seq = entry.seq; moment = entry.moment; act = a })) is ∙ nothing schema key entry.seq entry.moment))

  -- an act that decides on nothing
  pub decides-silent : is_about_nobody act → chooses_nothing act → rules_nothing act → inserts_nothing act → IsDecidedBy history old (entry ∷ later)
  decides-silent nobody chosen ruled born = record { grants = still_granted nobody; choices = still_chosen chosen; cells = still_ruled ruled; births = still_born born }

  -- a word on an authorization
  pub decides-grant : (new : Decided) (user purpose recipient : Name) → AddsGrant old new user purpose recipient
      → ((number : ℕ) (u p r : Name) → is_some (authorization_in u p r number act) ≡ (bytes_eq user u && bytes_eq purpose p && bytes_eq recipient r))
      → chooses_nothing act → rules_nothing act → inserts_nothing act → IsDecidedBy history new (entry ∷ later)
  decides-grant new user purpose recipient adds grants chosen ruled born = record {
    grants = λ u p r. adds.grants u p r
        ∙ (λ i. sym (and_three (bytes_eq user u) (bytes_eq purpose p) (bytes_eq recipient r)) i || decides.grants u p r i)
        ∙ sym (more_grants entry later u p r ∙ ap (λ (b : Bool). b || is_granted_again u p r later) (ap (λ (a : Act). is_some (authorization_in u p r entry.seq a)) is ∙ grants entry.seq u p r));
    choices = λ s i. ap (λ set. contains same_subject set (record { subject = s; item = i })) adds.others.0 ∙ still_chosen chosen s i;
    cells = λ p r t c. ap (λ set. contains same_ruled set (record { purpose = p; recipient = r; table = t; column = c })) adds.others.1 ∙ still_ruled ruled p r t c;
    births = λ t k schema there. ap (λ set. contains same_born set (record { table = t; key = k })) adds.others.2 ∙ still_born born t k schema there;
  }

  -- a choice
  pub decides-choice : (new : Decided) (subject : ℤ) (item : Name) → AddsChoice old new subject item
      → ((s : ℤ) (i : Name) → is_some (choice_in s i act) ≡ (int_eq subject s && bytes_eq item i))
      → is_about_nobody act → rules_nothing act → inserts_nothing act → IsDecidedBy history new (entry ∷ later)
  decides-choice new subject item adds chooses nobody ruled born = record {
    grants = λ u p r. ap (λ set. contains same_grant set (record { user = u; purpose = p; recipient = r })) adds.others.0 ∙ still_granted nobody u p r;
    choices = λ s i. adds.choices s i
        ∙ (λ n. (int_eq subject s && bytes_eq item i) || decides.choices s i n)
        ∙ sym (more_choices entry later s i ∙ ap (λ (b : Bool). b || is_some (choice_at later s i)) (ap (λ (a : Act). is_some (choice_in s i a)) is ∙ chooses s i));
    cells = λ p r t c. ap (λ set. contains same_ruled set (record { purpose = p; recipient = r; table = t; column = c })) adds.others.1 ∙ still_ruled ruled p r t c;
    births = λ t k schema there. ap (λ set. contains same_born set (record { table = t; key = k })) adds.others.2 ∙ still_born born t k schema there;
  }

  -- a rule
  pub decides-rule : (new : Decided) (purpose recipient table : Name) (columns : List Place) → AddsCells old new purpose recipient table columns
      → ((number : ℕ) (p r t : Name) (c : Place) → is_some (rule_in (record { purpose = p; recipient = r; table = t; column = c }) number act)
      ≡ (bytes_eq purpose p && bytes_eq recipient r && bytes_eq table t && list_any (nat_eq c) columns))
      → is_about_nobody act → chooses_nothing act → inserts_nothing act → IsDecidedBy history new (entry ∷ later)
  decides-rule new purpose recipient table columns adds rules nobody chosen born = record {
    grants = λ u p r. ap (λ set. contains same_grant set (record { user = u; purpose = p; recipient = r })) adds.others.0 ∙ still_granted nobody u p r;
    choices = λ s i. ap (λ set. contains same_subject set (record { subject = s; item = i })) adds.others.1 ∙ still_chosen chosen s i;
    cells = λ p r t c. adds.cells p r t c
        ∙ (λ n. sym (and_four (bytes_eq purpose p) (bytes_eq recipient r) (bytes_eq table t) (list_any (nat_eq c) columns)) n || decides.cells p r t c n)
        ∙ sym (more_rules entry later p r t c
        ∙ ap (λ (b : Bool). b || is_some (rule_at later p r t c)) (ap (λ (a : Act). is_some (rule_in (record { purpose = p; recipient = r; table = t; column = c }) entry.seq a)) is ∙ rules entry.seq p r t c));
    births = λ t k schema there. ap (λ set. contains same_born set (record { table = t; key = k })) adds.others.2 ∙ still_born born t k schema there;
  }

Some-same : (a b : Schema) → Some a ≡ Some b → a ≡ b
Some-same a b e = cc

none_found : (a : Schema) → Some a ≡ None → ⊥
none_found a e = cc

exact : (a b : Name) → bytes_eq a b ≡ true → a ≡ b
exact a b same = (bytes_eq-Decides a b).0 same

-- a table that exists has its name
named_so : (history : History) (name : Name) (schema : Schema) → schema_at history name ≡ Some schema → schema.name ≡ name
named_so history name schema found = exact schema.name name (schema_at-named history name schema found)

-- keys are equal exactly when they are the same
pub keys_same : (one other : Key) → pointwise (values.ghosts).eq one other ≡ same_cells one other
keys_same = lists_ties value_cmp value_ties

-- an INSERT into a table that exists
module _ (history later : History) (entry : Entry) (table : Name) (row : Row) (is : entry.act ≡ Insert table row) (schema : Schema) (there : schema_at history table ≡ Some schema) (old : Decided) (decides : IsDecidedBy history old later) where
  -- whether the entry inserts a key of another table with this name
  inserted_now : (name : Name) (key : Key) (other : Schema) → schema_at history name ≡ Some other
      → inserts_key other key entry ≡ (bytes_eq table name && pointwise (values.ghosts).eq (key_of schema.key row) key)
  inserted_now name key other found =
      let named : bytes_eq table other.name ≡ bytes_eq table name = ap (bytes_eq table) (named_so history name other found) in
      ap (λ (a : Act). inserts_key other key (record { seq = entry.seq; moment = entry.moment; act = a })) is ∙ by (bytes_eq table other.name) refl named
    where
      by : (test : Bool) → bytes_eq table other.name ≡ test → bytes_eq table other.name ≡ bytes_eq table name
          → option_map_or (λ named. same_cells named key) (then_some test (key_of other.key row)) false ≡ (bytes_eq table name && pointwise (values.ghosts).eq (key_of schema.key row) key)
      by false e so = ap (λ (b : Bool). b && pointwise (values.ghosts).eq (key_of schema.key row) key) (sym e ∙ so)
      by true e so =
          let same : table ≡ name = exact table name (sym so ∙ e) in
          let alike : other ≡ schema = Some-same other schema (sym found ∙ ap (schema_at history) (sym same) ∙ there) in
          ap (λ (s : Schema). same_cells (key_of s.key row) key) alike ∙ sym (keys_same (key_of schema.key row) key) ∙ ap (λ (b : Bool). b && pointwise (values.ghosts).eq (key_of schema.key row) key) (sym e ∙ so)

  pub decides-birth : (new : Decided) → AddsBirth old new table (key_of schema.key row) → IsDecidedBy history new (entry ∷ later)
  decides-birth new adds = record {
    grants = λ u p r. ap (λ set. contains same_grant set (record { user = u; purpose = p; recipient = r })) adds.others.0 ∙ still_granted history later entry (Insert table row) is old decides (λ n u p r. refl) u p r;
    choices = λ s i. ap (λ set. contains same_subject set (record { subject = s; item = i })) adds.others.1 ∙ still_chosen history later entry (Insert table row) is old decides (λ s i. refl) s i;
    cells = λ p r t c. ap (λ set. contains same_ruled set (record { purpose = p; recipient = r; table = t; column = c })) adds.others.2 ∙ still_ruled history later entry (Insert table row) is old decides (λ n c. refl) p r t c;
    births = λ name key other found. adds.births name key ∙ λ i. sym (inserted_now name key other found) i || decides.births name key other found i;
  }

-- an INSERT into a table that does not exist
module _ (history later : History) (entry : Entry) (table : Name) (row : Row) (is : entry.act ≡ Insert table row) (missing : schema_at history table ≡ None) (old : Decided) (decides : IsDecidedBy history old later) where
  inserted_never : (name : Name) (key : Key) (other : Schema) → schema_at history name ≡ Some other → inserts_key other key entry ≡ false
  inserted_never name key other found =
      ap (λ (a : Act). inserts_key other key (record { seq = entry.seq; moment = entry.moment; act = a })) is ∙ by (bytes_eq table other.name) refl
    where
      by : (test : Bool) → bytes_eq table other.name ≡ test → option_map_or (λ named. same_cells named key) (then_some test (key_of other.key row)) false ≡ false
      by false e = refl
      by true e =
          let same : table ≡ name = exact table name (ap (bytes_eq table) (sym (named_so history name other found)) ∙ e) in
          absurd (none_found other (sym found ∙ ap (schema_at history) (sym same) ∙ missing))

  pub decides-nowhere : IsDecidedBy history old (entry ∷ later)
  decides-nowhere = record {
    grants = λ u p r. still_granted history later entry (Insert table row) is old decides (λ n u p r. refl) u p r;
    choices = λ s i. still_chosen history later entry (Insert table row) is old decides (λ s i. refl) s i;
    cells = λ p r t c. still_ruled history later entry (Insert table row) is old decides (λ n c. refl) p r t c;
    births = λ name key other found. decides.births name key other found ∙ ap (λ (b : Bool). b || is_inserted_again other key later) (sym (inserted_never name key other found));
  }
