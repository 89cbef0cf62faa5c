-- The text of acts that name no table reads back.
use Rattle.std.proofs.Common.{◌≡◌, ℤ, true, false, ◌&&◌, [], ◌∷◌, ◌++◌, Option, Some, Ok, refl, sym, subst, codes}
use Rattle.std.specs.Fmt.{signed_decimal}
use Rattle.std.proofs.lemmas.Bool.{and_parts, false≢true}
use Rattle.hippo_values.specs.Moments.{is_signed_number}
use Rattle.hippo_values.specs.Texts.{Txt}
use Rattle.hippo_values.specs.declared.names.Name.{Name}
use Rattle.hippo_values.specs.declared.keywords.Keyword as words
use Rattle.hippo_values.specs.declared.keywords.Keyword.TheVariants.{KAuthorize, KChoice, KCreate, KDeauthorize, KFor, KIn, KIs, KItem, KNo, KOn, KOpt, KOut, KPurpose, KRecipient, KYes}
use Rattle.hippo_lexer.specs.Cutting.{outcome_of}
use Rattle.hippo_lexer.specs.declared.kinds.Symbol.TheVariants.{Comma}
use Rattle.hippo_lexer.specs.declared.kinds.TokenKind.TheVariants.{Word, Keyword, Number, Symbol}
use Rattle.hippo_lexer.proofs.RunLemmas.{cut-is}
use Rattle.hippo_model.specs.declared.entry.Act.{Act}
use Rattle.hippo_model.specs.declared.entry.Act.TheVariants.{Purpose, Recipient, Item, Authorize, Deauthorize, Choice}
use Rattle.hippo_model.specs.declared.entry.ItemKind.TheVariants.{OptIn, OptOut}
use Rattle.hippo_model.specs.declared.schema.Schema.{Schema}
use Rattle.hippo_stmt_ast.specs.declared.statement.Stmt.{Stmt}
use Rattle.hippo_stmt_ast.specs.declared.statement.Stmt.TheVariants as stmt
use Rattle.hippo_model.specs.declared.wanted.Wanted.TheVariants.{Ready}
use Rattle.hippo_model.specs.Keepable.{is_folded_name}
use Rattle.hippo_model.specs.Terms.{History}
use Rattle.hippo_spj_reader.specs.Front.{Kinds}
use Rattle.hippo_stmt_reader.specs.StatementGrammar.{IsConsole, create_purpose, create_recipient, create_opt_in, create_opt_out, authorize, deauthorize, choice_yes, choice_no, no_semicolon, console}
use Rattle.hippo_stmt_reader.proofs.StatementTheorem.{complete}
use Rattle.hippo_typing_catalog.specs.Catalogs.{known_at}
use Rattle.hippo_typing_catalog.specs.ChangesWanted.{wanted_by}
use Rattle.hippo_typing_laws.proofs.FitWords.{AreFit, words-fit}
use Rattle.hippo_history_laws.proofs.FitLemmas.{flat-fit}
use Rattle.hippo_history_statements.specs.Telling.{grant_text, act_statement}
use Rattle.hippo_history_laws.specs.TellingLaws.{ReadsAs, ReadsBack, NamesReadBack}
use Rattle.hippo_history_laws.proofs.SayingLemmas.{Says, Spells, says-blank, says-word, says-last_word, says-name, says-name_first, says-last_name}
use Rattle.hippo_history_laws.proofs.SpellingLemmas.{says-number_first, says-comma, authorize-word, choice-word, create-word, deauthorize-word, for-word, in-word, is-word, item-word, no-word, on-word, opt-word, out-word, purpose-word, recipient-word, yes-word}

-- a text with the tokens of a console statement parses as it
pub console-reads : (text : Txt) (said : Kinds) (s : Stmt) → Says text said → AreFit said
    → IsConsole said s [] → ReadsAs text s
unfolding outcome_of
console-reads text said s says fit is =
    let cut = says 0 in
    record {
      tokens = cut.0;
      cut = cut-is 0 text (Ok cut.0) cut.1;
      words = words-fit cut.0 (subst AreFit (sym cut.2) fit);
      found = complete cut.0 s
          (console (subst (λ (k : Kinds). IsConsole k s []) (sym cut.2) is) no_semicolon);
    }

-- the tokens of CREATE: what is created, and its name
abbrev created_said : words.Keyword → Name → Kinds
created_said keyword name = Keyword KCreate ∷ Keyword keyword ∷ Word name ∷ []

pub created-reads : (word : Txt) (keyword : words.Keyword) (name : Name) (s : Stmt)
    → Spells word keyword
    → is_folded_name name ≡ true → AreFit (created_said keyword name)
    → IsConsole (created_said keyword name) s []
    → ReadsAs (codes "CREATE " ++ (word ++ 32 ∷ name)) s
created-reads word keyword name s spells is fit grammatical =
    let says : Says (codes "CREATE " ++ (word ++ 32 ∷ name)) (created_said keyword name) =
    says-word (codes "CREATE") (word ++ 32 ∷ name) KCreate _ create-word
    (says-word word name keyword _ spells (says-last_name name is)) in
    console-reads _ (created_said keyword name) s says fit grammatical

-- an item, and how silence on it is read
abbrev item_said : Name → words.Keyword → Kinds
item_said item keyword =
    Keyword KCreate ∷ Keyword KItem ∷ Word item ∷ Keyword KOpt ∷ Keyword keyword ∷ []

pub item-reads : (item : Name) (word : Txt) (keyword : words.Keyword) (s : Stmt)
    → Spells word keyword
    → is_folded_name item ≡ true → AreFit (item_said item keyword)
    → IsConsole (item_said item keyword) s []
    → ReadsAs (codes "CREATE ITEM " ++ (item ++ (codes " OPT " ++ word))) s
item-reads item word keyword s spells is fit grammatical =
    let says : Says (codes "CREATE ITEM " ++ (item ++ (codes " OPT " ++ word)))
    (item_said item keyword) =
    says-word (codes "CREATE") (codes "ITEM " ++ (item ++ (codes " OPT " ++ word))) KCreate _
    create-word
    (says-word (codes "ITEM") (item ++ (codes " OPT " ++ word)) KItem _ item-word
    (says-name_first item (codes "OPT " ++ word) _ is
    (says-word (codes "OPT") word KOpt _ opt-word (says-last_word word keyword spells)))) in
    console-reads _ (item_said item keyword) s says fit grammatical

-- three names in lower case
pub three-names : (a b c : Name) → (is_folded_name a && is_folded_name b && is_folded_name c) ≡ true
    → (is_folded_name a ≡ true) × (is_folded_name b ≡ true) × (is_folded_name c ≡ true)
three-names a b c are =
    let two = and_parts (is_folded_name a && is_folded_name b) (is_folded_name c) are in
    let one = and_parts (is_folded_name a) (is_folded_name b) two.0 in
    (one.0, one.1, two.1)

grant-says : (user purpose recipient : Name)
    → (is_folded_name user && is_folded_name purpose && is_folded_name recipient) ≡ true →
    Says (grant_text user purpose recipient)
    (Word user ∷ Keyword KFor ∷ Word purpose ∷ Symbol Comma ∷ Word recipient ∷ [])
grant-says user purpose recipient are =
    let named = three-names user purpose recipient are in
    says-name_first user (codes "FOR " ++ (purpose ++ (codes ", " ++ recipient))) _ named.0
    (says-word (codes "FOR") (purpose ++ (codes ", " ++ recipient)) KFor _ for-word
    (says-name purpose (codes ", " ++ recipient) _ named.1 refl
    (says-comma (32 ∷ recipient) _ (says-blank recipient _ (says-last_name recipient named.2)))))

abbrev grant_said : words.Keyword → Name → Name → Name → Kinds
grant_said keyword user purpose recipient =
    Keyword keyword ∷ Word user ∷ Keyword KFor ∷ Word purpose ∷ Symbol Comma ∷ Word recipient ∷ []

pub grant-reads : (word : Txt) (keyword : words.Keyword) (user purpose recipient : Name) (s : Stmt)
    → Spells word keyword
    → (is_folded_name user && is_folded_name purpose && is_folded_name recipient) ≡ true
    → AreFit (grant_said keyword user purpose recipient)
    → IsConsole (grant_said keyword user purpose recipient) s []
    → ReadsAs (word ++ 32 ∷ grant_text user purpose recipient) s
grant-reads word keyword user purpose recipient s spells are fit grammatical =
    let said : Kinds = grant_said keyword user purpose recipient in
    let says : Says (word ++ 32 ∷ grant_text user purpose recipient) said =
    says-word word (grant_text user purpose recipient) keyword _ spells
    (grant-says user purpose recipient are) in
    console-reads _ said s says fit grammatical

-- a patient's answer
abbrev choice_said : ℤ → Name → words.Keyword → Kinds
choice_said subject item answer =
    Keyword KChoice ∷ Number subject ∷ Keyword KOn ∷ Word item ∷ Keyword KIs ∷ Keyword answer ∷ []

pub choice-reads : (subject : ℤ) (item : Name) (word : Txt) (answer : words.Keyword) (s : Stmt)
    → Spells word answer
    → is_signed_number subject ≡ true → is_folded_name item ≡ true
    → AreFit (choice_said subject item answer)
    → IsConsole (choice_said subject item answer) s []
    → ReadsAs (codes
    "CHOICE " ++ (signed_decimal subject ++ (codes " ON " ++ (item ++ (codes " IS " ++ word))))) s
choice-reads subject item word answer s spells fits is fit grammatical =
    let said : Kinds = choice_said subject item answer in
    let remaining : Txt = item ++ (codes " IS " ++ word) in
    let says : Says (codes "CHOICE " ++ (signed_decimal subject ++ (codes " ON " ++ remaining))) said =
    says-word (codes "CHOICE") (signed_decimal subject ++ (codes " ON " ++ remaining)) KChoice _
    choice-word
    (says-number_first subject (codes "ON " ++ remaining) _ fits
    (says-word (codes "ON") remaining KOn _ on-word
    (says-name_first item (codes "IS " ++ word) _ is
    (says-word (codes "IS") word KIs _ is-word (says-last_word word answer spells))))) in
    console-reads _ said s says fit grammatical

-- a statement that asks for an act as it stands
abbrev pub ready : (history : History) (schema : Option Schema) (act : Act) (s : Stmt)
    → ReadsAs (act_statement schema act) s
    → wanted_by (known_at history) s ≡ Some (Ready act) → ReadsBack history schema act
ready history schema act s reads wants = record {
  statement = s;
  reads = reads;
  wanted = Ready act;
  wants = wants;
  comes = refl;
}

abbrev pub names_read_back : NamesReadBack
names_read_back history schema (Purpose purpose) is kept =
    ready history schema (Purpose purpose) (stmt.CreatePurpose purpose)
    (created-reads (codes "PURPOSE") KPurpose purpose _ purpose-word kept
    (flat-fit (created_said KPurpose purpose) refl refl refl) create_purpose) refl
names_read_back history schema (Recipient recipient) is kept =
    ready history schema (Recipient recipient) (stmt.CreateRecipient recipient)
    (created-reads (codes "RECIPIENT") KRecipient recipient _ recipient-word kept
    (flat-fit (created_said KRecipient recipient) refl refl refl) create_recipient) refl
names_read_back history schema (Item item OptIn) is kept =
    ready history schema (Item item OptIn) (stmt.CreateItem item OptIn)
    (item-reads item (codes "IN") KIn _ in-word kept (flat-fit (item_said item KIn) refl refl refl)
    create_opt_in) refl
names_read_back history schema (Item item OptOut) is kept =
    ready history schema (Item item OptOut) (stmt.CreateItem item OptOut)
    (item-reads item (codes "OUT") KOut _ out-word kept
    (flat-fit (item_said item KOut) refl refl refl) create_opt_out) refl
names_read_back history schema (Authorize user purpose recipient) is kept =
    ready history schema (Authorize user purpose recipient) (stmt.Authorize user purpose recipient)
    (grant-reads (codes "AUTHORIZE") KAuthorize user purpose recipient _ authorize-word kept
    (flat-fit (grant_said KAuthorize user purpose recipient) refl refl refl) authorize) refl
names_read_back history schema (Deauthorize user purpose recipient) is kept =
    ready history schema (Deauthorize user purpose recipient)
    (stmt.Deauthorize user purpose recipient)
    (grant-reads (codes "DEAUTHORIZE") KDeauthorize user purpose recipient _ deauthorize-word kept
    (flat-fit (grant_said KDeauthorize user purpose recipient) refl refl refl) deauthorize) refl
names_read_back history schema (Choice subject item true) is kept =
    let parts = and_parts (is_signed_number subject) (is_folded_name item) kept in
    ready history schema (Choice subject item true) (stmt.Choice subject item true)
    (choice-reads subject item (codes "YES") KYes _ yes-word parts.0 parts.1
    (flat-fit (choice_said subject item KYes) refl refl refl) choice_yes) refl
names_read_back history schema (Choice subject item false) is kept =
    let parts = and_parts (is_signed_number subject) (is_folded_name item) kept in
    ready history schema (Choice subject item false) (stmt.Choice subject item false)
    (choice-reads subject item (codes "NO") KNo _ no-word parts.0 parts.1
    (flat-fit (choice_said subject item KNo) refl refl refl) choice_no) refl
names_read_back history schema act is kept = absurd (false≢true is)
