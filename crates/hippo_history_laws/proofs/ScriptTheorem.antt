-- The lines of a valid history's script make it again.
use Rattle.std.proofs.Common.{◌≡◌, ◌∙◌, suc, ◌+◌, ◌≤◌, ◌<◌, true, false, not, ◌&&◌, List, [], ◌∷◌, ◌++◌, length, map, Option, Some, None, refl, sym, ap, subst, arith, codes}
use Rattle.std.specs.Prelude.{◌==◌, ◌||◌, if◌then◌else◌, int_le, nat_lt}
use Rattle.std.specs.List.{filter}
use Rattle.std.specs.Option.{option_map_or}
use Rattle.std.proofs.lemmas.Bool.{and_from, and_parts, or_right}
use Rattle.std.proofs.lemmas.Bool.Decides.{Decides-int_eq}
use Rattle.std.proofs.lemmas.List.{append-nil, append_assoc, length-append, map-append}
use Rattle.hippo_values_text.specs.Dates.{moment_text}
use Rattle.hippo_values.specs.Moments.{is_moment}
use Rattle.hippo_values.specs.Texts.{Txt}
use Rattle.hippo_values.specs.declared.moments.Moment.{Moment}
use Rattle.hippo_values.specs.declared.names.Name.{Name}
use Rattle.hippo_io.specs.Lines.{LineText, text_line}
use Rattle.hippo_model.specs.declared.entry.Act.{Act}
use Rattle.hippo_model.specs.declared.entry.Act.TheVariants.{Create, Insert, Update, Delete, Purpose, Recipient, Item, Authorize, Deauthorize, Allow, Revoke, Choice, Asked}
use Rattle.hippo_model.specs.declared.entry.Entry.{Entry}
use Rattle.hippo_model.specs.declared.entry.ItemKind.TheVariants.{OptIn, OptOut}
use Rattle.hippo_model.specs.declared.schema.Schema.{Schema}
use Rattle.hippo_model.specs.Histories.{last_word}
use Rattle.hippo_model.specs.Keepable.{act_is_keepable, is_keepable}
use Rattle.hippo_model.specs.Terms.{History}
use Rattle.hippo_model.specs.Validity.{is_acceptable, is_valid, keeps_order, may_follow}
use Rattle.hippo_model.proofs.LastWords.{last_word-append}
use Rattle.hippo_model_laws.proofs.ValidFronts.{next_number}
use Rattle.hippo_typing.specs.Meanings.{meaning}
use Rattle.hippo_report.specs.declared.speaker.Speaker.TheVariants.{Nobody, Console}
use Rattle.hippo_report.specs.Notices.{done_line, number_line}
use Rattle.hippo_stmt_lines.specs.Words.{is_filled, words_of}
use Rattle.hippo_stmt_lines.specs.Forms.{short_word_of}
use Rattle.hippo_engine_sessions.specs.Worlds.{World, opening}
use Rattle.hippo_stmt_lines.specs.Commands.{command_of}
use Rattle.hippo_model.specs.HandedOver.{is_question}
use Rattle.hippo_engine_checks.specs.Deeds.{next_entry}
use Rattle.hippo_engine_rules.specs.Effects.{Effect, judgement_effect, effect_of, only_reply}
use Rattle.hippo_typing_laws.proofs.HistoryLemmas.{acceptable, followed, keepable}
use Rattle.hippo_history_statements.specs.Telling.{schema_before, act_statement}
use Rattle.hippo_history_laws.specs.TellingLaws.{MakesAgain, is_stated}
use Rattle.hippo_history_laws.proofs.EntryTheorem.{entries_are_made_again}
use Rattle.hippo_history_top.specs.Showing.{stands_at}
use Rattle.hippo_history_laws.specs.ScriptLaws.{RunsBeginFree, ScriptsMakeHistories, act_script, are_scripted, entry_lines, is_free, is_scripted, history_by_rules, script_lines, finds_free_session, starts_before}
use Rattle.hippo_history_laws.proofs.LineLemmas.{Begins, is_whole, sets-it, split-word, makes_statement-it}
use Rattle.hippo_history_laws.proofs.JudgingLemmas.{change-judged, clock-judged}
use Rattle.hippo_history_laws.proofs.AskingTheorem.{question-makes}

-- a statement begins with a word other than the short words
begins : (word rest : Txt) → is_filled word ≡ true
    → is_whole word ≡ true → short_word_of word ≡ None → Begins (word ++ 32 ∷ rest)
unfolding words_of
begins word rest filled one plain = record {
  word = word;
  words = words_of rest;
  are = ap (filter is_filled) (split-word word rest one) ∙ rw filled refl;
  plain = plain;
}

told-begins : (schema : Option Schema) (act : Act) → is_stated schema act ≡ true
    → Begins (act_statement schema act)
told-begins schema (Create made) stated = begins (codes "CREATE") _ refl refl refl
told-begins schema (Insert table row) stated = begins (codes "INSERT") _ refl refl refl
told-begins schema (Update table row) stated = begins (codes "UPDATE") _ refl refl refl
told-begins schema (Delete table key) stated = begins (codes "DELETE") _ refl refl refl
told-begins schema (Purpose purpose) stated = begins (codes "CREATE") _ refl refl refl
told-begins schema (Recipient recipient) stated = begins (codes "CREATE") _ refl refl refl
told-begins schema (Item item OptIn) stated = begins (codes "CREATE") _ refl refl refl
told-begins schema (Item item OptOut) stated = begins (codes "CREATE") _ refl refl refl
told-begins schema (Authorize user purpose recipient) stated =
    begins (codes "AUTHORIZE") _ refl refl refl
told-begins schema (Deauthorize user purpose recipient) stated =
    begins (codes "DEAUTHORIZE") _ refl refl refl
told-begins schema (Allow purpose recipient table places item days) stated =
    begins (codes "ALLOW") _ refl refl refl
told-begins schema (Revoke purpose recipient table places) stated =
    begins (codes "REVOKE") _ refl refl refl
told-begins schema (Choice subject item agreed) stated = begins (codes "CHOICE") _ refl refl refl
told-begins schema (Asked user purpose recipient text) stated = absurd cc

-- a statement has one line
pub stated-lines : (schema : Option Schema) (act : Act) → is_stated schema act ≡ true
    → act_script schema act ≡ (codes "0 " ++ act_statement schema act) ∷ []
stated-lines schema (Asked user purpose recipient text) stated = absurd cc
stated-lines schema act stated = refl

-- the conditions under which an entry may follow
pub record Follows (before : History) (entry : Entry) : Type 0 where
  pub moment_fits : is_moment entry.moment ≡ true
  pub order : keeps_order before entry.moment ≡ true

pub follows : (before : History) (entry : Entry) → may_follow meaning before entry ≡ true
    → Follows before entry
follows before entry may =
    let first =
    (and_parts (is_keepable entry && entry.seq == length before + 1 && keeps_order before
    entry.moment) (is_acceptable meaning before entry.act) may).0 in
    let second =
    and_parts (is_keepable entry && entry.seq == length before + 1)
    (keeps_order before entry.moment) first in
    let third = (and_parts (is_keepable entry) (entry.seq == length before + 1) second.0).0 in
    let kept = (and_parts (nat_lt entry.seq 18446744073709551616 && is_moment entry.moment)
    (act_is_keepable entry.act) third).0 in
    record {
      moment_fits =
          (and_parts (nat_lt entry.seq 18446744073709551616) (is_moment entry.moment) kept).1;
      order = second.1;
    }

-- a place in a valid history
module _ (before later : History) (entry : Entry)
    (valid : is_valid meaning (before ++ entry ∷ later) ≡ true) where
  abbrev whole : History
  whole = before ++ entry ∷ later

  pub may : may_follow meaning before entry ≡ true
  may = followed meaning before entry later valid

  -- the entry as the line makes it
  made-entry : (world : World) → world.clock ≡ entry.moment → next_entry before world entry.act
      ≡ entry
  made-entry world clock =
      let number : length before + 1 ≡ entry.seq = sym (next_number meaning before entry may) in
      λ i. record { seq = number i; moment = clock i; act = entry.act }

  abbrev made_effect : World → Entry → Effect
  made_effect world made =
      record {
        reply = number_line 0 (codes "ok") (length before + 1);
        added = made ∷ [];
        world = world;
      }

  line-makes : (world : World) → world.clock ≡ entry.moment → length before < world.limit
      → is_stated (schema_before whole entry) entry.act ≡ true
      → effect_of before world
      (command_of (text_line (codes "0 " ++ act_statement (schema_before whole entry) entry.act)))
      ≡ made_effect world entry
  line-makes world clock room stated =
      let schema : Option Schema = schema_before whole entry in
      let again : MakesAgain before schema entry.act =
      entries_are_made_again meaning before later entry valid stated in
      let text : Txt = act_statement schema entry.act in
      let begins = told-begins schema entry.act stated in
      let commands =
      makes_statement-it text begins.word begins.words again.back.statement begins.are begins.plain
      again.back.reads in
      let judges =
      change-judged before world again.back.statement text again.back.wanted entry.act
      again.unrefused again.back.wants again.back.comes room in
      let next = made-entry world clock in
      let last : made_effect world (next_entry before world entry.act) ≡ made_effect world entry =
      ap (made_effect world) next in
      ap (effect_of before world) commands ∙ ap (judgement_effect before world Console) judges ∙ last

  -- its lines make it, whatever lines follow them
  entry-makes : (world : World) → world.clock ≡ entry.moment → length before < world.limit
      → is_scripted (schema_before whole entry) entry.act ≡ true
      → (not (is_question entry.act) || is_free world) ≡ true → (more : List LineText)
      → history_by_rules before world (map text_line (entry_lines whole entry) ++ more)
      ≡ history_by_rules (before ++ entry ∷ []) world more
  entry-makes world clock room scripted served more = by_act entry.act refl scripted
    where
      by_act : (act : Act) → entry.act ≡ act → is_scripted (schema_before whole entry) act ≡ true
          → history_by_rules before world (map text_line (entry_lines whole entry) ++ more)
          ≡ history_by_rules (before ++ entry ∷ []) world more
      by_act (Asked user purpose recipient text) act bare =
          let schema : Option Schema = schema_before whole entry in
          let free : is_free world ≡ true =
          subst (λ (a : Act). (not (is_question a) || is_free world) ≡ true) act served in
          let kept = subst (λ (a : Act). act_is_keepable a ≡ true) act
          (keepable meaning before entry may) in
          let fit = subst (λ (a : Act). is_acceptable meaning before a ≡ true) act
          (acceptable meaning before entry may) in
          ap (λ (a : Act). history_by_rules before world (map text_line (act_script schema a) ++ more)) act
          ∙ question-makes before world user purpose recipient text free kept fit bare room more
          ∙ ap (λ (a : Act). history_by_rules (before ++ next_entry before world a ∷ []) world more)
          (sym act)
          ∙ ap (λ (made : Entry). history_by_rules (before ++ made ∷ []) world more)
          (made-entry world clock)
      by_act other act is_stated_so =
          let schema : Option Schema = schema_before whole entry in
          let stated = subst (λ (a : Act). is_stated schema a ≡ true) (sym act) is_stated_so in
          ap (λ (written : List Txt). history_by_rules before world (map text_line written ++ more))
          (stated-lines schema entry.act stated)
          ∙ ap (λ (e : Effect). history_by_rules (before ++ e.added) e.world more)
          (line-makes world clock room stated)

  clock-moves : (world : World) → int_le world.clock entry.moment ≡ true
      → effect_of before world (command_of (text_line (codes "at " ++ moment_text entry.moment)))
      ≡ only_reply (record world { clock = entry.moment }) (done_line Nobody)
  clock-moves world clamped_number =
      ap (effect_of before world) (sets-it entry.moment (follows before entry may).moment_fits)
      ∙ ap (judgement_effect before world Nobody) (clock-judged world entry.moment clamped_number)

-- the clock is set as the script says, and is no later than the next entry
record Stands (clock : Option Moment) (world : World) (later : History) : Type 0 where
  set : (moment : Moment) → clock ≡ Some moment → world.clock ≡ moment
  no_later : starts_before world later ≡ true

stands-so : (clock : Option Moment) (moment now : Moment)
    → ((other : Moment) → clock ≡ Some other → now ≡ other) → stands_at clock moment ≡ true → now
    ≡ moment
stands-so None moment now set stands = absurd cc
stands-so (Some other) moment now set stands =
    set other refl ∙ (Decides-int_eq other moment).0 stands

some_so : (one other : Moment) → Some one ≡ Some other → one ≡ other
some_so one other e = cc

next-stands : (before rest : History) (entry : Entry) (world : World)
    → is_valid meaning (before ++ entry ∷ rest) ≡ true → world.clock ≡ entry.moment
    → Stands (Some entry.moment) world rest
next-stands before [] entry world valid clock =
    record { set = λ moment is. clock ∙ some_so entry.moment moment is; no_later = refl }
next-stands before (next ∷ rest) entry world valid clock =
    let so_far : History = before ++ entry ∷ [] in
    let grouped : is_valid meaning (so_far ++ next ∷ rest) ≡ true =
    ap (is_valid meaning) (append_assoc before (entry ∷ []) (next ∷ rest)) ∙ valid in
    let order = (follows so_far next (followed meaning so_far next rest grouped)).order in
    let last : last_word (λ (e : Entry). Some e.moment) so_far ≡ Some entry.moment =
    last_word-append (λ (e : Entry). Some e.moment) before entry in
    let after : int_le entry.moment next.moment ≡ true =
    sym (ap (λ (l : Option Moment). option_map_or (λ (m : Moment). int_le m next.moment) l true)
    last) ∙ order in
    record {
      set = λ moment is. clock ∙ some_so entry.moment moment is;
      no_later = subst (λ (m : Moment). int_le m next.moment ≡ true) (sym clock) after;
    }

module _ (whole : History) (valid : is_valid meaning whole ≡ true) where
  script-runs : (later before : History) (clock : Option Moment) (world : World) → whole
      ≡ before ++ later → are_scripted whole later ≡ true → length whole ≤ world.limit
      → finds_free_session world later ≡ true → Stands clock world later
      → history_by_rules before world (map text_line (script_lines whole clock later)) ≡ before ++ later
  script-runs [] before clock world parts scripted room served stands = sym (append-nil before)
  script-runs (entry ∷ later) before clock world parts scripted room served stands =
      let each = and_parts (is_scripted (schema_before whole entry) entry.act)
      (are_scripted whole later) scripted in
      let here : is_valid meaning (before ++ entry ∷ later) ≡ true =
      ap (is_valid meaning) (sym parts) ∙ valid in
      let rest : List Txt = script_lines whole (Some entry.moment) later in
      let more : List LineText = map text_line rest in
      let written : List Txt = entry_lines whole entry in
      let size : length whole ≡ length before + suc (length later) =
      ap length parts ∙ length-append before (entry ∷ later) in
      let makes : (w : World) → w.clock ≡ entry.moment → w.limit ≡ world.limit
      → finds_free_session w (entry ∷ later) ≡ true
      → history_by_rules before w (map text_line (written ++ rest)) ≡ before ++ entry ∷ later =
      λ w at same free.
      let small : length before < w.limit = omega (arith, size, room, same) in
      let wants = and_parts (not (is_question entry.act) || is_free w) (finds_free_session w later) free in
      let made : history_by_rules before w (map text_line written ++ more)
      ≡ history_by_rules (before ++ entry ∷ []) w more =
      subst (λ (h : History). is_scripted (schema_before h entry) entry.act ≡ true
      → history_by_rules before w (map text_line (entry_lines h entry) ++ more)
      ≡ history_by_rules (before ++ entry ∷ []) w more)
      (sym parts)
      (λ told. entry-makes before later entry here w at small told wants.0 more) each.0 in
      let room_left : length whole ≤ w.limit = omega (arith, room, same) in
      let regrouped : whole ≡ (before ++ entry ∷ []) ++ later =
      parts ∙ sym (append_assoc before (entry ∷ []) later) in
      ap (history_by_rules before w) (map-append text_line written rest) ∙ made
      ∙ script-runs later (before ++ entry ∷ []) (Some entry.moment) w regrouped each.1
      room_left wants.1 (next-stands before later entry w here at)
      ∙ append_assoc before (entry ∷ []) later in
      elim (stands_at clock entry.moment) as (λ test. stands_at clock entry.moment ≡ test
      → history_by_rules before world
      (map text_line
      ((if test then [] else (codes "at " ++ moment_text entry.moment) ∷ [])
      ++ (written ++ rest)))
      ≡ before ++ entry ∷ later) [
        | true ↦ λ is.
            makes world (stands-so clock entry.moment world.clock stands.set is) refl served
        | false ↦ λ is.
            let set : World = record world { clock = entry.moment } in
            let remaining : List LineText = map text_line (written ++ rest) in
            ap (λ (e : Effect). history_by_rules (before ++ e.added) e.world remaining)
            (clock-moves before later entry here world stands.no_later)
            ∙ ap (λ (h : History). history_by_rules h set remaining) (append-nil before)
            ∙ makes set refl refl served
      ] refl

pub scripts_make_histories : ScriptsMakeHistories
scripts_make_histories history world valid scripted room starts served =
    script-runs history valid history [] None world refl scripted room served
    (record { set = λ moment is. absurd cc; no_later = starts })

-- a run begins with no session open
pub runs_begin_free : RunsBeginFree
runs_begin_free clock limit format [] = refl
runs_begin_free clock limit format (entry ∷ later) =
    and_from _ _ (or_right (not (is_question entry.act)) (is_free (opening clock limit format)) refl)
    (runs_begin_free clock limit format later)
