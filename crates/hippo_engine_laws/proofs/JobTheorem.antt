-- What the steps of a job write, line by line.
use Rattle.std.proofs.Common.{◌≡◌, ◌≢◌, ◌⊎◌, ◌∙◌, inl, inr, sym, ap, subst, refl, arith, tests, le_trans, ℕ, zero, suc, ◌+◌, ◌≤◌, min, Bool, true, false, nat_lt, if◌then◌else◌, List, [], ◌∷◌, ◌++◌, length, Option, None, Some, Ok, Err, codes, append_assoc, append-nil, option_and_then}
use Rattle.std.specs.List.{last_or}
use Rattle.std.specs.Option.{option_map_or}
use Rattle.std.proofs.lemmas.Grind.{flat_map-append}
use Rattle.hippo_values.specs.Texts.{Txt}
use Rattle.hippo_io.specs.Lines.{LineText}
use Rattle.hippo_model.specs.declared.audit.Audit.{Audit}
use Rattle.hippo_model.specs.declared.audit.Flag.{Flag}
use Rattle.hippo_model.specs.Terms.{History}
use Rattle.hippo_model.specs.Audits.{flags_between}
use Rattle.hippo_model.specs.Validity.{is_valid}
use Rattle.hippo_audit_job.proofs.StepLemmas.{flags_parted}
use Rattle.hippo_typing.specs.Meanings.{meaning}
use Rattle.hippo_report.specs.Notices.{number_line}
use Rattle.hippo_report.specs.Refusals.{refusal_line}
use Rattle.hippo_report.specs.declared.refusal.Refusal.TheVariants.{Memory}
use Rattle.hippo_audit_job.specs.Jobs.{OpenAudit, step_end}
use Rattle.hippo_engine_sessions.specs.Worlds.{World, at_number, with_at, free_number}
use Rattle.hippo_stmt_lines.specs.Commands.{Command, command_of, who_commands}
use Rattle.hippo_engine_checks.specs.Deeds.{Deed}
use Rattle.hippo_engine_checks.specs.Deeds as deeds
use Rattle.hippo_engine_checks.specs.Checks.{Checked}
use Rattle.hippo_engine_checks.specs.Judging.{judged}
use Rattle.hippo_engine_rules.specs.Effects.{Effect, deed_effect, judgement_effect, row_limit, question_rows, only_reply, flag_lines, step_flags, job_up_to, with_job, new_open_audit, IsOutOfMemory, IsEffect}
use Rattle.hippo_engine_rules.specs.Runs.{IsRun, world_after}
use Rattle.hippo_engine_laws.specs.Lines.{OfEachLine, NoneJudged}
use Rattle.hippo_engine_laws.specs.Jobs.{Portion, no_portion, JudgedWrites, WritesPortion, flags_in, last_end, HaveAllFlags}
use Rattle.hippo_engine_laws.specs.RunLaws.{AnyCut, StepsReplyAsOneAudit}
use Rattle.hippo_engine_laws.proofs.DeedLemmas.{IsFounded, founded}
use Rattle.hippo_engine_laws.proofs.PlaceLemmas.{elsewhere, there, free_there, not_free}
use Rattle.hippo_engine_laws.proofs.FlagLemmas.{stretch_lasts}

last-append : {A : Type 0} (before : Option A) (list : List A) (one : A) → last_or before (list ++ one ∷ []) ≡ Some one
last-append before [] one = refl
last-append before (first ∷ rest) one = last-append (Some first) rest one

-- one more portion
flags-more : (portions : List Portion) (one : Portion) → flags_in (portions ++ one ∷ []) ≡ flags_in portions ++ one.flags
flags-more portions one = flat_map-append (λ portion. portion.flags) portions (one ∷ []) ∙ ap (λ (last : List Flag). flags_in portions ++ last) (append-nil one.flags)

end-more : (portions : List Portion) (one : Portion) → last_end (portions ++ one ∷ []) ≡ one.ended
end-more portions one = ap (option_and_then (λ (portion : Portion). portion.ended)) (last-append None portions one)

-- the last line of a step's reply, as that of a portion
last_line : (left : Bool) (upto count : ℕ)
    → (if left then number_line 0 (codes "part") upto else number_line 0 (codes "end") count)
    ≡ option_map_or (number_line 0 (codes "end")) (if left then None else Some count) (number_line 0 (codes "part") upto)
last_line true upto count = refl
last_line false upto count = refl

same_or_not : (one other : ℕ) → (one ≡ other) ⊎ (one ≢ other)
same_or_not zero zero = inl refl
same_or_not zero (suc other) = inr (λ same. absurd cc)
same_or_not (suc one) zero = inr (λ same. absurd cc)
same_or_not (suc one) (suc other) = elim (same_or_not one other) [ inl same ↦ inl (ap suc same) | inr differ ↦ inr (λ same. differ (omega (arith, same))) ]

either_jobs : (test : Bool) (world other : World) → other.jobs ≡ world.jobs → (if test then world else other).jobs ≡ world.jobs
either_jobs true world other same = refl
either_jobs false world other same = same

module _ (start : History) (valid : is_valid meaning start ≡ true) (audit : Audit) (number : ℕ) where
  -- how far the job is
  record IsOn (portions : List Portion) (job : OpenAudit) : Type 0 where
    audit_is : job.audit ≡ audit
    length_is : job.length ≡ length start
    within : job.place ≤ length start
    flags : flags_in portions ++ job.waiting ≡ flags_between meaning start audit 0 job.place
    whole : (count : ℕ) → last_end portions ≡ Some count → HaveAllFlags start audit portions count

  -- the job is in the world, and the history has grown from the one at its beginning
  record Goes (portions : List Portion) (history : History) (world : World) : Type 0 where
    later : History
    longer : history ≡ start ++ later
    job : OpenAudit
    stands : at_number world.jobs number ≡ Some job
    is_on : IsOn portions job

  -- the result of a line
  abbrev After : List Portion → History → World → Command → Checked Deed → Effect → Type 0
  After portions history world command judgement effect =
      (one : Portion) × JudgedWrites number world command judgement effect one
      × Goes (portions ++ one ∷ []) (history ++ effect.added) effect.world

  none_more : (portions : List Portion) (job : OpenAudit) → IsOn portions job → IsOn (portions ++ no_portion ∷ []) job
  none_more portions job on = record {
    audit_is = on.audit_is;
    length_is = on.length_is;
    within = on.within;
    flags = ap (λ (flags : List Flag). flags ++ job.waiting) (flags-more portions no_portion ∙ append-nil (flags_in portions)) ∙ on.flags;
    whole = λ count is. let none : None ≡ Some count = sym (end-more portions no_portion) ∙ is in absurd cc;
  }

  -- a line that leaves the job unchanged
  rests : (portions : List Portion) (history : History) (world : World) (effect : Effect) → Goes portions history world
      → at_number effect.world.jobs number ≡ at_number world.jobs number → Goes (portions ++ no_portion ∷ []) (history ++ effect.added) effect.world
  rests portions history world effect goes same = record {
    later = goes.later ++ effect.added;
    longer = ap (λ (h : History). h ++ effect.added) goes.longer ∙ append_assoc start goes.later effect.added;
    job = goes.job;
    stands = same ∙ goes.stands;
    is_on = none_more portions goes.job goes.is_on;
  }

  still : (portions : List Portion) (history : History) (world : World) (effect : Effect) → Goes portions history world
      → effect.world.jobs ≡ world.jobs → Goes (portions ++ no_portion ∷ []) (history ++ effect.added) effect.world
  still portions history world effect goes same =
      rests portions history world effect goes (ap (λ (jobs : List (Option OpenAudit)). at_number jobs number) same)

  -- what was written, what waits and what is found up to a number are the flags up to that number
  found : (portions : List Portion) (history later : History) (job : OpenAudit) (upto : ℕ) → history ≡ start ++ later → IsOn portions job
      → job.place ≤ upto → upto ≤ length start
      → flags_in portions ++ step_flags history job upto ≡ flags_between meaning start audit 0 upto
  found portions history later job upto longer on low high =
      let here : flags_between meaning history job.audit job.place upto ≡ flags_between meaning start audit job.place upto =
      (λ i. flags_between meaning (longer i) (on.audit_is i) job.place upto) ∙ stretch_lasts meaning audit start later valid job.place upto low high in
      sym (append_assoc (flags_in portions) job.waiting (flags_between meaning history job.audit job.place upto))
      ∙ (λ i. on.flags i ++ here i)
      ∙ sym (flags_parted start audit 0 job.place upto (omega arith) low)

  all_found : (history later : History) (job : OpenAudit) → history ≡ start ++ later → job.audit ≡ audit → job.length ≡ length start
      → flags_between meaning history job.audit 0 job.length ≡ flags_between meaning start audit 0 (length start)
  all_found history later job longer audit_is length_is =
      (λ i. flags_between meaning (longer i) (audit_is i) 0 (length_is i))
      ∙ stretch_lasts meaning audit start later valid 0 (length start) (omega arith) (omega arith)

  -- a step's portion
  abbrev step_portion : History → OpenAudit → ℕ → Portion
  step_portion history job upto = record {
    flags = step_flags history job upto;
    ended = if nat_lt upto job.length then None else Some (length (flags_between meaning history job.audit 0 job.length));
  }

  low_end : (place count length : ℕ) → place ≤ length → place ≤ min (place + count) length
  low_end place count length within = omega (arith, within)

  high_end : (place count length : ℕ) → min (place + count) length ≤ length
  high_end place count length = omega arith

  ended_at : (left : Bool) (all count : ℕ) → (if left then None else Some all) ≡ Some count → (left ≡ false) × (all ≡ count)
  ended_at true all count is = absurd cc
  ended_at false all count is = (refl, cc)

  reached : (upto length whole : ℕ) → nat_lt upto length ≡ false → upto ≤ length → length ≡ whole → upto ≡ whole
  reached upto length whole last high is = grind (arith, tests)

  ended : (portions : List Portion) (history later : History) (job : OpenAudit) (upto : ℕ) → history ≡ start ++ later → IsOn portions job → upto ≤ job.length
      → flags_in (portions ++ step_portion history job upto ∷ []) ≡ flags_between meaning start audit 0 upto
      → (count : ℕ) → (step_portion history job upto).ended ≡ Some count → HaveAllFlags start audit (portions ++ step_portion history job upto ∷ []) count
  ended portions history later job upto longer on high written count is =
      let last = ended_at (nat_lt upto job.length) (length (flags_between meaning history job.audit 0 job.length)) count is in
      let whole : upto ≡ length start = reached upto job.length (length start) last.0 high on.length_is in
      let all : flags_in (portions ++ step_portion history job upto ∷ []) ≡ flags_between meaning start audit 0 (length start) =
      written ∙ ap (flags_between meaning start audit 0) whole in
      record {
        flags = all;
        counted = sym last.1 ∙ ap length (all_found history later job longer on.audit_is on.length_is ∙ sym all);
      }

  stepped : (portions : List Portion) (history later : History) (job : OpenAudit) (upto : ℕ) → history ≡ start ++ later → IsOn portions job
      → job.place ≤ upto → upto ≤ job.length → IsOn (portions ++ step_portion history job upto ∷ []) (job_up_to job upto [])
  stepped portions history later job upto longer on low high =
      let one : Portion = step_portion history job upto in
      let within : upto ≤ length start = subst (λ (n : ℕ). upto ≤ n) on.length_is high in
      let written : flags_in (portions ++ one ∷ []) ≡ flags_between meaning start audit 0 upto =
      flags-more portions one ∙ found portions history later job upto longer on low within in
      record {
        audit_is = on.audit_is;
        length_is = on.length_is;
        within = within;
        flags = append-nil (flags_in (portions ++ one ∷ [])) ∙ written;
        whole = λ count is. ended portions history later job upto longer on high written count (sym (end-more portions one) ∙ is);
      }

  waits : (portions : List Portion) (history later : History) (job : OpenAudit) (upto : ℕ) → history ≡ start ++ later → IsOn portions job
      → job.place ≤ upto → upto ≤ job.length → IsOn (portions ++ no_portion ∷ []) (job_up_to job upto (step_flags history job upto))
  waits portions history later job upto longer on low high =
      let within : upto ≤ length start = subst (λ (n : ℕ). upto ≤ n) on.length_is high in
      record {
        audit_is = on.audit_is;
        length_is = on.length_is;
        within = within;
        flags = ap (λ (flags : List Flag). flags ++ step_flags history job upto) (flags-more portions no_portion ∙ append-nil (flags_in portions))
            ∙ found portions history later job upto longer on low within;
        whole = λ count is. let none : None ≡ Some count = sym (end-more portions no_portion) ∙ is in absurd cc;
      }

  -- the job that a step names is the one at its number
  stands_so : (portions : List Portion) (one other : OpenAudit) (held : Option OpenAudit) → held ≡ Some one → held ≡ Some other → IsOn portions one → IsOn portions other
  stands_so portions one other held is also on =
      let same : one ≡ other = cc in
      subst (IsOn portions) same on

  step_done : (portions : List Portion) (history : History) (world : World) (command : Command) → Goes portions history world → (at : ℕ) (job : OpenAudit) (count : ℕ)
      → at_number world.jobs at ≡ Some job → ((at ≡ number) ⊎ (at ≢ number)) → After portions history world command (Ok (deeds.step_job at job count)) (deed_effect history world (deeds.step_job at job count))
  step_done portions history world command goes at job count held (inr differ) =
      (no_portion, inr (differ, refl), rests portions history world (deed_effect history world (deeds.step_job at job count)) goes (elsewhere world.jobs at number _ differ))
  step_done portions history world command goes at job count held (inl same) =
      let upto : ℕ = step_end job count in
      let on : IsOn portions job = stands_so portions goes.job job (at_number world.jobs number) goes.stands (ap (at_number world.jobs) (sym same) ∙ held) goes.is_on in
      let after : OpenAudit = job_up_to job upto [] in
      let low : job.place ≤ job.length = subst (λ (n : ℕ). job.place ≤ n) (sym on.length_is) on.within in (
        step_portion history job upto,
        inl (same, inl (ap (λ (line : Txt). flag_lines world (step_flags history job upto) ++ line) (last_line (nat_lt upto job.length) upto _))),
        record {
          later = goes.later;
          longer = append-nil history ∙ goes.longer;
          job = after;
          stands = ap (at_number (with_at world.jobs at (Some after))) (sym same) ∙ there world.jobs at job after held;
          is_on = stepped portions history goes.later job upto goes.longer on (low_end job.place count job.length low) (high_end job.place count job.length);
        },
      )

  step_short : (portions : List Portion) (history : History) (world : World) (command : Command) → Goes portions history world → (at : ℕ) (job : OpenAudit) (count upto : ℕ)
      → at_number world.jobs at ≡ Some job → job.place ≤ upto → upto ≤ step_end job count → ((at ≡ number) ⊎ (at ≢ number))
      → After portions history world command (Ok (deeds.step_job at job count))
      (only_reply (with_job world at (Some (job_up_to job upto (step_flags history job upto)))) (refusal_line (who_commands command) Memory))
  step_short portions history world command goes at job count upto held low high (inr differ) = (
    no_portion,
    inr (differ, refl),
    rests portions history world (only_reply (with_job world at (Some (job_up_to job upto (step_flags history job upto)))) (refusal_line (who_commands command) Memory)) goes (elsewhere world.jobs at number _ differ),
  )
  step_short portions history world command goes at job count upto held low high (inl same) =
      let on : IsOn portions job = stands_so portions goes.job job (at_number world.jobs number) goes.stands (ap (at_number world.jobs) (sym same) ∙ held) goes.is_on in
      let after : OpenAudit = job_up_to job upto (step_flags history job upto) in (
        no_portion,
        inl (same, inr (refl, refl)),
        record {
          later = goes.later;
          longer = append-nil history ∙ goes.longer;
          job = after;
          stands = ap (at_number (with_at world.jobs at (Some after))) (sym same) ∙ there world.jobs at job after held;
          is_on = waits portions history goes.later job upto goes.longer on low (le_trans high (high_end job.place count job.length));
        },
      )

  carried : (portions : List Portion) (history : History) (world : World) (command : Command) → Goes portions history world → (judgement : Checked Deed)
      → IsFounded world judgement → (judgement ≢ Ok (deeds.drop_job number)) → After portions history world command judgement (judgement_effect history world (who_commands command) judgement)
  carried portions history world command goes (Err refusal) fits kept =
      (no_portion, refl, still portions history world (only_reply world (refusal_line (who_commands command) refusal)) goes refl)
  carried portions history world command goes (Ok (deeds.step_job at job count)) fits kept =
      step_done portions history world command goes at job count fits (same_or_not at number)
  carried portions history world command goes (Ok (deeds.drop_job at)) fits kept =
      (no_portion, refl, rests portions history world (deed_effect history world (deeds.drop_job at)) goes (elsewhere world.jobs at number None (λ same. kept (ap (λ (n : ℕ). Ok (deeds.drop_job n)) same))))
  carried portions history world command goes (Ok (deeds.begin_audit at audit)) fits kept =
      (no_portion, refl, rests portions history world (deed_effect history world (deeds.begin_audit at audit)) goes (elsewhere world.jobs at number _ (not_free world.jobs at number goes.job fits goes.stands)))
  carried portions history world command goes (Ok (deeds.open_cursor session at question)) fits kept =
      (no_portion, refl, still portions history world (deed_effect history world (deeds.open_cursor session at question)) goes (either_jobs (nat_lt row_limit (length (question_rows history world question))) world _ refl))
  carried portions history world command goes (Ok deed) fits kept = (no_portion, refl, still portions history world (deed_effect history world deed) goes refl)

  short : (portions : List Portion) (history : History) (world : World) (command : Command) → Goes portions history world → (judgement : Checked Deed) → IsFounded world judgement
      → (effect : Effect) → IsOutOfMemory history world (refusal_line (who_commands command) Memory) judgement effect → After portions history world command judgement effect
  short portions history world command goes (Ok (deeds.step_job at job count)) fits effect is =
      subst (After portions history world command (Ok (deeds.step_job at job count))) (sym is.is)
      (step_short portions history world command goes at job count is.upto fits is.from is.to (same_or_not at number))
  short portions history world command goes (Ok (deeds.answer_question question)) fits effect is = (no_portion, refl, still portions history world effect goes (ap (λ (w : World). w.jobs) is.same))
  short portions history world command goes (Ok (deeds.open_cursor session at question)) fits effect is = (no_portion, refl, still portions history world effect goes (ap (λ (w : World). w.jobs) is.same))
  short portions history world command goes (Ok (deeds.extract question)) fits effect is = (no_portion, refl, still portions history world effect goes (ap (λ (w : World). w.jobs) is.same))
  short portions history world command goes judgement fits effect is = (no_portion, refl, still portions history world effect goes (ap (λ (e : Effect). e.world.jobs) is))

  -- one line
  one_line : (portions : List Portion) (history : History) (world : World) (command : Command) (effect : Effect) → Goes portions history world
      → IsEffect history world command effect → (judged history world command ≢ Ok (deeds.drop_job number)) → After portions history world command (judged history world command) effect
  one_line portions history world command effect goes (inl is) kept =
      subst (After portions history world command (judged history world command)) (sym is)
      (carried portions history world command goes (judged history world command) (founded history world command) kept)
  one_line portions history world command effect goes (inr is) kept =
      short portions history world command goes (judged history world command) (founded history world command) effect is.1

  -- line by line
  all_lines : (portions : List Portion) (history : History) (world : World) (lines : List LineText) (effects : List Effect) → Goes portions history world
      → IsRun history world lines effects → NoneJudged (deeds.drop_job number) history world lines effects
      → ((more : List Portion) × OfEachLine (WritesPortion number) history world lines effects more × (end : History) × Goes (portions ++ more) end (world_after world effects))
  all_lines portions history world [] [] goes run kept = ([], tt, history, subst (λ (p : List Portion). Goes p history world) (sym (append-nil portions)) goes)
  all_lines portions history world [] (effect ∷ effects) goes run kept = absurd run
  all_lines portions history world (line ∷ lines) [] goes run kept = absurd run
  all_lines portions history world (line ∷ lines) (effect ∷ effects) goes run kept =
      let after = one_line portions history world (command_of line) effect goes run.0 kept.0 in
      let rest = all_lines (portions ++ after.0 ∷ []) (history ++ effect.added) effect.world lines effects after.2 run.1 kept.1 in (
        after.0 ∷ rest.0,
        (after.1, rest.1),
        rest.2,
        subst (λ (p : List Portion). Goes p rest.2 (world_after effect.world effects)) (append_assoc portions (after.0 ∷ []) rest.0) rest.3,
      )

-- a job at its beginning
begins : (history : History) (valid : is_valid meaning history ≡ true) (audit : Audit) (number : ℕ) (world : World) → free_number world.jobs ≡ Some number
    → Goes history valid audit number [] (history ++ []) (with_job world number (Some (new_open_audit history audit)))
begins history valid audit number world free = record {
  later = [];
  longer = refl;
  job = new_open_audit history audit;
  stands = free_there world.jobs number (Some (new_open_audit history audit)) free;
  is_on = record {
    audit_is = refl;
    length_is = refl;
    within = omega arith;
    flags = refl;
    whole = λ count is. absurd cc;
  };
}

pub any_cut : AnyCut
any_cut history world line effect lines effects number audit valid run does kept =
    let free : free_number world.jobs ≡ Some number = subst (IsFounded world) does.asks (founded history world (command_of line)) in
    let goes : Goes history valid audit number [] (history ++ effect.added) effect.world =
    subst (λ (e : Effect). Goes history valid audit number [] (history ++ e.added) e.world) (sym does.is_done) (begins history valid audit number world free) in
    let all = all_lines history valid audit number [] (history ++ effect.added) effect.world lines effects goes run.1 kept in
    record {
      portions = all.0;
      each = all.1;
      job = all.3.job;
      stands = all.3.stands;
      flags = all.3.is_on.flags;
      whole = all.3.is_on.whole;
    }

pub steps_reply_as_one_audit : StepsReplyAsOneAudit
steps_reply_as_one_audit number audit start history world lines effects written count ended beginning =
    let whole = written.whole count ended in
    λ i. flag_lines beginning (sym whole.flags i) ++ number_line 0 (codes "end") ((ap length (sym whole.flags) ∙ sym whole.counted) i)
