-- The steps of a run over three versions, computed.
use Rattle.std.proofs.Common.{◌≡◌, ◌≤◌, ◌*◌, ◌+◌, ℕ, pos, Bool, true, false, inl, inr, List, [], ◌∷◌, Option, Some, None, unwrap_or, refl, sym, ap, subst, arith}
use Rattle.std.specs.Option.{option_map_or}
use Rattle.hippo_stmt_ast.specs.declared.statement.RawAudit.{RawAudit}
use Rattle.hippo_stmt_ast.specs.declared.statement.Stmt.TheVariants.{Explain, BeginAudit}
use Rattle.hippo_stmt_lines.specs.Forms.{steps, drops}
use Rattle.hippo_report.specs.declared.speaker.Speaker.TheVariants.{Console}
use Rattle.hippo_report.specs.declared.refusal.Refusal.TheVariants.{Memory}
use Rattle.hippo_report.specs.Refusals.{refusal_line}
use Rattle.hippo_stmt_lines.specs.Commands.{make_request, make_statement}
use Rattle.hippo_engine_sessions.specs.Tallies.{JobTally}
use Rattle.hippo_engine_sessions.specs.Worlds.{at_number, with_at}
use Rattle.hippo_engine_rules.specs.Ledgers.{Tallies, none_taken, at_once, job_begun, job_stepped, job_dropped, RunSum}
use Rattle.hippo_engine_rules.proofs.LedgerLemmas.{RunSum-start, RunSum-line, RunSum-end}

-- two jobs may be open
abbrev both_jobs : Option JobTally → Option JobTally → List (Option JobTally)
both_jobs first second = first ∷ second ∷ []

abbrev has_taken : ℕ → Bool → Option JobTally
has_taken count unbroken = Some (record { taken = count; unbroken = unbroken })

module _ (audit : RawAudit) where
  a_load_takes_three : RunSum 0 3 3 0 (both_jobs None None)
  a_load_takes_three = RunSum-start 0 3 3 2 refl

  looking_back_takes_three_more : RunSum 0 6 3 1 (both_jobs None None)
  looking_back_takes_three_more =
      RunSum-line (make_statement Console (Explain (pos 7)) []) [] 0 3 6 3 3 0 (both_jobs None None) (both_jobs None None) (omega arith) a_load_takes_three (at_once refl (omega arith) refl)

  a_job_begins_with_none : RunSum 0 6 3 2 (both_jobs (has_taken 0 true) None)
  a_job_begins_with_none =
      RunSum-line (make_statement Console (BeginAudit audit) []) [] 0 6 6 3 3 1 (both_jobs None None) (both_jobs (has_taken 0 true) None) (omega arith) looking_back_takes_three_more
      (job_begun 1 refl refl refl refl)

  so_does_another : RunSum 0 6 3 3 (both_jobs (has_taken 0 true) (has_taken 0 true))
  so_does_another =
      RunSum-line (make_statement Console (BeginAudit audit) []) [] 0 6 6 3 3 2 (both_jobs (has_taken 0 true) None) (both_jobs (has_taken 0 true) (has_taken 0 true)) (omega arith) a_job_begins_with_none
      (job_begun 2 refl refl refl refl)

  the_second_takes_two : RunSum 0 8 3 3 (both_jobs (has_taken 0 true) (has_taken 2 true))
  the_second_takes_two =
      RunSum-line (make_request Console (steps 2 5)) [] 0 6 8 3 3 3 (both_jobs (has_taken 0 true) (has_taken 0 true)) (both_jobs (has_taken 0 true) (has_taken 2 true)) (omega arith) so_does_another
      (job_stepped 2 (record { taken = 0; unbroken = true }) (record { taken = 2; unbroken = true }) refl refl refl refl
      (record { takes = refl; few = omega arith; unbroken = inl refl }))

  memory_may_be_short_for_the_first : RunSum 0 9 3 3 (both_jobs (has_taken 1 false) (has_taken 2 true))
  memory_may_be_short_for_the_first =
      RunSum-line (make_request Console (steps 1 5)) (refusal_line Console Memory) 0 8 9 3 3 3 (both_jobs (has_taken 0 true) (has_taken 2 true)) (both_jobs (has_taken 1 false) (has_taken 2 true))
      (omega arith) the_second_takes_two
      (job_stepped 1 (record { taken = 0; unbroken = true }) (record { taken = 1; unbroken = false }) refl refl refl refl
      (record { takes = refl; few = omega arith; unbroken = inr (refl, refl) }))

  dropped_it_is_over : RunSum 0 9 3 3 (both_jobs None (has_taken 2 true))
  dropped_it_is_over =
      RunSum-line (make_request Console (drops 1)) [] 0 9 9 3 3 3 (both_jobs (has_taken 1 false) (has_taken 2 true)) (both_jobs None (has_taken 2 true)) (omega arith) memory_may_be_short_for_the_first
      (job_dropped 1 (record { taken = 1; unbroken = false }) refl refl refl refl)

  three_audits_read_all_four_times_at_most : 9 ≤ 0 + 3 * (1 + 3)
  three_audits_read_all_four_times_at_most = RunSum-end 0 9 3 3 (both_jobs None (has_taken 2 true)) dropped_it_is_over

-- the number of steps that the job at a number has taken
abbrev taken_at : ℕ → List (Option JobTally) → ℕ
taken_at number jobs = option_map_or (λ tally. tally.taken) (at_number jobs number) 0

-- an effect of a line at one number holds at no other: two jobs never change places
no_two_jobs_change_places : Tallies (make_request Console (steps 1 5)) [] 3 0 0 (both_jobs (has_taken 1 true) (has_taken 2 true)) (both_jobs (has_taken 2 true) (has_taken 1 true)) → ⊥
no_two_jobs_change_places (none_taken same kept) = omega (arith, ap (taken_at 1) kept)
no_two_jobs_change_places (at_once looks few kept) = absurd cc
no_two_jobs_change_places (job_begun number begins same free put) = absurd cc
no_two_jobs_change_places (job_stepped number before after on console is put rises) =
    let first : 1 ≡ number = ap (λ (found : Option ℕ). unwrap_or found 0) on in
    let there : both_jobs (has_taken 2 true) (has_taken 1 true) ≡ both_jobs (Some after) (has_taken 2 true) = subst (λ (n : ℕ). both_jobs (has_taken 2 true) (has_taken 1 true) ≡ with_at (both_jobs (has_taken 1 true) (has_taken 2 true)) n (Some after)) (sym first) put in
    omega (arith, ap (taken_at 2) there)
no_two_jobs_change_places (job_dropped number before given_up same is put) = absurd cc
