-- How many bytes of an input were taken.
use Rattle.std.proofs.Common.{◌≡◌, ◌≢◌, ℕ, ◌<◌, ◌≤◌, ◌↔◌, List, ◌++◌, ◌∷◌, [], length, drop, Option, Some, None, IfNone, MatchOption, Result, Err, option_map, sym, ap, subst, ◌∙◌, arith, length-drop}
use Rattle.hippo_values.specs.Texts.{Txt}
use Rattle.hippo_io.specs.Lines.{LineText, lines}
use Rattle.hippo_io.specs.declared.lines.Line.{Line}
use Rattle.hippo_io.specs.declared.lines.LineFault.{LineFault}
use Rattle.hippo_io.specs.declared.lines.LineFault.TheVariants.{Read, TooMuch}
use Rattle.hippo_io.specs.Position.{Position}
use Rattle.hippo_io.specs.HandingOut.{HasHandedOut, HasGivenUp, input_limit}
use Rattle.hippo_keeper.specs.Keeping.{KeeperState}
use Rattle.hippo_stmt_lines.specs.Commands.{input_command}
use Rattle.hippo_engine.specs.declared.engine.Engine.{Engine}
use Rattle.hippo_serve_args.specs.declared.calls.Job.{Job}
use Rattle.hippo_program_args.specs.declared.endings.Ending.{Ending}
use Rattle.hippo_program_args.specs.declared.endings.Ending.TheVariants.{Served, KeeperFault, WriteFault, Damaged}
use Rattle.hippo_program_args.specs.Endings.{status_of}
use Rattle.hippo_serve_jobs.specs.Loads.{asked_line, counted_line}
use Rattle.hippo_serve_jobs.specs.Runs.{HasTakenBytes, IsHandingOut, Turn}
use Rattle.hippo_serve_jobs.proofs.TurnLemmas.{by_line}

-- what holds anyway holds if there is no value
pub if_none : {A P : Type 0} (o : Option A) → P → IfNone o P
if_none None holds = holds
if_none (Some x) holds = tt

-- nothing was taken
pub none_taken : (status : ℕ) (input : Txt) (left : Option Txt) → left ≡ Some input → status ≢ 0 → status ≢ 8 → HasTakenBytes status input left
none_taken status input left told not_all not_more = record {
  taken = 0;
  within = omega arith;
  others = told;
  all = λ is. absurd (not_all is);
  limit = (λ is. absurd (not_more is), λ more. omega (arith, more));
}

-- a fault of reading: too much exactly if more than the limit was taken
pub within_read : (taken : ℕ) → (◌≡◌ {A = Result Line LineFault} (Err Read) (Err TooMuch) ↔ (input_limit < taken)) → taken ≤ input_limit
within_read taken same = not_above (λ more. differ (same.1 more))
  where
    differ : ◌≡◌ {A = Result Line LineFault} (Err Read) (Err TooMuch) → ⊥
    differ e = cc

    not_above : (input_limit < taken → ⊥) → taken ≤ input_limit
    not_above no_more = omega arith

-- the reader gave up after this many bytes
module _ (input : Txt) (handed : List LineText) (reader : Position) (left : Option Txt) (up : HasGivenUp input handed reader left) where
  pub given_up : (status : ℕ) → status ≢ 0 → ((status ≡ 8) ↔ (input_limit < reader.taken)) → HasTakenBytes status input left
  given_up status not_all limit = record { taken = reader.taken; within = up.within; others = up.told; all = λ is. absurd (not_all is); limit = limit }

module _ (job : Job) (line asked : Option LineText) (result : Option Ending) (engine engine' : Engine) (keeper keeper' : KeeperState) (output output' : Option Txt) (steps steps' : ℕ)
    (asks_for : asked ≡ option_map (asked_line job) (option_map (counted_line job) line))
    (turn : asked ≢ None → Turn result (input_command asked) engine engine' keeper keeper' output output' steps steps')
    (end : asked ≡ None → (result ≡ Some Served) × (engine' ≡ engine) × (output' ≡ output) × (steps' ≡ steps))
    (same : asked ≡ None → keeper' ≡ keeper) where
  module _ (input : Txt) (reader reader' : Position) (left left' : Option Txt) (reading : IsHandingOut input reader left) (limit : reader'.taken ≤ input_limit) where
    abbrev Handed : Option LineText → Type 0
    Handed l = MatchOption l (HasHandedOut input reading.handed reader' left' × (reading.handed ≡ lines input) × (left' ≡ Some []))
        (λ text. HasHandedOut input (reading.handed ++ text ∷ []) reader' left')

    drop_told : (rest : Txt) → ◌≡◌ {A = Option Txt} (Some rest) (Some []) → rest ≡ []
    drop_told rest e = cc

    all_taken : Handed None → HasTakenBytes (status_of Served) input left'
    all_taken (handing, all, nothing) =
        let ended : drop reader'.taken input ≡ [] = drop_told (drop reader'.taken input) (sym handing.told ∙ nothing) in
        record {
          taken = reader'.taken;
          within = handing.within;
          others = handing.told;
          all = λ is. omega (arith, handing.within, length-drop reader'.taken input, ap length ended);
          limit = (λ is. omega (arith, is), λ more. omega (arith, more, limit));
        }

    some_taken : (handed : List LineText) → HasHandedOut input handed reader' left' → (status : ℕ) → status ≢ 0 → status ≢ 8 → HasTakenBytes status input left'
    some_taken handed handing status not_all not_more = record {
      taken = reader'.taken;
      within = handing.within;
      others = handing.told;
      all = λ is. absurd (not_all is);
      limit = (λ is. absurd (not_more is), λ more. omega (arith, more, limit));
    }

    pub read_by_turn : Handed line → MatchOption result (IsHandingOut input reader' left') (λ ending. HasTakenBytes (status_of ending) input left')
    read_by_turn handed = by_line job line asked result engine engine' keeper keeper' output output' steps steps' asks_for turn end same
        (λ r. MatchOption r (IsHandingOut input reader' left') (λ ending. HasTakenBytes (status_of ending) input left'))
        (λ is. all_taken (subst Handed is handed))
        (λ text is carries writes. record { handed = reading.handed ++ text ∷ []; handing = subst Handed is handed })
        (λ text is carries writes. some_taken (reading.handed ++ text ∷ []) (subst Handed is handed) (status_of KeeperFault) (λ e. omega (arith, e)) (λ e. omega (arith, e)))
        (λ text is carries writes. some_taken (reading.handed ++ text ∷ []) (subst Handed is handed) (status_of WriteFault) (λ e. omega (arith, e)) (λ e. omega (arith, e)))
        (λ text is number carries. (
          some_taken (reading.handed ++ text ∷ []) (subst Handed is handed) (status_of Damaged) (λ e. omega (arith, e)) (λ e. omega (arith, e)),
          some_taken (reading.handed ++ text ∷ []) (subst Handed is handed) (status_of WriteFault) (λ e. omega (arith, e)) (λ e. omega (arith, e)),
        ))
