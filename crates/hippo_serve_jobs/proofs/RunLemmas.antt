-- A run with one more line.
use Rattle.std.proofs.Common.{◌≡◌, inl, inr, ℕ, ◌+◌, ◌*◌, ◌<◌, ◌≤◌, ◌↔◌, List, [], ◌∷◌, ◌++◌, flat_map, length, drop, take, true, cond, Option, Some, Result, Ok, Err, refl, ap, sym, subst, ◌∙◌, append_assoc, append-nil, arith, length-drop}
use Rattle.std.proofs.lemmas.List.Sums.{sum_by-cons, sum_by-append}
use Rattle.hippo_values.specs.Limits.{job_limit}
use Rattle.hippo_values.specs.Texts.{Txt}
use Rattle.hippo_io.specs.Lines.{LineText, lines}
use Rattle.hippo_io.specs.declared.lines.Line.{Line}
use Rattle.hippo_io.specs.declared.lines.LineFault.{LineFault}
use Rattle.hippo_io.specs.declared.lines.LineFault.TheVariants.{TooMuch}
use Rattle.hippo_io.specs.Position.{Position}
use Rattle.hippo_io.specs.HandingOut.{HasHandedOut, HasGivenUp, input_limit}
use Rattle.hippo_io.specs.Told.{Appends, AppendsFront}
use Rattle.hippo_model.specs.Terms.{History}
use Rattle.hippo_model.specs.declared.entry.Entry.{Entry}
use Rattle.hippo_model.specs.Versions.{is_version, versions}
use Rattle.hippo_keeper.specs.Keeping.{KeeperState}
use Rattle.hippo_engine_sessions.specs.Tallies.{JobTally}
use Rattle.hippo_engine_sessions.specs.Worlds.{World, empty_slots}
use Rattle.hippo_engine_world.specs.Holding.{world_of, tallies_of}
use Rattle.hippo_engine_world.proofs.AuditLemmas.{tallies_of-opening}
use Rattle.hippo_stmt_lines.specs.Commands.{Command, command_of}
use Rattle.hippo_engine.specs.declared.engine.Engine.{Engine}
use Rattle.hippo_engine_rules.specs.declared.faults.EngineFault.{EngineFault}
use Rattle.hippo_engine_rules.specs.declared.faults.EngineFault.TheVariants.{Keeper, Write, Damaged}
use Rattle.hippo_engine.specs.Carrying.{Holds, is_carried, Carries, HasEffect, BreaksOff}
use Rattle.hippo_engine_rules.specs.Effects.{Effect, IsEffect, effect_of}
use Rattle.hippo_engine_rules.specs.Ledgers.{audits_of, RunSum}
use Rattle.hippo_engine_rules.specs.Runs.{IsRun, audits_in, replies, history_after, world_after}
use Rattle.hippo_engine_rules.proofs.RunLemmas.{history_after-append, world_after-append, replies-append}
use Rattle.hippo_engine_rules.proofs.LedgerLemmas.{RunSum-start, RunSum-line, RunSum-end}
use Rattle.hippo_serve_args.specs.declared.calls.Job.{Job}
use Rattle.hippo_serve_args.specs.declared.calls.Setting.{Setting}
use Rattle.hippo_serve_jobs.specs.Keeping.{KeepsHistory}
use Rattle.hippo_serve_jobs.specs.Loads.{asked_line, asked_lines}
use Rattle.hippo_serve_jobs.specs.Outside.{Told, Outside, telling, outside}
use Rattle.hippo_serve_jobs.specs.Runs.{opening_after, IsHandingOut, ForInput, StepsWithin, HasRun, HasReadAll, IsServed, IsCutOff, HasReadFront, IsUnwritten, KeepsBroken, IsBrokenOff, HasReplied, HasServed}
use Rattle.hippo_serve_jobs.proofs.AskedLemmas.{asked-last}
use Rattle.hippo_serve_jobs.proofs.KeptLemmas.{KeepsHistory-after, KeepsHistory-same, KeepsEither-after}
use Rattle.hippo_program_args.proofs.WriteLemmas.{both_whole}

pub IsRun-append : (history : History) (world : World) (replied : List LineText) (effects : List Effect) (line : LineText) (effect : Effect)
    → IsRun history world replied effects → IsEffect (history_after history effects) (world_after world effects) (command_of line) effect
    → IsRun history world (replied ++ line ∷ []) (effects ++ effect ∷ [])
IsRun-append history world [] [] line effect run is = (subst (λ (h : History). IsEffect h world (command_of line) effect) (append-nil history) is, tt)
IsRun-append history world [] (first ∷ effects) line effect run is = absurd run
IsRun-append history world (text ∷ replied) [] line effect run is = absurd run
IsRun-append history world (text ∷ replied) (first ∷ effects) line effect run is = (
  run.0,
  IsRun-append (history ++ first.added) first.world replied effects line effect run.1
      (subst (λ (h : History). IsEffect h (world_after first.world effects) (command_of line) effect) (sym (append_assoc history first.added (flat_map (λ (e : Effect). e.added) effects))) is),
)

-- the audits of the lines before the last, and of the last
audits_in-append : (replied : List LineText) (line : LineText) → audits_in (replied ++ line ∷ []) ≡ audits_in replied + audits_of (command_of line)
audits_in-append replied line =
    let count : LineText → ℕ = λ text. audits_of (command_of text) in
    omega (arith, sum_by-append count replied (line ∷ []), sum_by-cons count line [])

-- a longer history has no fewer versions
versions-more : (history added : History) → versions history ≤ versions (history ++ added)
versions-more history added = omega (arith, sum_by-append (λ (entry : Entry). cond (is_version entry.act) 1 0) history added)

-- a line is read only if no more bytes were taken than the limit
pub within_limit : (line : Line) (taken : ℕ) → (◌≡◌ {A = Result Line LineFault} (Ok line) (Err TooMuch) ↔ (input_limit < taken)) → taken ≤ input_limit
within_limit line taken same = not_above (λ more. differ (same.1 more))
  where
    differ : ◌≡◌ {A = Result Line LineFault} (Ok line) (Err TooMuch) → ⊥
    differ e = cc

    not_above : (input_limit < taken → ⊥) → taken ≤ input_limit
    not_above no_more = omega arith

-- no line was read yet
pub reading_none : (input : Txt) (reader : Position) (left : Option Txt) → left ≡ Some input → HasHandedOut input [] reader (Some input) → IsHandingOut input reader left
reading_none input reader left is handing = record { handed = []; handing = subst (λ (told : Option Txt). HasHandedOut input [] reader told) (sym is) handing }

-- no line has a reply yet
pub replied_none : (setting : Setting) (history : History) (left written : Option Txt) (engine : Engine) (keeper : KeeperState) (start steps : ℕ)
    → Holds history engine keeper → world_of engine.world ≡ opening_after setting history → KeepsHistory history keeper
    → steps ≡ start + versions history → HasReplied setting history [] (telling left written start) engine (outside left written keeper steps)
replied_none setting history left written engine keeper start steps holds world kept counted = record {
  effects = [];
  run = tt;
  world = world;
  holds = subst (λ (h : History). Holds h engine keeper) (sym (append-nil history)) holds;
  kept = subst (λ (h : History). KeepsHistory h keeper) (sym (append-nil history)) kept;
  sum =
      subst (λ (jobs : List (Option JobTally)). RunSum start steps (versions (history ++ [])) 0 jobs) (sym (tallies_of-opening engine.world _ _ _ world))
      (subst (λ (h : History). RunSum start steps (versions h) 0 (empty_slots job_limit)) (sym (append-nil history)) (RunSum-start start steps (versions history) job_limit counted));
  written = λ bytes is. is ∙ ap Some (sym (append-nil bytes));
}

-- no line was read yet, and the first line that the job asks for has its reply
pub served_none : (setting : Setting) (job : Job) (history : History) (before : Told) (reader : Position) (engine : Engine) (now : Outside)
    → ((input : Txt) → HasHandedOut input [] reader (Some input)) → now.told.left ≡ before.left
    → HasReplied setting history (asked_lines job []) before engine now → HasServed setting job history before reader engine now
served_none setting job history before reader engine now handing same replied = record {
  handed = [];
  handing = λ input is. subst (λ (told : Option Txt). HasHandedOut input [] reader told) (sym (same ∙ is)) (handing input);
  replied = replied;
}

-- after a line that was carried out, the keeper stores what the engine holds
pub held_after : (command : Command) (old new : Engine) (before after : KeeperState) (steps steps' : ℕ) → Carries {A = Unit {0}} command (Ok tt) old new before after steps steps'
    → (before.tells → (history : History) × Holds history old before) → after.tells → (history : History) × Holds history new after
held_after command old new before after steps steps' carries held tells =
    let here = held (carries.call.told tells) in
    let done : HasEffect here.0 command old new before after steps steps' = carries.carried refl tells here.0 here.1 in
    (here.0 ++ done.effect.added, done.holds)

module _ (setting : Setting) (history : History) (asked : List LineText) (before : Told) (engine engine' : Engine) (left left' written written' : Option Txt) (keeper keeper' : KeeperState) (steps steps' : ℕ)
    (replied : HasReplied setting history asked before engine (outside left written keeper steps)) where
  abbrev here : History
  here = history_after history replied.effects

  abbrev now : Outside
  now = outside left' written' keeper' steps'

  -- no more steps than the lines so far allow
  pub within_so_far : (after : Outside) → after.told.steps ≡ steps → StepsWithin history asked replied.effects before after
  within_so_far after same =
      let at_most : steps ≤ before.steps + versions here * (1 + audits_in asked) = RunSum-end before.steps steps (versions here) (audits_in asked) (tallies_of engine.world) replied.sum in
      subst (λ (n : ℕ). n ≤ before.steps + versions here * (1 + audits_in asked)) (sym same) at_most

  -- only the rest of the input has changed
  pub ran_so_far : HasRun setting history asked replied.effects before (outside left' written keeper steps)
  ran_so_far = record { run = replied.run; kept = replied.kept; bound = within_so_far (outside left' written keeper steps) refl }

  module _ (line : LineText) (tells : keeper'.tells) where
    module _ (result : Result (Unit {0}) EngineFault) (carries : Carries (command_of line) result engine engine' keeper keeper' steps steps') (good : is_carried result ≡ true) where
      abbrev pub done : HasEffect here (command_of line) engine engine' keeper keeper' steps steps'
      done = carries.carried good tells here replied.holds

      abbrev longer : List Effect
      longer = replied.effects ++ done.effect ∷ []

      abbrev there : History
      there = history_after history longer

      there_is : there ≡ here ++ done.effect.added
      there_is = history_after-append history replied.effects done.effect

      run_on : IsRun history (opening_after setting history) (asked ++ line ∷ []) longer
      run_on = IsRun-append history (opening_after setting history) asked replied.effects line done.effect replied.run
          (subst (λ (w : World). IsEffect here w (command_of line) done.effect) replied.world done.is)

      holds_on : Holds there engine' keeper'
      holds_on = subst (λ (h : History). Holds h engine' keeper') (sym there_is) done.holds

      kept_on : KeepsHistory there keeper'
      kept_on = subst (λ (h : History). KeepsHistory h keeper') (sym there_is)
          (KeepsHistory-after here done.effect.added keeper keeper' done.holds.stands.valid replied.kept done.kept)

      sum_on : RunSum before.steps steps' (versions there) (audits_in (asked ++ line ∷ [])) (tallies_of engine'.world)
      sum_on =
          let more : versions here ≤ versions there = subst (λ (h : History). versions here ≤ versions h) (sym there_is) (versions-more here done.effect.added) in
          subst (λ (n : ℕ). RunSum before.steps steps' (versions there) n (tallies_of engine'.world)) (sym (audits_in-append asked line))
          (RunSum-line (command_of line) engine'.reply before.steps steps steps' (versions here) (versions there) (audits_in asked) (tallies_of engine.world) (tallies_of engine'.world)
          more replied.sum done.counts)

      -- the line has its reply
      pub replied_more : Appends written written' engine'.reply → HasReplied setting history (asked ++ line ∷ []) before engine' now
      replied_more appends = record {
        effects = longer;
        run = run_on;
        world = done.world ∙ sym (world_after-append (opening_after setting history) replied.effects done.effect);
        holds = holds_on;
        kept = kept_on;
        sum = sum_on;
        written = subst (λ (bytes : Txt). Appends before.written written' bytes)
            (ap (λ (reply : Txt). replies replied.effects ++ reply) done.reply ∙ sym (replies-append replied.effects done.effect))
            (both_whole before.written written written' (replies replied.effects) engine'.reply replied.written appends);
      }

      ran_on : HasRun setting history (asked ++ line ∷ []) longer before now
      ran_on = record {
        run = run_on;
        kept = kept_on;
        bound = RunSum-end before.steps steps' (versions there) (audits_in (asked ++ line ∷ [])) (tallies_of engine'.world) sum_on;
      }

      -- its reply could not be written whole
      pub unwritten : (job : Job) (read : List LineText) → asked_lines job read ≡ asked ++ line ∷ [] → ForInput before (λ input. HasReadFront read input left') → AppendsFront written written' engine'.reply
          → IsUnwritten setting job history before now
      unwritten job read same first front = record {
        replied = read;
        effects = replied.effects;
        last = done.effect;
        front = front.0;
        ran = subst (λ (lines : List LineText). HasRun setting history lines longer before now) (sym same) ran_on;
        read = first;
        written = subst (λ (reply : Txt). Appends before.written written' (replies replied.effects ++ take front.0 reply)) done.reply
            (both_whole before.written written written' (replies replied.effects) (take front.0 engine'.reply) replied.written front.1);
      }

    -- the keeper failed while storing an entry or while reading
    pub broken_at : BreaksOff here (command_of line) engine keeper keeper' → KeepsBroken setting history replied.effects line keeper'
    broken_at breaks = elim breaks [
      | inl adding ↦ inl (record {
        entry = adding.entry;
        adds = subst (λ (w : World). (effect_of here w (command_of line)).added ≡ adding.entry ∷ []) replied.world adding.adds;
        follows = adding.follows;
        kept = KeepsEither-after here adding.entry keeper keeper' adding.follows replied.kept adding.kept;
      })
      | inr reading ↦ inr (record {
        reads = reading.reads;
        adds = subst (λ (w : World). (effect_of here w (command_of line)).added ≡ []) replied.world reading.adds;
        kept = KeepsHistory-same here keeper keeper' replied.kept reading.kept;
      })
    ]

    -- a keeper whose contents are known returns nothing that it does not store
    pub undamaged : (number : ℕ) → Carries {A = Unit {0}} (command_of line) (Err (Damaged number)) engine engine' keeper keeper' steps steps' → ⊥
    undamaged number carries = carries.undamaged tells here replied.holds number refl

module _ (setting : Setting) (job : Job) (history : History) (before : Told) (reader reader' : Position) (engine engine' : Engine) (left left' written written' : Option Txt) (keeper keeper' : KeeperState) (steps steps' : ℕ)
    (served : HasServed setting job history before reader engine (outside left written keeper steps)) where
  abbrev asked : List LineText
  asked = asked_lines job served.handed

  module _ (line : LineText) (handing : ForInput before (λ input. HasHandedOut input (served.handed ++ line ∷ []) reader' left')) (tells : keeper'.tells) where
    abbrev more : asked_lines job (served.handed ++ line ∷ []) ≡ asked ++ asked_line job line ∷ []
    more = asked-last job served.handed line

    read_front : reader'.taken ≤ input_limit → ForInput before (λ input. HasReadFront (served.handed ++ line ∷ []) input left')
    read_front limit input is =
        let out : HasHandedOut input (served.handed ++ line ∷ []) reader' left' = handing input is in
        record { following = lines (reader'.waiting ++ drop reader'.taken input); order = out.others; taken = reader'.taken; within = out.within; others = out.told; limit = limit }

    pub served_more : Carries {A = Unit {0}} (command_of (asked_line job line)) (Ok tt) engine engine' keeper keeper' steps steps' → Appends written written' engine'.reply
        → HasServed setting job history before reader' engine' (outside left' written' keeper' steps')
    served_more carries appends = record {
      handed = served.handed ++ line ∷ [];
      handing = handing;
      replied = subst (λ (lines : List LineText). HasReplied setting history lines before engine' (outside left' written' keeper' steps')) (sym more)
          (replied_more setting history asked before engine engine' left left' written written' keeper keeper' steps steps' served.replied (asked_line job line) tells (Ok tt) carries refl appends);
    }

    pub unwritten_at : Carries {A = Unit {0}} (command_of (asked_line job line)) (Err Write) engine engine' keeper keeper' steps steps' → AppendsFront written written' engine'.reply → reader'.taken ≤ input_limit
        → IsUnwritten setting job history before (outside left' written' keeper' steps')
    unwritten_at carries front limit =
        unwritten setting history asked before engine engine' left left' written written' keeper keeper' steps steps' served.replied (asked_line job line) tells (Err Write) carries refl job
        (served.handed ++ line ∷ []) more (read_front limit) front

    pub broken_off : Carries {A = Unit {0}} (command_of (asked_line job line)) (Err Keeper) engine engine' keeper keeper' steps steps' → written' ≡ written → reader'.taken ≤ input_limit
        → IsBrokenOff setting job history before (outside left' written' keeper' steps')
    broken_off carries same limit = record {
      replied = served.handed;
      effects = served.replied.effects;
      next = line;
      run = served.replied.run;
      kept = broken_at setting history asked before engine engine' left left' written written' keeper keeper' steps steps' served.replied (asked_line job line) tells
          (carries.failed refl tells (history_after history served.replied.effects) served.replied.holds);
      bound = λ quiet. within_so_far setting history asked before engine engine' left left' written written' keeper keeper' steps steps' served.replied (outside left' written' keeper' steps') (carries.idle quiet);
      read = read_front limit;
      written = subst (λ (bytes : Option Txt). Appends before.written bytes (replies served.replied.effects)) (sym same) served.replied.written;
    }

    pub undamaged_at : (number : ℕ) → Carries {A = Unit {0}} (command_of (asked_line job line)) (Err (Damaged number)) engine engine' keeper keeper' steps steps' → ⊥
    undamaged_at number carries =
        undamaged setting history asked before engine engine' left left' written written' keeper keeper' steps steps' served.replied (asked_line job line) tells number carries

  -- the input has ended, or was cut off, and nothing else has changed
  abbrev ran : HasRun setting history asked served.replied.effects before (outside left' written keeper steps)
  ran = ran_so_far setting history asked before engine engine' left left' written written' keeper keeper' steps steps' served.replied

  pub all_served : ForInput before (λ input. HasHandedOut input served.handed reader' left' × (served.handed ≡ lines input) × (left' ≡ Some [])) → reader'.taken ≤ input_limit
      → IsServed setting job history before (outside left' written keeper steps)
  all_served ended limit = record {
    replied = served.handed;
    effects = served.replied.effects;
    ran = ran;
    read = λ input is. read_all input (ended input is);
    written = served.replied.written;
  }
    where
      drop_told : (rest : Txt) → ◌≡◌ {A = Option Txt} (Some rest) (Some []) → rest ≡ []
      drop_told rest e = cc

      read_all : (input : Txt) → HasHandedOut input served.handed reader' left' × (served.handed ≡ lines input) × (left' ≡ Some []) → HasReadAll served.handed input left'
      read_all input (handing, all, nothing) =
          let ended : drop reader'.taken input ≡ [] = drop_told (drop reader'.taken input) (sym handing.told ∙ nothing) in
          record { all = all; nothing = nothing; limit = omega (arith, limit, length-drop reader'.taken input, ap length ended) }

  pub cut_off : (amount : ℕ → Type 0) → amount reader'.taken → ForInput before (λ input. HasGivenUp input served.handed reader' left') → IsCutOff amount setting job history before (outside left' written keeper steps)
  cut_off amount is gives_up = record {
    replied = served.handed;
    effects = served.replied.effects;
    ran = ran;
    read = λ input told.
        let up : HasGivenUp input served.handed reader' left' = gives_up input told in
        record { taken = reader'.taken; is = is; within = up.within; others = up.told; whole = up.whole };
    written = served.replied.written;
  }
