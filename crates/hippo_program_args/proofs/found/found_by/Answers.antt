use Rattle.std.proofs.Common.{◌≡◌, ◌≢◌, ◌&&◌, refl, sym, subst, Bool, true, false, [], ◌∷◌, inl, inr, Option, None, MatchOption}
use Rattle.std.proofs.lemmas.Result.{IfOk-weaker}
use Rattle.clap.specs.Words.{kind_of, HasKind, Kinds}
use Rattle.clap.specs.declared.error.Error.{Error}
use Rattle.clap.specs.declared.error.kind.ErrorKind.TheVariants.{OutOfMemory}
use Rattle.clap.specs.declared.parser.matches.ArgMatches.{ArgMatches}
use Rattle.hippo_program_args.proofs.found.found_by.Goals as goal

first_of_both : (one other : Bool) → (one && other) ≡ true → one ≡ true
first_of_both true other both = refl
first_of_both false other both = absurd cc

-- an error other than out of memory has a kind among the faults, so there are some
has_faults : (faults : Kinds) (error : Error) → HasKind faults error → kind_of error ≢ OutOfMemory → faults ≢ []
has_faults [] error (inl short) other none = other short
has_faults [] error (inr among) other none = absurd among
has_faults (fault ∷ faults) error has other none = cc

none_of : (faulty : Type 0) (matching : ArgMatches → Type 0) (found : Option ArgMatches) → found ≡ None → faulty → MatchOption found faulty matching
none_of faulty matching found is holds = subst (λ (other : Option ArgMatches). MatchOption other faulty matching) (sym is) holds

pub returns-in-Ok : goal.returns-in-Ok
returns-in-Ok c =
    (c.in-Ok.ensures.kinds c.requires.simple, (c.in-Ok.ensures.matches (first_of_both _ _ c.requires.simple)).0)

pub returns-in-Err : goal.returns-in-Err
returns-in-Err c =
    IfOk-weaker c.none_found.result _ _ (λ found none. none_of _ _ found none.0 (has_faults _ c.in-Err.error (c.in-Err.ensures.kinds c.requires.simple) none.1)) c.none_found.ensures
