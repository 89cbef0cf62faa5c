-- Acts that can be stored and are acceptable make entries that may follow.
use Rattle.std.proofs.Common.{◌≡◌, ◌+◌, true, Ok, refl, ap, ◌∙◌, length}
use Rattle.std.proofs.lemmas.Bool.{and_from, eq-eqb}
use Rattle.hippo_values.specs.declared.moments.Moment.{Moment}
use Rattle.hippo_model.specs.declared.entry.Act.{Act}
use Rattle.hippo_model.specs.declared.wanted.Wanted.{Wanted}
use Rattle.hippo_model.specs.declared.wanted.Wanted.TheVariants.{Ready}
use Rattle.hippo_model.specs.Keepable.{act_is_keepable}
use Rattle.hippo_model.specs.Terms.{History, Meaning}
use Rattle.hippo_model.specs.Validity.{is_acceptable, may_follow}
use Rattle.hippo_tables.specs.Finished.{finished_act}
use Rattle.hippo_typing_laws.specs.FollowingLaws.{following_entry, HasRoomAt}

-- an act can be stored and may follow
pub record IsFit (meaning : Meaning) (history : History) (act : Act) : Type 0 where
  pub keepable : act_is_keepable act ≡ true
  pub acceptable : is_acceptable meaning history act ≡ true

-- an act that needs no existing row is the act that is made
pub at_once : (history : History) (made act : Act) (wanted : Wanted) → Ready made ≡ wanted → finished_act history wanted ≡ Ok act → made ≡ act
at_once history made act wanted is comes =
    let same : finished_act history (Ready made) ≡ Ok act = ap (finished_act history) is ∙ comes in cc

-- such an act makes an entry that may follow
pub fit_follows : (meaning : Meaning) (history : History) (moment : Moment) (act : Act) → HasRoomAt history moment → IsFit meaning history act → may_follow meaning history (following_entry history moment act) ≡ true
fit_follows meaning history moment act room fit =
    let kept = and_from _ _ (and_from _ _ room.number room.moment_fits) fit.keepable in
    and_from _ _ (and_from _ _ (and_from _ _ kept (eq-eqb (length history + 1) (length history + 1) refl)) room.order) fit.acceptable
