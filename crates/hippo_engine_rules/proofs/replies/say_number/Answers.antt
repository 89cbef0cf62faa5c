use Rattle.std.proofs.Common.{◌<◌, ◌^◌, arith, sym, ◌∙◌}
use Rattle.hippo_engine_checks.proofs.LengthLemmas.{number_fits, never_short}
use Rattle.hippo_engine_rules.proofs.replies.say_number.Goals as goal

pub unreachable-requires : goal.unreachable-requires
unreachable-requires c =
    let few : c.args.session < 256 = omega (arith, c.ranges.session.fits) in
    let small : c.args.number < 2 ^ 64 = omega (arith, c.ranges.number.fits) in
    never_short c.number_line.result _ _ _ c.number_line.ensures.room c.clear.ensures
    (number_fits c.args.session c.args.number c.args.word.now few small c.requires.short) (sym c.is_err.ensures.value ∙ c.if-is_err.true)
