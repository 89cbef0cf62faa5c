use Rattle.std.proofs.Common.{◌≡◌, ◌∙◌, ◌+◌, ◌<◌, ◌++◌, [], ◌∷◌, length, ap, sym, map, take, arith}
use Rattle.std.proofs.lemmas.List.{take_more, map-append}
use Rattle.clap.specs.Words.{App, Rule, rule_of, with_rule}
use Rattle.hippo_program_args.specs.Arguments.{rule_by, command_with}
use Rattle.hippo_program_args.proofs.arguments.command_of.Goals as goal

pub loop-argument-preserved : goal.loop-argument-preserved
loop-argument-preserved c =
    let place = c.loop-argument.argument-index in
    let all = c.args.arguments.now in
    let within : place < length all = omega (arith, c.loop-argument-test.true) in
    let more : map rule_by (take (place + 1) all) ≡ map rule_by (take place all) ++ rule_of c.arg_of.result ∷ [] =
    ap (map rule_by) (take_more all place _ within) ∙ map-append rule_by (take place all) _
    ∙ ap (λ (last : Rule). map rule_by (take place all) ++ last ∷ []) (sym c.arg_of.ensures.rule) in
    c.in_ok-command.ensures.shape c.arg_of.ensures.local
    ∙ ap (λ (app : App). with_rule app (rule_of c.arg_of.result)) c.loop-argument.invariant
    ∙ ap (command_with c.args.name.now) (sym more)
