use Rattle.std.proofs.Common.{List, ◌++◌, arith, ap, ◌∙◌}
use Rattle.std.specs.List.{flat_map}
use Rattle.std.proofs.lemmas.List.{take_all}
use Rattle.hippo_entry_codec.proofs.PartLemmas.{written_more}
use Rattle.hippo_entry_codec.proofs.parts.write_members.Goals as goal

pub loop-member-preserved : goal.loop-member-preserved
loop-member-preserved g c =
    written_more g.T.Part.bytes c.args.members.now c.loop-member.member-index c.member-item.result _ _ _ (omega arith) c.member-item.is c.loop-member.invariant c.in_ok-write.ensures

pub returns : goal.returns
returns g c =
    c.loop-member.invariant ∙ ap (λ (members : List g.row.T.Denot). c.args.out.now.items ++ flat_map g.T.Part.bytes members) (take_all c.loop-member.member-index c.args.members.now c.loop-member-test.false)
