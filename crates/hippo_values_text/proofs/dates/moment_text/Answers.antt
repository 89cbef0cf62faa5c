use Rattle.std.proofs.Common.{◌∙◌, sym}
use Rattle.hippo_values.proofs.AsciiLemmas.{IsAscii-same}
use Rattle.hippo_values_text.proofs.MomentTextLemmas.{moment_text-joined, IsAscii-moment_text}
use Rattle.hippo_values_text.proofs.dates.moment_text.Goals as goal

pub returns : goal.returns
returns c =
    let front = c.copy_from_slice.ensures.after ∙ c.day_text.ensures.value in
    let back = c.copy_from_slice-2.ensures.after ∙ c.time_text.ensures.value in
    let day = c.day_of_moment.ensures in
    let second = c.second_of_moment.ensures.value in
    let value = moment_text-joined c.copy_from_slice.new.self c.copy_from_slice-2.new.self c.args.moment c.day_of_moment.result c.second_of_moment.result day second front back in
    record {
      value = value;
      ascii = IsAscii-moment_text _ c.args.moment c.day_of_moment.result c.second_of_moment.result day second (IsAscii-same _ c.day_text.result (sym c.day_text.ensures.value) c.day_text.ensures.ascii) (IsAscii-same _ c.time_text.result (sym c.time_text.ensures.value) c.time_text.ensures.ascii) value;
    }
