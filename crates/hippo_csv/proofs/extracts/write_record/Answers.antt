use Rattle.std.proofs.Common.{◌≡◌, ◌≢◌}
use Rattle.csv.specs.Records.{fields_of}
use Rattle.csv.specs.Writing.{default_writer, row_text, writer_setup}
use Rattle.csv.specs.declared.writer.QuoteStyle.TheVariants as styles
use Rattle.hippo_csv.proofs.WriterLemmas.{row-flexible, handed_on}
use Rattle.hippo_csv.proofs.extracts.write_record.Goals as goal

pub returns-clause-text : goal.returns-clause-text
returns-clause-text c =
    let old = c.args.writer.now in
    let plain : (writer_setup old).style ≢ styles.NonNumeric = rw c.requires.setup (λ e. cc e) in
    let wrote = c.in_ok-write_byte_record.ensures.bytes c.requires.fields c.requires.wrote plain in
    let alike : row_text (writer_setup old) (fields_of c.as_byte_record.result.now) ≡ row_text default_writer (fields_of c.args.fields.now) =
    rw (c.requires.setup, c.as_byte_record.ensures) (row-flexible (fields_of c.args.fields.now)) in
    handed_on _ _ _ _ _ _ _ c.in_ok-flush.ensures.bytes c.in_ok-flush.ensures.pending wrote c.requires.pending alike
