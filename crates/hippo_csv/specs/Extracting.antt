-- The reader of a text that is one record, and the writer of an answer's records.
use Rattle.std.specs.Prelude.{◌≡◌, ℕ, true, false, List, [], Option, Some}
use Rattle.csv.specs.Reading.{Ready, default_config, source_of, reader_config, reader_state, reader_trim}
use Rattle.csv.specs.Writing.{default_writer, with_flexible, writer_setup, writer_pending, fields_written, has_written}
use Rattle.csv.specs.declared.parser.State.TheVariants.{StartRecord}
use Rattle.csv.specs.declared.reader.Reader.{Reader}
use Rattle.csv.specs.declared.reader.Trim.TheVariants as trims
use Rattle.csv.specs.declared.writer.Writer.{Writer}

-- a reader at the start of a text; it expects no header line and trims no fields
pub record IsAtStart {R : Type 0} (told : R → Option (List ℕ)) (reader : Reader R) (text : List ℕ)
    : Type 0 where
  pub config : reader_config reader ≡ default_config
  pub state : reader_state reader ≡ StartRecord
  pub source : source_of told reader ≡ Some text
  pub trim : reader_trim reader ≡ trims.None
  pub ready : Ready reader

-- a writer between two records, which may differ in length, with nothing left to write out
pub record IsBetween {W : Type 0} (writer : Writer W) : Type 0 where
  pub setup : writer_setup writer ≡ with_flexible default_writer true
  pub pending : writer_pending writer ≡ []
  pub fields : fields_written writer ≡ 0
  pub wrote : has_written writer ≡ false
