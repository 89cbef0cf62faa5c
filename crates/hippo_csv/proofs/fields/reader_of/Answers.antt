-- A builder with this setup makes such a reader.
use Rattle.std.proofs.Common.{◌∙◌, inr}
use Rattle.hippo_csv.proofs.fields.reader_of.Goals as goal

pub returns : goal.returns
returns c =
    let made = c.from_reader.ensures in
    record {
      config = made.config ∙ rw (c.flexible.ensures, c.has_headers.ensures) c.new.ensures.config;
      state = made.state;
      source = made.source;
      trim = made.trim ∙ rw (c.flexible.ensures, c.has_headers.ensures) c.new.ensures.trim;
      ready = inr (inr (rw (c.flexible.ensures, c.has_headers.ensures) at made.has_headers, made.headers));
    }
