-- What one or two reads show about the text.
use Rattle.std.proofs.Common.{◌∙◌, inl, Bor, List, ℕ, Option, Some, true, false}
use Rattle.csv.specs.Reading.{ReadRecord}
use Rattle.csv.specs.Records.{fields_of}
use Rattle.hippo_csv.proofs.RecordLemmas.{none_read, only_one_read, two_read}
use Rattle.hippo_csv.proofs.fields.only_record.Goals as goal

abbrev told : Bor (List ℕ) → Option (List ℕ)
told text = Some text.now

pub returns-then-not-branch : goal.returns-then-not-branch
returns-then-not-branch c =
    let reader = c.reader_of-reader.result in
    let start = c.reader_of-reader.ensures in
    let first : ReadRecord told reader c.read_record.new.self false (fields_of c.read_record.new.row) = rw c.if-not-branch.true at c.in_ok-read_record.ensures.reads start.trim start.ready in
    none_read told reader c.read_record.new.self _ (fields_of c.read_record.new.row) start first

pub returns-then-branch : goal.returns-then-branch
returns-then-branch c =
    let reader = c.reader_of-reader.result in
    let start = c.reader_of-reader.ensures in
    let first : ReadRecord told reader c.read_record.new.self true (fields_of c.read_record.new.row) = rw c.if-not-branch.false at c.in_ok-read_record.ensures.reads start.trim start.ready in
    let second : ReadRecord told c.read_record.new.self c.read_byte_record.new.self true (fields_of c.read_byte_record.new.row) = rw c.if-branch.true at c.in_ok-read_byte_record.ensures.reads (first.3 ∙ start.trim) (inl (c.in_ok-read_record.ensures.ready start.trim)) in
    two_read told reader c.read_record.new.self c.read_byte_record.new.self _ (fields_of c.read_record.new.row) (fields_of c.read_byte_record.new.row) start first second

pub returns : goal.returns
returns c =
    let reader = c.reader_of-reader.result in
    let start = c.reader_of-reader.ensures in
    let first : ReadRecord told reader c.read_record.new.self true (fields_of c.read_record.new.row) = rw c.if-not-branch.false at c.in_ok-read_record.ensures.reads start.trim start.ready in
    let second : ReadRecord told c.read_record.new.self c.read_byte_record.new.self false (fields_of c.read_byte_record.new.row) = rw c.if-branch.false at c.in_ok-read_byte_record.ensures.reads (first.3 ∙ start.trim) (inl (c.in_ok-read_record.ensures.ready start.trim)) in
    only_one_read told reader c.read_record.new.self c.read_byte_record.new.self _ (fields_of c.read_record.new.row) (fields_of c.read_byte_record.new.row) start first second
