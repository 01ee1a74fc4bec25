-- R85: the minute record as a kind of record, for both round trips.
use Rattle.records.specs.RoundTrip.{Kind}
use Rattle.minute.specs.Record.{minute_form, minute_bytes, read_minute, write_minute}
use Rattle.minute.specs.declared.Minute.{Minute}

-- R9, R85: its size, and the calls that read and write it
abbrev pub minute_kind : Kind
minute_kind = record {
  Fields = Minute;
  size = minute_form.size;
  image = minute_bytes;
  write = write_minute;
  read = read_minute;
}
