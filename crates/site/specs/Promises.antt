-- R85: the site record as a kind of record, for both round trips.
use Rattle.records.specs.RoundTrip.{Kind}
use Rattle.site.specs.Record.{site_form, site_bytes, read_site, write_site}
use Rattle.site.specs.declared.Site.{Site}

-- R8, R85: its size, and the calls that read and write it
abbrev pub site_kind : Kind
site_kind = record {
  Fields = Site;
  size = site_form.size;
  image = site_bytes;
  write = write_site;
  read = read_site;
}
