-- Every promise is kept.
use Rattle.site.proofs.RoundTrip.{site-reads_back, site_writes_back}
use Rattle.minute.proofs.RoundTrip.{minute-reads_back, minute_writes_back}
use Rattle.reading.proofs.Unique.{read-site_one, read-minute_one}
use Rattle.writing.proofs.Unique.{write-site_one, write-minute_one}
use Rattle.tool06.proofs.Kept.{fed_form, short_form, sign_of_F, K_is_positive, equation_seven}
use Rattle.tool06.proofs.Sums.{rounded_once, no_slack, masses_cancel}
use Rattle.rules.proofs.Unique.{class_of_one}
use Rattle.calendar.proofs.Months.{month_is, each_in_one}
use Rattle.account.proofs.Accepted.{nothing_else}
use Rattle.account.proofs.Laws.{only-opened}
use Rattle.account.proofs.Lossless.{lossless}
use Rattle.account.proofs.Unique.{open_one, add_one, co2e_one, close_one, chart_one, site_one, sums_one, minutes_one, counts_one, rows_one}
use Rattle.by_month.proofs.Unique.{month_one}
use Rattle.day.proofs.Unique.{day_part_one}
use Rattle.run.proofs.Unique.{check_run_one}
use Rattle.host.proofs.Unique.{flare-minute_one}
use Rattle.history.proofs.Holds.{every_kept}
use Rattle.history.proofs.Opening.{opened_stays}
use Rattle.history.proofs.Promises.{histories, by_any_masses, demand_three, demand_three_by_seven}
use Rattle.history.proofs.Months.{rows_add_up, rows_are, demand_three_by-month, demand_three_by-month_and_seven}
use Rattle.history.proofs.Year.{equation_15}
use Rattle.worked.proofs.Holds.{table-holds}
use Rattle.text.proofs.ReadsBack.{reads_back}
use Rattle.lines.proofs.NoneCut.{none_cut}
use Rattle.sheet.proofs.Uncut.{sheet_uncut}
use Rattle.summary.proofs.Uncut.{rule_uncut}
use Rattle.report.proofs.Pieces.{in_pieces}
use Rattle.monthly.proofs.Pieces.{months_in_pieces}
use Rattle.month_line.proofs.Uncut.{month_uncut}
use Rattle.promises.specs.Outcomes.{OneOutcomeOfCalls}
use Rattle.promises.specs.Product.{Product}
use Rattle.promises.proofs.Calls.{numbers_of_calls, refused_changes_nothing}
use Rattle.promises.proofs.Program.{reports_are_given, months_are_given}

one_outcome_of_calls : OneOutcomeOfCalls
one_outcome_of_calls = record {
  reading_a_site = read-site_one;
  reading_a_minute = read-minute_one;
  writing_a_site = write-site_one;
  writing_a_minute = write-minute_one;
  classing = class_of_one;
  opening = open_one;
  adding = add_one;
  co2_equivalent = co2e_one;
  closing_a_year = close_one;
  charting = chart_one;
  asking_a_month = month_one;
  reading_site = site_one;
  reading_sums = sums_one;
  reading_minutes = minutes_one;
  reading_counts = counts_one;
  reading_rows = rows_one;
  checking_a_run = check_run_one;
  part_of_a_day = day_part_one;
  a_single_minute = flare-minute_one;
}

pub product : Product
product = record {
  numbers = numbers_of_calls;
  one_outcome = one_outcome_of_calls;
  refusals = refused_changes_nothing;
  accounts = (every_kept, only-opened);
  histories = (histories, opened_stays);
  nothing_else = nothing_else;
  round_trips = (site-reads_back, site_writes_back, minute-reads_back, minute_writes_back);
  rounded_once = rounded_once;
  examples = table-holds;
  chart_points = lossless;
  printed = (none_cut, sheet_uncut, rule_uncut, month_uncut, reads_back, in_pieces, months_in_pieces);
  program = (reports_are_given, months_are_given);
  demand_three = (demand_three, demand_three_by_seven, no_slack);
  months = (month_is, each_in_one);
  rows = (rows_add_up, rows_are, demand_three_by-month, demand_three_by-month_and_seven);
  equation_15 = equation_15;
  short_form = (fed_form, short_form, sign_of_F, K_is_positive);
  any_masses = (masses_cancel, by_any_masses, equation_seven);
}
