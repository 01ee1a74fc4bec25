-- What the product promises, a line each; each name is a page below this one, and `product` in proofs/ is the proof of all.
-- That the code keeps them: each call's contract says that its result is that of the definition its line is about.
use Rattle.records.specs.RoundTrip.{ReadsBack, WritesBack}
use Rattle.site.specs.Promises.{site_kind}
use Rattle.minute.specs.Promises.{minute_kind}
use Rattle.tool06.specs.Promises.{FedForm, ShortForm, SignOfF, KPositive, EquationSeven}
use Rattle.tool06.specs.Bounds.{RoundedOnce, NoSlack, MassesCancel}
use Rattle.calendar.specs.Promises.{MonthIs, EachInOne}
use Rattle.account.specs.Promises.{OnlyOpened, NothingElse, Lossless}
use Rattle.history.specs.Promises.{EveryKept, Histories, OpenedStays, ByAnyMasses, DemandThree, DemandThreeBySeven}
use Rattle.history.specs.Months.{RowsAddUp, RowsAre, DemandThreeByMonth, DemandThreeByMonthAndSeven}
use Rattle.history.specs.Year.{Equation15}
use Rattle.worked.specs.Table.{TableHolds}
use Rattle.text.specs.Promises.{DecimalsReadBack}
use Rattle.lines.specs.Promises.{NoneCut}
use Rattle.sheet.specs.Promises.{SheetUncut}
use Rattle.summary.specs.Promises.{RuleUncut}
use Rattle.report.specs.Promises.{InPieces}
use Rattle.month_line.specs.Promises.{MonthUncut}
use Rattle.monthly.specs.Promises.{MonthsInPieces}
use Rattle.promises.specs.Calls.{NumbersOfCalls, RefusedChangesNothing}
use Rattle.promises.specs.Outcomes.{OneOutcomeOfCalls}
use Rattle.promises.specs.Program.{ReportsAreGiven, MonthsAreGiven}

-- R83 to R94: every promise, of which this is the one page
pub record Product : Type 1 where
  -- R83: demand 1. Each call answers a result, or the first of the numbered refusals in the order listed for it
  pub numbers : NumbersOfCalls
  -- R88: one outcome of each call, for every input
  pub one_outcome : OneOutcomeOfCalls
  -- R58, R83: a refused call changes neither the account nor a lent buffer
  pub refusals : RefusedChangesNothing
  -- R54, R89: the calls take every account that they gave, and none beside a refused opening
  pub accounts : EveryKept × OnlyOpened
  -- R84: demand 2. The minutes accepted are the first of the year, judged at the account's site, and it holds exactly their sums and counts
  pub histories : Histories × OpenedStays
  -- R45: figures depend on nothing but site, record and maintenance in time
  pub nothing_else : NothingElse
  -- R85: what is written reads back, and what is read writes back
  pub round_trips : ReadsBack site_kind × WritesBack site_kind × ReadsBack minute_kind × WritesBack minute_kind
  -- R44: each figure is rounded once, from the tool's exact fraction
  pub rounded_once : RoundedOnce
  -- R67: the examples marked P
  pub examples : TableHolds
  -- R49: a chart point's sums without loss
  pub chart_points : Lossless
  -- R74 to R76, R93: no printed line is cut, its numbers read back, and records may come in pieces
  pub printed : NoneCut × SheetUncut × RuleUncut × MonthUncut × DecimalsReadBack × InPieces × MonthsInPieces
  -- R59, R68, R93: the account that a program ends with is one that the calls give, so that all here holds of it
  pub program : ReportsAreGiven × MonthsAreGiven
  -- R86: demand 3. The sums beside the tool's equations, with any positive molecular mass for each minute, and with that of each minute's own gas; nothing widens its bounds
  pub demand_three : DemandThree × DemandThreeBySeven × NoSlack
  -- R90: the months are the calendar's, and each day has one
  pub months : MonthIs × EachInOne
  -- R94: the rows of the months add up to the sums, each is the sum over its month's minutes, and demand 3 holds of each
  pub rows : RowsAddUp × RowsAre × DemandThreeByMonth × DemandThreeByMonthAndSeven
  -- R87: CO2 equivalent and the tonnes beside equation (15)
  pub equation_15 : Equation15
  -- R40 to R42: the short form is the tool's equations
  pub short_form : FedForm × ShortForm × SignOfF × KPositive
  -- R30, R31: no positive masses change an account, and equation (7) gives such
  pub any_masses : MassesCancel × ByAnyMasses × EquationSeven
