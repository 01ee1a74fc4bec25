-- R90: the month of a day.
use Rattle.std.specs.Prelude.{ℕ, ◌+◌, Bool, cond, ◌||◌, List, ◌++◌, ltb, get_or, replicate}
use Rattle.site.specs.Rules.{is_leap}

-- R90: "a table of 366 entries for a leap year": 31 days of January, 29 of February, and so on
unfoldable pub month_table : List ℕ
month_table =
    replicate 31 1
    ++ replicate 29 2
    ++ replicate 31 3
    ++ replicate 30 4
    ++ replicate 31 5
    ++ replicate 30 6
    ++ replicate 31 7
    ++ replicate 31 8
    ++ replicate 30 9
    ++ replicate 31 10
    ++ replicate 30 11
    ++ replicate 31 12

-- R90: "an ordinary year skips the entry for 29 February", which is entry 59, counted from 0
unfoldable pub entry_in : Bool → ℕ → ℕ
entry_in leap day = cond (leap || ltb day 59) day (day + 1)

-- R90: "The month of a day comes from" that table
unfoldable pub month_in : Bool → ℕ → ℕ
month_in leap day = get_or month_table (entry_in leap day) 0

-- R90: January is month 1 and December month 12
unfoldable pub month_of : ℕ → ℕ → ℕ
month_of year day = month_in (is_leap year) day
