-- R51: the refusals and their numbers.
use Rattle.std.specs.Prelude.{ℕ}
use Rattle.refusals.specs.declared.refusal.Refusal.{Refusal}
use Rattle.refusals.specs.declared.refusal.Refusal.TheVariants.{Length, Version, Method, Year, Gwp, Size, Spec, Open, Schedule, List, Full, Flags, Order, Flow, Composition, Methane, Temperature, Exhaust, Oxygen, Incomplete, Day, Buffer, Month}

-- R51: the number of each name
abbrev pub number_of : Refusal → ℕ
number_of Length = 1
number_of Version = 2
number_of Method = 3
number_of Year = 4
number_of Gwp = 5
number_of Size = 6
number_of Spec = 7
number_of Open = 8
number_of Schedule = 9
number_of List = 10
number_of Full = 11
number_of Flags = 12
number_of Order = 13
number_of Flow = 14
number_of Composition = 15
number_of Methane = 16
number_of Temperature = 17
number_of Exhaust = 18
number_of Oxygen = 19
number_of Incomplete = 20
number_of Day = 21
number_of Buffer = 22
number_of Month = 23
