-- A part that was put into sums, taken out again.
use Rattle.std.specs.Prelude.{◌-◌}
use Rattle.sums.specs.declared.Sums.{Sums}

infixl 6 ◌⊟◌
unfoldable pub ◌⊟◌ : Sums → Sums → Sums
s ⊟ t = record {
  minutes = s.minutes - t.minutes;
  gas = s.gas - t.gas;
  fed = s.fed - t.fed;
  emitted = s.emitted - t.emitted;
  destroyed = s.destroyed - t.destroyed;
}
