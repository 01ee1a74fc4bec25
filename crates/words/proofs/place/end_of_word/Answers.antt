use Prim.Native.Nat.{◌-◌}
use mathlib.Core.Path.{◌≡◌, sym, ◌∙◌}
use native.Mathlib.Omega.{arith}
use lib.ListN.{length, take, drop, length-drop}
use lib.Seq.{take_all}
use Rattle.words.proofs.Spaces.{found, not_found}
use Rattle.words.proofs.place.end_of_word.Goals as goal

pub returns-in-Some-clause-value : goal.returns-in-Some-clause-value
returns-in-Some-clause-value c =
    let rest = drop c.args.from c.args.line.now in
    let all : take (length c.args.line.now - c.args.from) rest ≡ rest = take_all _ rest (omega (arith, length-drop c.args.from c.args.line.now)) in
    let is = rw all at c.first_space.ensures in
    let at = found rest c.in-Some.place (sym is ∙ c.in-Some.is) in
    omega arith

pub returns-in-None-clause-value : goal.returns-in-None-clause-value
returns-in-None-clause-value c =
    let rest = drop c.args.from c.args.line.now in
    let all : take (length c.args.line.now - c.args.from) rest ≡ rest = take_all _ rest (omega (arith, length-drop c.args.from c.args.line.now)) in
    let is = rw all at c.first_space.ensures in
    let end = not_found rest (sym is ∙ c.in-None.is) in
    omega (arith, length-drop c.args.from c.args.line.now)
