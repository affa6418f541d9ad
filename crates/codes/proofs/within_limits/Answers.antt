use mathlib.Core.Path.{◌≡◌, sym}
use mathlib.Core.List.{List}
use mathlib.Core.Bool.{Bool, true, false}
use Prim.Native.Nat.{ℕ, ◌≤◌, ◌<◌}
use native.Mathlib.Omega.{arith}
use borrow.Author.Tests.{tests}
use lib.ListN.{length}
use Rattle.std.proofs.Common.{rules}
use Rattle.std.proofs.lemmas.Iterator.{YieldsList-from_slice, cases_from_all}
use Rattle.std.specs.Bool.{MatchBool}
use Rattle.std.specs.List.{AllWithin, HoldsAt}
use Rattle.lines.specs.BandTest.{within}
use Rattle.lines.proofs.Tests.{within_is, within_not}
use Rattle.codes.proofs.within_limits.Goals as goal

-- a code with as many lengths as may be is within the limits where each length is
each : (code : List ℕ) (all : Bool) → 0 < length code → length code ≤ 512
    → MatchBool all (AllWithin (λ x. x ≤ 400) code 0 (length code)) ((k : ℕ) × (k < length code) × HoldsAt (λ x. 400 < x) code k)
    → all ≡ within code
each code true any most h = sym ((within_is code).1 (record { any = any; few = most; small = λ k l. h k 0 (omega arith) l }))
each code false any most h = sym ((within_not code).1 (λ w. omega (arith, w.small h.0 h.1, h.2 0)))

pub returns-then-code-le-MOST_LENGTHS : goal.returns-then-code-le-MOST_LENGTHS
returns-then-code-le-MOST_LENGTHS c =
    each _ _ (grind (arith, tests)) (omega arith)
    (cases_from_all _ _ _ (λ x. x ≤ 400) (λ x. 400 < x) c.all.ensures.ran (YieldsList-from_slice c.args.code.now cc) (λ x q k. search (rules, tests))
    (λ x q k. search (rules, tests)))

pub returns-else-code-le-MOST_LENGTHS : goal.returns-else-code-le-MOST_LENGTHS
returns-else-code-le-MOST_LENGTHS c =
    let outside : within c.args.code.now ≡ false = (within_not _).1 (λ w. grind (arith, tests, w.any, w.few)) in
    search (rules, tests, outside)
