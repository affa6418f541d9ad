use mathlib.Core.Path.{◌≡◌, refl, sym, ◌∙◌}
use mathlib.Core.Bool.{Bool, true}
use Prim.Native.Nat.{◌≤◌}
use native.Mathlib.Omega.{arith}
use lib.IntN.{ℤ, pos, negsuc, ◌-ℤ◌}
use mir.Syntax.{w64}
use mir.Val.{SFits, to_z, of_z}
use mir.ValLaws.{to_z-of_z}
use Rattle.counting.specs.Years.{years_from}
use Rattle.counting.proofs.Signs.{placed, years_small}
use Rattle.asking.specs.Steps.{year_inside, years_since}
use Rattle.asking.proofs.Since.{inside}
use Rattle.listing.proofs.since.Goals as goal

-- the year is one that a calendar may have
test : {y : ℤ} {r b : Bool} → SFits w64 y → r ≡ year_inside (to_z w64 (of_z w64 y)) → r ≡ b → year_inside y ≡ b
test {y} p e t = sym (rw (to_z-of_z w64 y p) at e) ∙ t

-- the years from -4712
difference : (y : ℤ) → year_inside y ≡ true → y -ℤ negsuc 4711 ≡ pos (years_from (negsuc 4711) y)
difference y e = (placed (negsuc 4711) y (inside y e).not_early).0

few : (y : ℤ) → year_inside y ≡ true → years_from (negsuc 4711) y ≤ 24712
few y e = let o = inside y e in years_small (negsuc 4711) y 4711 (omega arith) o.not_early o.not_late

-- `listing::since` meets its contract.
pub returns-then-year_inside : goal.returns-then-year_inside
unfolding years_since
returns-then-year_inside c =
    let y = c.args.year in
    let t = test c.ranges.year c.year_inside.ensures c.if-year_inside.true in
    let small : SFits w64 (pos (years_from (negsuc 4711) y)) = record { sfits = omega (arith, few y t) } in
    rw (to_z-of_z w64 y c.ranges.year, difference y t, to_z-of_z w64 (pos (years_from (negsuc 4711) y)) small, t) refl

pub returns : goal.returns
unfolding years_since
returns c = rw (test c.ranges.year c.year_inside.ensures c.if-year_inside.false) refl
