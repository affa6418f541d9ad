use mathlib.Core.Path.{sym, ap, ◌∙◌}
use mathlib.Core.List.{List, ◌++◌}
use Prim.Native.Nat.{ℕ}
use lib.ListN.{drop}
use native.Mathlib.Omega.{arith}
use Rattle.std.proofs.lemmas.List.{length-take-le}
use Rattle.lines.specs.Unfold.{unfolded}
use Rattle.lines.proofs.Unfolding.{unfold_10, unfold_6, unfold_11, unfold_0, count_is, count_not}
use Rattle.unfolding.proofs.unfold.Goals as goal

-- the two clauses by their names
named : {A B : Type 0} → A × B → record { answer : A; whole : B }
named p = record { answer = p.0; whole = p.1 }

pub returns-then-not-line_within : goal.returns-then-not-line_within
returns-then-not-line_within c = named (unfold_10 _ _ _ _ _ (omega arith) (sym c.line_within.ensures ∙ c.if-not-line_within.true))

pub returns-then-count-eq0 : goal.returns-then-count-eq0
returns-then-count-eq0 c =
    named (unfold_6 _ _ _ _ _ (omega arith) (sym c.line_within.ensures ∙ c.if-not-line_within.false) ((count_not _).1 (λ h. omega arith)))

pub returns-then-buffer-count : goal.returns-then-buffer-count
returns-then-buffer-count c =
    named
    (unfold_11 _ _ _ _ _ (omega arith)
    (sym c.line_within.ensures ∙ c.if-not-line_within.false)
    ((count_is _).1 (omega arith, omega arith))
    (omega arith))

pub returns : goal.returns
returns c =
    named
    (unfold_0 _ _ _ _ _ (omega arith)
    (ap (λ (front : List ℕ). front ++ drop c.args.count c.args.buffer.now)
    (c.write_lengths.ensures ∙ ap (unfolded c.args.line.a c.args.line.b c.args.line.r) (length-take-le c.args.count c.args.buffer.now (omega arith))))
    (sym c.line_within.ensures ∙ c.if-not-line_within.false)
    ((count_is _).1 (omega arith, omega arith))
    (omega arith))
