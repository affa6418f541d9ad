-- What is said of a failure.
use Rattle.std.specs.Prelude.{List, ℕ, ◌≡◌, ◌++◌, codes}
use Rattle.stdio.specs.declared.Failure.{Failure}
use Rattle.stdio.specs.declared.Failure.TheVariants.{Read, Write}

abbrev pub said : Failure → List ℕ
said (Read file) = codes "cannot read " ++ (file.now ++ codes "; the output is incomplete")
said (Write file) = codes "cannot write " ++ (file.now ++ codes "; the output is incomplete")

-- a failed read of standard input, and a failed write of standard output, by what is said
abbrev pub IsOfInput : Failure → Type 0
IsOfInput failure = said failure ≡ codes "cannot read standard input; the output is incomplete"

abbrev pub IsOfOutput : Failure → Type 0
IsOfOutput failure = said failure ≡ codes "cannot write standard output; the output is incomplete"
