-- For code: nobody has to believe this page. How `fit_of` of specs/Fit.antt finds its answer: each denominator from 1 to the number of lengths is put to the
-- band test (source 004, part V). `proofs/Claims.antt` says what the answer means over all lines.
use Rattle.std.specs.Prelude.{Bool, cond, ◌&&◌, List, ℕ, zero, suc, ◌+◌, ◌*◌, ◌-◌, max, leb, ltb, length, get_or}
use Rattle.std.proofs.Math.Option.{Option, none, some}
use Rattle.basics.specs.Every.{every}

-- the limits of a code
unfoldable pub within : List ℕ → Bool
within code = ltb 0 (length code) && leb (length code) 512 && every (λ k. leb (get_or code k 0) 400) (length code)

-- the sum of the first k lengths
unfoldable pub sum_to : List ℕ → ℕ → ℕ
sum_to code zero = 0
sum_to code (suc k) = sum_to code k + get_or code k 0

-- the greatest of f 0 .. f n
unfoldable pub peak : (ℕ → ℕ) → ℕ → ℕ
peak f zero = f 0
peak f (suc n) = max (peak f n) (f (suc n))

-- a denominator b that is at most the number of lengths leaves one slope, a = the sum of the first b lengths; the offset is the least with which that slope
-- reaches each mark: the greatest lower limit
unfoldable pub offset_of : List ℕ → ℕ → ℕ
offset_of code b = peak (λ k. b * sum_to code k - sum_to code b * k) (length code)

-- the band test: with that slope and offset the line is at no mark beyond the upper limit
unfoldable pub passes : List ℕ → ℕ → Bool
passes code b = every (λ k. ltb (sum_to code b * k + offset_of code b) (b * sum_to code k + b)) (suc (length code))

-- the first of b, b + 1, .. (n of them) at which f holds
unfoldable pub first : (ℕ → Bool) → ℕ → ℕ → Option ℕ
first f zero b = none
first f (suc n) b = cond (f b) (some b) (first f n (suc b))
