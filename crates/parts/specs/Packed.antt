-- For code: the day of a date, or the refusal that stands 2^32 high in its place. Nobody has to believe this page.
use Rattle.std.specs.Prelude.{◌≡◌, ◌≢◌, ℕ, ◌/◌, ◌^◌, Result, MatchResult}
use Rattle.refusals.specs.declared.Refusal.{Refusal}
use Rattle.refusals.specs.Number.{number_of}

-- what such a number says: a day where no refusal has the number that stands high
abbrev pub Unpacked : ℕ → Result ℕ Refusal → Type 0
Unpacked number found =
    MatchResult found (λ day. (day ≡ number) × ((why : Refusal) → number_of why ≢ number / 2 ^ 32)) (λ why. number_of why ≡ number / 2 ^ 32)
