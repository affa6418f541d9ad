-- What the private functions answer: a frame's digits as one number. Nobody has to believe these definitions: the public promises do not cite them.
use Rattle.std.specs.Prelude.{ℕ, ◌+◌, ◌*◌, ◌/◌, ◌%◌, ◌^◌}
use Rattle.frames.specs.declared.Frame.{Frame}

abbrev pub parts_of : ℕ → Frame
parts_of n =
    record { calendar = n / 16 ^ 14 % 16 ^ 2; year = n / 16 ^ 10 % 16 ^ 4; month = n / 16 ^ 8 % 16 ^ 2; day = n / 16 ^ 6 % 16 ^ 2; number = n % 16 ^ 6 }

abbrev pub packed : Frame → ℕ
packed f = f.calendar % 16 ^ 2 * 16 ^ 14 + f.year % 16 ^ 4 * 16 ^ 10 + f.month % 16 ^ 2 * 16 ^ 8 + f.day % 16 ^ 2 * 16 ^ 6 + f.number % 16 ^ 6
