-- The room in a line that is being made.
use Rattle.std.specs.Prelude.{ℕ, ◌+◌, ◌≤◌}
use Rattle.arrayvec.specs.ArrayString.{ArrayString, array_string_len}

-- No line is longer: 17 numbers of 20 characters at most, each with a space or a line feed.
abbrev pub longest : ℕ
longest = 357

-- There is room for n bytes more.
abbrev pub Room : ArrayString → ℕ → Type 0
Room l n = array_string_len l + n ≤ longest
