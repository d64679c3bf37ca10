-- The comparison of names.
use Rattle.std.specs.Prelude.{ℕ, Bool, List}
use Rattle.std.specs.Str.{str_eq_ignore_ascii_case}

-- the same word in whatever case
abbrev pub is_same : List ℕ → List ℕ → Bool
is_same a b = str_eq_ignore_ascii_case a b
