-- Tables of names, which are the same but for the case of their letters.
--   Entry                  a name in a package, in lower case, with what it stands for
--   found table p w        what name w of package p stands for, if it is there
--   has table p w          the name is there
--   added table p w x      the table with one more name, unless it is there
use Rattle.std.specs.Prelude.{◌≡◌, ℕ, Bool, ◌&&◌, List, [], ◌∷◌, ◌++◌, Option, map, find, if◌then◌else◌}
use Rattle.std.specs.List.{list_any}
use Rattle.std.specs.Option.{option_map}
use Rattle.std.specs.Str.{bytes_eq, str_to_ascii_lowercase}
use Rattle.rx_judge.specs.declared.table.Key.{Key}

abbrev pub lowered : List ℕ → List ℕ
lowered w = str_to_ascii_lowercase w

pub record Entry (A : Type 0) : Type 0 where
  pub «package» : List ℕ
  pub name : List ℕ
  pub thing : A

abbrev pub entry : {A : Type 0} → List ℕ → List ℕ → A → Entry A
entry p w x = record { «package» = lowered p; name = lowered w; thing = x }

-- the entry is that of name w of package p
abbrev pub is_entry : {A : Type 0} → List ℕ → List ℕ → Entry A → Bool
is_entry p w e = bytes_eq (lowered p) e.«package» && bytes_eq (lowered w) e.name

abbrev pub found : {A : Type 0} → List (Entry A) → List ℕ → List ℕ → Option A
found table p w = option_map (λ e. e.thing) (find (is_entry p w) table)

abbrev pub has : {A : Type 0} → List (Entry A) → List ℕ → List ℕ → Bool
has table p w = list_any (is_entry p w) table

abbrev pub added : {A : Type 0} → List (Entry A) → List ℕ → List ℕ → A → List (Entry A)
added table p w x = if has table p w then table else table ++ entry p w x ∷ []

-- ---- what the code keeps

abbrev pub entry_of : {A : Type 0} → Key × A → Entry A
entry_of e = record { «package» = e.0.«package».items; name = e.0.name.items; thing = e.1 }

abbrev pub entries_of : {A : Type 0} → List (Key × A) → List (Entry A)
entries_of es = map (λ e. entry_of e) es

-- the key is that of name w of package p
pub record IsKeyOf (k : Key) (p w : List ℕ) : Type 0 where
  pub «package» : k.«package».items ≡ lowered p
  pub name : k.name.items ≡ lowered w
