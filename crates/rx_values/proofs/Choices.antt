-- Tests of the code, and what the definitions say.
use Rattle.std.proofs.Common.{◌≡◌, ◌∙◌, ℕ, zero, suc, ◌<◌, ◌≤◌, Bool, true, false, ◌&&◌, ◌||◌, List, [], ◌∷◌, Option, Some, None, refl, sym, ap, arith, Decides, length}
use Rattle.std.specs.Prelude.{nat_le, nat_lt, ◌==◌, ◌^◌, option_and_then, slice_index_or}
use Rattle.std.specs.List.{list_any, list_all, Contains}
use Rattle.std.proofs.Math.Bool.{or-true}
use Rattle.std.specs.Str.{IsAscii}
use Rattle.std.proofs.lemmas.Str.Ascii.{IsAscii-nil, IsAscii-cons}
use Rattle.std.proofs.lemmas.Bool.{and_parts, leb-true, le-leb}
use Rattle.std.proofs.lemmas.Bool.Decides.{Decides-and, Decides-ltb, Decides-eqb, nat_tests}
use Rattle.serde_json.specs.Data.{Data, null, boolean, number, string, array, object, Num, unsigned, negative, float}
use Rattle.serde_json.specs.Find.{as_number, as_u64, as_str}
use Rattle.rx_types.specs.Names.{is_name_byte}
use Rattle.rx_types.specs.declared.scalar.Literal.{Literal}
use Rattle.rx_types.specs.Domain.{Domain, Integer, Enumeration, IsNumberOf}
use Rattle.rx_values.specs.Reading.{is_in, if_in, literal_of, scalar_from}

has_number : (ls : List Literal) (n : ℕ) → list_any (λ l. l.number == n) ls ≡ true → (l : Literal) × Contains ls l × (l.number ≡ n)
has_number [] n e = absurd (let no : false ≡ true = e in cc)
has_number (l ∷ ls) n e = go (l.number == n) refl e (has_number ls n)
  where
    go : (b : Bool) → (l.number == n) ≡ b → (b || list_any (λ x. x.number == n) ls) ≡ true → (list_any (λ x. x.number == n) ls ≡ true → (x : Literal) × Contains ls x × (x.number ≡ n))
        → (x : Literal) × Contains (l ∷ ls) x × (x.number ≡ n)
    go true is h later = (l, (0, omega arith, refl), (Decides-eqb l.number n).0 is)
    go false is h later = let r = later h in let within = r.1.1 in (r.0, (suc r.1.0, omega arith, r.1.2), r.2)

number_had : (ls : List Literal) (n : ℕ) (x : Literal) (k : ℕ) → k < length ls → slice_index_or ls k x ≡ x → x.number ≡ n → list_any (λ l. l.number == n) ls ≡ true
number_had [] n x k lt e h = absurd (omega arith)
number_had (l ∷ ls) n x zero lt e h = ap (λ b. b || list_any (λ y. y.number == n) ls) ((Decides-eqb l.number n).1 (ap (λ (y : Literal). y.number) e ∙ h))
number_had (l ∷ ls) n x (suc k) lt e h = ap (λ b. (l.number == n) || b) (number_had ls n x k (omega arith) e h) ∙ or-true (l.number == n)

pub is_in_decides : (t : Domain) (n : ℕ) → Decides (is_in t n) (IsNumberOf t n)
is_in_decides (Integer first last size) n = Decides-and (nat_le first n) (nat_le n last) (leb-true first n, le-leb first n) (leb-true n last, le-leb n last)
is_in_decides (Enumeration literals size true) n = Decides-ltb n (2 ^ size)
is_in_decides (Enumeration literals size false) n = (has_number literals n, λ h. number_had literals n h.0 h.1.0 h.1.1 h.1.2 h.2)

-- ---- a JSON value for a scalar

abbrev pub scalar_by : Domain → Option ℕ → Option (List ℕ) → Option ℕ
scalar_by t (Some n) s = if_in t n
scalar_by t None (Some name) = literal_of t name
scalar_by t None None = None

pub scalar_cases : (t : Domain) (d : Data) → scalar_by t (option_and_then as_u64 (as_number d)) (as_str d) ≡ scalar_from t d
scalar_cases t null = refl
scalar_cases t (boolean b) = refl
scalar_cases t (number (unsigned n)) = refl
scalar_cases t (number (negative z)) = refl
scalar_cases t (number (float x)) = refl
scalar_cases t (string s) = refl
scalar_cases t (array ds) = refl
scalar_cases t (object ms) = refl

-- ---- names are ASCII

byte_below : (b : ℕ) → is_name_byte b ≡ true → b < 128
byte_below b h = grind (arith, nat_tests)

pub name_ascii : (name : List ℕ) → list_all is_name_byte name ≡ true → IsAscii name
name_ascii [] all = IsAscii-nil
name_ascii (b ∷ bs) all =
    let parts = and_parts (is_name_byte b) (list_all is_name_byte bs) all in
    IsAscii-cons b bs (byte_below b parts.0) (name_ascii bs parts.1)
