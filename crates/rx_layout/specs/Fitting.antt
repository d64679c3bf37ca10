-- Facts whose sums may be the rows of a system.
--   fits_row n f    the sum has coefficients of the first n variables alone, below 2 ^ 20, and a constant below 2 ^ 100 in magnitude
--   fits n form     every sum in the fact does
--   IsLowTo, AreLowTo     a sum, and those of a field, as the path limit has them, over the first n variables
--   IsFitting n front     what was gathered: its fields are low, and its rows and facts may be rows of a system
use Rattle.std.specs.Prelude.{◌≡◌, ◌≤◌, ◌<◌, true, ℕ, ◌^◌, Bool, ◌&&◌, length, nat_le, nat_lt, unsigned_abs}
use Rattle.std.specs.List.{list_all, AllByRecursion}
use Rattle.rx_linear.specs.Rows.{all_below}
use Rattle.rx_forms.specs.declared.linear.Linear.{Linear}
use Rattle.rx_forms.specs.Normal.{Formed}
use Rattle.rx_forms.specs.Fronts.{Front}
use Rattle.rx_forms.specs.declared.linear.Form.{Form}
use Rattle.rx_forms.specs.declared.linear.Form.TheOpen.{Form-F}
use Rattle.rx_forms.specs.declared.linear.Form.TheFolds.{fold-Form}

abbrev pub fits_row : ℕ → Linear → Bool
fits_row n f = nat_le (length f.coefficients) n && all_below (2 ^ 20) f.coefficients && nat_lt (unsigned_abs f.constant) (2 ^ 100)

-- one level of a fact, with the answer for each fact in it in its place
abbrev pub fits_step : ℕ → Form-F Bool → Bool
fits_step n (Form-F.AtLeast f) = fits_row n f
fits_step n (Form-F.All parts) = list_all (λ part. part) parts
fits_step n (Form-F.Any parts) = list_all (λ part. part) parts

unfoldable pub fits : ℕ → Form → Bool
fits n = fold-Form Bool (fits_step n)

-- ---- what was gathered

pub record IsLowTo (n : ℕ) (f : Linear) : Type 0 where
  pub short : length f.coefficients ≤ n
  pub low : all_below (2 ^ 18) f.coefficients ≡ true
  pub constant : unsigned_abs f.constant < 2 ^ 98

pub record AreLowTo (n : ℕ) (g : Formed) : Type 0 where
  pub first : IsLowTo n g.first
  pub size : IsLowTo n g.size
  pub end : IsLowTo n g.end
  pub number : IsLowTo n g.number

pub record IsFitting (n : ℕ) (front : Front) : Type 0 where
  pub some : 1 ≤ front.division
  pub fields : AllByRecursion (λ g. AreLowTo front.division g) front.fields
  pub rows : list_all (fits_row n) front.rows ≡ true
  pub conditions : list_all (fits n) front.conditions ≡ true
