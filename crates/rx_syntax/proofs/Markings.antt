-- How marks are written.
use Rattle.std.proofs.Common.{◌≡◌, ℕ, Bool, true, false, ◌||◌, List, [], ◌∷◌, refl, sym, ap, ◌∙◌, Option, Some}
use Rattle.std.specs.List.{list_any, find}
use Rattle.std.specs.Str.{bytes_eq}
use Rattle.std.proofs.lemmas.Bool.{false≢true}
use Rattle.std.proofs.lemmas.Slice.Eq.{bytes_eq-Decides}
use Rattle.rx_syntax.specs.declared.mark.Mark.{Mark}
use Rattle.rx_syntax.specs.declared.mark.Mark.TheVariants.{ParenLeft, ParenRight, BracketLeft, BracketRight, Comma, Semicolon, Colon, DoubleColon, Assign, Arrow, Equal, NotEqual, Slash, Less, LessEqual, Greater, GreaterEqual, Plus, Minus, Star, DoubleStar, Dot, DoubleDot, Tick}
use Rattle.rx_syntax.specs.Marks.{marks, text_of}

-- a mark has one byte or two
pub data Written (text : List ℕ) : Type 0 where
  single : (a : ℕ) → text ≡ a ∷ [] → Written text
  double : (a b : ℕ) → text ≡ a ∷ b ∷ [] → Written text

pub written : (m : Mark) → Written (text_of m)
written ParenLeft = single _ refl
written ParenRight = single _ refl
written BracketLeft = single _ refl
written BracketRight = single _ refl
written Comma = single _ refl
written Semicolon = single _ refl
written Colon = single _ refl
written DoubleColon = double _ _ refl
written Assign = double _ _ refl
written Arrow = double _ _ refl
written Equal = single _ refl
written NotEqual = double _ _ refl
written Slash = single _ refl
written Less = single _ refl
written LessEqual = double _ _ refl
written Greater = single _ refl
written GreaterEqual = double _ _ refl
written Plus = single _ refl
written Minus = single _ refl
written Star = single _ refl
written DoubleStar = double _ _ refl
written Dot = single _ refl
written DoubleDot = double _ _ refl
written Tick = single _ refl

-- the mark of the first byte
abbrev pub opening : Mark → Mark
opening ParenLeft = ParenLeft
opening ParenRight = ParenRight
opening BracketLeft = BracketLeft
opening BracketRight = BracketRight
opening Comma = Comma
opening Semicolon = Semicolon
opening Colon = Colon
opening DoubleColon = Colon
opening Assign = Colon
opening Arrow = Equal
opening Equal = Equal
opening NotEqual = Slash
opening Slash = Slash
opening Less = Less
opening LessEqual = Less
opening Greater = Greater
opening GreaterEqual = Greater
opening Plus = Plus
opening Minus = Minus
opening Star = Star
opening DoubleStar = Star
opening Dot = Dot
opening DoubleDot = Dot
opening Tick = Tick

pub opens : (m : Mark) (a : ℕ) (more : List ℕ) → text_of m ≡ a ∷ more → text_of (opening m) ≡ a ∷ []
opens ParenLeft a more e = cc
opens ParenRight a more e = cc
opens BracketLeft a more e = cc
opens BracketRight a more e = cc
opens Comma a more e = cc
opens Semicolon a more e = cc
opens Colon a more e = cc
opens DoubleColon a more e = cc
opens Assign a more e = cc
opens Arrow a more e = cc
opens Equal a more e = cc
opens NotEqual a more e = cc
opens Slash a more e = cc
opens Less a more e = cc
opens LessEqual a more e = cc
opens Greater a more e = cc
opens GreaterEqual a more e = cc
opens Plus a more e = cc
opens Minus a more e = cc
opens Star a more e = cc
opens DoubleStar a more e = cc
opens Dot a more e = cc
opens DoubleDot a more e = cc
opens Tick a more e = cc

here : (a b : Bool) → (a || b) ≡ false → a ≡ false
here true b h = h
here false b h = refl

behind : (a b : Bool) → (a || b) ≡ false → b ≡ false
behind true b h = absurd (false≢true (sym h))
behind false b h = h

-- a test that no mark passes
pub no_mark : (p : Mark → Bool) → list_any p marks ≡ false → (m : Mark) → p m ≡ false
no_mark p h ParenLeft = here (p ParenLeft) _ h
no_mark p h ParenRight = here (p ParenRight) _ (behind (p ParenLeft) _ h)
no_mark p h BracketLeft = here (p BracketLeft) _ (behind (p ParenRight) _ (behind (p ParenLeft) _ h))
no_mark p h BracketRight = here (p BracketRight) _ (behind (p BracketLeft) _ (behind (p ParenRight) _ (behind (p ParenLeft) _ h)))
no_mark p h Comma = here (p Comma) _ (behind (p BracketRight) _ (behind (p BracketLeft) _ (behind (p ParenRight) _ (behind (p ParenLeft) _ h))))
no_mark p h Semicolon = here (p Semicolon) _ (behind (p Comma) _ (behind (p BracketRight) _ (behind (p BracketLeft) _ (behind (p ParenRight) _ (behind (p ParenLeft) _ h)))))
no_mark p h Colon = here (p Colon) _ (behind (p Semicolon) _ (behind (p Comma) _ (behind (p BracketRight) _ (behind (p BracketLeft) _ (behind (p ParenRight) _ (behind (p ParenLeft) _ h))))))
no_mark p h DoubleColon = here (p DoubleColon) _ (behind (p Colon) _ (behind (p Semicolon) _ (behind (p Comma) _ (behind (p BracketRight) _ (behind (p BracketLeft) _ (behind (p ParenRight) _ (behind (p ParenLeft) _ h)))))))
no_mark p h Assign = here (p Assign) _ (behind (p DoubleColon) _ (behind (p Colon) _ (behind (p Semicolon) _ (behind (p Comma) _ (behind (p BracketRight) _ (behind (p BracketLeft) _ (behind (p ParenRight) _ (behind (p ParenLeft) _ h))))))))
no_mark p h Arrow = here (p Arrow) _ (behind (p Assign) _ (behind (p DoubleColon) _ (behind (p Colon) _ (behind (p Semicolon) _ (behind (p Comma) _ (behind (p BracketRight) _ (behind (p BracketLeft) _ (behind (p ParenRight) _ (behind (p ParenLeft) _ h)))))))))
no_mark p h Equal = here (p Equal) _ (behind (p Arrow) _ (behind (p Assign) _ (behind (p DoubleColon) _ (behind (p Colon) _ (behind (p Semicolon) _ (behind (p Comma) _ (behind (p BracketRight) _ (behind (p BracketLeft) _ (behind (p ParenRight) _ (behind (p ParenLeft) _ h))))))))))
no_mark p h NotEqual = here (p NotEqual) _ (behind (p Equal) _ (behind (p Arrow) _ (behind (p Assign) _ (behind (p DoubleColon) _ (behind (p Colon) _ (behind (p Semicolon) _ (behind (p Comma) _ (behind (p BracketRight) _ (behind (p BracketLeft) _ (behind (p ParenRight) _ (behind (p ParenLeft) _ h)))))))))))
no_mark p h Slash = here (p Slash) _ (behind (p NotEqual) _ (behind (p Equal) _ (behind (p Arrow) _ (behind (p Assign) _ (behind (p DoubleColon) _ (behind (p Colon) _ (behind (p Semicolon) _ (behind (p Comma) _ (behind (p BracketRight) _ (behind (p BracketLeft) _ (behind (p ParenRight) _ (behind (p ParenLeft) _ h))))))))))))
no_mark p h Less = here (p Less) _ (behind (p Slash) _ (behind (p NotEqual) _ (behind (p Equal) _ (behind (p Arrow) _ (behind (p Assign) _ (behind (p DoubleColon) _ (behind (p Colon) _ (behind (p Semicolon) _ (behind (p Comma) _ (behind (p BracketRight) _ (behind (p BracketLeft) _ (behind (p ParenRight) _ (behind (p ParenLeft) _ h)))))))))))))
no_mark p h LessEqual = here (p LessEqual) _ (behind (p Less) _ (behind (p Slash) _ (behind (p NotEqual) _ (behind (p Equal) _ (behind (p Arrow) _ (behind (p Assign) _ (behind (p DoubleColon) _ (behind (p Colon) _ (behind (p Semicolon) _ (behind (p Comma) _ (behind (p BracketRight) _ (behind (p BracketLeft) _ (behind (p ParenRight) _ (behind (p ParenLeft) _ h))))))))))))))
no_mark p h Greater = here (p Greater) _ (behind (p LessEqual) _ (behind (p Less) _ (behind (p Slash) _ (behind (p NotEqual) _ (behind (p Equal) _ (behind (p Arrow) _ (behind (p Assign) _ (behind (p DoubleColon) _ (behind (p Colon) _ (behind (p Semicolon) _ (behind (p Comma) _ (behind (p BracketRight) _ (behind (p BracketLeft) _ (behind (p ParenRight) _ (behind (p ParenLeft) _ h)))))))))))))))
no_mark p h GreaterEqual = here (p GreaterEqual) _ (behind (p Greater) _ (behind (p LessEqual) _ (behind (p Less) _ (behind (p Slash) _ (behind (p NotEqual) _ (behind (p Equal) _ (behind (p Arrow) _ (behind (p Assign) _ (behind (p DoubleColon) _ (behind (p Colon) _ (behind (p Semicolon) _ (behind (p Comma) _ (behind (p BracketRight) _ (behind (p BracketLeft) _ (behind (p ParenRight) _ (behind (p ParenLeft) _ h))))))))))))))))
no_mark p h Plus = here (p Plus) _ (behind (p GreaterEqual) _ (behind (p Greater) _ (behind (p LessEqual) _ (behind (p Less) _ (behind (p Slash) _ (behind (p NotEqual) _ (behind (p Equal) _ (behind (p Arrow) _ (behind (p Assign) _ (behind (p DoubleColon) _ (behind (p Colon) _ (behind (p Semicolon) _ (behind (p Comma) _ (behind (p BracketRight) _ (behind (p BracketLeft) _ (behind (p ParenRight) _ (behind (p ParenLeft) _ h)))))))))))))))))
no_mark p h Minus = here (p Minus) _ (behind (p Plus) _ (behind (p GreaterEqual) _ (behind (p Greater) _ (behind (p LessEqual) _ (behind (p Less) _ (behind (p Slash) _ (behind (p NotEqual) _ (behind (p Equal) _ (behind (p Arrow) _ (behind (p Assign) _ (behind (p DoubleColon) _ (behind (p Colon) _ (behind (p Semicolon) _ (behind (p Comma) _ (behind (p BracketRight) _ (behind (p BracketLeft) _ (behind (p ParenRight) _ (behind (p ParenLeft) _ h))))))))))))))))))
no_mark p h Star = here (p Star) _ (behind (p Minus) _ (behind (p Plus) _ (behind (p GreaterEqual) _ (behind (p Greater) _ (behind (p LessEqual) _ (behind (p Less) _ (behind (p Slash) _ (behind (p NotEqual) _ (behind (p Equal) _ (behind (p Arrow) _ (behind (p Assign) _ (behind (p DoubleColon) _ (behind (p Colon) _ (behind (p Semicolon) _ (behind (p Comma) _ (behind (p BracketRight) _ (behind (p BracketLeft) _ (behind (p ParenRight) _ (behind (p ParenLeft) _ h)))))))))))))))))))
no_mark p h DoubleStar = here (p DoubleStar) _ (behind (p Star) _ (behind (p Minus) _ (behind (p Plus) _ (behind (p GreaterEqual) _ (behind (p Greater) _ (behind (p LessEqual) _ (behind (p Less) _ (behind (p Slash) _ (behind (p NotEqual) _ (behind (p Equal) _ (behind (p Arrow) _ (behind (p Assign) _ (behind (p DoubleColon) _ (behind (p Colon) _ (behind (p Semicolon) _ (behind (p Comma) _ (behind (p BracketRight) _ (behind (p BracketLeft) _ (behind (p ParenRight) _ (behind (p ParenLeft) _ h))))))))))))))))))))
no_mark p h Dot = here (p Dot) _ (behind (p DoubleStar) _ (behind (p Star) _ (behind (p Minus) _ (behind (p Plus) _ (behind (p GreaterEqual) _ (behind (p Greater) _ (behind (p LessEqual) _ (behind (p Less) _ (behind (p Slash) _ (behind (p NotEqual) _ (behind (p Equal) _ (behind (p Arrow) _ (behind (p Assign) _ (behind (p DoubleColon) _ (behind (p Colon) _ (behind (p Semicolon) _ (behind (p Comma) _ (behind (p BracketRight) _ (behind (p BracketLeft) _ (behind (p ParenRight) _ (behind (p ParenLeft) _ h)))))))))))))))))))))
no_mark p h DoubleDot = here (p DoubleDot) _ (behind (p Dot) _ (behind (p DoubleStar) _ (behind (p Star) _ (behind (p Minus) _ (behind (p Plus) _ (behind (p GreaterEqual) _ (behind (p Greater) _ (behind (p LessEqual) _ (behind (p Less) _ (behind (p Slash) _ (behind (p NotEqual) _ (behind (p Equal) _ (behind (p Arrow) _ (behind (p Assign) _ (behind (p DoubleColon) _ (behind (p Colon) _ (behind (p Semicolon) _ (behind (p Comma) _ (behind (p BracketRight) _ (behind (p BracketLeft) _ (behind (p ParenRight) _ (behind (p ParenLeft) _ h))))))))))))))))))))))
no_mark p h Tick = here (p Tick) _ (behind (p DoubleDot) _ (behind (p Dot) _ (behind (p DoubleStar) _ (behind (p Star) _ (behind (p Minus) _ (behind (p Plus) _ (behind (p GreaterEqual) _ (behind (p Greater) _ (behind (p LessEqual) _ (behind (p Less) _ (behind (p Slash) _ (behind (p NotEqual) _ (behind (p Equal) _ (behind (p Arrow) _ (behind (p Assign) _ (behind (p DoubleColon) _ (behind (p Colon) _ (behind (p Semicolon) _ (behind (p Comma) _ (behind (p BracketRight) _ (behind (p BracketLeft) _ (behind (p ParenRight) _ (behind (p ParenLeft) _ h)))))))))))))))))))))))

-- no mark is written so
pub none_written : (text : List ℕ) → list_any (λ m. bytes_eq (text_of m) text) marks ≡ false → (m : Mark) → text_of m ≡ text → ⊥
none_written text h m e = false≢true (sym (no_mark (λ m. bytes_eq (text_of m) text) h m) ∙ (bytes_eq-Decides (text_of m) text).1 e)

-- the mark that is written so
abbrev mark_of : List ℕ → Option Mark
mark_of text = find (λ m. bytes_eq (text_of m) text) marks

mark_of-text_of : (m : Mark) → mark_of (text_of m) ≡ Some m
mark_of-text_of ParenLeft = refl
mark_of-text_of ParenRight = refl
mark_of-text_of BracketLeft = refl
mark_of-text_of BracketRight = refl
mark_of-text_of Comma = refl
mark_of-text_of Semicolon = refl
mark_of-text_of Colon = refl
mark_of-text_of DoubleColon = refl
mark_of-text_of Assign = refl
mark_of-text_of Arrow = refl
mark_of-text_of Equal = refl
mark_of-text_of NotEqual = refl
mark_of-text_of Slash = refl
mark_of-text_of Less = refl
mark_of-text_of LessEqual = refl
mark_of-text_of Greater = refl
mark_of-text_of GreaterEqual = refl
mark_of-text_of Plus = refl
mark_of-text_of Minus = refl
mark_of-text_of Star = refl
mark_of-text_of DoubleStar = refl
mark_of-text_of Dot = refl
mark_of-text_of DoubleDot = refl
mark_of-text_of Tick = refl

-- marks that are written alike are the same
pub same_mark : (m m' : Mark) → text_of m ≡ text_of m' → m ≡ m'
same_mark m m' e = let a = mark_of-text_of m in let b = mark_of-text_of m' in let c = ap mark_of e in cc
