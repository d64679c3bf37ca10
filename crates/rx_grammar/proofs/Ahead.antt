-- What stands ahead, by two tests.
use Rattle.std.proofs.Common.{◌≡◌, Bool, true, false, ◌||◌, List, [], ◌∷◌, refl, sym, ap, ◌∙◌, subst}
use Rattle.std.proofs.lemmas.Bool.{false≢true}
use Rattle.rx_syntax.specs.declared.token.Token.{Token}
use Rattle.rx_syntax.specs.declared.mark.Mark.TheVariants as sign
use Rattle.rx_grammar.specs.declared.terminal.Terminal.{Terminal}
use Rattle.rx_grammar.specs.declared.terminal.Terminal.TheVariants as terminal
use Rattle.rx_grammar.specs.Terminal.{is_such, is_one_of}
use Rattle.rx_grammar.specs.First.{Ahead, head_one_of}

either : (a b : Bool) → (a || false) ≡ true → (a || (b || false)) ≡ true
either true b h = refl
either false b h = absurd (false≢true h)

other : (a b : Bool) → (b || false) ≡ true → (a || (b || false)) ≡ true
other true b h = refl
other false b h = h

none : (a b : Bool) → (a || false) ≡ false → (b || false) ≡ false → (a || (b || false)) ≡ false
none true b h g = h
none false b h g = g

pub first_ahead : (a b : Terminal) (ts : List Token) → Ahead (a ∷ []) ts true → Ahead (a ∷ b ∷ []) ts true
first_ahead a b [] h = record { is = h.is }
first_ahead a b (t ∷ ts) h = record { is = either (is_such a t.kind) (is_such b t.kind) h.is }

pub second_ahead : (a b : Terminal) (ts : List Token) → Ahead (b ∷ []) ts true → Ahead (a ∷ b ∷ []) ts true
second_ahead a b [] h = record { is = h.is }
second_ahead a b (t ∷ ts) h = record { is = other (is_such a t.kind) (is_such b t.kind) h.is }

pub neither_ahead : (a b : Terminal) (ts : List Token) → Ahead (a ∷ []) ts false → Ahead (b ∷ []) ts false → Ahead (a ∷ b ∷ []) ts false
neither_ahead a b [] h g = record { is = refl }
neither_ahead a b (t ∷ ts) h g = record { is = none (is_such a t.kind) (is_such b t.kind) h.is g.is }

pub tick_or_dot : {ts : List Token} → Ahead (terminal.Mark sign.Tick ∷ []) ts true → Ahead (terminal.Mark sign.Tick ∷ terminal.Mark sign.Dot ∷ []) ts true
tick_or_dot {ts} h = first_ahead (terminal.Mark sign.Tick) (terminal.Mark sign.Dot) ts h

pub dot_ahead : {ts : List Token} → Ahead (terminal.Mark sign.Dot ∷ []) ts true → Ahead (terminal.Mark sign.Tick ∷ terminal.Mark sign.Dot ∷ []) ts true
dot_ahead {ts} h = second_ahead (terminal.Mark sign.Tick) (terminal.Mark sign.Dot) ts h

pub neither : {ts : List Token} → Ahead (terminal.Mark sign.Tick ∷ []) ts false → Ahead (terminal.Mark sign.Dot ∷ []) ts false → Ahead (terminal.Mark sign.Tick ∷ terminal.Mark sign.Dot ∷ []) ts false
neither {ts} h g = neither_ahead (terminal.Mark sign.Tick) (terminal.Mark sign.Dot) ts h g

one_of_two : (a b r : Bool) → (a || false) ≡ false → (b || false) ≡ r → (a || (b || false)) ≡ r
one_of_two true b r h g = absurd (false≢true (sym h))
one_of_two false b r h g = g

pub either_ahead : (a b : Terminal) (ts : List Token) (r : Bool) → Ahead (a ∷ []) ts false → Ahead (b ∷ []) ts r → Ahead (a ∷ b ∷ []) ts r
either_ahead a b [] r h g = record { is = g.is }
either_ahead a b (t ∷ ts) r h g = record { is = one_of_two (is_such a t.kind) (is_such b t.kind) r h.is g.is }
