-- Putting a field into a valuation.
use Rattle.std.proofs.Common.{◌≡◌, ◌∙◌, ℕ, suc, ◌<◌, Bool, true, false, List, [], ◌∷◌, Option, Some, None, ◌+◌, refl, sym, ap, cond, arith}
use Rattle.std.specs.Prelude.{nat_lt, ◌==◌}
use Rattle.std.specs.List.{prefix_len, insert}
use Rattle.std.proofs.lemmas.Bool.Decides.{Decides-ltb, nat_tests}
use Rattle.rx_graph.specs.Fits.{Content, Assigned, content_of, AscendFrom, IsAscending}
use Rattle.rx_values.specs.declared.valuation.Value.{Value}
use Rattle.rx_values.specs.Valuation.{content, assigned, is_before, inserted}

shifted : {A : Type 0} (x e : A) (es : List A) (k : ℕ) → insert (e ∷ es) (1 + k) x ≡ e ∷ insert es k x
shifted x e es k = let one : 1 + k ≡ suc k = omega arith in ap (λ j. insert (e ∷ es) j x) one

-- the code puts the entry where the definition does
pub inserted_is : (es : List (ℕ × Value)) (f : ℕ) (v : Value) → assigned (insert es (prefix_len (is_before f) es) (f, v)) ≡ inserted f (content v) (assigned es)
inserted_is [] f v = refl
inserted_is (e ∷ es) f v = go (nat_lt e.0 f) (inserted_is es f v)
  where
    go : (b : Bool) → assigned (insert es (prefix_len (is_before f) es) (f, v)) ≡ inserted f (content v) (assigned es)
        → assigned (insert (e ∷ es) (cond b (1 + prefix_len (is_before f) es) 0) (f, v))
        ≡ cond b (record { field = e.0; content = content e.1 } ∷ inserted f (content v) (assigned es)) (record { field = f; content = content v } ∷ assigned (e ∷ es))
    go true h = ap assigned (shifted (f, v) e es (prefix_len (is_before f) es)) ∙ ap (λ l. record { field = e.0; content = content e.1 } ∷ l) h
    go false h = refl

-- a field that is not named is another one
other : (a : Assigned) (rest : List Assigned) (f : ℕ) → content_of f (a ∷ rest) ≡ None → ((a.field == f) ≡ false) × (content_of f rest ≡ None)
other a rest f h = go (a.field == f) refl h
  where
    go : (b : Bool) → (a.field == f) ≡ b → cond b (Some a.content) (content_of f rest) ≡ None → ((a.field == f) ≡ false) × (content_of f rest ≡ None)
    go true e k = absurd (let no : Some a.content ≡ None = k in cc)
    go false e k = (e, k)

above : (a f : ℕ) → nat_lt a f ≡ false → (a == f) ≡ false → f < a
above a f e apart = grind (arith, nat_tests)

from_inserted : (least : ℕ) (vs : List Assigned) (f : ℕ) (c : Content) → AscendFrom least vs → least < f → content_of f vs ≡ None → AscendFrom least (inserted f c vs)
from_inserted least [] f c h lt none = (lt, tt)
from_inserted least (a ∷ rest) f c h lt none = go (nat_lt a.field f) refl (λ above. from_inserted a.field rest f c h.1 above (other a rest f none).1)
  where
    go : (b : Bool) → nat_lt a.field f ≡ b → (a.field < f → AscendFrom a.field (inserted f c rest)) → AscendFrom least (cond b (a ∷ inserted f c rest) (record { field = f; content = c } ∷ a ∷ rest))
    go true e later = (h.0, later ((Decides-ltb a.field f).0 e))
    go false e later = (lt, (above a.field f e (other a rest f none).0, h.1))

pub ascending_inserted : (vs : List Assigned) (f : ℕ) (c : Content) → IsAscending vs → content_of f vs ≡ None → IsAscending (inserted f c vs)
ascending_inserted [] f c h none = tt
ascending_inserted (a ∷ rest) f c h none = go (nat_lt a.field f) refl
  where
    go : (b : Bool) → nat_lt a.field f ≡ b → IsAscending (cond b (a ∷ inserted f c rest) (record { field = f; content = c } ∷ a ∷ rest))
    go true e = from_inserted a.field rest f c h ((Decides-ltb a.field f).0 e) (other a rest f none).1
    go false e = (above a.field f e (other a rest f none).0, h)
