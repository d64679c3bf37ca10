-- Loops that ask one after the other, and stop where one does not stay within the limit.
use Rattle.std.proofs.Common.{◌≡◌, sym, ap, ◌∙◌, ℕ, ◌+◌, ◌<◌, ◌≤◌, List, [], ◌∷◌, length, drop, get_or, Bool, true, false, ◌&&◌, arith}
use Rattle.std.specs.List.{list_all}
use Rattle.std.proofs.lemmas.List.{drop_more, drop_all}
use Rattle.rx_graph.specs.declared.message.Node.{Node}
use Rattle.rx_graph.specs.declared.message.Node.TheVariants.{At}
use Rattle.rx_graph.specs.declared.message.Field.{Field}
use Rattle.rx_forms.specs.PathLimit.{fields_from}

-- ---- one item after the other

module _ {X : Type 0} (p : X → Bool) (xs : List X) (k : ℕ) (total : Bool) (h : total ≡ list_all p (drop k xs)) where
  pub goes_on : (x : X) (kept : Bool) → k < length xs → x ≡ get_or xs k x → kept ≡ p x → kept ≡ true → total ≡ list_all p (drop (k + 1) xs)
  goes_on x kept lt is e t =
      h ∙ ap (λ l. list_all p l) (drop_more xs k x lt) ∙ ap (λ (b : Bool). b && list_all p (drop (k + 1) xs)) (ap p (sym is) ∙ sym e ∙ t)

  pub stops : (x : X) (kept : Bool) → k < length xs → x ≡ get_or xs k x → kept ≡ p x → kept ≡ false → false ≡ total
  stops x kept lt is e t =
      sym (h ∙ ap (λ l. list_all p l) (drop_more xs k x lt) ∙ ap (λ (b : Bool). b && list_all p (drop (k + 1) xs)) (ap p (sym is) ∙ sym e ∙ t))

  pub all_asked : length xs ≤ k → true ≡ total
  all_asked le = sym (h ∙ ap (λ l. list_all p l) (drop_all k xs le))

-- ---- fields

next_field : (p : Node → Bool) (fields : List Field) (k : ℕ) → k < length fields → list_all p (fields_from k (drop k fields)) ≡ (p (At k) && list_all p (fields_from (k + 1) (drop (k + 1) fields)))
next_field p [] k h = absurd (omega (arith, h))
next_field p (x ∷ fields) k h = ap (λ l. list_all p (fields_from k l)) (drop_more (x ∷ fields) k x h)

module _ (p : Node → Bool) (fields : List Field) (k : ℕ) (total : Bool) (h : total ≡ list_all p (fields_from k (drop k fields))) where
  pub field_goes_on : (kept : Bool) → k < length fields → kept ≡ p (At k) → kept ≡ true → total ≡ list_all p (fields_from (k + 1) (drop (k + 1) fields))
  field_goes_on kept lt e t = h ∙ next_field p fields k lt ∙ ap (λ (b : Bool). b && list_all p (fields_from (k + 1) (drop (k + 1) fields))) (sym e ∙ t)

  pub field_stops : (kept : Bool) → k < length fields → kept ≡ p (At k) → kept ≡ false → false ≡ total
  field_stops kept lt e t = sym (h ∙ next_field p fields k lt ∙ ap (λ (b : Bool). b && list_all p (fields_from (k + 1) (drop (k + 1) fields))) (sym e ∙ t))

  pub fields_asked : length fields ≤ k → true ≡ total
  fields_asked le = sym (h ∙ ap (λ l. list_all p (fields_from k l)) (drop_all k fields le))
