-- All goals of a message hold exactly where all its checks do.
use Rattle.std.proofs.Common.{◌≡◌, ◌≢◌, refl, sym, ap, ◌∙◌, ℕ, ◌<◌, ◌≤◌, arith, List, Bool, true, false, length, ℤ, pos, ◌*ℤ◌, ◌+ℤ◌, ◌<ℤ◌, ◌≤ℤ◌, Some, None, ◌⊎◌, inl, inr}
use Rattle.std.specs.Prelude.{slice_get, get_or}
use Rattle.std.specs.Ordering.{int_eq}
use Rattle.std.specs.Int.{int_div_euclid}
use Rattle.std.proofs.lemmas.Int.{ints, by_lt_z}
use Rattle.std.proofs.lemmas.Bool.Decides.{Decides-int_eq}
use Rattle.std.proofs.lemmas.Option.{slice_get_cases}
use Rattle.rx_model.proofs.Ring.{div_bounds}
use Rattle.rx_types.specs.Domain.{Domain}
use Rattle.rx_types.specs.Environment.{Placed, in_message, end_of, place_of}
use Rattle.rx_graph.specs.declared.message.Node.{Node}
use Rattle.rx_graph.specs.declared.message.Node.TheVariants.{At}
use Rattle.rx_graph.specs.declared.message.Field as field
use Rattle.rx_graph.specs.Graph.{Arrow, Graph, type_of}
use Rattle.rx_graph.specs.Paths.{first_of, IsTrue, IsPartial}
use Rattle.rx_graph.specs.Checks
use Rattle.rx_graph.specs.Checks.{IsMultipleOf8, IsNumbered, AllHold, covered, size_to}
use Rattle.rx_layout.specs.declared.goal.Goal.TheVariants.{Exclusive, Taken, Reached, Position, Grid, Overlay, Cover, Whole}
use Rattle.rx_forms.specs.Steps.{target_field}
use Rattle.rx_layout.specs.Goals
use Rattle.rx_layout.specs.Goals.{IsNoMultipleOf8, AllGoalsHold}
use Rattle.rx_layout.proofs.Numbered.{one_numbered}

not_below : (z : ℤ) → (z <ℤ pos 0 → ⊥) → pos 0 ≤ℤ z
not_below z h = by_lt_z z (pos 0) (λ l. absurd (h l)) (λ l. l)

by_test : (x y : ℤ) (b : Bool) → int_eq x y ≡ b → ((x ≡ y → ⊥) → ⊥) → x ≡ y
by_test x y true e h = (Decides-int_eq x y).0 e
by_test x y false e h = absurd (h (λ s. no (sym e ∙ (Decides-int_eq x y).1 s)))
  where
    no : false ≡ true → ⊥
    no e = cc

same : (x y : ℤ) → ((x ≡ y → ⊥) → ⊥) → x ≡ y
same x y h = by_test x y (int_eq x y) refl h

multiple : (z : ℤ) → (IsNoMultipleOf8 z → ⊥) → IsMultipleOf8 z
multiple z h = (int_div_euclid z (pos 8), same z (int_div_euclid z (pos 8) *ℤ pos 8) (λ n. h (λ m. n (quotient_of z m.0 m.1))))
  where
    quotient_of : (z k : ℤ) → z ≡ k *ℤ pos 8 → z ≡ int_div_euclid z (pos 8) *ℤ pos 8
    quotient_of z k e =
        let b = div_bounds z 8 (omega arith) in
        let low = b.0 in
        let high = b.1 in
        let is : int_div_euclid z (pos 8) ≡ k = between z k (int_div_euclid z (pos 8)) e low high in
        e ∙ ap (λ (q : ℤ). q *ℤ pos 8) (sym is)
      where
        between : (z k d : ℤ) → z ≡ k *ℤ pos 8 → (pos 8 *ℤ d) ≤ℤ z → z <ℤ (pos 8 *ℤ d +ℤ pos 8) → d ≡ k
        between z k d e low high = omega (arith, ints, e, low, high)

some_field : (fields : List field.Field) (f : ℕ) → slice_get fields f ≢ None → f < length fields
some_field fields f h = on (slice_get_cases fields f).1
  where
    on : ((x : field.Field) × (f < length fields) × (slice_get fields f ≡ Some x) × (get_or fields f x ≡ x)) ⊎ ((length fields ≤ f) × (slice_get fields f ≡ None)) → f < length fields
    on (inl p) = p.1
    on (inr p) = absurd (h p.1)

module _ (domains : List Domain) (m : Graph) (hold : AllGoalsHold domains m) where
  exclusive : (node : Node) (a b : ℕ) → a < b → Checks.HasExclusive domains m node a b
  exclusive node a b l total path fields i link partial num taken j other more also =
      hold (Exclusive node a b) (l, (i, link, num, tt), (j, other, more, tt)) total path fields (record { partial = partial; met = ((i, link, num, taken), (j, other, more, also)) })

  taken : (node : Node) (n i : ℕ) (link : Arrow) → IsNumbered m node n i link → Checks.HasTaken domains m node n
  taken node n i link num =
      let h = hold (Taken node n) (i, link, num, tt) in
      (h.0, h.1, h.2, h.3.met.0, h.3.met.1, h.3.partial, h.3.met.2, h.3.met.3)

  reached : (f : ℕ) → slice_get m.fields f ≢ None → Checks.HasReached domains m f
  reached f is = let h = hold (Reached f) (some_field m.fields f is) in (h.0, h.1, h.2, h.3.partial)

  position : (node : Node) (n : ℕ) → Checks.HasPosition domains m node n
  position node n total path fields i link partial num taken f target =
      let e = in_message total fields in
      let none : ((first_of link e <ℤ pos 0) ⊎ (size_to domains m link e f <ℤ pos 0)) → ⊥ =
      λ o. hold (Position node n) (i, link, num, (f, target)) total path fields (record { partial = partial; met = (i, link, num, (taken, (f, target, o))) }) in
      (not_below (first_of link e) (λ l. none (inl l)), not_below (size_to domains m link e f) (λ l. none (inr l)))

  grid : (node : Node) (n : ℕ) → Checks.HasGrid domains m node n
  grid node n total path fields i link partial num taken f target bytes =
      let e = in_message total fields in
      let none : (IsNoMultipleOf8 (first_of link e) ⊎ IsNoMultipleOf8 (size_to domains m link e f)) → ⊥ =
      λ o. hold (Grid node n) (i, link, num, (f, target, bytes)) total path fields (record { partial = partial; met = (i, link, num, (taken, (f, target, o))) }) in
      (multiple (first_of link e) (λ l. none (inl l)), multiple (size_to domains m link e f) (λ l. none (inr l)))

  overlay : (node : Node) (n : ℕ) → Checks.HasOverlay domains m node n
  overlay node n total path fields i link partial num taken f x target over =
      let e = in_message total fields in
      same (size_to domains m link e f) (place_of x fields).size
      (λ o. hold (Overlay node n) (i, link, num, (f, x, target, over)) total path fields (record { partial = partial; met = (i, link, num, (taken, (f, x, target, over, o))) }))

  cover : (node : Node) (n : ℕ) → Checks.HasCover domains m node n
  cover node n total path fields i link partial num taken =
      let e = in_message total fields in (
        (λ f target over. same (first_of link e) (covered fields) (λ o. hold (Cover node n) (i, link, num, tt) total path fields (record { partial = partial; met = (i, link, num, (taken, inl (f, target, over, o))) }))),
        (λ target. same (end_of fields) (covered fields) (λ o. hold (Cover node n) (i, link, num, tt) total path fields (record { partial = partial; met = (i, link, num, (taken, inr (target, o))) }))),
      )

  whole : (node : Node) (n : ℕ) → Checks.HasWhole domains m node n
  whole node n total path fields i link partial num taken target =
      multiple (end_of fields) (λ o. hold (Whole node n) (i, link, num, target) total path fields (record { partial = partial; met = (i, link, num, (taken, (target, o))) }))

  pub all_hold : AllHold domains m
  all_hold = record { exclusive = exclusive; taken = taken; reached = reached; position = position; grid = grid; overlay = overlay; cover = cover; whole = whole }

-- ---- back

a_field : (fields : List field.Field) (f : ℕ) → f < length fields → slice_get fields f ≢ None
a_field fields f h = on (slice_get_cases fields f).1
  where
    on : ((x : field.Field) × (f < length fields) × (slice_get fields f ≡ Some x) × (get_or fields f x ≡ x)) ⊎ ((length fields ≤ f) × (slice_get fields f ≡ None)) → slice_get fields f ≢ None
    on (inl p) none = cc
    on (inr p) none = absurd (omega (arith, h, p.0))

below_zero : (z : ℤ) → pos 0 ≤ℤ z → z <ℤ pos 0 → ⊥
below_zero z h l = omega (arith, ints, h, l)

misplaced : (x y : ℤ) → (pos 0 ≤ℤ x) × (pos 0 ≤ℤ y) → (x <ℤ pos 0) ⊎ (y <ℤ pos 0) → ⊥
misplaced x y h (inl l) = below_zero x h.0 l
misplaced x y h (inr l) = below_zero y h.1 l

off_grid : (x y : ℤ) → IsMultipleOf8 x × IsMultipleOf8 y → IsNoMultipleOf8 x ⊎ IsNoMultipleOf8 y → ⊥
off_grid x y h (inl l) = l h.0
off_grid x y h (inr l) = l h.1

module _ (domains : List Domain) (m : Graph) (hold : AllHold domains m) where
  -- one link leads to one field, which is no scalar where it is told of it
  no_scalar : (a b : Arrow) (f g : ℕ) → a ≡ b → a.target ≡ At f → b.target ≡ At g → type_of domains m g ≡ None → type_of domains m f ≡ None
  no_scalar a b f g e s t none = ap (λ (n : Node). type_of domains m (target_field n)) (sym s ∙ ap (λ (l : Arrow). l.target) e ∙ t) ∙ none

  uncovered : (node : Node) (n total : ℕ) (path : List ℕ) (fields : List Placed) (i : ℕ) (link : Arrow) → IsPartial domains m total path fields node → IsNumbered m node n i link → IsTrue link (in_message total fields) → Goals.IsUncovered domains m (in_message total fields) link → ⊥
  uncovered node n total path fields i link partial num taken (inl h) = h.3 ((hold.cover node n total path fields i link partial num taken).0 h.0 h.1 h.2)
  uncovered node n total path fields i link partial num taken (inr h) = h.1 ((hold.cover node n total path fields i link partial num taken).1 h.0)

  pub goals_hold : AllGoalsHold domains m
  goals_hold (Exclusive node a b) is = λ total path fields h.
      hold.exclusive node a b is.0 total path fields h.met.0.0 h.met.0.1 h.partial h.met.0.2 h.met.0.3 h.met.1.0 h.met.1.1 h.met.1.2 h.met.1.3
  goals_hold (Taken node n) is =
      let t = hold.taken node n is.0 is.1 is.2 in
      (t.0, t.1, t.2, record { partial = t.5; met = (t.3, t.4, t.6, t.7) })
  goals_hold (Reached f) is =
      let r = hold.reached f (a_field m.fields f is) in
      (r.0, r.1, r.2, record { partial = r.3; met = tt })
  goals_hold (Position node n) is = λ total path fields h.
      let e = in_message total fields in
      let link = h.met.1 in
      let o = h.met.3.1 in
      misplaced (first_of link e) (size_to domains m link e o.0) (hold.position node n total path fields h.met.0 link h.partial h.met.2 h.met.3.0 o.0 o.1) o.2
  goals_hold (Grid node n) is = λ total path fields h.
      let e = in_message total fields in
      let link = h.met.1 in
      let o = h.met.3.1 in
      let t = is.3 in
      let bytes = no_scalar link is.1 o.0 t.0 (one_numbered m node n h.met.0 is.0 link is.1 h.met.2 is.2) o.1 t.1 t.2 in
      off_grid (first_of link e) (size_to domains m link e o.0) (hold.grid node n total path fields h.met.0 link h.partial h.met.2 h.met.3.0 o.0 o.1 bytes) o.2
  goals_hold (Overlay node n) is = λ total path fields h.
      let o = h.met.3.1 in
      o.4 (hold.overlay node n total path fields h.met.0 h.met.1 h.partial h.met.2 h.met.3.0 o.0 o.1 o.2 o.3)
  goals_hold (Cover node n) is = λ total path fields h. uncovered node n total path fields h.met.0 h.met.1 h.partial h.met.2 h.met.3.0 h.met.3.1
  goals_hold (Whole node n) is = λ total path fields h.
      let o = h.met.3.1 in
      o.1 (hold.whole node n total path fields h.met.0 h.met.1 h.partial h.met.2 h.met.3.0 o.0)
