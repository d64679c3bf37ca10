-- Each First has one of the two forms, and lays its target where its text says.
--   IsFirstMeant s ls target e x    what stands of a First of the text, which means x
--   IsFirstOf s ls target o x       the same, if there is one
--   parts_first                     the First of what is written of a field or a link
--   laid_below                      a First lays its target over a field of the message
use Rattle.std.proofs.Common.{◌≡◌, ◌∙◌, ap, sym, refl, subst, ℕ, ◌<◌, Bool, true, false, not, ◌||◌, List, [], ◌∷◌, Option, Some, None, Ok, Err, arith}
use Rattle.std.specs.Prelude.{ℤ, pos, ◌<ℤ◌, int_le, codes, if◌then◌else◌}
use Rattle.std.specs.Option.{option_or}
use Rattle.std.proofs.lemmas.Int.{ints}
use Rattle.std.proofs.lemmas.Option.{none-some, same_Some}
use Rattle.rx_syntax.specs.declared.token.Place.{Place}
use Rattle.rx_syntax.specs.declared.tree.Named.{Named}
use Rattle.rx_syntax.specs.declared.tree.Attr.TheVariants as attr
use Rattle.rx_syntax.specs.declared.tree.Operator.TheVariants as token
use Rattle.rx_syntax.specs.declared.tree.ExprTree.{ExprTree}
use Rattle.rx_syntax.specs.declared.tree.ExprTree.TheVariants as tree
use Rattle.rx_syntax.specs.declared.tree.AspectTree.{AspectTree}
use Rattle.rx_syntax.specs.declared.tree.AspectTree.TheVariants as aspect
use Rattle.rx_types.specs.declared.expr.Operator.TheVariants as op
use Rattle.rx_types.specs.declared.interval.Interval.{Interval}
use Rattle.rx_types.specs.declared.kind.Kind.{Kind}
use Rattle.rx_types.specs.declared.kind.Kind.TheVariants as kind
use Rattle.rx_types.specs.Narrow.{places_in_bits}
use Rattle.rx_types.specs.Static.{is_static, static_value}
use Rattle.rx_types.specs.Tree.{Tree, First, Last, Binary}
use Rattle.rx_types.proofs.Statics.{static_everywhere}
use Rattle.rx_graph.specs.Elaborated.{IsFirstForm, laid_over}
use Rattle.rx_judge.specs.Judged.{Typed, judged, plain, attribute, attribute_of_message, attribute_of_thing, is_message, about_by, lowness, joined}
use Rattle.rx_judge.specs.Kinds.{is_number}
use Rattle.rx_judge.specs.Meaning.{Meaning, ◌>>=◌, refused}
use Rattle.rx_judge.specs.Names.{Scope, Within, thing_of}
use Rattle.rx_judge.specs.Scalar.{root_place}
use Rattle.rx_judge.specs.Sound.{FitScope}
use Rattle.rx_judge.specs.declared.about.About.{About}
use Rattle.rx_syntax.specs.declared.rule.Refusal.{Refusal}
use Rattle.rx_syntax.specs.declared.rule.Rule.TheVariants as rule
use Rattle.rx_judge.specs.declared.names.KnownField.{KnownField}
use Rattle.rx_judge.specs.declared.names.Thing.{Thing}
use Rattle.rx_judge.specs.declared.names.Thing.TheVariants as thing
use Rattle.rx_judge.proofs.Lows.{both_true}
use Rattle.rx_judge.proofs.Meanings.{bind_ok, ok_same, if_ok, err_differs}
use Rattle.rx_judge.proofs.Sound.{sound}
use Rattle.rx_elab.specs.Firsts.{field_of_thing, is_of_numbers, is_step_by, is_step, is_form, name_of_last, is_behind, has_first_form, field_if_any, laid, unlaid, laid_if_any, first_from, first_in}
use Rattle.rx_elab.specs.Parts.{Parts, no_parts, root_name, number_judged, truth_judged, is_mixed_target, is_mixed_beside, first_stands, first_judged, size_judged, with_aspect, with_condition, parts_judged}
use Rattle.rx_elab.specs.Through.{through}
use Rattle.rx_elab.specs.declared.layings.Laying.{Laying}

untrue : false ≡ true → ⊥
untrue h = cc

-- ---- names of fields

first_of : (b : Bool) (m : Meaning Thing) (name : Named) (y : Typed) → (if b then attribute_of_message name attr.First else (m >>= attribute_of_thing name attr.First)) ≡ Ok y → is_form true (if b then Ok None else (m >>= (λ x. Ok (field_of_thing x)))) ≡ true → (f : ℕ) × (field_if_any (if b then Ok None else (m >>= (λ x. Ok (field_of_thing x)))) ≡ Some f) × (y.tree ≡ First f)
first_of true m name y e h = absurd (untrue h)
first_of false (Ok (thing.Field f)) name y e h = (f.id, refl, ap (λ (z : Typed). z.tree) (sym (ok_same (plain (First f.id) kind.Number places_in_bits) y e)))
first_of false (Ok (thing.Literal l)) name y e h = absurd (untrue h)
first_of false (Ok (thing.Truth t)) name y e h = absurd (untrue h)
first_of false (Err r) name y e h = absurd (err_differs r y e)

last_of : (b : Bool) (m : Meaning Thing) (name : Named) (y : Typed) (step : Bool) → (if b then attribute_of_message name attr.Last else (m >>= attribute_of_thing name attr.Last)) ≡ Ok y → is_form step (if b then Ok None else (m >>= (λ x. Ok (field_of_thing x)))) ≡ true → (f : ℕ) × (y.tree ≡ Last f) × (step ≡ true)
last_of true m name y step e h = absurd (untrue h)
last_of false (Ok (thing.Field f)) name y step e h = (f.id, ap (λ (z : Typed). z.tree) (sym (ok_same _ y e)), h)
last_of false (Ok (thing.Literal l)) name y step e h = absurd (untrue h)
last_of false (Ok (thing.Truth t)) name y step e h = absurd (untrue h)
last_of false (Err r) name y step e h = absurd (err_differs r y e)

-- X'First of the field over which the target is laid
place_of : (b : Bool) (m : Meaning Thing) (name : Named) (x : ℕ) → field_if_any (if b then Ok None else (m >>= (λ y. Ok (field_of_thing y)))) ≡ Some x → (if b then attribute_of_message name attr.First else (m >>= attribute_of_thing name attr.First)) ≡ Ok (plain (First x) kind.Number places_in_bits)
place_of true m name x h = absurd (none-some x h)
place_of false (Ok (thing.Field f)) name x h = ap (λ (n : ℕ). Ok (plain (First n) kind.Number places_in_bits)) (same_Some f.id x h)
place_of false (Ok (thing.Literal l)) name x h = absurd (none-some x h)
place_of false (Ok (thing.Truth t)) name x h = absurd (none-some x h)
place_of false (Err r) name x h = absurd (none-some x h)

-- ---- sums

joined_tree : (owner : List ℕ) (p : Place) (l r y : Typed) → joined owner (Some op.Add) p l r ≡ Ok y → y.tree ≡ Binary op.Add l.tree r.tree
joined_tree owner p l r y e =
    let a = bind_ok (about_by owner (Some op.Add) p l.about r.about) (λ (a : About). lowness owner p (Binary op.Add l.tree r.tree) >>= (λ u. Ok (record { tree = Binary op.Add l.tree r.tree; about = a }))) y e in
    let b = bind_ok (lowness owner p (Binary op.Add l.tree r.tree)) (λ u. Ok (record { tree = Binary op.Add l.tree r.tree; about = a.0 })) y a.2 in
    ap (λ (z : Typed). z.tree) (sym (ok_same (record { tree = Binary op.Add l.tree r.tree; about = a.0 }) y b.2))

positive : (z : ℤ) → int_le (pos 1) z ≡ true → pos 0 <ℤ z
positive z h = grind (arith, ints)

formed : (b c d : Bool) (r q : Refusal) (u : Unit {0}) → (if b || c then Err q else (if not d then Err r else Ok tt)) ≡ Ok u → (d ≡ true) × (b ≡ false)
formed false false true r q u h = (refl, refl)
formed false false false r q u h = absurd (err_differs r u h)
formed false true d r q u h = absurd (err_differs q u h)
formed true c d r q u h = absurd (err_differs q u h)

module _ (kinds : ℕ → Option Kind) (limit : ℕ → ℕ) (n : ℕ) (s : Scope) (fits : FitScope kinds limit n s) where
  step_static : (owner : List ℕ) (k : ExprTree) (r : Typed) → judged (Within s) owner k ≡ Ok r → is_step s owner k ≡ true → (is_static r.tree ≡ true) × (pos 0 <ℤ static_value r.tree)
  step_static owner k r e h =
      let both = both_true (is_of_numbers k) (is_step_by (judged (Within s) owner k)) h in
      let t : is_step_by (Ok r) ≡ true = subst (λ (m : Meaning Typed). is_step_by m ≡ true) e both.1 in
      let p = both_true r.about.is_static (int_le (pos 1) r.about.interval.low) t in
      let so = sound kinds limit n (Within s) owner k r fits e in
      let static : is_static r.tree ≡ true = sym so.constant ∙ so.static p.0 in
      let low : r.about.interval.low ≡ static_value r.tree = ap (λ (i : Interval). i.low) (sym so.interval ∙ (static_everywhere r.tree static).interval limit) in
      (static, subst (λ (z : ℤ). pos 0 <ℤ z) low (positive r.about.interval.low p.1))

  behind : (owner : List ℕ) (p : Place) (a k : ExprTree) (y : Typed) → (judged (Within s) owner a >>= (λ l. judged (Within s) owner k >>= (λ r. joined owner (Some op.Add) p l r))) ≡ Ok y → is_behind s owner (name_of_last a) k ≡ true → (None ≡ laid_over (Some y.tree)) × IsFirstForm (Some y.tree)
  behind owner p (tree.Attribute m attr.Last) k y e h =
      let l = bind_ok (attribute s m attr.Last) (λ (l : Typed). judged (Within s) owner k >>= (λ r. joined owner (Some op.Add) p l r)) y e in
      let r = bind_ok (judged (Within s) owner k) (λ (r : Typed). joined owner (Some op.Add) p l.0 r) y l.2 in
      let f = last_of (is_message m) (thing_of s m) m.name l.0 (is_step s owner k) l.1 h in
      let st = step_static owner k r.0 r.1 f.2 in
      let is : y.tree ≡ Binary op.Add (Last f.0) r.0.tree = joined_tree owner p l.0 r.0 y r.2 ∙ ap (λ (t : Tree). Binary op.Add t r.0.tree) f.1 in
      subst (λ (t : Tree). (None ≡ laid_over (Some t)) × IsFirstForm (Some t)) (sym is) (refl, st)
  behind owner p a k y e h = absurd (untrue h)

  -- a First of one of the forms lays its target where the text says
  first_is : (owner : List ℕ) (e : ExprTree) (y : Typed) → judged (Within s) owner e ≡ Ok y → has_first_form s owner e ≡ true → (laid s e ≡ laid_over (Some y.tree)) × IsFirstForm (Some y.tree)
  first_is owner (tree.Attribute m attr.First) y e h =
      let f = first_of (is_message m) (thing_of s m) m.name y e h in
      (f.1 ∙ ap (λ (t : Tree). laid_over (Some t)) (sym f.2), subst (λ (t : Tree). IsFirstForm (Some t)) (sym f.2) tt)
  first_is owner (tree.Binary' token.Add p q a t k) y e h = behind owner p a k y e h
  first_is owner x y e h = absurd (untrue h)

  -- the field is one of the message
  pub laid_below : (e : ExprTree) (x : ℕ) → laid s e ≡ Some x → x < n
  laid_below (tree.Attribute m attr.First) x h =
      (sound kinds limit n (Within s) [] (tree.Attribute m attr.First) (plain (First x) kind.Number places_in_bits) fits (place_of (is_message m) (thing_of s m) m.name x h)).fields
  laid_below e x h = absurd (none-some x h)

  -- ---- Firsts of the text

  pub record IsFirstMeant (ls : List Laying) (target : Option KnownField) (e : ExprTree) (x : Tree) : Type 0 where
    pub lies : laid s e ≡ laid_over (Some x)
    pub form : IsFirstForm (Some x)
    pub alike : is_mixed_target ls target (laid_over (Some x)) ≡ false

  abbrev pub IsFirstOf : List Laying → Option KnownField → Option ExprTree → Option Tree → Type 0
  IsFirstOf ls target None None = Unit {0}
  IsFirstOf ls target (Some e) (Some x) = IsFirstMeant ls target e x
  IsFirstOf ls target o x = ⊥

  first_meant : (ls : List Laying) (owner : List ℕ) (target : Option KnownField) (p : Place) (e : ExprTree) (x : Tree) → first_judged s ls owner target p e ≡ Ok x → IsFirstMeant ls target e x
  first_meant ls owner target p e x h =
      let a = bind_ok (first_stands s ls owner target p e) (λ u. number_judged s owner e) x h in
      let st = formed (is_mixed_target ls target (laid s e)) (is_mixed_beside ls target (unlaid s e)) (has_first_form s owner e) (record { rule = rule.FirstForm; place = p; word = Some (codes "First") }) (record { rule = rule.OverlayMixed; place = p; word = Some (codes "First") }) a.0 a.1 in
      let b = bind_ok (judged (Within s) owner e) (λ (y : Typed). if is_number y.about.kind then Ok y.tree else refused rule.WrongType (root_place e) (root_name owner e)) x a.2 in
      let q = if_ok (is_number b.0.about.kind) b.0.tree x (record { rule = rule.WrongType; place = root_place e; word = Some (root_name owner e) }) b.2 in
      let f = first_is owner e b.0 b.1 st.0 in
      let lies : laid s e ≡ laid_over (Some x) = f.0 ∙ ap (λ (t : Tree). laid_over (Some t)) q.1 in
      record {
        lies = lies;
        form = subst (λ (t : Tree). IsFirstForm (Some t)) q.1 f.1;
        alike = ap (λ (o : Option ℕ). is_mixed_target ls target o) (sym lies) ∙ st.1;
      }

  aspects_first : (ls : List Laying) (owner : List ℕ) (target : Option KnownField) (o : Option ExprTree) (p q : Parts) (xs : List AspectTree) → IsFirstOf ls target o p.first → through (with_aspect s ls owner target) p xs ≡ Ok q → IsFirstOf ls target (first_from o xs) q.first
  aspects_first ls owner target o p q [] h k = subst (λ (y : Parts). IsFirstOf ls target o y.first) (ok_same p q k) h
  aspects_first ls owner target o p q (aspect.First l e ∷ xs) h k =
      let b = bind_ok (with_aspect s ls owner target p (aspect.First l e)) (λ (y : Parts). through (with_aspect s ls owner target) y xs) q k in
      let x = bind_ok (first_judged s ls owner target l e) (λ (x : Tree). Ok (record p { first = Some x })) b.0 b.1 in
      aspects_first ls owner target (Some e) b.0 q xs (subst (λ (y : Parts). IsFirstOf ls target (Some e) y.first) (ok_same (record p { first = Some x.0 }) b.0 x.2) (first_meant ls owner target l e x.0 x.1)) b.2
  aspects_first ls owner target o p q (aspect.Size l e ∷ xs) h k =
      let b = bind_ok (with_aspect s ls owner target p (aspect.Size l e)) (λ (y : Parts). through (with_aspect s ls owner target) y xs) q k in
      let x = bind_ok (size_judged s owner target l e) (λ (x : Tree). Ok (record p { size = Some x })) b.0 b.1 in
      aspects_first ls owner target o b.0 q xs (subst (λ (y : Parts). IsFirstOf ls target o y.first) (ok_same (record p { size = Some x.0 }) b.0 x.2) h) b.2

  condition_first : (ls : List Laying) (owner : List ℕ) (target : Option KnownField) (o : Option ExprTree) (p q : Parts) (c : Option ExprTree) → IsFirstOf ls target o p.first → with_condition s owner p c ≡ Ok q → IsFirstOf ls target o q.first
  condition_first ls owner target o p q None h k = subst (λ (y : Parts). IsFirstOf ls target o y.first) (ok_same p q k) h
  condition_first ls owner target o p q (Some e) h k =
      let b = bind_ok (truth_judged s owner e) (λ (x : Tree). Ok (record p { condition = Some x })) q k in
      subst (λ (y : Parts). IsFirstOf ls target o y.first) (ok_same (record p { condition = Some b.0 }) q b.2) h

  -- what is written of a field or a link
  pub parts_first : (ls : List Laying) (owner : List ℕ) (target : Option KnownField) (xs : List AspectTree) (c : Option ExprTree) (q : Parts) → parts_judged s ls owner target xs c ≡ Ok q → IsFirstOf ls target (first_in xs) q.first
  parts_first ls owner target xs c q k =
      let b = bind_ok (through (with_aspect s ls owner target) no_parts xs) (λ (y : Parts). with_condition s owner y c) q k in
      condition_first ls owner target (first_in xs) b.0 q c (aspects_first ls owner target None no_parts b.0 xs tt b.1) b.2

  -- ---- two Firsts

  pub form_of : (ls : List Laying) (target : Option KnownField) (o : Option ExprTree) (x : Option Tree) → IsFirstOf ls target o x → IsFirstForm x
  form_of ls target None None h = tt
  form_of ls target (Some e) (Some x) h = h.form
  form_of ls target None (Some x) h = absurd h
  form_of ls target (Some e) None h = absurd h

  pub laid_of : (ls : List Laying) (target : Option KnownField) (o : Option ExprTree) (x : Option Tree) → IsFirstOf ls target o x → laid_if_any s o ≡ laid_over x
  laid_of ls target None None h = refl
  laid_of ls target (Some e) (Some x) h = h.lies
  laid_of ls target None (Some x) h = absurd h
  laid_of ls target (Some e) None h = absurd h

  none_mixed : (ls : List Laying) (target : Option KnownField) → is_mixed_target ls target None ≡ false
  none_mixed ls None = refl
  none_mixed ls (Some f) = refl

  pub alike_of : (ls : List Laying) (target : Option KnownField) (o : Option ExprTree) (x : Option Tree) → IsFirstOf ls target o x → is_mixed_target ls target (laid_over x) ≡ false
  alike_of ls target None None h = none_mixed ls target
  alike_of ls target (Some e) (Some x) h = h.alike
  alike_of ls target None (Some x) h = absurd h
  alike_of ls target (Some e) None h = absurd h

  pub or_first : (ls : List Laying) (target : Option KnownField) (o u : Option ExprTree) (x y : Option Tree) → IsFirstOf ls target o x → IsFirstOf ls target u y → IsFirstOf ls target (option_or o u) (option_or x y)
  or_first ls target None u None y h k = k
  or_first ls target (Some e) u (Some x) y h k = h
  or_first ls target None u (Some x) y h k = absurd h
  or_first ls target (Some e) u None y h k = absurd h

pub or_form : (x y : Option Tree) → IsFirstForm x → IsFirstForm y → IsFirstForm (option_or x y)
or_form None y h k = k
or_form (Some x) y h k = h
