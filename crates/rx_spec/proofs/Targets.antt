-- The links of a message that a text makes, and those of the null message.
use Rattle.std.proofs.Common.{◌≡◌, ◌∙◌, ap, sym, refl, subst, ℕ, zero, suc, ◌+◌, ◌<◌, ◌≤◌, true, ◌&&◌, List, [], ◌∷◌, length, Option, Some, None, Ok, arith}
use Rattle.std.specs.Prelude.{slice_get, nat_le}
use Rattle.std.specs.List.{list_all}
use Rattle.std.specs.Option.{option_or, option_map}
use Rattle.std.proofs.lemmas.Bool.Decides.{Decides-eqb}
use Rattle.std.proofs.lemmas.List.{length-map}
use Rattle.std.proofs.lemmas.Option.{none-some, same_Some, slice_get-map}
use Rattle.rx_syntax.specs.declared.token.Place.{Place}
use Rattle.rx_syntax.specs.declared.tree.Named.{Named}
use Rattle.rx_syntax.specs.declared.tree.ThenTree.{ThenTree}
use Rattle.rx_syntax.specs.declared.tree.FieldTree.{FieldTree}
use Rattle.rx_syntax.specs.declared.tree.MessageTree.{MessageTree}
use Rattle.rx_syntax.specs.declared.tree.HeaderTree.{HeaderTree}
use Rattle.rx_syntax.specs.declared.rule.Rule.TheVariants as rule
use Rattle.rx_types.specs.Domain.{Domain, EachPair}
use Rattle.rx_types.specs.Names.{IsSameName, is_name_byte}
use Rattle.rx_graph.specs.declared.message.Field.{Field}
use Rattle.rx_graph.specs.declared.message.Node.TheVariants as node
use Rattle.rx_graph.specs.Cycles.{IsLink, HasNoCycle}
use Rattle.rx_graph.specs.Elaborated.{GoesOn, IsSource, IsTarget, IsElaboratedLink, IsPlacing, IsSized, laid_over}
use Rattle.rx_graph.specs.Graph.{Arrow, Graph, type_of, overlay_of, kind_of, limit_of}
use Rattle.rx_judge.specs.Names.{Scope}
use Rattle.rx_judge.specs.Scalar.{spelled}
use Rattle.rx_judge.specs.Table.{Entry, found, lowered}
use Rattle.rx_judge.proofs.Lows.{both_true}
use Rattle.rx_judge.proofs.Meanings.{bind_ok, ok_same, if_ok, err_differs}
use Rattle.rx_links.specs.Cycle.{IsStop, AreWithin, clauses_in, clauses_of, node_of, HasEnds}
use Rattle.rx_links.specs.Links.{field_at, target_of}
use Rattle.rx_links.specs.Positions.{positions}
use Rattle.rx_links.specs.declared.links.Stop.{Stop}
use Rattle.rx_links.specs.declared.links.Stop.TheVariants as stop
use Rattle.rx_links.specs.declared.links.Way.{Way}
use Rattle.rx_links.proofs.Acyclic.{acyclic}
use Rattle.rx_links.proofs.Within.{links_within}
use Rattle.rx_elab.specs.Firsts.{laid_if_any, way_first, laying_of, layings_of, is_at, overlay_in}
use Rattle.rx_elab.specs.Parts.{Parts, FieldParts, MessageParts, is_scalar_field, target_in, is_mixed_target, then_parts, field_parts}
use Rattle.rx_elab.specs.Types.{Types}
use Rattle.rx_elab.specs.declared.fields.Held.{Held}
use Rattle.rx_elab.specs.declared.fields.Held.TheVariants as holds
use Rattle.rx_elab.specs.declared.layings.Laying.{Laying}
use Rattle.rx_elab.specs.declared.types.KnownScalar.{KnownScalar}
use Rattle.rx_spec.specs.Arrows.{own_in, own_parts, thens_in, thens_of, parts_or_none, clause_in, clause_parts, arrow_of_way}
use Rattle.rx_spec.specs.Messages.{type_held, field_meant, scope_in}
use Rattle.rx_spec.specs.Shape.{message_has_few}
use Rattle.rx_spec.specs.Sizes.{held_sized, field_sized, is_sized}
use Rattle.rx_spec.proofs.Expressions.{IsJudged, message_judged, field_judged, condition_good, first_good, size_good, node_good, clause_good}
use Rattle.rx_spec.proofs.Forms.{IsFirstOf, laid_of, form_of, alike_of}
use Rattle.rx_spec.proofs.Items.{source_of, mapped}
use Rattle.rx_spec.proofs.Lying.{target_known, is_at_stop, way_meant}
use Rattle.rx_spec.proofs.Overlays.{AreAlike, agrees}
use Rattle.rx_spec.proofs.Parting.{IsMade}
use Rattle.rx_spec.proofs.Pathing.{at_most, few_paths}
use Rattle.rx_spec.proofs.Placing.{AreApart, scalar_named, named_field, own_place, parts_without, sized_or_ends}
use Rattle.rx_spec.proofs.Standing.{FieldsStand, LinksStand}
use Rattle.rx_spec.proofs.Steps.{get_within, all_at, each_at, stands_at}
use Rattle.rx_spec.proofs.Clauses.{IsBegin, IsEnd, Says, is_way, start_has, field_has}

-- ---- fields with names of their own

apart_in : (fs : List Field) (i j : ℕ) (a b : Field) → EachPair (λ x y. IsSameName x.name y.name → ⊥) fs → slice_get fs i ≡ Some a → slice_get fs j ≡ Some b → IsSameName a.name b.name → i ≡ j
apart_in [] i j a b p h k same = absurd (none-some a h)
apart_in (f ∷ fs) zero zero a b p h k same = refl
apart_in (f ∷ fs) zero (suc j) a b p h k same =
    let first : IsSameName f.name b.name = ap (λ (x : Field). lowered x.name) (same_Some f a h) ∙ same in
    absurd (all_at (λ y. IsSameName f.name y.name → ⊥) fs j b p.0 k first)
apart_in (f ∷ fs) (suc i) zero a b p h k same =
    let first : IsSameName f.name a.name = ap (λ (x : Field). lowered x.name) (same_Some f b k) ∙ sym same in
    absurd (all_at (λ y. IsSameName f.name y.name → ⊥) fs i a p.0 h first)
apart_in (f ∷ fs) (suc i) (suc j) a b p h k same = ap suc (apart_in fs i j a b p.1 h k same)

field_name : (held : List Held) (ls : List Laying) (i : ℕ) (f : FieldTree) (x : Field) → field_meant held ls i f ≡ Ok x → f.name.word ≡ x.name
field_name held ls i f x e =
    let b = bind_ok (spelled f.name) (λ (w : List ℕ). Ok (record { name = w; kind = type_held (slice_get held i); overlay = overlay_in ls i })) x e in
    (if_ok (list_all is_name_byte f.name.word) f.name.word b.0 (record { rule = rule.UnknownName; place = f.name.place; word = Some f.name.word }) b.1).1 ∙ ap (λ (y : Field). y.name) (ok_same (record { name = b.0; kind = type_held (slice_get held i); overlay = overlay_in ls i }) x b.2)

-- ---- targets

no_field : (f : ℕ) → stop.Null ≡ stop.At f → ⊥
no_field f h = cc

same_stop : (i f : ℕ) → stop.At i ≡ stop.At f → i ≡ f
same_stop i f h = cc

stop_at_node : (s : Stop) (f : ℕ) → node_of s ≡ node.At f → s ≡ stop.At f
stop_at_node stop.Start f h = absurd (cc)
stop_at_node stop.Null f h = absurd (cc)
stop_at_node (stop.At i) f h = let same : i ≡ f = cc in ap stop.At same

named_at : (p : Place) (w : List ℕ) (o : Option ℕ) (target : Stop) (f : ℕ) → field_at p w o ≡ Ok target → target ≡ stop.At f → o ≡ Some f
named_at p w None target f e h = absurd (err_differs _ target e)
named_at p w (Some i) target f e h = ap (λ (n : ℕ). Some n) (same_stop i f (ok_same (stop.At i) target e ∙ h))

-- a name of field f is a name of a scalar
abbrev AreScalar : Scope → List (Entry ℕ) → ℕ → Type 0
AreScalar s table f = (w : List ℕ) → found table [] w ≡ Some f → is_scalar_field (found s.fields [] w) ≡ true

scalar_target : (s : Scope) (table : List (Entry ℕ)) (p : Place) (o : Option (List ℕ)) (target : Stop) (f : ℕ) → AreScalar s table f → target_of table p o ≡ Ok target → target ≡ stop.At f → is_scalar_field (target_in s o) ≡ true
scalar_target s table p None target f all e h = absurd (no_field f (ok_same stop.Null target e ∙ h))
scalar_target s table p (Some w) target f all e h = all w (named_at p w (found table [] w) target f e h)

-- ---- what is written of the links of a node

record IsClause (s : Scope) (ls : List Laying) (clauses : List ThenTree) (k : ℕ) (q : Parts) : Type 0 where
  owner : List ℕ
  clause : ThenTree
  at : slice_get clauses k ≡ Some clause
  is : then_parts s ls owner k clause ≡ Ok q

parts_or_none_without : (o : Option Parts) → ((q : Parts) → o ≡ Some q → q.size ≡ None) → (parts_or_none o).size ≡ None
parts_or_none_without None h = refl
parts_or_none_without (Some q) h = h q refl

clause_without : (s : Scope) (ls : List Laying) (table : List (Entry ℕ)) (clauses : List ThenTree) (thens : List Parts) (clause : Option ℕ) (target : Stop) (f : ℕ) → AreScalar s table f → ((k : ℕ) (q : Parts) → slice_get thens k ≡ Some q → IsClause s ls clauses k q) → Says table clauses clause target → target ≡ stop.At f → (clause_in thens clause).size ≡ None
clause_without s ls table clauses thens None target f all from says h = refl
clause_without s ls table clauses thens (Some k) target f all from says h =
    parts_or_none_without (slice_get thens k)
    (λ q e. let c = from k q e in
    let same : says.0 ≡ c.clause = same_Some says.0 c.clause (sym says.1 ∙ c.at) in
    let scalar = ap (λ (t : ThenTree). is_scalar_field (target_in s t.target)) (sym same) ∙ scalar_target s table says.0.place says.0.target target f all says.2 h in
    parts_without s ls c.owner (target_in s c.clause.target) c.clause.aspects.items c.clause.condition q scalar c.is)

own_without : (o : Option FieldParts) → ((p : FieldParts) → o ≡ Some p → p.own.size ≡ None) → (own_in o).size ≡ None
own_without None h = refl
own_without (Some p) h = h p refl

module _ (s : Scope) (ls : List Laying) (owner : List ℕ) (m : MessageTree) (ps : MessageParts) (j : IsJudged s ls owner m ps) where
  field_clause : (i : ℕ) (o : Option FieldParts) → slice_get ps.fields i ≡ o → (k : ℕ) (q : Parts) → slice_get (thens_in o) k ≡ Some q → IsClause s ls (clauses_in (slice_get m.fields.items i)) k q
  field_clause i None same k q h = absurd (none-some q h)
  field_clause i (Some p) same k q h =
      let x = source_of (field_parts s ls) 0 m.fields.items ps.fields i p j.fields same in
      let f = field_judged s ls (0 + i) x.0 p x.2 in
      let y = source_of (then_parts s ls x.0.name.word) 0 x.0.thens.items p.thens k q f.thens h in
      record { owner = x.0.name.word; clause = y.0; at = ap (λ (o : Option FieldTree). slice_get (clauses_in o) k) x.1 ∙ y.1; is = y.2 }

  node_clause : (n : Stop) (k : ℕ) (q : Parts) → slice_get (thens_of ps n) k ≡ Some q → IsClause s ls (clauses_of m.start.items m.fields.items n) k q
  node_clause stop.Start k q h = let y = source_of (then_parts s ls owner) 0 m.start.items ps.start k q j.start h in record { owner = owner; clause = y.0; at = y.1; is = y.2 }
  node_clause stop.Null k q h = absurd (none-some q h)
  node_clause (stop.At i) k q h = field_clause i (slice_get ps.fields i) refl k q h

  -- the own parts of a scalar field
  field_without : (f : ℕ) → ((x : FieldTree) → slice_get m.fields.items f ≡ Some x → is_scalar_field (found s.fields [] x.name.word) ≡ true) → (own_parts ps (stop.At f)).size ≡ None
  field_without f all =
      own_without (slice_get ps.fields f)
      (λ p h. let x = source_of (field_parts s ls) 0 m.fields.items ps.fields f p j.fields h in
      let i = field_judged s ls (0 + f) x.0 p x.2 in
      parts_without s ls x.0.name.word (target_in s (Some x.0.name.word)) x.0.aspects.items x.0.condition p.own (all x.0 x.1) i.own)

some_differs : (o : Option Domain) (d : Domain) → o ≡ Some d → o ≡ None → ⊥
some_differs None d h k = cc
some_differs (Some x) d h k = cc

-- ---- a message of the text

module _ (domains : List Domain) (t : Types) (h : HeaderTree) (name : Named) (m : MessageTree) (g : Graph) (a : IsMade t h name m g) (stand : FieldsStand domains t h a.held (layings_of (scope_in t h a.held m) m a.ways) m g) where
  abbrev arrow : Way → Arrow
  arrow w = arrow_of_way name m a.parts w

  link_at : (i : ℕ) (link : Arrow) → IsLink g i link → (w : Way) × (slice_get a.ways i ≡ Some w) × (arrow w ≡ link)
  link_at i link is = mapped arrow a.ways i link (ap (λ (ls : List Arrow). slice_get ls i) (sym a.arrows) ∙ is)

  is_link : (i : ℕ) (w : Way) → slice_get a.ways i ≡ Some w → IsLink g i (arrow w)
  is_link i w e = ap (λ (ls : List Arrow). slice_get ls i) a.arrows ∙ slice_get-map arrow a.ways i ∙ ap (λ (o : Option Way). option_map arrow o) e

  ends : HasEnds g a.ways
  ends i link is = let x = link_at i link is in (x.0, x.1, ap (λ (l : Arrow). l.source) (sym x.2), ap (λ (l : Arrow). l.target) (sym x.2))

  no_cycle : HasNoCycle g
  no_cycle = acyclic name m.start.items m.fields.items a.ways g a.shaped.acyclic ends

  within : AreWithin (length m.fields.items) a.ways
  within = links_within m.start.items m.fields.items a.ways a.shaped.leads

  is_source : (s : Stop) → IsBegin s → IsStop (length m.fields.items) s → IsSource domains g (node_of s)
  is_source stop.Start b i = tt
  is_source stop.Null b i = absurd b
  is_source (stop.At f) b i = omega (arith, i, stand.count)

  is_target : (s : Stop) → IsEnd s → IsStop (length m.fields.items) s → IsTarget domains g (node_of s)
  is_target stop.Start e i = absurd e
  is_target stop.Null e i = tt
  is_target (stop.At f) e i = omega (arith, i, stand.count)

  counts : (length m.fields.items ≤ 128) × (length a.ways ≤ 512)
  counts =
      let b = (if_ok (nat_le (length m.fields.items) 128 && nat_le (length a.ways) 512) tt tt _ a.shaped.counts).0 in
      let p = both_true (nat_le (length m.fields.items) 128) (nat_le (length a.ways) 512) b in
      (at_most (length m.fields.items) 128 p.0, at_most (length a.ways) 512 p.1)

  link_count : length g.links ≡ length a.ways
  link_count = ap (λ (ls : List Arrow). length ls) a.arrows ∙ length-map a.ways arrow

  begins : GoesOn g node.Start
  begins = let s = start_has m.start.items m.fields.items a.ways a.shaped.leads in (s.0, arrow s.1, is_link s.0 s.1 s.2, ap node_of s.3)

  goes_on : (f : ℕ) → f < length g.fields → GoesOn g (node.At f)
  goes_on f l =
      let s = field_has m.start.items m.fields.items a.ways f a.shaped.leads (omega (arith, l, stand.count)) in
      (s.0, arrow s.1, is_link s.0 s.1 s.2, ap node_of s.3)

  abbrev scope : Scope
  scope = scope_in t h a.held m

  abbrev layings : List Laying
  layings = layings_of scope m a.ways

  parted : IsJudged scope layings name.word m a.parts
  parted = message_judged scope layings name.word m a.parts a.judged

  few : message_has_few m ≡ true
  few = (if_ok (message_has_few m) tt tt _ a.shaped.few).0

  -- ---- Sizes

  module _ (names : EachPair (λ x y. IsSameName x.name y.name → ⊥) g.fields) where
    apart : AreApart m.fields.items
    apart i j x y p q same =
        let u = each_at (field_meant a.held layings) 0 m.fields.items g.fields i i x a.fields p (omega arith) in
        let v = each_at (field_meant a.held layings) 0 m.fields.items g.fields j j y a.fields q (omega arith) in
        let one = field_name a.held layings i x u.0 u.2 in
        let other = field_name a.held layings j y v.0 v.2 in
        apart_in g.fields i j u.0 v.0 names u.1 v.1 (ap lowered (sym one) ∙ same ∙ ap lowered other)

    scalar_without : (k : ℕ) (w : Way) (f : ℕ) (s : KnownScalar) → slice_get a.ways k ≡ Some w → w.target ≡ stop.At f → slice_get a.held f ≡ Some (holds.Scalar s) → (arrow w).size ≡ None
    scalar_without k w f s e target holds =
        let is = is_way m.start.items m.fields.items a.ways k w a.shaped.leads e in
        let all : AreScalar scope (positions m.fields.items) f = λ x n. scalar_named a.held m.fields.items x f s stand.held_count n holds in
        let clause = clause_without scope layings (positions m.fields.items) (clauses_of m.start.items m.fields.items w.source) (thens_of a.parts w.source) w.clause w.target f all (node_clause scope layings name.word m a.parts parted w.source) is.says target in
        let own = field_without scope layings name.word m a.parts parted f (λ x n. all x.name.word (own_place m.fields.items f x apart n)) in
        ap (λ o. option_or o (own_parts a.parts w.target).size) clause ∙ ap (λ (n : Stop). (own_parts a.parts n).size) target ∙ own

    opaque_sized : (f : ℕ) → f < length m.fields.items → slice_get a.held f ≡ Some holds.Opaque → is_sized g.links f ≡ true
    opaque_sized f l holds =
        let x = get_within m.fields.items f l in
        let s = stands_at (field_sized m.low_order a.held g.links) 0 m.fields.items tt f f x.0 a.sized x.1 (omega arith) in
        let it = subst (λ (o : Option Held). held_sized m.low_order g.links x.0.name f o ≡ Ok tt) holds s in
        (if_ok (is_sized g.links f) tt tt _ it).0

    sized_by : (k : ℕ) (w : Way) (f : ℕ) (o : Option Domain) (x : Held) → slice_get a.ways k ≡ Some w → node_of w.target ≡ node.At f → f < length m.fields.items → slice_get a.held f ≡ Some x → type_of domains g f ≡ o → IsSized g o (arrow w) f
    sized_by k w f (Some d) (holds.Scalar s) e target l held is = scalar_without k w f s e (stop_at_node w.target f target) held
    sized_by k w f (Some d) holds.Opaque e target l held is = absurd (some_differs (type_of domains g f) d is (stand.opaque f held))
    sized_by k w f None (holds.Scalar s) e target l held is = let d = stand.scalar f s held in absurd (some_differs (type_of domains g f) d.0 d.1 is)
    sized_by k w f None holds.Opaque e target l held is = sized_or_ends g f k (arrow w) (opaque_sized f l held) (is_link k w e) target

    -- ---- Firsts

    first_of : (k : ℕ) (w : Way) → slice_get a.ways k ≡ Some w → IsFirstOf (kind_of domains g) (limit_of domains g) (length g.fields) scope stand.scope layings (target_known a.held w.target) (way_first m w) (arrow w).first
    first_of k w e =
        let is = is_way m.start.items m.fields.items a.ways k w a.shaped.leads e in
        way_meant scope layings name.word m a.parts parted (kind_of domains g) (limit_of domains g) (length g.fields) stand.scope a.held
        (λ x i n. named_field a.held m.fields.items x i stand.held_count n)
        (λ f x n. named_field a.held m.fields.items x.name.word f stand.held_count (own_place m.fields.items f x apart n))
        w is.says (within.target k w e)

    laid_as : (k : ℕ) (w : Way) → slice_get a.ways k ≡ Some w → laid_if_any scope (way_first m w) ≡ laid_over (arrow w).first
    laid_as k w e = laid_of (kind_of domains g) (limit_of domains g) (length g.fields) scope stand.scope layings (target_known a.held w.target) (way_first m w) (arrow w).first (first_of k w e)

    alike : (f : ℕ) → AreAlike layings f
    alike f k l x e at over =
        let y = mapped (laying_of scope m) a.ways k l e in
        let w = y.0 in
        let target : w.target ≡ stop.At f = is_at_stop f w.target (ap (λ (z : Laying). is_at f z.target) y.2 ∙ at) in
        let lies : laid_over (arrow w).first ≡ Some x = sym (laid_as k w y.1) ∙ ap (λ (z : Laying). z.over) y.2 ∙ over in
        let not_mixed = alike_of (kind_of domains g) (limit_of domains g) (length g.fields) scope stand.scope layings (target_known a.held w.target) (way_first m w) (arrow w).first (first_of k w y.1) in
        ap (λ (s : Stop). is_mixed_target layings (target_known a.held s) (Some x)) (sym target) ∙ ap (λ (o : Option ℕ). is_mixed_target layings (target_known a.held w.target) o) (sym lies) ∙ not_mixed

    over_as : (k : ℕ) (w : Way) → slice_get a.ways k ≡ Some w → (f : ℕ) → w.target ≡ stop.At f → f < length g.fields → laid_over (arrow w).first ≡ overlay_of (slice_get g.fields f)
    over_as k w e f target l =
        let at : slice_get layings k ≡ Some (laying_of scope m w) = slice_get-map (laying_of scope m) a.ways k ∙ ap (λ (o : Option Way). option_map (laying_of scope m) o) e in
        let leads : is_at f w.target ≡ true = ap (λ (s : Stop). is_at f s) target ∙ (Decides-eqb f f).1 refl in
        sym (laid_as k w e) ∙ agrees layings f k (laying_of scope m w) (alike f) at leads ∙ sym (stand.overlay f l)

    placing : (k : ℕ) (w : Way) → slice_get a.ways k ≡ Some w → (f : ℕ) → node_of w.target ≡ node.At f → IsPlacing domains g (arrow w) f
    placing k w e f target =
        let l : f < length m.fields.items = subst (λ (s : Stop). IsStop (length m.fields.items) s) (stop_at_node w.target f target) (within.target k w e) in
        let x = get_within a.held f (omega (arith, l, stand.held_count)) in
        record {
          over = over_as k w e f (stop_at_node w.target f target) (omega (arith, l, stand.count));
          size = sized_by k w f (type_of domains g f) x.0 e target l x.1 refl;
        }

    -- ---- links

    way_stands : (k : ℕ) (w : Way) → slice_get a.ways k ≡ Some w → IsElaboratedLink domains g (arrow w)
    way_stands k w e =
        let is = is_way m.start.items m.fields.items a.ways k w a.shaped.leads e in
        let clause = clause_good domains g scope stand.scope layings name.word m a.parts few parted w in
        let from = node_good domains g scope stand.scope layings name.word m a.parts few parted w.source in
        let to = node_good domains g scope stand.scope layings name.word m a.parts few parted w.target in
        let condition = condition_good domains g (own_parts a.parts w.source).condition (clause_parts a.parts w).condition from.condition clause.condition in
        record {
          source = is_source w.source is.begins (within.source k w e);
          target = is_target w.target is.ends (within.target k w e);
          condition = condition.0;
          few = condition.1;
          first = first_good domains g (clause_parts a.parts w) (own_parts a.parts w.target) clause to;
          form = form_of (kind_of domains g) (limit_of domains g) (length g.fields) scope stand.scope layings (target_known a.held w.target) (way_first m w) (arrow w).first (first_of k w e);
          size = size_good domains g (clause_parts a.parts w) (own_parts a.parts w.target) clause to;
          placing = placing k w e;
        }

    -- so the links of the message stand
    pub links_stand : LinksStand domains g
    links_stand =
        record {
          few_fields = let c = counts.0 in omega (arith, c, stand.count);
          few_links = let c = counts.1 in omega (arith, c, link_count);
          few_paths = few_paths name a.ways arrow g (λ w. refl) (λ w. refl) a.arrows a.shaped.paths no_cycle;
          links = λ i link is. let x = link_at i link is in subst (λ (l : Arrow). IsElaboratedLink domains g l) x.2 (way_stands i x.0 x.1);
          begins = begins;
          goes_on = goes_on;
          acyclic = no_cycle;
        }
