-- The First of a link, with its target.
--   target_known held t    the target as the names of the message know it
--   way_meant              what stands of the First of a link
--   overlay_below          the overlay of a field is a field of the message
use Rattle.std.proofs.Common.{◌≡◌, ◌∙◌, ap, sym, refl, subst, ℕ, ◌<◌, Bool, true, List, [], length, Option, Some, None, Ok, arith}
use Rattle.std.specs.Prelude.{◌==◌, slice_get}
use Rattle.std.specs.Option.{option_or}
use Rattle.std.proofs.lemmas.Bool.Decides.{Decides-eqb}
use Rattle.std.proofs.lemmas.Option.{none-some}
use Rattle.rx_syntax.specs.declared.token.Place.{Place}
use Rattle.rx_syntax.specs.declared.tree.ExprTree.{ExprTree}
use Rattle.rx_syntax.specs.declared.tree.ThenTree.{ThenTree}
use Rattle.rx_syntax.specs.declared.tree.FieldTree.{FieldTree}
use Rattle.rx_syntax.specs.declared.tree.MessageTree.{MessageTree}
use Rattle.rx_types.specs.declared.kind.Kind.{Kind}
use Rattle.rx_types.specs.Tree.{Tree}
use Rattle.rx_judge.specs.Meaning.{each_from}
use Rattle.rx_judge.specs.Names.{Scope}
use Rattle.rx_judge.specs.Sound.{FitScope}
use Rattle.rx_judge.specs.Table.{Entry, found}
use Rattle.rx_judge.specs.declared.names.KnownField.{KnownField}
use Rattle.rx_judge.proofs.Meanings.{ok_same, err_differs}
use Rattle.rx_links.specs.Cycle.{IsStop, clauses_in, clauses_of, clause_of}
use Rattle.rx_links.specs.Links.{field_at, target_of}
use Rattle.rx_links.specs.Positions.{positions}
use Rattle.rx_links.specs.declared.links.Stop.{Stop}
use Rattle.rx_links.specs.declared.links.Stop.TheVariants as stop
use Rattle.rx_links.specs.declared.links.Way.{Way}
use Rattle.rx_elab.specs.Firsts.{clause_first, field_first, first_in, target_first, way_first, laid_if_any, laying_of, layings_of, is_at, overlay_in}
use Rattle.rx_elab.specs.Parts.{Parts, FieldParts, MessageParts, target_in, then_parts, field_parts}
use Rattle.rx_elab.specs.declared.fields.Held.{Held}
use Rattle.rx_elab.specs.declared.layings.Laying.{Laying}
use Rattle.rx_spec.specs.Arrows.{own_in, own_parts, thens_in, thens_of, parts_or_none, clause_in, clause_parts}
use Rattle.rx_spec.proofs.Clauses.{Says}
use Rattle.rx_spec.proofs.Expressions.{IsJudged, field_judged}
use Rattle.rx_spec.proofs.Forms.{IsFirstOf, parts_first, or_first, laid_below}
use Rattle.rx_spec.proofs.Items.{mapped}
use Rattle.rx_spec.proofs.Overlays.{overlay_laid}
use Rattle.rx_spec.proofs.Placing.{known_at}
use Rattle.rx_spec.proofs.Steps.{get_within, each_at}

-- ---- targets

-- a field by its place; null is no field
abbrev pub target_known : List Held → Stop → Option KnownField
target_known held (stop.At f) = Some (known_at held f)
target_known held s = None

at_same : (f i : ℕ) (b : Bool) → (f == i) ≡ b → b ≡ true → stop.At i ≡ stop.At f
at_same f i b e h = ap stop.At (sym ((Decides-eqb f i).0 (e ∙ h)))

pub is_at_stop : (f : ℕ) (s : Stop) → is_at f s ≡ true → s ≡ stop.At f
is_at_stop f stop.Start h = absurd (cc)
is_at_stop f stop.Null h = absurd (cc)
is_at_stop f (stop.At i) h = at_same f i (f == i) refl h

module _ (s : Scope) (ls : List Laying) (owner : List ℕ) (m : MessageTree) (ps : MessageParts) (j : IsJudged s ls owner m ps) where
  -- ---- what is written of a clause and of a field

  record IsClauseAt (thens : List Parts) (k : ℕ) (t : ThenTree) : Type 0 where
    name : List ℕ
    parts : Parts
    at : slice_get thens k ≡ Some parts
    is : then_parts s ls name k t ≡ Ok parts

  listed : (name : List ℕ) (ts : List ThenTree) (qs : List Parts) (k : ℕ) (t : ThenTree) → each_from (then_parts s ls name) 0 ts ≡ Ok qs → slice_get ts k ≡ Some t → IsClauseAt qs k t
  listed name ts qs k t e h =
      let q = each_at (then_parts s ls name) 0 ts qs k k t e h (omega arith) in
      record { name = name; parts = q.0; at = q.1; is = q.2 }

  of_field : (i : ℕ) (o : Option FieldTree) (k : ℕ) (t : ThenTree) → slice_get m.fields.items i ≡ o → slice_get (clauses_in o) k ≡ Some t → IsClauseAt (thens_in (slice_get ps.fields i)) k t
  of_field i None k t e h = absurd (none-some t h)
  of_field i (Some f) k t e h =
      let p = each_at (field_parts s ls) 0 m.fields.items ps.fields i i f j.fields e (omega arith) in
      let c = listed f.name.word f.thens.items p.0.thens k t (field_judged s ls i f p.0 p.2).thens h in
      subst (λ (o : Option FieldParts). IsClauseAt (thens_in o) k t) (sym p.1) c

  clause_at : (n : Stop) (k : ℕ) (t : ThenTree) → slice_get (clauses_of m.start.items m.fields.items n) k ≡ Some t → IsClauseAt (thens_of ps n) k t
  clause_at stop.Start k t h = listed owner m.start.items ps.start k t j.start h
  clause_at stop.Null k t h = absurd (none-some t h)
  clause_at (stop.At i) k t h = of_field i (slice_get m.fields.items i) k t refl h

  module _ (kinds : ℕ → Option Kind) (limit : ℕ → ℕ) (n : ℕ) (fits : FitScope kinds limit n s) where
    abbrev Meant : Option KnownField → Option ExprTree → Option Tree → Type 0
    Meant target o x = IsFirstOf kinds limit n s fits ls target o x

    clause_meant : (table : List (Entry ℕ)) (node : Stop) (clause : Option ℕ) (target : Stop) (known : Option KnownField) → ((t : ThenTree) → target_of table t.place t.target ≡ Ok target → target_in s t.target ≡ known) → Says table (clauses_of m.start.items m.fields.items node) clause target → Meant known (clause_first (clause_of (clauses_of m.start.items m.fields.items node) clause)) (clause_in (thens_of ps node) clause).first
    clause_meant table node None target known to says = tt
    clause_meant table node (Some k) target known to says =
        let t = says.0 in
        let c = clause_at node k t says.1 in
        let first = parts_first kinds limit n s fits ls c.name (target_in s t.target) t.aspects.items t.condition c.parts c.is in
        let here : Meant known (first_in t.aspects.items) c.parts.first = subst (λ (r : Option KnownField). Meant r (first_in t.aspects.items) c.parts.first) (to t says.2) first in
        subst (λ (o : Option ThenTree). Meant known (clause_first o) (parts_or_none (slice_get (thens_of ps node) k)).first) (sym says.1)
        (subst (λ (o : Option Parts). Meant known (first_in t.aspects.items) (parts_or_none o).first) (sym c.at) here)

    own_meant : (f : ℕ) (known : Option KnownField) → f < length m.fields.items → ((x : FieldTree) → slice_get m.fields.items f ≡ Some x → found s.fields [] x.name.word ≡ known) → Meant known (target_first m.fields.items (stop.At f)) (own_parts ps (stop.At f)).first
    own_meant f known within to =
        let x = get_within m.fields.items f within in
        let p = each_at (field_parts s ls) 0 m.fields.items ps.fields f f x.0 j.fields x.1 (omega arith) in
        let own = (field_judged s ls f x.0 p.0 p.2).own in
        let first = parts_first kinds limit n s fits ls x.0.name.word (target_in s (Some x.0.name.word)) x.0.aspects.items x.0.condition p.0.own own in
        let here : Meant known (first_in x.0.aspects.items) p.0.own.first = subst (λ (r : Option KnownField). Meant r (first_in x.0.aspects.items) p.0.own.first) (to x.0 x.1) first in
        subst (λ (o : Option FieldTree). Meant known (field_first o) (own_in (slice_get ps.fields f)).first) (sym x.1)
        (subst (λ (o : Option FieldParts). Meant known (first_in x.0.aspects.items) (own_in o).first) (sym p.1) here)

    module _ (held : List Held) (names : (w : List ℕ) (i : ℕ) → found (positions m.fields.items) [] w ≡ Some i → found s.fields [] w ≡ Some (known_at held i)) (own : (f : ℕ) (x : FieldTree) → slice_get m.fields.items f ≡ Some x → found s.fields [] x.name.word ≡ Some (known_at held f)) where
      by_name : (p : Place) (w : List ℕ) (o : Option ℕ) (target : Stop) → found (positions m.fields.items) [] w ≡ o → field_at p w o ≡ Ok target → found s.fields [] w ≡ target_known held target
      by_name p w None target e h = absurd (err_differs _ target h)
      by_name p w (Some i) target e h = names w i e ∙ ap (λ (x : Stop). target_known held x) (ok_same (stop.At i) target h)

      to_target : (p : Place) (o : Option (List ℕ)) (target : Stop) → target_of (positions m.fields.items) p o ≡ Ok target → target_in s o ≡ target_known held target
      to_target p None target h = ap (λ (x : Stop). target_known held x) (ok_same stop.Null target h)
      to_target p (Some w) target h = by_name p w (found (positions m.fields.items) [] w) target refl h

      target_meant : (target : Stop) → IsStop (length m.fields.items) target → Meant (target_known held target) (target_first m.fields.items target) (own_parts ps target).first
      target_meant stop.Start within = tt
      target_meant stop.Null within = tt
      target_meant (stop.At f) within = own_meant f (Some (known_at held f)) within (own f)

      pub way_meant : (w : Way) → Says (positions m.fields.items) (clauses_of m.start.items m.fields.items w.source) w.clause w.target → IsStop (length m.fields.items) w.target → Meant (target_known held w.target) (way_first m w) (option_or (clause_parts ps w).first (own_parts ps w.target).first)
      way_meant w says within =
          let known = target_known held w.target in
          let clause = clause_meant (positions m.fields.items) w.source w.clause w.target known (λ t h. to_target t.place t.target w.target h) says in
          or_first kinds limit n s fits ls known (clause_first (clause_of (clauses_of m.start.items m.fields.items w.source) w.clause)) (target_first m.fields.items w.target) (clause_parts ps w).first (own_parts ps w.target).first clause (target_meant w.target within)

-- ---- overlays are fields

laid_any_below : (kinds : ℕ → Option Kind) (limit : ℕ → ℕ) (n : ℕ) (s : Scope) (fits : FitScope kinds limit n s) (o : Option ExprTree) (x : ℕ) → laid_if_any s o ≡ Some x → x < n
laid_any_below kinds limit n s fits None x h = absurd (none-some x h)
laid_any_below kinds limit n s fits (Some e) x h = laid_below kinds limit n s fits e x h

-- a field lies over a field of the message
pub overlay_below : (kinds : ℕ → Option Kind) (limit : ℕ → ℕ) (n : ℕ) (s : Scope) (fits : FitScope kinds limit n s) (m : MessageTree) (ways : List Way) (i x : ℕ) → overlay_in (layings_of s m ways) i ≡ Some x → x < n
overlay_below kinds limit n s fits m ways i x h =
    let l = overlay_laid (layings_of s m ways) i x h in
    let w = mapped (laying_of s m) ways l.0 l.1 l.2 in
    laid_any_below kinds limit n s fits (way_first m w.0) x (ap (λ (y : Laying). y.over) w.2 ∙ l.3)
