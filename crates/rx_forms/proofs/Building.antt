-- What a link adds to what was gathered, by the parts of the link.
use Rattle.std.proofs.Common.{◌≡◌, refl, sym, ap, ◌∙◌, ℕ, ◌+◌, ◌≤◌, arith, List, [], ◌∷◌, ◌++◌, Bool, true, false, ◌&&◌, nat_le, append_assoc, Option, Some, None}
use Rattle.std.proofs.lemmas.List.Folds.{list_all-append}
use Rattle.rx_types.specs.Domain.{Domain}
use Rattle.rx_types.specs.Tree.{Tree}
use Rattle.rx_graph.specs.declared.message.Node.TheVariants.{At}
use Rattle.rx_graph.specs.Graph.{Arrow, Graph, type_of, limit_of}
use Rattle.rx_forms.specs.declared.field.FieldForms.{FieldForms}
use Rattle.rx_forms.specs.declared.linear.Linear.{Linear}
use Rattle.rx_forms.specs.declared.linear.Form.{Form}
use Rattle.rx_forms.specs.declared.work.Work.{Work}
use Rattle.rx_forms.specs.Linear.{plus}
use Rattle.rx_forms.specs.Normal.{Formed, divisions_in, condition}
use Rattle.rx_forms.specs.Divisions.{divisions}
use Rattle.rx_forms.specs.Limits.{Met, Limited, is_kept, is_low, all_kept, met, is_within}
use Rattle.rx_forms.specs.Steps.{form_or, end_form, size_aspect, divisions_in_any, divisions_any, scalars_in, target_field, first_division, size_division, first_form, size_form, formed_by, condition_form, division_forms, met_any, met_at}
use Rattle.rx_forms.specs.Code.{formed, formed_all}
use Rattle.rx_forms.specs.Expressions.{HasFact, HasAspect, aspect_within, size_otherwise}
use Rattle.rx_forms.specs.Fronts
use Rattle.rx_forms.proofs.Kept.{off_left, off_right, on_both}
use Rattle.rx_forms.proofs.Tests.{both}

pub formed_push : (fs : List FieldForms) (f : FieldForms) → formed_all (fs ++ f ∷ []) ≡ formed_all fs ++ formed f ∷ []
formed_push [] f = refl
formed_push (g ∷ fs) f = ap (λ (gs : List Formed). formed g ∷ gs) (formed_push fs f)

-- ---- what was gathered, by its parts

abbrev made : List Formed → ℕ → ℕ → List Linear → List Linear → List Linear → List Form → Fronts.Front
made fields scalar division rows firsts sizes conditions = record { fields = fields; scalar = scalar; division = division; rows = rows; firsts = firsts; sizes = sizes; conditions = conditions }

pub same_front : (a b : Fronts.Front) → a.fields ≡ b.fields → a.scalar ≡ b.scalar → a.division ≡ b.division → a.rows ≡ b.rows → a.firsts ≡ b.firsts → a.sizes ≡ b.sizes → a.conditions ≡ b.conditions → a ≡ b
same_front a b p q r s t u v =
    ap (λ (x : List Formed). made x a.scalar a.division a.rows a.firsts a.sizes a.conditions) p
    ∙ ap (λ (x : ℕ). made b.fields x a.division a.rows a.firsts a.sizes a.conditions) q
    ∙ ap (λ (x : ℕ). made b.fields b.scalar x a.rows a.firsts a.sizes a.conditions) r
    ∙ ap (λ (x : List Linear). made b.fields b.scalar b.division x a.firsts a.sizes a.conditions) s
    ∙ ap (λ (x : List Linear). made b.fields b.scalar b.division b.rows x a.sizes a.conditions) t
    ∙ ap (λ (x : List Linear). made b.fields b.scalar b.division b.rows b.firsts x a.conditions) u
    ∙ ap (λ (x : List Form). made b.fields b.scalar b.division b.rows b.firsts b.sizes x) v

-- ---- the First and the Size of a link

pub room_behind : (n d k : ℕ) (rest : Bool) → (nat_le (n + d) 190 && rest) ≡ true → k ≡ n + d → k ≤ 190
room_behind n d k rest h e = let t = (both {a = nat_le (n + d) 190} h).0 in grind (arith, t, e)

module _ (domains : List Domain) (m : Graph) where
  -- behind the two aspects, with what was worked out
  abbrev pub with_work : Fronts.Front → Work → Fronts.Front
  with_work front w = record front { division = w.next; rows = w.rows }

  module _ (type : Option Domain) (front : Fronts.Front) (link : Arrow) (w0 w1 w2 : Work) (f s : Linear) (at_next : front.division ≡ w0.next) (at_rows : front.rows ≡ w0.rows)
      (p : HasAspect (limit_of domains m) front.fields link.first (end_form front.fields) w0 w1 f) where
    pub first_is : f ≡ Fronts.first_at front link
    first_is = p.value ∙ ap (λ (n : ℕ). form_or link.first front.fields n (end_form front.fields)) (sym at_next)

    next_is : w1.next ≡ Fronts.behind_first front link
    next_is = p.next ∙ ap (λ (n : ℕ). n + divisions_in_any link.first) (sym at_next)

    -- the Size where it stands
    pub size_there : form_or (size_aspect type link.size) front.fields w1.next (size_otherwise type f) ≡ Fronts.size_at type front link
    size_there =
        ap (λ (n : ℕ). form_or (size_aspect type link.size) front.fields n (size_otherwise type f)) next_is
        ∙ ap (λ (g : Linear). form_or (size_aspect type link.size) front.fields (Fronts.behind_first front link) (size_otherwise type g)) first_is

    pub size_test : aspect_within front.fields w1.next (size_aspect type link.size) (form_or (size_aspect type link.size) front.fields w1.next (size_otherwise type f)) ≡ aspect_within front.fields (Fronts.behind_first front link) (size_aspect type link.size) (Fronts.size_at type front link)
    size_test =
        ap (λ (g : Linear). aspect_within front.fields w1.next (size_aspect type link.size) g) size_there
        ∙ ap (λ (n : ℕ). aspect_within front.fields n (size_aspect type link.size) (Fronts.size_at type front link)) next_is

    pub size_fails : aspect_within front.fields w1.next (size_aspect type link.size) (form_or (size_aspect type link.size) front.fields w1.next (size_otherwise type f)) ≡ false → Fronts.place_within type front link ≡ false
    size_fails h = off_right _ _ (off_left _ _ (sym size_test ∙ h))

    module _ (q : HasAspect (limit_of domains m) front.fields (size_aspect type link.size) (size_otherwise type f) w1 w2 s) where
      pub size_is : s ≡ Fronts.size_at type front link
      size_is = q.value ∙ size_there

      end_is : plus f s ≡ plus (Fronts.first_at front link) (Fronts.size_at type front link)
      end_is = ap (λ (g : Linear). plus g s) first_is ∙ ap (λ (g : Linear). plus (Fronts.first_at front link) g) size_is

      pub end_fails : is_low (plus f s) ≡ false → Fronts.place_within type front link ≡ false
      end_fails h = off_right _ _ (off_right _ _ (sym (ap is_low end_is) ∙ h))

      first_test : aspect_within front.fields w0.next link.first (form_or link.first front.fields w0.next (end_form front.fields)) ≡ aspect_within front.fields front.division link.first (Fronts.first_at front link)
      first_test = ap (λ (n : ℕ). aspect_within front.fields n link.first (form_or link.first front.fields n (end_form front.fields))) (sym at_next)

      pub place_holds : is_low (plus f s) ≡ true → Fronts.place_within type front link ≡ true
      place_holds h = on_both _ _ (sym first_test ∙ p.within) (on_both _ _ (sym size_test ∙ q.within) (sym (ap is_low end_is) ∙ h))

      work_is : with_work front w2 ≡ Fronts.after_aspects domains m type link front
      work_is =
          same_front _ _ refl refl
          (q.next ∙ ap (λ (n : ℕ). n + divisions_in_any (size_aspect type link.size)) next_is)
          (q.rows
          ∙ ap (λ (rs : List Linear). rs ++ divisions_any (limit_of domains m) front.fields w1.next (size_aspect type link.size)) (p.rows ∙ ap (λ (rs : List Linear). rs ++ divisions_any (limit_of domains m) front.fields w0.next link.first) (sym at_rows))
          ∙ append_assoc front.rows _ _
          ∙ ap (λ (n : ℕ). front.rows ++ (divisions_any (limit_of domains m) front.fields n link.first ++ divisions_any (limit_of domains m) front.fields w1.next (size_aspect type link.size))) (sym at_next)
          ∙ ap (λ (n : ℕ). front.rows ++ (divisions_any (limit_of domains m) front.fields front.division link.first ++ divisions_any (limit_of domains m) front.fields n (size_aspect type link.size))) next_is)
          refl refl refl

      pub place_goes : (field : ℕ) (new : Fronts.Front) → link.target ≡ At field → new ≡ Fronts.after_field type field f s (with_work front w2) → new ≡ Fronts.after_place domains m type front link
      place_goes field new t e =
          e
          ∙ ap (λ (x : Fronts.Front). Fronts.after_field type field f s x) work_is
          ∙ ap (λ (g : Linear). Fronts.after_field type field g s (Fronts.after_aspects domains m type link front)) first_is
          ∙ ap (λ (g : Linear). Fronts.after_field type field (Fronts.first_at front link) g (Fronts.after_aspects domains m type link front)) size_is
          ∙ ap (λ (x : ℕ). Fronts.after_field type x (Fronts.first_at front link) (Fronts.size_at type front link) (Fronts.after_aspects domains m type link front)) (sym (ap target_field t))

  -- ---- the condition, and the whole link

  pub end_goes : (front new : Fronts.Front) (link : Arrow) (w0 w1 : Work) (f : Form) → front.division ≡ w0.next → front.rows ≡ w0.rows → HasFact (limit_of domains m) front.fields true link.condition w0 w1 f
      → new ≡ record front { division = w1.next; rows = w1.rows; conditions = front.conditions ++ f ∷ [] } → new ≡ Fronts.after_end domains m front link
  end_goes front new link w0 w1 f d r p e =
      e ∙ same_front _ _ refl refl
      (p.goes.next ∙ ap (λ (n : ℕ). n + divisions_in link.condition) (sym d))
      (p.goes.rows ∙ ap (λ (rs : List Linear). rs ++ divisions (limit_of domains m) front.fields w0.next link.condition) (sym r) ∙ ap (λ (n : ℕ). front.rows ++ divisions (limit_of domains m) front.fields n link.condition) (sym d))
      refl refl
      (ap (λ (g : Form). front.conditions ++ g ∷ []) (p.value ∙ ap (λ (n : ℕ). condition front.fields n true link.condition) (sym d)))

  abbrev by_type : Option Domain → Fronts.Front → Arrow → Fronts.Front
  by_type type front link =
      let step = Fronts.step_at front link in
      record {
        fields = front.fields ++ formed_by type step ∷ [];
        scalar = front.scalar + scalars_in type;
        division = size_division step + divisions_in_any (size_aspect type link.size);
        rows = front.rows ++ division_forms (limit_of domains m) type step;
        firsts = front.firsts ++ first_form step ∷ [];
        sizes = front.sizes ++ size_form type step ∷ [];
        conditions = front.conditions ++ condition_form step ∷ [];
      }

  link_by : (type : Option Domain) (front : Fronts.Front) (link : Arrow) → Fronts.after_place domains m type (Fronts.after_end domains m front link) link ≡ by_type type front link
  link_by (Some t) front link = same_front _ _ refl refl refl (append_assoc front.rows _ _) refl refl refl
  link_by None front link = same_front _ _ refl refl refl (append_assoc front.rows _ _) refl refl refl

  -- behind the condition and the aspects stands what stands behind the link
  pub link_goes : (front : Fronts.Front) (link : Arrow) → Fronts.after_place domains m (type_of domains m (target_field link.target)) (Fronts.after_end domains m front link) link ≡ Fronts.after_link domains m front link
  link_goes front link = link_by (type_of domains m (target_field link.target)) front link

  -- ---- the path limit of a link

  -- the parts of a link, tested together and one by one
  one_by_one : (p q r k f lf s ls le : Bool) → (r ≡ true → q ≡ true) → (q ≡ true → p ≡ true) → (r && (k && (f && (lf && (s && (ls && (le && true))))))) ≡ ((p && k) && ((q && (f && lf)) && ((r && (s && ls)) && le)))
  one_by_one p q false k f lf s ls le g h = sym (off_right (p && k) _ (off_right (q && (f && lf)) _ refl))
  one_by_one p q true k f lf s ls le g h =
      all_on k f lf s ls le
      ∙ ap (λ (t : Bool). (t && k) && ((true && (f && lf)) && ((true && (s && ls)) && le))) (sym (h (g refl)))
      ∙ ap (λ (t : Bool). (p && k) && ((t && (f && lf)) && ((true && (s && ls)) && le))) (sym (g refl))
    where
      all_on : (a b c d e l : Bool) → (a && (b && (c && (d && (e && (l && true)))))) ≡ ((true && a) && ((true && (b && c)) && ((true && (d && e)) && l)))
      all_on false b c d e l = refl
      all_on true false c d e l = refl
      all_on true true false d e l = refl
      all_on true true true false e l = refl
      all_on true true true true false l = refl
      all_on true true true true true false = refl
      all_on true true true true true true = refl

  le_more : (n d : ℕ) → nat_le (n + d) 190 ≡ true → nat_le n 190 ≡ true
  le_more n d h = grind (arith, h)

  parts_of : (xs ys zs : List Met) (f s e : Linear) → all_kept (xs ++ (ys ++ Limited f ∷ (zs ++ Limited s ∷ Limited e ∷ []))) ≡ (all_kept xs && (all_kept ys && (is_low f && (all_kept zs && (is_low s && (is_low e && true))))))
  parts_of xs ys zs f s e =
      list_all-append is_kept xs _
      ∙ ap (λ (t : Bool). all_kept xs && t) (list_all-append is_kept ys _ ∙ ap (λ (t : Bool). all_kept ys && (is_low f && t)) (list_all-append is_kept zs _))

  limit_parts : (front : Fronts.Front) (link : Arrow) (aspect : Option Tree) (size : Linear)
      → (nat_le (size_division (Fronts.step_at front link) + divisions_in_any aspect) 190
      && all_kept (met front.fields front.division link.condition ++ (met_any front.fields (first_division (Fronts.step_at front link)) link.first ++ (Limited (first_form (Fronts.step_at front link)) ∷ (met_any front.fields (size_division (Fronts.step_at front link)) aspect ++ Limited size ∷ Limited (plus (first_form (Fronts.step_at front link)) size) ∷ [])))))
      ≡ (is_within front.fields front.division link.condition
      && (aspect_within front.fields (first_division (Fronts.step_at front link)) link.first (first_form (Fronts.step_at front link))
      && (aspect_within front.fields (size_division (Fronts.step_at front link)) aspect size
      && is_low (plus (first_form (Fronts.step_at front link)) size))))
  limit_parts front link aspect size =
      let step = Fronts.step_at front link in
      let first = first_form step in
      let xs = met front.fields front.division link.condition in
      let ys = met_any front.fields (first_division step) link.first in
      let zs = met_any front.fields (size_division step) aspect in
      ap (λ (t : Bool). nat_le (size_division step + divisions_in_any aspect) 190 && t) (parts_of xs ys zs first size (plus first size))
      ∙ one_by_one (nat_le (first_division step) 190) (nat_le (size_division step) 190) (nat_le (size_division step + divisions_in_any aspect) 190) (all_kept xs) (all_kept ys) (is_low first) (all_kept zs) (is_low size) (is_low (plus first size)) (le_more (size_division step) (divisions_in_any aspect)) (le_more (first_division step) (divisions_in_any link.first))

  limit_by : (type : Option Domain) (front : Fronts.Front) (link : Arrow) → (nat_le (size_division (Fronts.step_at front link) + divisions_in_any (size_aspect type link.size)) 190 && all_kept (met_at type (Fronts.step_at front link))) ≡ (is_within front.fields front.division link.condition && Fronts.place_within type (Fronts.after_end domains m front link) link)
  limit_by (Some t) front link = limit_parts front link None (size_form (Some t) (Fronts.step_at front link))
  limit_by None front link = limit_parts front link link.size (size_form None (Fronts.step_at front link))

  pub link_test : (front : Fronts.Front) (link : Arrow) → Fronts.link_within domains m front link ≡ (is_within front.fields front.division link.condition && Fronts.place_within (type_of domains m (target_field link.target)) (Fronts.after_end domains m front link) link)
  link_test front link = limit_by (type_of domains m (target_field link.target)) front link
