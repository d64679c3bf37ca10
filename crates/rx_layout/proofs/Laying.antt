-- What is asked behind a path, step by step.
use Rattle.std.proofs.Common.{◌≡◌, refl, sym, ap, subst, ◌∙◌, ℕ, ◌+◌, ◌≤◌, arith, List, [], ◌∷◌, ◌++◌, map, true, Option}
use Rattle.std.specs.List.{list_all, AllByRecursion}
use Rattle.rx_types.specs.declared.interval.Interval.{Interval}
use Rattle.rx_types.specs.Domain.{Domain}
use Rattle.rx_types.specs.Tree.{Tree}
use Rattle.rx_types.specs.Narrow.{IsShort, IsNarrow}
use Rattle.rx_graph.specs.Graph.{Arrow, type_of, limit_of}
use Rattle.rx_graph.specs.Typed.{Typed}
use Rattle.rx_forms.specs.declared.work.Work.{Work}
use Rattle.rx_forms.specs.declared.linear.Linear.{Linear}
use Rattle.rx_forms.specs.declared.linear.Form.{Form, AtLeast}
use Rattle.rx_forms.specs.declared.field.FieldForms.{FieldForms}
use Rattle.rx_forms.specs.Normal.{Formed}
use Rattle.rx_forms.specs.Steps.{form_or, end_form, size_aspect, target_field}
use Rattle.rx_forms.specs.Links.{IsNarrowIfAny}
use Rattle.rx_forms.specs.Expressions.{HasFact, HasAspect, size_otherwise}
use Rattle.rx_forms.specs.Fronts.{Front, after_end}
use Rattle.rx_forms.proofs.Building.{end_goes}
use Rattle.rx_layout.specs.declared.asked.Asked.{Asked}
use Rattle.rx_layout.specs.Fitting.{fits, IsLowTo, AreLowTo, IsFitting}
use Rattle.rx_layout.specs.Laid.{end_front, with_asked, IsLaid, IsBegun, IsPlaced, HasForms, after_any, path_front, HasProperTypes}
use Rattle.rx_layout.proofs.Stages.{formula_behind, units_behind}
use Rattle.rx_layout.specs.QueryOf.{unit_rows}
use Rattle.rx_layout.specs.TypedPath.{TypedPath, TypedEnd, path_of}
use Rattle.rx_layout.proofs.AskedFit
use Rattle.rx_layout.proofs.Behind
use Rattle.rx_layout.proofs.FrontsFit.{wider, end_low, join_facts}
use Rattle.rx_layout.proofs.FormsFit.{facts_fit, row_facts_fit}
use Rattle.rx_layout.proofs.Targets.{narrow_aspect}

-- what is known of a message, of fields and of a link, where the code has them under other names
pub carried : (P : Typed → List Formed → Arrow → Type 0) (t s : Typed) (gs fs : List Formed) (a b : Arrow) → t ≡ s → gs ≡ fs → a ≡ b → P t gs a → P s fs b
carried P t s gs fs a b e h k x = subst (λ (y : Typed). P y fs b) e (subst (λ (y : List Formed). P t y b) h (subst (λ (y : Arrow). P t gs y) k x))

module _ (p : TypedPath) where
  pub renamed : (most : ℕ) (front other : Front) (a : Asked) → front ≡ other → IsLaid p most front a → IsLaid p most other a
  renamed most front other a e h = subst (λ (x : Front). IsLaid p most x a) e h

  pub at_most : (few most : ℕ) (front : Front) (a : Asked) → few ≤ most → IsLaid p few front a → IsLaid p most front a
  at_most few most front a r h = let f = h.few in record { is = h.is; more = h.more; few = omega (arith, f, r); fits = h.fits }

  -- nothing is asked
  pub nothing_laid : (fields : List FieldForms) (next : ℕ) (facts rows : List Form) (a : Asked) → HasForms p fields next facts rows → a ≡ record { forms = []; work = record { next = next; rows = [] } } → IsLaid p 190 (end_front p) a
  nothing_laid fields next facts rows a has e =
      let w = ap (λ (x : Asked). x.work.next) e in
      let d = has.next_is in
      let few = has.few in
      record {
        is = ap (λ (x : Asked). with_asked (end_front p) x) e ∙ ap (λ (n : ℕ). record (end_front p) { division = n }) d;
        more = omega (arith, w, d);
        few = omega (arith, w, few);
        fits = λ n r. let f = has.fits n (omega (arith, w, r)) in record { some = f.some; fields = f.fields; rows = refl; conditions = refl };
      }

  pub next_is : (most : ℕ) (front : Front) (a : Asked) → IsLaid p most front a → a.work.next ≡ front.division
  next_is most front a h = ap (λ (x : Front). x.division) h.is

  pub fields_are : (most : ℕ) (front : Front) (a : Asked) → IsLaid p most front a → (end_front p).fields ≡ front.fields
  fields_are most front a h = ap (λ (x : Front). x.fields) h.is

  -- a fact besides
  pub with_fact : (most : ℕ) (mid : Front) (asked new : Asked) (f g : Form) → IsLaid p most mid asked → new ≡ record { forms = asked.forms ++ f ∷ []; work = asked.work } → f ≡ g
      → ((n : ℕ) → asked.work.next ≤ n → IsFitting n mid → fits n f ≡ true) → IsLaid p most (formula_behind (g ∷ []) mid) new
  with_fact most mid asked new f g h e k fit =
      let w = ap (λ (a : Asked). a.work.next) e in
      let few = h.few in
      let least = h.more in
      record {
        is = ap (λ (a : Asked). with_asked (end_front p) a) e ∙ ap (λ (x : Front). formula_behind (f ∷ []) x) h.is ∙ ap (λ (x : Form). formula_behind (x ∷ []) mid) k;
        more = omega (arith, w, least);
        few = omega (arith, w, few);
        fits = λ n r.
            let le : asked.work.next ≤ n = omega (arith, w, r) in
            AskedFit.push_fits n mid (formula_behind (g ∷ []) mid) g refl (h.fits n le) (ap (λ (x : Form). fits n x) (sym k) ∙ fit n le (h.fits n le));
      }

  -- a quotient by 8 besides
  pub with_unit : (most : ℕ) (mid : Front) (asked new : Asked) (i j : Interval) → IsShort i → i ≡ j → IsLaid p most mid asked
      → new ≡ record { forms = asked.forms; work = record { next = asked.work.next + 1; rows = asked.work.rows ++ unit_rows asked.work.next i } }
      → IsLaid p (most + 1) (units_behind (unit_rows mid.division j) 1 mid) new
  with_unit most mid asked new i j s k h e =
      let w = ap (λ (a : Asked). a.work.next) e in
      let d = next_is most mid asked h in
      let few = h.few in
      let least = h.more in
      record {
        more = omega (arith, w, least);
        is = ap (λ (a : Asked). with_asked (end_front p) a) e ∙ ap (λ (x : Front). units_behind (unit_rows x.division i) 1 x) h.is ∙ ap (λ (x : Interval). units_behind (unit_rows mid.division x) 1 mid) k;
        few = omega (arith, w, few);
        fits = λ n r.
            let le : asked.work.next ≤ n = omega (arith, w, r) in
            AskedFit.units_step mid (units_behind (unit_rows mid.division j) 1 mid) i s (ap (λ (x : Interval). units_behind (unit_rows mid.division x) 1 mid) (sym k)) n (omega (arith, w, d, r)) (h.fits n le);
      }

  -- the condition of a link besides
  pub condition_laid : (link : Arrow) (front : Front) (asked new : Asked) (w1 : Work) (f : Form) → IsNarrow (limit_of p.domains p.graph) link.condition
      → HasFact (limit_of p.domains p.graph) (end_front p).fields true link.condition asked.work w1 f → new ≡ record { forms = asked.forms ++ f ∷ []; work = w1 }
      → IsLaid p 190 front asked → IsLaid p 190 (after_end p.domains p.graph front link) new
  condition_laid link front asked new w1 f narrow fact e h =
      let domains = p.domains in
      let m = p.graph in
      let there = with_asked (end_front p) new in
      let has = subst (λ (fs : List Formed). HasFact (limit_of domains m) fs true link.condition asked.work w1 f) (fields_are 190 front asked h) fact in
      let d = sym (next_is 190 front asked h) in
      let within = subst (λ (n : ℕ). AskedFit.Within front n link) (sym d) has.goes.within in
      let is = end_goes domains m front there link asked.work w1 f d (sym (ap (λ (x : Front). x.rows) h.is)) has
      (ap (λ (a : Asked). with_asked (end_front p) a) e ∙ ap (λ (x : Front). record x { division = w1.next; rows = w1.rows; conditions = x.conditions ++ f ∷ [] }) h.is) in
      let up = ap (λ (x : Front). x.division) is in
      record {
        is = is;
        more = let least = h.more in omega (arith, up, d, least);
        few = Behind.condition_room domains m front there link is within;
        fits = λ n r.
            let le : asked.work.next ≤ n = omega (arith, up, d, r) in
            AskedFit.condition_step domains m front (after_end domains m front link) link narrow refl within n (omega (arith, up, r)) (h.fits n le);
      }

-- ---- the target of a link

module _ (e : TypedEnd) where
  abbrev front : Front
  front = end_front (path_of e)

  abbrev taken : Front
  taken = after_end e.domains e.graph front e.arrow

  -- a First or a Size besides
  aspect_laid : (mid : Front) (x : Option Tree) (otherwise f : Linear) (forms : List Form) (w0 w1 : Work) → IsNarrowIfAny (limit_of e.domains e.graph) x → mid.fields ≡ front.fields
      → HasAspect (limit_of e.domains e.graph) front.fields x otherwise w0 w1 f → IsLaid (path_of e) 190 mid (record { forms = forms; work = w0 })
      → IsLaid (path_of e) 190 (after_any e.domains e.graph x mid) (record { forms = forms; work = w1 })
  aspect_laid mid x otherwise f forms w0 w1 narrow same aspect h =
      let domains = e.domains in
      let m = e.graph in
      let p = path_of e in
      let has = subst (λ (fs : List Formed). HasAspect (limit_of domains m) fs x otherwise w0 w1 f) (sym same) aspect in
      let d = next_is p 190 mid (record { forms = forms; work = w0 }) h in
      let new = with_asked front (record { forms = forms; work = w1 }) in
      let next = has.next ∙ ap (λ (k : ℕ). AskedFit.behind_any k x) d in
      let rows = has.rows ∙ ap (λ (y : Front). AskedFit.rows_any (limit_of domains m) mid.fields y.rows w0.next x) h.is ∙ ap (λ (k : ℕ). AskedFit.rows_any (limit_of domains m) mid.fields mid.rows k x) d in
      let within = subst (λ (k : ℕ). AskedFit.AspectWithin mid k x otherwise) d has.within in
      let is = ap (λ (y : Front). record y { division = w1.next; rows = w1.rows }) h.is ∙ Behind.aspect_behind domains m mid x w1.next w1.rows next rows in
      let up = ap (λ (y : Front). y.division) is in
      record {
        is = is;
        more = let least = h.more in omega (arith, up, d, least);
        few = Behind.aspect_room mid.fields mid.division w1.next x (form_or x mid.fields mid.division otherwise) next within;
        fits = λ n r.
            let le : w0.next ≤ n = let more = has.next in omega (arith, more, r) in
            AskedFit.aspect_step domains m mid (after_any domains m x mid) x (form_or x mid.fields mid.division otherwise) narrow refl within n (omega (arith, up, r)) (h.fits n le);
      }

  aspect_value : (mid : Front) (x : Option Tree) (otherwise f : Linear) (forms : List Form) (w0 w1 : Work) → mid.fields ≡ front.fields
      → HasAspect (limit_of e.domains e.graph) front.fields x otherwise w0 w1 f → IsLaid (path_of e) 190 mid (record { forms = forms; work = w0 })
      → f ≡ form_or x mid.fields mid.division otherwise
  aspect_value mid x otherwise f forms w0 w1 same aspect h =
      aspect.value ∙ ap (λ (fs : List Formed). form_or x fs w0.next otherwise) (sym same) ∙ ap (λ (k : ℕ). form_or x mid.fields k otherwise) (next_is (path_of e) 190 mid (record { forms = forms; work = w0 }) h)

  aspect_is_low : (mid : Front) (x : Option Tree) (otherwise f : Linear) (forms : List Form) (w0 w1 : Work) → mid.fields ≡ front.fields
      → HasAspect (limit_of e.domains e.graph) front.fields x otherwise w0 w1 f → IsLaid (path_of e) 190 mid (record { forms = forms; work = w0 })
      → AskedFit.IsWide otherwise (AskedFit.behind_any mid.division x) → IsLowTo w1.next f
  aspect_is_low mid x otherwise f forms w0 w1 same aspect h wide =
      let has = subst (λ (fs : List Formed). HasAspect (limit_of e.domains e.graph) fs x otherwise w0 w1 f) (sym same) aspect in
      let d = next_is (path_of e) 190 mid (record { forms = forms; work = w0 }) h in
      let next = has.next ∙ ap (λ (k : ℕ). AskedFit.behind_any k x) d in
      let within = subst (λ (k : ℕ). AskedFit.AspectWithin mid k x otherwise) d has.within in
      let le : w0.next ≤ w1.next = let more = has.next in omega (arith, more) in
      AskedFit.aspect_low mid x otherwise f w1.next next (aspect_value mid x otherwise f forms w0 w1 same aspect h) within w1.next (h.fits w1.next le) wide

  pub begun_is : (f : Linear) (forms : List Form) (w0 w1 : Work) → IsNarrowIfAny (limit_of e.domains e.graph) e.arrow.first
      → HasAspect (limit_of e.domains e.graph) front.fields e.arrow.first (end_form front.fields) w0 w1 f → IsLaid (path_of e) 190 taken (record { forms = forms; work = w0 })
      → IsBegun e f (record { forms = forms; work = w1 })
  begun_is f forms w0 w1 narrow aspect h =
      let other = end_form front.fields in
      let w = (end_low taken.division front.fields (h.fits taken.division (let d = next_is (path_of e) 190 taken (record { forms = forms; work = w0 }) h in omega (arith, d))).fields).short in
      record {
        begins = aspect_value taken e.arrow.first other f forms w0 w1 refl aspect h;
        low = aspect_is_low taken e.arrow.first other f forms w0 w1 refl aspect h (omega (arith, w));
        laid_is = aspect_laid taken e.arrow.first other f forms w0 w1 narrow refl aspect h;
      }

  abbrev type : Option Domain
  type = type_of e.domains e.graph (target_field e.arrow.target)

  abbrev begun : Front
  begun = after_any e.domains e.graph e.arrow.first taken

  pub placed_is : (first size : Linear) (forms : List Form) (w0 w1 : Work) → IsNarrowIfAny (limit_of e.domains e.graph) e.arrow.size
      → HasAspect (limit_of e.domains e.graph) front.fields (size_aspect type e.arrow.size) (size_otherwise type first) w0 w1 size → IsBegun e first (record { forms = forms; work = w0 })
      → IsPlaced e first size (record { forms = forms; work = w1 })
  placed_is first size forms w0 w1 narrow aspect h =
      let l = h.laid_is in
      let x = size_aspect type e.arrow.size in
      let other = size_otherwise type first in
      let value = aspect_value begun x other size forms w0 w1 refl aspect l in
      let d = next_is (path_of e) 190 begun (record { forms = forms; work = w0 }) l in
      let fit = l.fits w0.next (omega arith) in
      let wide = AskedFit.other_width type first e.arrow.size begun.division fit.some (let s = h.low.short in omega (arith, s, d)) in
      let up : w0.next ≤ w1.next = let more = aspect.next in omega (arith, more) in
      record {
        target = record { begins = h.begins; extends = value ∙ Behind.size_is e.domains e.graph type front begun e.arrow first refl h.begins };
        low = (wider w0.next w1.next first up h.low, aspect_is_low begun x other size forms w0 w1 refl aspect l wide);
        laid_is = aspect_laid begun x other size forms w0 w1 (narrow_aspect (limit_of e.domains e.graph) type e.arrow.size narrow) refl aspect l;
      }

-- ---- all that is asked

-- the facts of a path and those that are asked, and the rows of both, fit a system
pub all_facts : (p : TypedPath) → HasProperTypes p.domains p.graph → (fields : List FieldForms) (next : ℕ) (facts rows : List Form) (front : Front) (a : Asked) → HasForms p fields next facts rows → IsLaid p 192 front a
    → list_all (fits a.work.next) (facts ++ (a.forms ++ (rows ++ map (λ f. AtLeast f) a.work.rows))) ≡ true
all_facts p proper fields next facts rows front a has h =
    let n = a.work.next in
    let made = path_front p.domains p.graph p.path in
    let up = h.more in
    let d = has.next_is in
    let f = has.fits n (omega (arith, d, up)) in
    let l = subst (λ (x : Front). IsFitting n x) (sym h.is) (h.fits n (omega arith)) in
    let low = subst (λ (gs : List Formed). AllByRecursion (λ g. AreLowTo made.division g) gs) (sym has.fields_are) f.fields in
    let some = f.some in
    let facts_are = subst (λ (x : List Form). list_all (fits n) x ≡ true) (sym has.facts_are) (facts_fit p.domains p.graph proper n (omega (arith, some, up)) made.division fields made.conditions up low f.conditions) in
    let rows_are = subst (λ (x : List Form). list_all (fits n) x ≡ true) (sym has.rows_are) (row_facts_fit n made.rows f.rows) in
    join_facts n facts _ facts_are (join_facts n a.forms _ l.conditions (join_facts n rows _ rows_are (row_facts_fit n a.work.rows l.rows)))

pub four_same : (a b c d e f g h : List Form) → a ≡ e → b ≡ f → c ≡ g → d ≡ h → a ++ (b ++ (c ++ d)) ≡ e ++ (f ++ (g ++ h))
four_same a b c d e f g h p q r s =
    ap (λ x. x ++ (b ++ (c ++ d))) p ∙ ap (λ x. e ++ (x ++ (c ++ d))) q ∙ ap (λ x. e ++ (f ++ (x ++ d))) r ∙ ap (λ x. e ++ (f ++ (g ++ x))) s
