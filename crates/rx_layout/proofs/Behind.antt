-- What a goal asks at the end of a path, step by step.
use Rattle.std.proofs.Common.{◌≡◌, refl, sym, ap, ◌∙◌, subst, ℕ, zero, suc, ◌+◌, ◌-◌, ◌≤◌, arith, true, nat_le, map, take, length, get_or, List, [], ◌∷◌, ◌++◌, append_assoc, append-nil, Option, Some, None}
use Rattle.std.proofs.lemmas.Option.{slice_get-get_or}
use Rattle.rx_types.specs.Domain.{Domain}
use Rattle.rx_types.specs.Tree.{Tree}
use Rattle.rx_graph.specs.declared.message.Node.{Node}
use Rattle.rx_graph.specs.Graph.{Arrow, Graph, type_of, limit_of}
use Rattle.rx_graph.proofs.Unique.{some_same}
use Rattle.rx_forms.specs.declared.linear.Linear.{Linear}
use Rattle.rx_forms.specs.declared.linear.Form.{Form, All, Any}
use Rattle.rx_forms.specs.declared.field.FieldForms.{FieldForms}
use Rattle.rx_forms.specs.Code.{formed, formed_all}
use Rattle.rx_linear.proofs.Joining.{both}
use Rattle.rx_forms.specs.Linear.{minus, above}
use Rattle.rx_forms.specs.Limits.{is_within}
use Rattle.rx_forms.specs.Expressions.{aspect_within}
use Rattle.rx_forms.specs.Normal.{Formed, condition, divisions_in, bits}
use Rattle.rx_forms.specs.Divisions.{divisions}
use Rattle.rx_forms.specs.Steps.{form_or, target_field, size_aspect, divisions_any, divisions_in_any, first_form, size_form, end_form}
use Rattle.rx_forms.specs.Fronts.{Front, after_end}
use Rattle.rx_forms.proofs.Aspects.{end_of_last}
use Rattle.rx_layout.proofs.Stages
use Rattle.rx_layout.specs.Goals.{HasLink, LeadsToBytes}
use Rattle.rx_layout.proofs.Numbered.{numbered_found}
use Rattle.rx_layout.specs.QueryOf
use Rattle.rx_layout.specs.QueryOf.{goal_step, unit_rows, position_formula, grid_formula, overlay_formula, cover_formula, null_formula, no_multiple}
use Rattle.rx_types.specs.declared.interval.Interval.{Interval}
use Rattle.rx_types.specs.Narrow.{places_in_bits}
use Rattle.rx_layout.specs.Laid
use Rattle.rx_layout.specs.Laid.{behind}
use Rattle.rx_layout.proofs.Stages.{formula_behind, units_behind}

up_to : (a : ℕ) → nat_le a 190 ≡ true → a ≤ 190
up_to a e = grind (arith, e)

abbrev front_with : Front → ℕ → List Linear → List Form → Front
front_with front d rows conditions = record front { division = d; rows = rows; conditions = conditions }

same_front : (front : Front) (d k : ℕ) (rows others : List Linear) (conditions facts : List Form) → d ≡ k → rows ≡ others → conditions ≡ facts
    → front_with front d rows conditions ≡ front_with front k others facts
same_front front d k rows others conditions facts e f g =
    ap (λ x. front_with front x rows conditions) e ∙ ap (λ x. front_with front k x conditions) f ∙ ap (λ x. front_with front k others x) g

rows_apart : (r a b c u : List Linear) → r ++ ((a ++ []) ++ (b ++ (c ++ u))) ≡ (((r ++ a) ++ b) ++ c) ++ u
rows_apart r a b c u =
    ap (λ x. r ++ (x ++ (b ++ (c ++ u)))) (append-nil a)
    ∙ sym (append_assoc ((r ++ a) ++ b) c u ∙ append_assoc (r ++ a) b (c ++ u) ∙ append_assoc r a (b ++ (c ++ u)))

pub no_units : (front : Front) → units_behind [] 0 front ≡ front
no_units front = same_front front (front.division + 0) front.division (front.rows ++ []) front.rows front.conditions front.conditions (omega arith) (append-nil front.rows) refl

pub no_formula : (front : Front) → formula_behind [] front ≡ front
no_formula front = same_front front front.division front.division front.rows front.rows (front.conditions ++ []) front.conditions refl refl (append-nil front.conditions)

module _ (domains : List Domain) (m : Graph) where
  pub no_aspect : (front : Front) → Laid.after_any domains m None front ≡ front
  no_aspect front = same_front front (front.division + 0) front.division (front.rows ++ []) front.rows front.conditions front.conditions (omega arith) (append-nil front.rows) refl

  -- a condition, a First, a Size, a formula and rows
  pub asked_behind : (front : Front) (link : Arrow) (first size : Option Tree) (formula : List Form) (units : List Linear) (q : ℕ)
      → behind (QueryOf.asked_of domains m front.fields front.division (link ∷ []) first size formula units q) front
      ≡ units_behind units q (formula_behind formula (Laid.after_any domains m size (Laid.after_any domains m first (after_end domains m front link))))
  asked_behind front link first size formula units q =
      let limit = limit_of domains m in
      let n = front.division in
      let k = n + divisions_in link.condition in
      same_front front (k + divisions_in_any first + divisions_in_any size + q) (k + divisions_in_any first + divisions_in_any size + q)
      _ _
      (front.conditions ++ (condition front.fields n true link.condition ∷ [] ++ formula)) ((front.conditions ++ condition front.fields n true link.condition ∷ []) ++ formula)
      refl
      (rows_apart front.rows (divisions limit front.fields n link.condition) (divisions_any limit front.fields k first) (divisions_any limit front.fields (k + divisions_in_any first) size) units)
      (sym (append_assoc front.conditions (condition front.fields n true link.condition ∷ []) formula))

  -- ---- each goal

  pub taken_behind : (front : Front) (link : Arrow) → behind (QueryOf.taken_asked domains m front.fields front.division (link ∷ [])) front ≡ after_end domains m front link
  taken_behind front link =
      let end = after_end domains m front link in
      asked_behind front link None None [] [] 0
      ∙ no_units _ ∙ no_formula _ ∙ no_aspect (Laid.after_any domains m None end) ∙ no_aspect end

  pub none_behind : (front : Front) → behind (QueryOf.taken_asked domains m front.fields front.division []) front ≡ front
  none_behind front = same_front front (front.division + 0 + 0 + 0) front.division (front.rows ++ []) front.rows (front.conditions ++ []) front.conditions (omega arith) (append-nil front.rows) (append-nil front.conditions)

  pub two_behind : (front : Front) (one other : Arrow) → behind (QueryOf.taken_asked domains m front.fields front.division (one ∷ other ∷ [])) front ≡ after_end domains m (after_end domains m front one) other
  two_behind front one other =
      let limit = limit_of domains m in
      let n = front.division in
      let k = n + divisions_in one.condition in
      let a = divisions limit front.fields n one.condition in
      let b = divisions limit front.fields k other.condition in
      let c = condition front.fields n true one.condition in
      let d = condition front.fields k true other.condition in
      same_front front (k + divisions_in other.condition + 0 + 0 + 0) (k + divisions_in other.condition)
      (front.rows ++ ((a ++ (b ++ [])) ++ [])) ((front.rows ++ a) ++ b)
      (front.conditions ++ ((c ∷ d ∷ []) ++ [])) ((front.conditions ++ c ∷ []) ++ d ∷ [])
      (omega arith)
      (ap (λ x. front.rows ++ x) (append-nil (a ++ (b ++ [])) ∙ ap (λ x. a ++ x) (append-nil b)) ∙ sym (append_assoc front.rows a b))
      (sym (append_assoc front.conditions (c ∷ []) (d ∷ [])))

  pub one_formula : (front : Front) (link : Arrow) (first size : Option Tree) (formula : Form)
      → formula_behind (formula ∷ []) (Laid.after_any domains m size (Laid.after_any domains m first (after_end domains m front link)))
      ≡ behind (QueryOf.asked_of domains m front.fields front.division (link ∷ []) first size (formula ∷ []) [] 0) front
  one_formula front link first size formula = sym (asked_behind front link first size (formula ∷ []) [] 0 ∙ no_units _)

  pub first_formula : (front : Front) (link : Arrow) (first : Option Tree) (formula : Form)
      → formula_behind (formula ∷ []) (Laid.after_any domains m first (after_end domains m front link))
      ≡ behind (QueryOf.asked_of domains m front.fields front.division (link ∷ []) first None (formula ∷ []) [] 0) front
  first_formula front link first formula = ap (λ x. formula_behind (formula ∷ []) x) (sym (no_aspect (Laid.after_any domains m first (after_end domains m front link)))) ∙ one_formula front link first None formula

  pub only_formula : (front : Front) (link : Arrow) (formula : Form)
      → formula_behind (formula ∷ []) (after_end domains m front link)
      ≡ behind (QueryOf.asked_of domains m front.fields front.division (link ∷ []) None None (formula ∷ []) [] 0) front
  only_formula front link formula = ap (λ x. formula_behind (formula ∷ []) x) (sym (no_aspect (after_end domains m front link))) ∙ first_formula front link None formula

  pub whole_behind : (front : Front) (link : Arrow) (q : ℕ) → q ≡ front.division + divisions_in link.condition
      → units_behind (unit_rows q places_in_bits) 1 (formula_behind (no_multiple (end_form front.fields) q ∷ []) (after_end domains m front link)) ≡ behind (QueryOf.whole_asked domains m front.fields front.division link) front
  whole_behind front link q e =
      let end = after_end domains m front link in
      let k = front.division + divisions_in link.condition in
      ap (λ x. units_behind (unit_rows x places_in_bits) 1 (formula_behind (no_multiple (end_form front.fields) x ∷ []) end)) e
      ∙ ap (λ x. units_behind (unit_rows k places_in_bits) 1 (formula_behind (no_multiple (end_form front.fields) k ∷ []) x)) (sym (no_aspect (Laid.after_any domains m None end) ∙ no_aspect end))
      ∙ sym (asked_behind front link None None (no_multiple (end_form front.fields) k ∷ []) (unit_rows k places_in_bits) 1)

  -- ---- what the code has gathered

  pub condition_room : (front new : Front) (link : Arrow) → new ≡ after_end domains m front link → is_within front.fields front.division link.condition ≡ true → new.division ≤ 190
  condition_room front new link h w = subst (λ (x : Front). x.division ≤ 190) (sym h) (up_to (front.division + divisions_in link.condition) (both w).0)

  pub aspect_behind : (front : Front) (x : Option Tree) (next : ℕ) (rows : List Linear) → next ≡ front.division + divisions_in_any x → rows ≡ front.rows ++ divisions_any (limit_of domains m) front.fields front.division x
      → record front { division = next; rows = rows } ≡ Laid.after_any domains m x front
  aspect_behind front x next rows e f = same_front front next (front.division + divisions_in_any x) rows (front.rows ++ divisions_any (limit_of domains m) front.fields front.division x) front.conditions front.conditions e f refl

  pub size_is : (type : Option Domain) (front mid : Front) (link : Arrow) (first : Linear) → mid ≡ Laid.after_any domains m link.first (after_end domains m front link) → first ≡ first_form (goal_step domains m front.fields front.division link)
      → Stages.size_behind type first link.size mid ≡ size_form type (goal_step domains m front.fields front.division link)
  size_is (Some t) front mid link first h e = refl
  size_is None front mid link first h e =
      ap (λ (x : Front). form_or link.size x.fields x.division (minus bits first)) h
      ∙ ap (λ (f : Linear). form_or link.size front.fields (front.division + divisions_in link.condition + divisions_in_any link.first) (minus bits f)) e

pub aspect_room : (fields : List Formed) (n next : ℕ) (x : Option Tree) (f : Linear) → next ≡ n + divisions_in_any x → aspect_within fields n x f ≡ true → next ≤ 190
aspect_room fields n next x f e w = subst (λ (k : ℕ). k ≤ 190) (sym e) (up_to (n + divisions_in_any x) (both w).0)

pub formula_on : (mid new front : Front) (f g : Form) → new ≡ formula_behind (f ∷ []) mid → mid ≡ front → f ≡ g → new ≡ formula_behind (g ∷ []) front
formula_on mid new front f g h e k = h ∙ ap (λ x. formula_behind (f ∷ []) x) e ∙ ap (λ x. formula_behind (x ∷ []) front) k

-- two quotients, one after the other
pub two_units : (front mid new : Front) (i j : Interval) → mid ≡ units_behind (unit_rows front.division i) 1 front → new ≡ units_behind (unit_rows mid.division j) 1 mid
    → new ≡ units_behind (unit_rows front.division i ++ unit_rows (front.division + 1) j) 2 front
two_units front mid new i j e h =
    h ∙ ap (λ (x : Front). units_behind (unit_rows x.division j) 1 x) e
    ∙ same_front front (front.division + 1 + 1) (front.division + 2) ((front.rows ++ unit_rows front.division i) ++ unit_rows (front.division + 1) j) (front.rows ++ (unit_rows front.division i ++ unit_rows (front.division + 1) j)) front.conditions front.conditions
    (omega arith) (append_assoc front.rows (unit_rows front.division i) (unit_rows (front.division + 1) j)) refl

module _ (domains : List Domain) (m : Graph) where
  pub whole_on : (front mid last new : Front) (link : Arrow) (end : Linear) (f : Form) → mid ≡ after_end domains m front link → end ≡ end_form mid.fields → f ≡ no_multiple end mid.division
      → last ≡ formula_behind (f ∷ []) mid → new ≡ units_behind (unit_rows last.division places_in_bits) 1 last → new ≡ behind (QueryOf.whole_asked domains m front.fields front.division link) front
  whole_on front mid last new link end f e g k l h =
      let k8 = front.division + divisions_in link.condition in
      let is = k ∙ ap (λ (x : Linear). no_multiple x mid.division) (g ∙ ap (λ (x : Front). end_form x.fields) e) ∙ ap (λ (x : Front). no_multiple (end_form front.fields) x.division) e in
      h ∙ ap (λ (x : Front). units_behind (unit_rows x.division places_in_bits) 1 x) (formula_on mid last (after_end domains m front link) f (no_multiple (end_form front.fields) k8) l e is)
      ∙ whole_behind domains m front link k8 refl

  pub grid_on : (front mid last new : Front) (link : Arrow) (first size : Linear) (f : Form) → Laid.target_type domains m link ≡ None → mid ≡ Laid.after_target domains m link front → Laid.IsTarget domains m link front first size → f ≡ grid_formula first size mid.division
      → last ≡ formula_behind (f ∷ []) mid → new ≡ units_behind (Stages.grid_units domains m last.division link) 2 last → new ≡ behind (QueryOf.grid_asked domains m front.fields front.division link) front
  grid_on front mid last new link first size f n e t k l h =
      let step = goal_step domains m front.fields front.division link in
      let behind_first = Laid.after_any domains m link.first (after_end domains m front link) in
      let there = Laid.after_any domains m link.size behind_first in
      let q = front.division + divisions_in link.condition + divisions_in_any link.first + divisions_in_any link.size in
      let formula = grid_formula (first_form step) (size_form None step) q in
      let at = e ∙ ap (λ (x : Option Domain). Laid.after_any domains m (size_aspect x link.size) behind_first) n in
      let extends = t.extends ∙ ap (λ (x : Option Domain). size_form x step) n in
      let is = k ∙ ap (λ (x : Linear). grid_formula x size mid.division) t.begins ∙ ap (λ (x : Linear). grid_formula (first_form step) x mid.division) extends ∙ ap (λ (x : Front). grid_formula (first_form step) (size_form None step) x.division) at in
      h ∙ ap (λ (x : Front). units_behind (Stages.grid_units domains m x.division link) 2 x) (formula_on mid last there f formula l at is)
      ∙ sym (asked_behind domains m front link link.first link.size (formula ∷ []) (Stages.grid_units domains m q link) 2)

pub cover_many : (fs : List FieldForms) (first : Linear) (branches all : List Form) (before : Form) → 1 ≤ length fs → branches ≡ map (λ f. above f.end first) (formed_all fs) → before ≡ All (map (λ f. above first f.end) (formed_all fs)) → all ≡ branches ++ before ∷ []
    → Any all ≡ cover_formula (formed_all fs) first
cover_many [] first branches all before h e k g = absurd (omega (arith, h))
cover_many (f ∷ fs) first branches all before h e k g =
    ap (λ (xs : List Form). Any xs) (g ∙ ap (λ (xs : List Form). xs ++ before ∷ []) e ∙ ap (λ (x : Form). map (λ y. above y.end first) (formed_all (f ∷ fs)) ++ x ∷ []) k)

formed_length : (fs : List FieldForms) → length (formed_all fs) ≡ length fs
formed_length [] = refl
formed_length (f ∷ fs) = ap suc (formed_length fs)

formed_front : (n : ℕ) (fs : List FieldForms) → formed_all (take n fs) ≡ take n (formed_all fs)
formed_front zero fs = refl
formed_front (suc n) [] = refl
formed_front (suc n) (f ∷ fs) = ap (λ (gs : List Formed). formed f ∷ gs) (formed_front n fs)

pub null_many : (fs : List FieldForms) (last : FieldForms) (branches : List Form) → 1 ≤ length fs → last ≡ get_or fs (length fs - 1) last → branches ≡ map (λ f. above f.end last.end) (formed_all (take (length fs - 1) fs))
    → Any branches ≡ null_formula (formed_all fs)
null_many fs last branches h is e =
    let end = end_of_last fs last (slice_get-get_or fs (length fs - 1) last (omega (arith, h)) ∙ ap Some (sym is)) in
    let before = formed_front (length fs - 1) fs ∙ ap (λ (n : ℕ). take (n - 1) (formed_all fs)) (sym (formed_length fs)) in
    ap (λ (xs : List Form). Any xs)
    (e ∙ ap (λ (x : Linear). map (λ f. above f.end x) (formed_all (take (length fs - 1) fs))) (sym end)
    ∙ ap (λ (gs : List Formed). map (λ f. above f.end (end_form (formed_all fs))) gs) before)

-- the link of a goal that speaks of bytes leads to bytes
pub bytes_type : (domains : List Domain) (m : Graph) (node : Node) (n : ℕ) (a : Arrow) → HasLink domains m node n (LeadsToBytes domains m) → QueryOf.link_numbered m node n ≡ Some a → type_of domains m (target_field a.target) ≡ None
bytes_type domains m node n a h e =
    subst (λ (x : Arrow). type_of domains m (target_field x.target) ≡ None) (some_same h.1 a (sym (numbered_found m node n h.0 h.1 h.2) ∙ e))
    (ap (λ (x : Node). type_of domains m (target_field x)) h.3.1 ∙ h.3.2)
