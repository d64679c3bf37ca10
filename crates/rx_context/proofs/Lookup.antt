-- Entries that are looked up by their fields.
use Rattle.std.proofs.Common.{◌≡◌, ◌≢◌, ℕ, zero, suc, ◌+◌, ◌-◌, ◌<◌, ◌≤◌, Bool, true, false, List, [], ◌∷◌, ◌++◌, length, get_or, Option, Some, None, refl, sym, ap, ◌∙◌, subst, inl, inr, arith}
use Rattle.std.specs.Prelude.{slice_get, slice_set, ◌==◌, eqb, if◌then◌else◌, pos, replicate, is_some, IsTrue, IfSome, IfNone}
use Rattle.std.specs.List.{AllByRecursion, IsDistinct}
use Rattle.std.proofs.lemmas.Bool.{cases_lt}
use Rattle.std.proofs.lemmas.Bool.Decides.{Decides-eqb}
use Rattle.std.proofs.lemmas.List.{get_or-set_same, get_or-set_other, get_or-replicate, length-replicate}
use Rattle.rx_types.specs.declared.env.Entry.{Entry}
use Rattle.rx_types.specs.Domain.{Domain}
use Rattle.rx_types.specs.Environment.{Placed, placed, places, place_of, fields_of, IsAmong, AreDistinct}
use Rattle.rx_graph.specs.declared.message.Node.{Node}
use Rattle.rx_graph.specs.declared.message.Node.TheVariants.{Start, At}
use Rattle.rx_graph.specs.Cycles.{TargetsAreFields}
use Rattle.rx_graph.specs.Graph.{Graph}
use Rattle.rx_graph.specs.Paths.{Leads}
use Rattle.std.proofs.lemmas.Int.{ints}
use Rattle.rx_types.proofs.Entries.{length-places}
use Rattle.rx_graph.proofs.Bounded.{few_fields}
use Rattle.rx_graph.proofs.Facts.{targets_are_fields}
use Rattle.rx_context.specs.Contexts.{ReadsBy}
use Rattle.rx_context.specs.Plan.{Planned, IsPlan}
use Rattle.rx_context.specs.Slots.{HaveLowFields, IsSlot, AreSlots, FindsFields}

clash : true ≡ false → ⊥
clash h = cc

some_same : (x y : Entry) → Some x ≡ Some y → x ≡ y
some_same x y h = cc

none_some : (x : Entry) → None ≡ Some x → ⊥
none_some x h = cc

pub begins : (entries : List Entry) (slots : List ℕ) → ((f : ℕ) → get_or slots f 0 ≡ 0) → AreSlots entries slots 0
begins entries slots zeros =
    record { there = λ f some. absurd (omega (arith, some, zeros f)); absent = λ f none k e lt. absurd (omega (arith, lt)) }

-- ---- one entry more

module _ (entries : List Entry) (slots : List ℕ) (i : ℕ) (e : Entry) (is : slice_get entries i ≡ Some e) (low : e.field < length slots) (so_far : AreSlots entries slots i) where
  abbrev next : List ℕ
  next = slice_set slots e.field (i + 1)

  here : (f : ℕ) → f ≡ e.field → get_or next f 0 ≡ i + 1
  here f same = ap (λ g. get_or next g 0) same ∙ get_or-set_same slots e.field (i + 1) 0 low

  other : (f : ℕ) → f ≢ e.field → get_or next f 0 ≡ get_or slots f 0
  other f apart = get_or-set_other slots e.field f (i + 1) 0 apart

  slot_here : (f : ℕ) → f ≡ e.field → IsSlot entries f (get_or next f 0) (i + 1)
  slot_here f same =
      let value = here f same in
      record { entry = e; within = omega (arith, value); is = ap (λ n. slice_get entries (n - 1)) value ∙ (let back : i + 1 - 1 ≡ i = omega arith in ap (λ n. slice_get entries n) back) ∙ is; field = sym same }

  slot_other : (f : ℕ) → f ≢ e.field → 0 < get_or next f 0 → IsSlot entries f (get_or next f 0) (i + 1)
  slot_other f apart some =
      let value = other f apart in
      let old = so_far.there f (omega (arith, some, value)) in
      record { entry = old.entry; within = omega (arith, value, old.within); is = ap (λ n. slice_get entries (n - 1)) value ∙ old.is; field = old.field }

  there_by : (b : Bool) (f : ℕ) → (b ≡ true → f ≡ e.field) → (f ≡ e.field → b ≡ true) → 0 < get_or next f 0 → IsSlot entries f (get_or next f 0) (i + 1)
  there_by true f same back some = slot_here f (same refl)
  there_by false f same back some = slot_other f (λ h. clash (sym (back h))) some

  absent_other : (f : ℕ) → f ≢ e.field → get_or next f 0 ≡ 0 → (k : ℕ) (x : Entry) → k < i + 1 → slice_get entries k ≡ Some x → x.field ≡ f → ⊥
  absent_other f apart none k x lt at field =
      elim (cases_lt k i) [
        | inl l ↦ so_far.absent f (sym (other f apart) ∙ none) k x l at field
        | inr l ↦ (let same : k ≡ i = omega (arith, lt, l) in apart (sym field ∙ ap (λ (y : Entry). y.field) (some_same x e (sym at ∙ ap (λ n. slice_get entries n) same ∙ is))))
      ]

  absent_by : (b : Bool) (f : ℕ) → (b ≡ true → f ≡ e.field) → (f ≡ e.field → b ≡ true) → get_or next f 0 ≡ 0 → (k : ℕ) (x : Entry) → k < i + 1 → slice_get entries k ≡ Some x → x.field ≡ f → ⊥
  absent_by true f same back none = absurd (let value = here f (same refl) in omega (arith, value, none))
  absent_by false f same back none = absent_other f (λ h. clash (sym (back h))) none

  pub more : AreSlots entries next (i + 1)
  more =
      record {
        there = λ f. there_by (f == e.field) f (Decides-eqb f e.field).0 (Decides-eqb f e.field).1;
        absent = λ f. absent_by (f == e.field) f (Decides-eqb f e.field).0 (Decides-eqb f e.field).1;
      }

-- ---- what is found

not_among : (x : Placed) (ps : List Placed) → AllByRecursion (λ g. eqb x.field g ≡ false) (fields_of ps) → (f : ℕ) → IsAmong f ps → x.field ≡ f → ⊥
not_among x [] h f among e = among
not_among x (p ∷ ps) h f (inl same) e = clash (sym ((Decides-eqb x.field p.field).1 (e ∙ sym same)) ∙ h.0)
not_among x (p ∷ ps) h f (inr among) e = not_among x ps h.1 f among e

pub among_at : (es : List Entry) (k : ℕ) (e : Entry) (f : ℕ) → slice_get es k ≡ Some e → e.field ≡ f → IsAmong f (places es)
among_at [] zero e f h same = absurd (none_some e h)
among_at [] (suc k) e f h same = absurd (none_some e h)
among_at (x ∷ es) zero e f h same = inl (ap (λ (y : Entry). y.field) (some_same x e h) ∙ same)
among_at (x ∷ es) (suc k) e f h same = inr (among_at es k e f h same)

pub at_among : (es : List Entry) (f : ℕ) → IsAmong f (places es) → (k : ℕ) × (e : Entry) × (slice_get es k ≡ Some e) × (e.field ≡ f)
at_among [] f h = absurd h
at_among (x ∷ es) f (inl same) = (0, x, refl, same)
at_among (x ∷ es) f (inr h) = let r = at_among es f h in (suc r.0, r.1, r.2, r.3)

if_there : (b : Bool) (p q r : Placed) → (b ≡ true → p ≡ r) → (b ≡ false → q ≡ r) → (if b then p else q) ≡ r
if_there true p q r h k = h refl
if_there false p q r h k = k refl

-- among distinct fields the entry is the field's place
pub place_found : (es : List Entry) → AreDistinct (places es) → (k : ℕ) (e : Entry) (f : ℕ) → slice_get es k ≡ Some e → e.field ≡ f → place_of f (places es) ≡ placed e
unfolding IsDistinct
place_found [] distinct zero e f h same = absurd (none_some e h)
place_found [] distinct (suc k) e f h same = absurd (none_some e h)
place_found (x ∷ es) distinct zero e f h same =
    if_there (x.field == f) (placed x) (place_of f (places es)) (placed e) (λ t. ap placed (some_same x e h)) (λ t. absurd (clash (sym ((Decides-eqb x.field f).1 (ap (λ (y : Entry). y.field) (some_same x e h) ∙ same)) ∙ t)))
place_found (x ∷ es) distinct (suc k) e f h same =
    if_there (x.field == f) (placed x) (place_of f (places es)) (placed e) (λ t. absurd (not_among (placed x) (places es) distinct.0 f (among_at es k e f h same) ((Decides-eqb x.field f).0 t))) (λ t. place_found es distinct.1 k e f h same)

abbrev pub nowhere : ℕ → Placed
nowhere f = record { field = f; first = pos 0; size = pos 0; number = 0 }

pub place_absent : (es : List Entry) (f : ℕ) → (IsAmong f (places es) → ⊥) → place_of f (places es) ≡ nowhere f
place_absent [] f h = refl
place_absent (x ∷ es) f h =
    if_there (x.field == f) (placed x) (place_of f (places es)) (nowhere f) (λ t. absurd (h (inl ((Decides-eqb x.field f).0 t)))) (λ t. place_absent es f (λ k. h (inr k)))

-- ---- the fields of a path have low ids

module _ (domains : List Domain) (m : Graph) (total n : ℕ) (few : length m.fields ≤ n) (targets : TargetsAreFields m) where
  pub low_fields : (before : List Placed) (at : Node) (path : List ℕ) (es : List Entry) (end : Node) → Leads domains m total before at path (places es) end → (k : ℕ) (e : Entry) → slice_get es k ≡ Some e → e.field < n
  low_fields before at path [] end h zero e is = absurd (none_some e is)
  low_fields before at path [] end h (suc k) e is = absurd (none_some e is)
  low_fields before at [] (x ∷ es) end h k e is = absurd h
  low_fields before at (i ∷ path) (x ∷ es) end h zero e is =
      let low = targets i h.0 x.field h.1 h.3.target in
      omega (arith, few, low, ap (λ (y : Entry). y.field) (some_same x e is))
  low_fields before at (i ∷ path) (x ∷ es) end h (suc k) e is = low_fields (before ++ placed x ∷ []) (At x.field) path es end h.4 k e is

pub reads_few : (p : Planned) (bytes : List ℕ) (fields : List Placed) → IsPlan p → ReadsBy p bytes fields → (es : List Entry) → places es ≡ fields → length es ≤ 128
reads_few p bytes fields h reads es same =
    let w = (reads h.0 h.1 h.2).1 in
    let few = few_fields h.0 h.1 h.2.elaborated (length bytes) w.front fields w.node w.partial.leads in
    omega (arith, few, ap length same, length-places es)

pub reads_low : (p : Planned) (bytes : List ℕ) (fields : List Placed) → IsPlan p → ReadsBy p bytes fields → (es : List Entry) → places es ≡ fields → HaveLowFields es
reads_low p bytes fields h reads es same =
    let w = (reads h.0 h.1 h.2).1 in
    let leads : Leads h.0 h.1 (length bytes) [] Start w.front (places es) w.node = subst (λ l. Leads h.0 h.1 (length bytes) [] Start w.front l w.node) (sym same) w.partial.leads in
    low_fields h.0 h.1 (length bytes) 128 h.2.elaborated.few_fields (targets_are_fields h.0 h.1 h.2.elaborated) [] Start w.front es w.node leads

-- ---- entries are one where their fields are

same_number : (a b : ℕ) → pos a ≡ pos b → a ≡ b
same_number a b h = omega (arith, ints, h)

same_entry : (x y : Entry) → placed x ≡ placed y → x ≡ y
same_entry x y h =
    let field : x.field ≡ y.field = ap (λ (p : Placed). p.field) h in
    let first : x.first ≡ y.first = same_number x.first y.first (ap (λ (p : Placed). p.first) h) in
    let size : x.size ≡ y.size = same_number x.size y.size (ap (λ (p : Placed). p.size) h) in
    let number : x.number ≡ y.number = ap (λ (p : Placed). p.number) h in
    ap (λ n. let e : Entry = record { field = n; first = x.first; size = x.size; number = x.number } in e) field ∙ ap (λ n. let e : Entry = record { field = y.field; first = n; size = x.size; number = x.number } in e) first ∙ ap (λ n. let e : Entry = record { field = y.field; first = y.first; size = n; number = x.number } in e) size ∙ ap (λ n. let e : Entry = record { field = y.field; first = y.first; size = y.size; number = n } in e) number

nothing_same : (p : Placed) (ps : List Placed) → [] ≡ p ∷ ps → ⊥
nothing_same p ps h = cc

head_same : (p q : Placed) (ps qs : List Placed) → p ∷ ps ≡ q ∷ qs → p ≡ q
head_same p q ps qs h = cc

rest_same : (p q : Placed) (ps qs : List Placed) → p ∷ ps ≡ q ∷ qs → ps ≡ qs
rest_same p q ps qs h = cc

same_entries : (xs ys : List Entry) → places xs ≡ places ys → xs ≡ ys
same_entries [] [] h = refl
same_entries [] (y ∷ ys) h = absurd (nothing_same (placed y) (places ys) h)
same_entries (x ∷ xs) [] h = absurd (nothing_same (placed x) (places xs) (sym h))
same_entries (x ∷ xs) (y ∷ ys) h =
    ap (λ e. e ∷ xs) (same_entry x y (head_same (placed x) (placed y) (places xs) (places ys) h)) ∙ ap (λ l. y ∷ l) (same_entries xs ys (rest_same (placed x) (placed y) (places xs) (places ys) h))

pub finds : (es : List Entry) (fields : List Placed) (slots : List ℕ) → places es ≡ fields → AreSlots es slots (length es) → FindsFields fields slots
finds es fields slots same h other e =
    subst (λ l. AreSlots l slots (length l)) (same_entries es other (same ∙ sym e)) h

-- ---- a table of zeros, and whether a field is found

beyond : (xs : List ℕ) (f : ℕ) → length xs ≤ f → get_or xs f 0 ≡ 0
beyond [] f h = refl
beyond (x ∷ xs) zero h = absurd (omega (arith, h))
beyond (x ∷ xs) (suc f) h = beyond xs f (omega (arith, h))

abbrev pub blank : ℕ → List ℕ
blank n = replicate n 0

pub zeros : (n f : ℕ) → get_or (blank n) f 0 ≡ 0
zeros n f =
    elim (cases_lt f n) [
      | inl l ↦ get_or-replicate n f 0 0 l
      | inr l ↦ beyond (blank n) f (omega (arith, l, length-replicate {A = ℕ} n 0))
    ]

pub presence : (es : List Entry) (f : ℕ) (found : Option Entry) → IfSome found (λ e. (k : ℕ) × (slice_get es k ≡ Some e) × (e.field ≡ f)) → IfNone found ((k : ℕ) (e : Entry) → slice_get es k ≡ Some e → e.field ≡ f → ⊥) → (IsTrue (is_some found) → IsAmong f (places es)) × (IsAmong f (places es) → IsTrue (is_some found))
presence es f None some none = (λ t. absurd (clash (sym t)), λ h. absurd (let r = at_among es f h in none r.0 r.1 r.2 r.3))
presence es f (Some e) some none = (λ t. among_at es some.0 e f some.1 some.2, λ h. refl)
