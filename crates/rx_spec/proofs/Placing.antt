-- Names and Sizes of a link's target: a scalar has no Size, and any other field has one or ends the message.
use Rattle.std.proofs.Common.{◌≡◌, ◌∙◌, ap, sym, refl, subst, ℕ, zero, suc, ◌+◌, Bool, true, false, ◌&&◌, ◌||◌, not, List, [], ◌∷◌, ◌++◌, length, map, Option, Some, None, Ok, Err, arith, ◌⊎◌, inl, inr}
use Rattle.std.specs.Prelude.{slice_get, find, filter, codes, ◌≢◌, if◌then◌else◌}
use Rattle.std.specs.List.{list_any, AllByRecursion}
use Rattle.std.specs.Option.{option_map}
use Rattle.std.specs.Str.{bytes_eq}
use Rattle.std.proofs.lemmas.Bool.Decides.{Decides-eqb}
use Rattle.std.proofs.lemmas.List.{map-append}
use Rattle.std.proofs.lemmas.Option.{none-some, same_Some}
use Rattle.std.proofs.lemmas.Slice.Eq.{bytes_eq-Decides}
use Rattle.rx_syntax.specs.declared.tree.AspectTree.{AspectTree}
use Rattle.rx_syntax.specs.declared.tree.AspectTree.TheVariants as aspect
use Rattle.rx_syntax.specs.declared.tree.ExprTree.{ExprTree}
use Rattle.rx_syntax.specs.declared.tree.FieldTree.{FieldTree}
use Rattle.rx_types.specs.Tree.{Tree}
use Rattle.rx_graph.specs.declared.message.Node.{Node}
use Rattle.rx_graph.specs.declared.message.Node.TheVariants as node
use Rattle.rx_graph.specs.Checks.{is_node}
use Rattle.rx_graph.specs.Cycles.{IsLink}
use Rattle.rx_graph.specs.Elaborated.{OnlyEnds}
use Rattle.rx_graph.specs.Graph.{Arrow, Graph}
use Rattle.rx_judge.specs.Meaning.{Meaning}
use Rattle.rx_judge.specs.Names.{Scope}
use Rattle.rx_judge.specs.Table.{Entry, entry, is_entry, lowered, found, has, added}
use Rattle.rx_syntax.specs.declared.rule.Refusal.{Refusal}
use Rattle.rx_syntax.specs.declared.rule.Rule.TheVariants as rule
use Rattle.rx_judge.specs.declared.names.KnownField.{KnownField}
use Rattle.rx_judge.specs.declared.names.FieldKind.{FieldKind}
use Rattle.rx_judge.specs.declared.names.FieldKind.TheVariants as field_kind
use Rattle.rx_judge.proofs.Lows.{both_true}
use Rattle.rx_judge.proofs.Meanings.{bind_ok, ok_same, err_differs}
use Rattle.rx_links.specs.Positions.{positions, positions_from}
use Rattle.rx_elab.specs.Through.{through}
use Rattle.rx_elab.specs.Parts.{Parts, no_parts, is_scalar_kind, is_scalar_field, number_judged, truth_judged, first_judged, size_judged, with_aspect, with_condition, parts_judged}
use Rattle.rx_elab.specs.declared.fields.Held.{Held}
use Rattle.rx_elab.specs.declared.fields.Held.TheVariants as holds
use Rattle.rx_elab.specs.declared.layings.Laying.{Laying}
use Rattle.rx_elab.specs.declared.types.KnownScalar.{KnownScalar}
use Rattle.rx_spec.specs.Messages.{kind_held, known_from, known_fields}
use Rattle.rx_spec.specs.Sizes.{is_said, lacks_size, is_one_end, only_ends, is_sized}
use Rattle.rx_spec.proofs.Items.{all_append, fails_at}

-- ---- the fields of expressions are those of targets

abbrev pub kind_or : Option Held → FieldKind
kind_or None = field_kind.Bytes
kind_or (Some h) = kind_held h

abbrev pub known_at : List Held → ℕ → KnownField
known_at held i = record { id = i; kind = kind_or (slice_get held i) }

abbrev known_entry : List Held → Entry ℕ → Entry KnownField
known_entry held e = record { «package» = e.«package»; name = e.name; thing = known_at held e.thing }

has_mapped : (held : List Held) (p w : List ℕ) (es : List (Entry ℕ)) → has (map (known_entry held) es) p w ≡ has es p w
has_mapped held p w [] = refl
has_mapped held p w (e ∷ es) = ap (λ (b : Bool). is_entry p w e || b) (has_mapped held p w es)

added_if : (held : List Held) (b : Bool) (es : List (Entry ℕ)) (e : Entry ℕ) → (if b then map (known_entry held) es else map (known_entry held) es ++ known_entry held e ∷ []) ≡ map (known_entry held) (if b then es else es ++ e ∷ [])
added_if held true es e = refl
added_if held false es e = sym (map-append (known_entry held) es (e ∷ []))

added_mapped : (held : List Held) (es : List (Entry ℕ)) (p w : List ℕ) (i : ℕ) → added (map (known_entry held) es) p w (known_at held i) ≡ map (known_entry held) (added es p w i)
added_mapped held es p w i =
    ap (λ (b : Bool). if b then map (known_entry held) es else map (known_entry held) es ++ known_entry held (entry p w i) ∷ []) (has_mapped held p w es)
    ∙ added_if held (has es p w) es (entry p w i)

known_mapped : (held : List Held) (i : ℕ) (es : List (Entry ℕ)) (hs : List Held) (fs : List FieldTree) → length hs ≡ length fs → ((j : ℕ) (x : Held) → slice_get hs j ≡ Some x → slice_get held (i + j) ≡ Some x) → known_from i (map (known_entry held) es) hs fs ≡ map (known_entry held) (positions_from i es fs)
known_mapped held i es [] [] same from = refl
known_mapped held i es [] (f ∷ fs) same from = absurd (omega (arith, same))
known_mapped held i es (h ∷ hs) [] same from = absurd (omega (arith, same))
known_mapped held i es (h ∷ hs) (f ∷ fs) same from =
    let place : i + 0 ≡ i = omega arith in
    let here : slice_get held i ≡ Some h = subst (λ (j : ℕ). slice_get held j ≡ Some h) place (from 0 h refl) in
    let later : (j : ℕ) (x : Held) → slice_get hs j ≡ Some x → slice_get held ((i + 1) + j) ≡ Some x = λ j x e. let p : i + suc j ≡ (i + 1) + j = omega arith in subst (λ (n : ℕ). slice_get held n ≡ Some x) p (from (suc j) x e) in
    let table = map (known_entry held) es in
    ap (λ (o : Option Held). known_from (i + 1) (added table [] f.name.word (record { id = i; kind = kind_or o })) hs fs) (sym here)
    ∙ ap (λ (t : List (Entry KnownField)). known_from (i + 1) t hs fs) (added_mapped held es [] f.name.word i)
    ∙ known_mapped held (i + 1) (added es [] f.name.word i) hs fs (omega (arith, same)) later

found_if : (held : List Held) (b : Bool) (e : Entry ℕ) (rest : Option (Entry KnownField)) (others : Option (Entry ℕ)) → option_map (λ (x : Entry KnownField). x.thing) rest ≡ option_map (known_at held) (option_map (λ (x : Entry ℕ). x.thing) others)
    → option_map (λ (x : Entry KnownField). x.thing) (if b then Some (known_entry held e) else rest) ≡ option_map (known_at held) (option_map (λ (x : Entry ℕ). x.thing) (if b then Some e else others))
found_if held true e rest others h = refl
found_if held false e rest others h = h

found_mapped : (held : List Held) (p w : List ℕ) (es : List (Entry ℕ)) → found (map (known_entry held) es) p w ≡ option_map (known_at held) (found es p w)
found_mapped held p w [] = refl
found_mapped held p w (e ∷ es) = found_if held (is_entry p w e) e (find (is_entry p w) (map (known_entry held) es)) (find (is_entry p w) es) (found_mapped held p w es)

-- a name of a scalar field is known as one
pub scalar_named : (held : List Held) (fs : List FieldTree) (w : List ℕ) (i : ℕ) (s : KnownScalar) → length held ≡ length fs → found (positions fs) [] w ≡ Some i → slice_get held i ≡ Some (holds.Scalar s) → is_scalar_field (found (known_fields held fs) [] w) ≡ true
scalar_named held fs w i s same e h =
    let from : (j : ℕ) (x : Held) → slice_get held j ≡ Some x → slice_get held (0 + j) ≡ Some x = λ j x k. let p : j ≡ 0 + j = omega arith in subst (λ (n : ℕ). slice_get held n ≡ Some x) p k in
    ap (λ (t : List (Entry KnownField)). is_scalar_field (found t [] w)) (known_mapped held 0 [] held fs same from)
    ∙ ap is_scalar_field (found_mapped held [] w (positions fs))
    ∙ ap (λ (o : Option ℕ). is_scalar_field (option_map (known_at held) o)) e
    ∙ ap (λ (o : Option Held). is_scalar_kind (kind_or o)) h

-- a name of a field is known as that field
pub named_field : (held : List Held) (fs : List FieldTree) (w : List ℕ) (i : ℕ) → length held ≡ length fs → found (positions fs) [] w ≡ Some i → found (known_fields held fs) [] w ≡ Some (known_at held i)
named_field held fs w i same e =
    let from : (j : ℕ) (x : Held) → slice_get held j ≡ Some x → slice_get held (0 + j) ≡ Some x = λ j x k. let p : j ≡ 0 + j = omega arith in subst (λ (n : ℕ). slice_get held n ≡ Some x) p k in
    ap (λ (t : List (Entry KnownField)). found t [] w) (known_mapped held 0 [] held fs same from)
    ∙ found_mapped held [] w (positions fs)
    ∙ ap (λ (o : Option ℕ). option_map (known_at held) o) e

-- ---- each name stands at its field's place

record IsPlaced (fs : List FieldTree) (e : Entry ℕ) : Type 0 where
  field : FieldTree
  at : slice_get fs e.thing ≡ Some field
  name : e.name ≡ lowered field.name.word

placed_if : (all : List FieldTree) (b : Bool) (es : List (Entry ℕ)) (e : Entry ℕ) → AllByRecursion (IsPlaced all) es → IsPlaced all e → AllByRecursion (IsPlaced all) (if b then es else es ++ e ∷ [])
placed_if all true es e h k = h
placed_if all false es e h k = all_append (IsPlaced all) es (e ∷ []) h (k, tt)

positions_placed : (all : List FieldTree) (i : ℕ) (es : List (Entry ℕ)) (fs : List FieldTree) → ((j : ℕ) (f : FieldTree) → slice_get fs j ≡ Some f → slice_get all (i + j) ≡ Some f) → AllByRecursion (IsPlaced all) es → AllByRecursion (IsPlaced all) (positions_from i es fs)
positions_placed all i es [] from h = h
positions_placed all i es (f ∷ fs) from h =
    let place : i + 0 ≡ i = omega arith in
    let here : slice_get all i ≡ Some f = subst (λ (j : ℕ). slice_get all j ≡ Some f) place (from 0 f refl) in
    let later : (j : ℕ) (x : FieldTree) → slice_get fs j ≡ Some x → slice_get all ((i + 1) + j) ≡ Some x = λ j x e. let p : i + suc j ≡ (i + 1) + j = omega arith in subst (λ (n : ℕ). slice_get all n ≡ Some x) p (from (suc j) x e) in
    positions_placed all (i + 1) (added es [] f.name.word i) fs later (placed_if all (has es [] f.name.word) es (entry [] f.name.word i) h (record { field = f; at = here; name = refl }))

-- a field of this name
IsNamed : List FieldTree → List ℕ → ℕ → Type 0
IsNamed fs w j = (f : FieldTree) × (slice_get fs j ≡ Some f) × (lowered w ≡ lowered f.name.word)

named_if : (fs : List FieldTree) (w : List ℕ) (b : Bool) (e : Entry ℕ) (rest : Option (Entry ℕ)) (j : ℕ) → is_entry [] w e ≡ b → IsPlaced fs e → (option_map (λ (x : Entry ℕ). x.thing) rest ≡ Some j → IsNamed fs w j) → option_map (λ (x : Entry ℕ). x.thing) (if b then Some e else rest) ≡ Some j → IsNamed fs w j
unfolding IsNamed
named_if fs w true e rest j is p k h =
    let b = both_true (bytes_eq (lowered []) e.«package») (bytes_eq (lowered w) e.name) is in
    (p.field, ap (λ (n : ℕ). slice_get fs n) (sym (same_Some e.thing j h)) ∙ p.at, (bytes_eq-Decides (lowered w) e.name).0 b.1 ∙ p.name)
named_if fs w false e rest j is p k h = k h

found_named : (fs : List FieldTree) (w : List ℕ) (es : List (Entry ℕ)) (j : ℕ) → AllByRecursion (IsPlaced fs) es → found es [] w ≡ Some j → IsNamed fs w j
found_named fs w [] j h e = absurd (none-some j e)
found_named fs w (x ∷ es) j h e = named_if fs w (is_entry [] w x) x (find (is_entry [] w) es) j refl h.0 (found_named fs w es j h.1) e

-- ---- each name is there

or_right : (a : Bool) → (a || true) ≡ true
or_right true = refl
or_right false = refl

any_last : {A : Type 0} (test : A → Bool) (xs : List A) (x : A) → test x ≡ true → list_any test (xs ++ x ∷ []) ≡ true
any_last test [] x h = ap (λ (b : Bool). b || false) h
any_last test (y ∷ xs) x h = ap (λ (b : Bool). test y || b) (any_last test xs x h) ∙ or_right (test y)

or_kept : (a b c : Bool) → (b ≡ true → c ≡ true) → (a || b) ≡ true → (a || c) ≡ true
or_kept true b c h k = refl
or_kept false b c h k = h k

any_more : {A : Type 0} (test : A → Bool) (xs : List A) (x : A) → list_any test xs ≡ true → list_any test (xs ++ x ∷ []) ≡ true
any_more test [] x h = absurd (cc)
any_more test (y ∷ xs) x h = or_kept (test y) (list_any test xs) (list_any test (xs ++ x ∷ [])) (any_more test xs x) h

is_its_entry : (w : List ℕ) (i : ℕ) → is_entry [] w (entry [] w i) ≡ true
is_its_entry w i = rw ((bytes_eq-Decides (lowered []) (lowered [])).1 refl, (bytes_eq-Decides (lowered w) (lowered w)).1 refl) refl

has_if_kept : (w : List ℕ) (b : Bool) (es : List (Entry ℕ)) (e : Entry ℕ) → has es [] w ≡ true → has (if b then es else es ++ e ∷ []) [] w ≡ true
has_if_kept w true es e h = h
has_if_kept w false es e h = any_more (is_entry [] w) es e h

has_kept : (w : List ℕ) (i : ℕ) (es : List (Entry ℕ)) (fs : List FieldTree) → has es [] w ≡ true → has (positions_from i es fs) [] w ≡ true
has_kept w i es [] h = h
has_kept w i es (f ∷ fs) h = has_kept w (i + 1) (added es [] f.name.word i) fs (has_if_kept w (has es [] f.name.word) es (entry [] f.name.word i) h)

has_if_added : (w : List ℕ) (i : ℕ) (b : Bool) (es : List (Entry ℕ)) → has es [] w ≡ b → has (if b then es else es ++ entry [] w i ∷ []) [] w ≡ true
has_if_added w i true es h = h
has_if_added w i false es h = any_last (is_entry [] w) es (entry [] w i) (is_its_entry w i)

has_name : (i : ℕ) (es : List (Entry ℕ)) (fs : List FieldTree) (k : ℕ) (f : FieldTree) → slice_get fs k ≡ Some f → has (positions_from i es fs) [] f.name.word ≡ true
has_name i es [] k f h = absurd (none-some f h)
has_name i es (x ∷ fs) zero f h =
    subst (λ (y : FieldTree). has (positions_from (i + 1) (added es [] x.name.word i) fs) [] y.name.word ≡ true) (same_Some x f h)
    (has_kept x.name.word (i + 1) (added es [] x.name.word i) fs (has_if_added x.name.word i (has es [] x.name.word) es refl))
has_name i es (x ∷ fs) (suc k) f h = has_name (i + 1) (added es [] x.name.word i) fs k f h

Finds : Option ℕ → Type 0
Finds o = (j : ℕ) × (o ≡ Some j)

finds_if : (b : Bool) (e : Entry ℕ) (rest : Option (Entry ℕ)) (others : Bool) → (others ≡ true → Finds (option_map (λ (x : Entry ℕ). x.thing) rest)) → (b || others) ≡ true → Finds (option_map (λ (x : Entry ℕ). x.thing) (if b then Some e else rest))
unfolding Finds
finds_if true e rest others k h = (e.thing, refl)
finds_if false e rest others k h = k h

has_found : (w : List ℕ) (es : List (Entry ℕ)) → has es [] w ≡ true → Finds (found es [] w)
has_found w [] h = absurd (cc)
has_found w (e ∷ es) h = finds_if (is_entry [] w e) e (find (is_entry [] w) es) (has es [] w) (has_found w es) h

-- no two fields have one name
abbrev pub AreApart : List FieldTree → Type 0
AreApart fs = (i j : ℕ) (a b : FieldTree) → slice_get fs i ≡ Some a → slice_get fs j ≡ Some b → lowered a.name.word ≡ lowered b.name.word → i ≡ j

pub own_place : (fs : List FieldTree) (i : ℕ) (f : FieldTree) → AreApart fs → slice_get fs i ≡ Some f → found (positions fs) [] f.name.word ≡ Some i
unfolding Finds IsNamed
own_place fs i f apart h =
    let from : (j : ℕ) (x : FieldTree) → slice_get fs j ≡ Some x → slice_get fs (0 + j) ≡ Some x = λ j x k. let p : j ≡ 0 + j = omega arith in subst (λ (n : ℕ). slice_get fs n ≡ Some x) p k in
    let there = has_found f.name.word (positions fs) (has_name 0 [] fs i f h) in
    let other = found_named fs f.name.word (positions fs) there.0 (positions_placed fs 0 [] fs from tt) there.1 in
    there.1 ∙ ap (λ (n : ℕ). Some n) (sym (apart i there.0 f other.0 h other.1 other.2))

-- ---- a scalar has no Size

sized_not : {A : Type 0} (b : Bool) (r : Refusal) (m : Meaning A) (x : A) → b ≡ true → (if b then Err r else m) ≡ Ok x → ⊥
sized_not true r m x is h = err_differs r x h
sized_not false r m x is h = cc

aspect_without : (s : Scope) (ls : List Laying) (owner : List ℕ) (target : Option KnownField) (p q : Parts) (a : AspectTree) → is_scalar_field target ≡ true → p.size ≡ None → with_aspect s ls owner target p a ≡ Ok q → q.size ≡ None
aspect_without s ls owner target p q (aspect.First l e) is h k =
    let b = bind_ok (first_judged s ls owner target l e) (λ (x : Tree). Ok (record p { first = Some x })) q k in
    ap (λ (y : Parts). y.size) (sym (ok_same (record p { first = Some b.0 }) q b.2)) ∙ h
aspect_without s ls owner target p q (aspect.Size l e) is h k =
    let b = bind_ok (size_judged s owner target l e) (λ (x : Tree). Ok (record p { size = Some x })) q k in
    absurd (sized_not (is_scalar_field target) (record { rule = rule.WrongType; place = l; word = Some (codes "Size") }) (number_judged s owner e) b.0 is b.1)

aspects_without : (s : Scope) (ls : List Laying) (owner : List ℕ) (target : Option KnownField) (p q : Parts) (xs : List AspectTree) → is_scalar_field target ≡ true → p.size ≡ None → through (with_aspect s ls owner target) p xs ≡ Ok q → q.size ≡ None
aspects_without s ls owner target p q [] is h k = ap (λ (y : Parts). y.size) (sym (ok_same p q k)) ∙ h
aspects_without s ls owner target p q (a ∷ xs) is h k =
    let b = bind_ok (with_aspect s ls owner target p a) (λ (y : Parts). through (with_aspect s ls owner target) y xs) q k in
    aspects_without s ls owner target b.0 q xs is (aspect_without s ls owner target p b.0 a is h b.1) b.2

condition_without : (s : Scope) (owner : List ℕ) (p q : Parts) (c : Option ExprTree) → p.size ≡ None → with_condition s owner p c ≡ Ok q → q.size ≡ None
condition_without s owner p q None h k = ap (λ (y : Parts). y.size) (sym (ok_same p q k)) ∙ h
condition_without s owner p q (Some e) h k =
    let b = bind_ok (truth_judged s owner e) (λ (x : Tree). Ok (record p { condition = Some x })) q k in
    ap (λ (y : Parts). y.size) (sym (ok_same (record p { condition = Some b.0 }) q b.2)) ∙ h

pub parts_without : (s : Scope) (ls : List Laying) (owner : List ℕ) (target : Option KnownField) (xs : List AspectTree) (c : Option ExprTree) (q : Parts) → is_scalar_field target ≡ true → parts_judged s ls owner target xs c ≡ Ok q → q.size ≡ None
parts_without s ls owner target xs c q is k =
    let b = bind_ok (through (with_aspect s ls owner target) no_parts xs) (λ (y : Parts). with_condition s owner y c) q k in
    condition_without s owner b.0 q c (aspects_without s ls owner target no_parts b.0 xs is refl b.1) b.2

-- ---- any other field has a Size, or ends the message

same_field : (i : ℕ) → is_node (node.At i) (node.At i) ≡ true
same_field i = (Decides-eqb i i).1 refl

at_null : (n : Node) → is_node node.Null n ≡ true → n ≡ node.Null
at_null node.Null h = refl
at_null node.Start h = absurd (cc)
at_null (node.At f) h = absurd (cc)

said : (o : Option Tree) (b : Bool) → b ≡ true → (b && not (is_said o)) ≡ false → o ≢ None
said None true e h = absurd (cc)
said None false e h = absurd (cc)
said (Some x) b e h = λ n. cc

one_end : (l : Arrow) (ls : List Arrow) → is_one_end (l ∷ ls) ≡ true → (ls ≡ []) × (is_node node.Null l.target ≡ true)
one_end l [] h = (refl, h)
one_end l (k ∷ ls) h = absurd (cc)

none_if : (b : Bool) (x : Arrow) (rest : List Arrow) → (if b then x ∷ rest else rest) ≡ [] → (b ≡ false) × (rest ≡ [])
none_if true x rest h = absurd (cc)
none_if false x rest h = (refl, h)

differ : (b : Bool) → b ≡ true → b ≡ false → ⊥
differ true h k = cc
differ false h k = cc

none_passes : (test : Arrow → Bool) (xs : List Arrow) (k : ℕ) (x : Arrow) → filter test xs ≡ [] → slice_get xs k ≡ Some x → test x ≡ true → ⊥
none_passes test [] k x e h t = none-some x h
none_passes test (y ∷ xs) zero x e h t = differ (test x) t (ap test (sym (same_Some y x h)) ∙ (none_if (test y) y (filter test xs) e).0)
none_passes test (y ∷ xs) (suc k) x e h t = none_passes test xs k x (none_if (test y) y (filter test xs) e).1 h t

-- of these links one alone passes, and it goes to null
Alone : (Arrow → Bool) → List Arrow → Type 0
Alone test xs = (i j : ℕ) (a b : Arrow) → slice_get xs i ≡ Some a → slice_get xs j ≡ Some b → test a ≡ true → test b ≡ true → (i ≡ j) × (is_node node.Null a.target ≡ true)

alone_first : (test : Arrow → Bool) (x : Arrow) (xs : List Arrow) → filter test xs ≡ [] → is_node node.Null x.target ≡ true → Alone test (x ∷ xs)
unfolding Alone
alone_first test x xs e n zero zero a b h k t u = (refl, ap (λ (l : Arrow). is_node node.Null l.target) (sym (same_Some x a h)) ∙ n)
alone_first test x xs e n zero (suc j) a b h k t u = absurd (none_passes test xs j b e k u)
alone_first test x xs e n (suc i) j a b h k t u = absurd (none_passes test xs i a e h t)

alone_later : (test : Arrow → Bool) (x : Arrow) (xs : List Arrow) → test x ≡ false → Alone test xs → Alone test (x ∷ xs)
unfolding Alone
alone_later test x xs f r zero j a b h k t u = absurd (differ (test a) t (ap test (sym (same_Some x a h)) ∙ f))
alone_later test x xs f r (suc i) zero a b h k t u = absurd (differ (test b) u (ap test (sym (same_Some x b k)) ∙ f))
alone_later test x xs f r (suc i) (suc j) a b h k t u = let s = r i j a b h k t u in (ap suc s.0, s.1)

alone_if : (test : Arrow → Bool) (b : Bool) (x : Arrow) (xs : List Arrow) → test x ≡ b → (is_one_end (filter test xs) ≡ true → Alone test xs) → is_one_end (if b then x ∷ filter test xs else filter test xs) ≡ true → Alone test (x ∷ xs)
alone_if test true x xs e r h = let o = one_end x (filter test xs) h in alone_first test x xs o.0 o.1
alone_if test false x xs e r h = alone_later test x xs e (r h)

alone : (test : Arrow → Bool) (xs : List Arrow) → is_one_end (filter test xs) ≡ true → Alone test xs
alone test [] h = absurd (cc)
alone test (x ∷ xs) h = alone_if test (test x) x xs refl (alone test xs) h

only : (g : Graph) (f : ℕ) → only_ends g.links f ≡ true → OnlyEnds g (node.At f)
unfolding Alone
only g f h =
    let test : Arrow → Bool = λ l. is_node (node.At f) l.source in
    let all = alone test g.links h in
    let passes : (l : Arrow) → l.source ≡ node.At f → test l ≡ true = λ l e. ap (λ (n : Node). is_node (node.At f) n) e ∙ same_field f in
    record {
      one = λ i j a b x y p q. (all i j a b x y (passes a p) (passes b q)).0;
      null = λ i link x p. at_null link.target (all i i link link x x (passes link p) (passes link p)).1;
    }

one_of : (a b : Bool) → (not a || b) ≡ true → (not a ≡ true) ⊎ (b ≡ true)
one_of false b h = inl refl
one_of true b h = inr h

pub sized_or_ends : (g : Graph) (f i : ℕ) (link : Arrow) → is_sized g.links f ≡ true → IsLink g i link → link.target ≡ node.At f → (link.size ≢ None) ⊎ OnlyEnds g (node.At f)
sized_or_ends g f i link h is target =
    elim (one_of (list_any (lacks_size f) g.links) (only_ends g.links f) h) [
      | inl n ↦ inl (said link.size (is_node (node.At f) link.target) (ap (λ (n : Node). is_node (node.At f) n) target ∙ same_field f) (fails_at (lacks_size f) g.links i link n is))
      | inr o ↦ inr (only g f o)
    ]
