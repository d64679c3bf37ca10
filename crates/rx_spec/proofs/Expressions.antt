-- The conditions, Firsts and Sizes of a message are expressions over its fields.
--   IsGood       an expression of the kind with few operators
--   AreGood      what is written of a field or a link
use Rattle.std.proofs.Common.{◌≡◌, refl, subst, ℕ, ◌+◌, Bool, true, false, List, [], ◌∷◌, length, Option, Some, None, Ok, Err, inl, inr, arith}
use Rattle.std.specs.Prelude.{slice_get, pos, codes, if◌then◌else◌}
use Rattle.std.specs.List.{list_all}
use Rattle.std.specs.Option.{option_or}
use Rattle.std.proofs.lemmas.Int.{ints}
use Rattle.std.proofs.lemmas.Option.{none-some}
use Rattle.rx_syntax.specs.declared.token.Place.{Place}
use Rattle.rx_syntax.specs.declared.tree.ExprTree.{ExprTree}
use Rattle.rx_syntax.specs.declared.tree.AspectTree.{AspectTree}
use Rattle.rx_syntax.specs.declared.tree.AspectTree.TheVariants as aspect
use Rattle.rx_syntax.specs.declared.tree.ThenTree.{ThenTree}
use Rattle.rx_syntax.specs.declared.tree.FieldTree.{FieldTree}
use Rattle.rx_syntax.specs.declared.tree.MessageTree.{MessageTree}
use Rattle.rx_types.specs.declared.expr.Operator.TheVariants as op
use Rattle.rx_types.specs.declared.kind.Kind.{Kind}
use Rattle.rx_types.specs.declared.kind.Kind.TheVariants as kind
use Rattle.rx_types.specs.Coefficients.{AreLow}
use Rattle.rx_types.specs.Domain.{Domain}
use Rattle.rx_types.specs.Kinds.{HasKind}
use Rattle.rx_types.specs.Narrow.{truths, single}
use Rattle.rx_types.specs.Static.{HasFewOperators, IsJoinOfFew}
use Rattle.rx_types.specs.Tree.{Tree, Number, Truth, Field, First, Last, Size, Total, Neg, Not, Binary}
use Rattle.rx_types.proofs.Short.{short_facts}
use Rattle.rx_graph.specs.Elaborated.{NamesBelow, IsExpression, IsAspect}
use Rattle.rx_graph.specs.Graph.{Graph, kind_of, limit_of}
use Rattle.rx_judge.specs.Judged.{Typed, judged}
use Rattle.rx_judge.specs.Kinds.{is_number, is_truth}
use Rattle.rx_judge.specs.Meaning.{◌>>=◌, refused, each_from}
use Rattle.rx_judge.specs.Names.{Scope, Within}
use Rattle.rx_judge.specs.Scalar.{root_place}
use Rattle.rx_judge.specs.Sound.{FieldsBelow, FitScope, operators_of}
use Rattle.rx_syntax.specs.declared.rule.Refusal.{Refusal}
use Rattle.rx_syntax.specs.declared.rule.Rule.TheVariants as rule
use Rattle.rx_judge.specs.declared.names.KnownField.{KnownField}
use Rattle.rx_judge.proofs.Lows.{both_true}
use Rattle.rx_judge.proofs.Meanings.{bind_ok, ok_same, if_ok, err_differs}
use Rattle.rx_judge.proofs.Sound.{sound, three}
use Rattle.rx_links.specs.declared.links.Stop.{Stop}
use Rattle.rx_links.specs.declared.links.Stop.TheVariants as stop
use Rattle.rx_links.specs.declared.links.Way.{Way}
use Rattle.rx_elab.specs.Through.{through}
use Rattle.rx_elab.specs.Parts.{Parts, FieldParts, MessageParts, no_parts, root_name, is_scalar_field, number_judged, truth_judged, target_in, first_stands, first_judged, size_judged, with_aspect, with_condition, parts_judged, then_parts, field_parts, message_parts}
use Rattle.rx_elab.specs.declared.layings.Laying.{Laying}
use Rattle.rx_spec.specs.Arrows.{own_in, own_parts, thens_in, thens_of, parts_or_none, clause_in, clause_parts, both}
use Rattle.rx_spec.specs.Shape.{has_few, has_few_if_any, aspect_has_few, then_has_few, field_has_few, message_has_few}
use Rattle.rx_spec.proofs.Items.{source_of, tested_at}
use Rattle.rx_spec.proofs.Pathing.{at_most}

-- ---- kinds and names

truth_kind : (k : Kind) → is_truth k ≡ true → k ≡ kind.Truth
truth_kind kind.Truth h = refl
truth_kind kind.Number h = absurd (cc)
truth_kind (kind.Of a) h = absurd (cc)

number_kind : (k : Kind) → is_number k ≡ true → k ≡ kind.Number
number_kind kind.Number h = refl
number_kind kind.Truth h = absurd (cc)
number_kind (kind.Of a) h = absurd (cc)

names_below : (n : ℕ) (x : Tree) → FieldsBelow n x → NamesBelow n x
names_below n (Number z) h = tt
names_below n (Truth b) h = tt
names_below n (Field f) h = h
names_below n (First f) h = h
names_below n (Last f) h = h
names_below n (Size f) h = h
names_below n Total h = tt
names_below n (Neg a) h = names_below n a h
names_below n (Not a) h = names_below n a h
names_below n (Binary o a b) h = (names_below n a h.0, names_below n b h.1)

-- ---- what was judged, part by part

pub record IsJudged (s : Scope) (ls : List Laying) (owner : List ℕ) (m : MessageTree) (ps : MessageParts) : Type 0 where
  pub start : each_from (then_parts s ls owner) 0 m.start.items ≡ Ok ps.start
  pub fields : each_from (field_parts s ls) 0 m.fields.items ≡ Ok ps.fields

pub message_judged : (s : Scope) (ls : List Laying) (owner : List ℕ) (m : MessageTree) (ps : MessageParts) → message_parts s ls owner m ≡ Ok ps → IsJudged s ls owner m ps
message_judged s ls owner m ps e =
    let a = bind_ok (each_from (then_parts s ls owner) 0 m.start.items) (λ (start : List Parts). each_from (field_parts s ls) 0 m.fields.items >>= (λ fields. Ok (record { start = start; fields = fields }))) ps e in
    let b = bind_ok (each_from (field_parts s ls) 0 m.fields.items) (λ (fields : List FieldParts). Ok (record { start = a.0; fields = fields })) ps a.2 in
    subst (λ (x : MessageParts). IsJudged s ls owner m x) (ok_same (record { start = a.0; fields = b.0 }) ps b.2) (record { start = a.1; fields = b.1 })

pub record IsFieldJudged (s : Scope) (ls : List Laying) (f : FieldTree) (p : FieldParts) : Type 0 where
  pub own : parts_judged s ls f.name.word (target_in s (Some f.name.word)) f.aspects.items f.condition ≡ Ok p.own
  pub thens : each_from (then_parts s ls f.name.word) 0 f.thens.items ≡ Ok p.thens

pub field_judged : (s : Scope) (ls : List Laying) (i : ℕ) (f : FieldTree) (p : FieldParts) → field_parts s ls i f ≡ Ok p → IsFieldJudged s ls f p
field_judged s ls i f p e =
    let a = bind_ok (parts_judged s ls f.name.word (target_in s (Some f.name.word)) f.aspects.items f.condition) (λ (own : Parts). each_from (then_parts s ls f.name.word) 0 f.thens.items >>= (λ thens. Ok (record { own = own; thens = thens }))) p e in
    let b = bind_ok (each_from (then_parts s ls f.name.word) 0 f.thens.items) (λ (thens : List Parts). Ok (record { own = a.0; thens = thens })) p a.2 in
    subst (λ (x : FieldParts). IsFieldJudged s ls f x) (ok_same (record { own = a.0; thens = b.0 }) p b.2) (record { own = a.1; thens = b.1 })

module _ (domains : List Domain) (g : Graph) where
  pub record IsGood (k : Kind) (x : Tree) : Type 0 where
    pub is : IsExpression domains g k x
    pub few : HasFewOperators x

  abbrev pub IsGoodIfAny : Kind → Option Tree → Type 0
  IsGoodIfAny k None = Unit {0}
  IsGoodIfAny k (Some x) = IsGood k x

  pub record AreGood (p : Parts) : Type 0 where
    pub condition : IsGoodIfAny kind.Truth p.condition
    pub first : IsGoodIfAny kind.Number p.first
    pub size : IsGoodIfAny kind.Number p.size

  none_good : AreGood no_parts
  none_good = record { condition = tt; first = tt; size = tt }

  -- ---- links

  is_aspect : (x : Option Tree) → IsGoodIfAny kind.Number x → IsAspect domains g x
  is_aspect None h = tt
  is_aspect (Some x) h = (h.is, h.few)

  or_good : (x y : Option Tree) → IsGoodIfAny kind.Number x → IsGoodIfAny kind.Number y → IsGoodIfAny kind.Number (option_or x y)
  or_good None y h k = k
  or_good (Some x) y h k = h

  -- the First of a link
  pub first_good : (p q : Parts) → AreGood p → AreGood q → IsAspect domains g (option_or p.first q.first)
  first_good p q h k = is_aspect (option_or p.first q.first) (or_good p.first q.first h.first k.first)

  -- the Size of a link
  pub size_good : (p q : Parts) → AreGood p → AreGood q → IsAspect domains g (option_or p.size q.size)
  size_good p q h k = is_aspect (option_or p.size q.size) (or_good p.size q.size h.size k.size)

  pub true_good : IsExpression domains g kind.Truth (Truth true)
  true_good = record { names = tt; typed = refl; linear = tt; narrow = short_facts (single (pos 1)) refl; low = tt }

  and_low : (x y : Tree) → AreLow (Binary op.And x y)
  and_low x y = record { leaves = λ u. record { above = omega (arith, ints); below = omega (arith, ints) }; quotients = tt }

  and_good : (x y : Tree) → IsExpression domains g kind.Truth x → IsExpression domains g kind.Truth y → IsExpression domains g kind.Truth (Binary op.And x y)
  and_good x y h k =
      record {
        names = (h.names, k.names);
        typed = (refl, (kind.Truth, refl, h.typed, k.typed));
        linear = (tt, h.linear, k.linear);
        narrow = (short_facts truths refl, tt, h.narrow, k.narrow);
        low = (and_low x y, h.low, k.low);
      }

  few_join : (x : Tree) → HasFewOperators x → IsJoinOfFew x
  few_join (Binary op.And a b) h = inl h
  few_join x h = h

  -- the condition of a link
  pub condition_good : (c d : Option Tree) → IsGoodIfAny kind.Truth c → IsGoodIfAny kind.Truth d → IsExpression domains g kind.Truth (both c d) × IsJoinOfFew (both c d)
  condition_good None None h k = (true_good, omega arith)
  condition_good None (Some d) h k = (k.is, few_join d k.few)
  condition_good (Some c) None h k = (h.is, few_join c h.few)
  condition_good (Some c) (Some d) h k = (and_good c d h.is k.is, inr (h.few, k.few))

  module _ (s : Scope) (fits : FitScope (kind_of domains g) (limit_of domains g) (length g.fields) s) where
    -- ---- expressions

    typed_good : (owner : List ℕ) (e : ExprTree) (x : Typed) (k : Kind) → x.about.kind ≡ k → has_few e ≡ true → judged (Within s) owner e ≡ Ok x → IsGood k x.tree
    typed_good owner e x k same few h =
        let r = sound (kind_of domains g) (limit_of domains g) (length g.fields) (Within s) owner e x fits h in
        let all = at_most (operators_of e) 256 few in
        record {
          is = record { names = names_below (length g.fields) x.tree r.fields; typed = subst (λ (c : Kind). HasKind (kind_of domains g) x.tree c) same r.has_kind; linear = r.linear; narrow = r.narrow; low = r.low };
          few = omega (arith, r.few, all);
        }

    truth_good : (owner : List ℕ) (e : ExprTree) (x : Tree) → has_few e ≡ true → truth_judged s owner e ≡ Ok x → IsGood kind.Truth x
    truth_good owner e x few h =
        let b = bind_ok (judged (Within s) owner e) (λ (y : Typed). if is_truth y.about.kind then Ok y.tree else refused rule.WrongType (root_place e) (root_name owner e)) x h in
        let q = if_ok (is_truth b.0.about.kind) b.0.tree x (record { rule = rule.WrongType; place = root_place e; word = Some (root_name owner e) }) b.2 in
        subst (λ (y : Tree). IsGood kind.Truth y) q.1 (typed_good owner e b.0 kind.Truth (truth_kind b.0.about.kind q.0) few b.1)

    number_good : (owner : List ℕ) (e : ExprTree) (x : Tree) → has_few e ≡ true → number_judged s owner e ≡ Ok x → IsGood kind.Number x
    number_good owner e x few h =
        let b = bind_ok (judged (Within s) owner e) (λ (y : Typed). if is_number y.about.kind then Ok y.tree else refused rule.WrongType (root_place e) (root_name owner e)) x h in
        let q = if_ok (is_number b.0.about.kind) b.0.tree x (record { rule = rule.WrongType; place = root_place e; word = Some (root_name owner e) }) b.2 in
        subst (λ (y : Tree). IsGood kind.Number y) q.1 (typed_good owner e b.0 kind.Number (number_kind b.0.about.kind q.0) few b.1)

    -- ---- parts

    first_judged_good : (ls : List Laying) (owner : List ℕ) (target : Option KnownField) (l : Place) (e : ExprTree) (x : Tree) → has_few e ≡ true → first_judged s ls owner target l e ≡ Ok x → IsGood kind.Number x
    first_judged_good ls owner target l e x few h =
        let b = bind_ok (first_stands s ls owner target l e) (λ u. number_judged s owner e) x h in
        number_good owner e x few b.2

    unless_refused : (b : Bool) (r : Refusal) (owner : List ℕ) (e : ExprTree) (x : Tree) → has_few e ≡ true → (if b then Err r else number_judged s owner e) ≡ Ok x → IsGood kind.Number x
    unless_refused true r owner e x few h = absurd (err_differs r x h)
    unless_refused false r owner e x few h = number_good owner e x few h

    size_judged_good : (owner : List ℕ) (target : Option KnownField) (l : Place) (e : ExprTree) (x : Tree) → has_few e ≡ true → size_judged s owner target l e ≡ Ok x → IsGood kind.Number x
    size_judged_good owner target l e x few h = unless_refused (is_scalar_field target) (record { rule = rule.WrongType; place = l; word = Some (codes "Size") }) owner e x few h

    aspect_good : (ls : List Laying) (owner : List ℕ) (target : Option KnownField) (p q : Parts) (a : AspectTree) → AreGood p → aspect_has_few a ≡ true → with_aspect s ls owner target p a ≡ Ok q → AreGood q
    aspect_good ls owner target p q (aspect.First l e) h few k =
        let b = bind_ok (first_judged s ls owner target l e) (λ (x : Tree). Ok (record p { first = Some x })) q k in
        subst (λ (y : Parts). AreGood y) (ok_same (record p { first = Some b.0 }) q b.2) (record { condition = h.condition; first = first_judged_good ls owner target l e b.0 few b.1; size = h.size })
    aspect_good ls owner target p q (aspect.Size l e) h few k =
        let b = bind_ok (size_judged s owner target l e) (λ (x : Tree). Ok (record p { size = Some x })) q k in
        subst (λ (y : Parts). AreGood y) (ok_same (record p { size = Some b.0 }) q b.2) (record { condition = h.condition; first = h.first; size = size_judged_good owner target l e b.0 few b.1 })

    aspects_good : (ls : List Laying) (owner : List ℕ) (target : Option KnownField) (p q : Parts) (xs : List AspectTree) → AreGood p → list_all aspect_has_few xs ≡ true → through (with_aspect s ls owner target) p xs ≡ Ok q → AreGood q
    aspects_good ls owner target p q [] h few k = subst (λ (y : Parts). AreGood y) (ok_same p q k) h
    aspects_good ls owner target p q (a ∷ xs) h few k =
        let t = both_true (aspect_has_few a) (list_all aspect_has_few xs) few in
        let b = bind_ok (with_aspect s ls owner target p a) (λ (y : Parts). through (with_aspect s ls owner target) y xs) q k in
        aspects_good ls owner target b.0 q xs (aspect_good ls owner target p b.0 a h t.0 b.1) t.1 b.2

    with_condition_good : (owner : List ℕ) (p q : Parts) (c : Option ExprTree) → AreGood p → has_few_if_any c ≡ true → with_condition s owner p c ≡ Ok q → AreGood q
    with_condition_good owner p q None h few k = subst (λ (y : Parts). AreGood y) (ok_same p q k) h
    with_condition_good owner p q (Some e) h few k =
        let b = bind_ok (truth_judged s owner e) (λ (x : Tree). Ok (record p { condition = Some x })) q k in
        subst (λ (y : Parts). AreGood y) (ok_same (record p { condition = Some b.0 }) q b.2) (record { condition = truth_good owner e b.0 few b.1; first = h.first; size = h.size })

    parts_good : (ls : List Laying) (owner : List ℕ) (target : Option KnownField) (xs : List AspectTree) (c : Option ExprTree) (q : Parts) → list_all aspect_has_few xs ≡ true → has_few_if_any c ≡ true → parts_judged s ls owner target xs c ≡ Ok q → AreGood q
    parts_good ls owner target xs c q few also k =
        let b = bind_ok (through (with_aspect s ls owner target) no_parts xs) (λ (y : Parts). with_condition s owner y c) q k in
        with_condition_good owner b.0 q c (aspects_good ls owner target no_parts b.0 xs none_good few b.1) also b.2

    then_good : (ls : List Laying) (owner : List ℕ) (i : ℕ) (t : ThenTree) (q : Parts) → then_has_few t ≡ true → then_parts s ls owner i t ≡ Ok q → AreGood q
    then_good ls owner i t q few k =
        let b = both_true (list_all aspect_has_few t.aspects.items) (has_few_if_any t.condition) few in
        parts_good ls owner (target_in s t.target) t.aspects.items t.condition q b.0 b.1 k

    thens_good : (ls : List Laying) (owner : List ℕ) (ts : List ThenTree) (qs : List Parts) → list_all then_has_few ts ≡ true → each_from (then_parts s ls owner) 0 ts ≡ Ok qs → (k : ℕ) (q : Parts) → slice_get qs k ≡ Some q → AreGood q
    thens_good ls owner ts qs few e k q h =
        let x = source_of (then_parts s ls owner) 0 ts qs k q e h in
        then_good ls owner (0 + k) x.0 q (tested_at then_has_few ts k x.0 few x.1) x.2

    own_good : (ls : List Laying) (f : FieldTree) (p : FieldParts) → field_has_few f ≡ true → IsFieldJudged s ls f p → AreGood p.own
    own_good ls f p few j =
        let t = three (list_all aspect_has_few f.aspects.items) (has_few_if_any f.condition) (list_all then_has_few f.thens.items) few in
        parts_good ls f.name.word (target_in s (Some f.name.word)) f.aspects.items f.condition p.own t.0 t.1 j.own

    links_good : (ls : List Laying) (f : FieldTree) (p : FieldParts) → field_has_few f ≡ true → IsFieldJudged s ls f p → (k : ℕ) (q : Parts) → slice_get p.thens k ≡ Some q → AreGood q
    links_good ls f p few j =
        let t = three (list_all aspect_has_few f.aspects.items) (has_few_if_any f.condition) (list_all then_has_few f.thens.items) few in
        thens_good ls f.name.word f.thens.items p.thens t.2 j.thens

    -- ---- the message

    own_in_good : (o : Option FieldParts) → ((p : FieldParts) → o ≡ Some p → AreGood p.own) → AreGood (own_in o)
    own_in_good None h = none_good
    own_in_good (Some p) h = h p refl

    clause_good_if : (thens : List Parts) (o : Option Parts) → ((q : Parts) → o ≡ Some q → AreGood q) → AreGood (parts_or_none o)
    clause_good_if thens None h = none_good
    clause_good_if thens (Some q) h = h q refl

    clause_in_good : (thens : List Parts) (o : Option ℕ) → ((k : ℕ) (q : Parts) → slice_get thens k ≡ Some q → AreGood q) → AreGood (clause_in thens o)
    clause_in_good thens None h = none_good
    clause_in_good thens (Some k) h = clause_good_if thens (slice_get thens k) (h k)

    thens_in_good : (o : Option FieldParts) → ((p : FieldParts) → o ≡ Some p → (k : ℕ) (q : Parts) → slice_get p.thens k ≡ Some q → AreGood q) → (k : ℕ) (q : Parts) → slice_get (thens_in o) k ≡ Some q → AreGood q
    thens_in_good None h k q e = absurd (none-some q e)
    thens_in_good (Some p) h k q e = h p refl k q e

    module _ (ls : List Laying) (owner : List ℕ) (m : MessageTree) (ps : MessageParts) (few : message_has_few m ≡ true) (j : IsJudged s ls owner m ps) where
      field_of : (i : ℕ) (p : FieldParts) → slice_get ps.fields i ≡ Some p → (f : FieldTree) × (field_has_few f ≡ true) × IsFieldJudged s ls f p
      field_of i p h =
          let x = source_of (field_parts s ls) 0 m.fields.items ps.fields i p j.fields h in
          let t = both_true (list_all then_has_few m.start.items) (list_all field_has_few m.fields.items) few in
          (x.0, tested_at field_has_few m.fields.items i x.0 t.1 x.1, field_judged s ls (0 + i) x.0 p x.2)

      -- what is written of a node
      pub node_good : (n : Stop) → AreGood (own_parts ps n)
      node_good stop.Start = none_good
      node_good stop.Null = none_good
      node_good (stop.At i) = own_in_good (slice_get ps.fields i) (λ p h. let f = field_of i p h in own_good ls f.0 p f.1 f.2)

      thens_of_good : (n : Stop) (k : ℕ) (q : Parts) → slice_get (thens_of ps n) k ≡ Some q → AreGood q
      thens_of_good stop.Start k q h = thens_good ls owner m.start.items ps.start (both_true (list_all then_has_few m.start.items) (list_all field_has_few m.fields.items) few).0 j.start k q h
      thens_of_good stop.Null k q h = absurd (none-some q h)
      thens_of_good (stop.At i) k q h = thens_in_good (slice_get ps.fields i) (λ p e. let f = field_of i p e in links_good ls f.0 p f.1 f.2) k q h

      -- and of a link
      pub clause_good : (w : Way) → AreGood (clause_parts ps w)
      clause_good w = clause_in_good (thens_of ps w.source) w.clause (thens_of_good w.source)
