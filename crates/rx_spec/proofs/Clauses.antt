-- The links of a message by their nodes and clauses.
--   IsWay        a link leads from the start or a field to a field or null, and its clause names its target
--   BeginsSome   one of the links begins at the node
use Rattle.std.proofs.Common.{◌≡◌, ◌∙◌, ap, sym, refl, subst, ℕ, zero, suc, ◌+◌, ◌<◌, Bool, true, false, List, [], ◌∷◌, ◌++◌, length, Option, Some, None, Ok, arith, ◌⊎◌, inl, inr}
use Rattle.std.specs.Prelude.{slice_get, nat_lt, if◌then◌else◌}
use Rattle.std.specs.List.{AllByRecursion}
use Rattle.rx_syntax.specs.declared.token.Place.{Place}
use Rattle.rx_syntax.specs.declared.tree.ThenTree.{ThenTree}
use Rattle.rx_syntax.specs.declared.tree.FieldTree.{FieldTree}
use Rattle.rx_judge.specs.Meaning.{◌>>=◌, each_from}
use Rattle.rx_judge.specs.Table.{Entry, found}
use Rattle.rx_judge.proofs.Meanings.{bind_ok, ok_same, err_differs}
use Rattle.rx_links.specs.declared.links.Stop.{Stop}
use Rattle.rx_links.specs.declared.links.Stop.TheVariants.{Start, At, Null}
use Rattle.rx_links.specs.declared.links.Way.{Way}
use Rattle.rx_links.specs.Positions.{positions}
use Rattle.rx_links.specs.Links.{gathered_from, stop_at, field_at, target_of, then_way, node_ways, field_ways, links_by, links_of}
use Rattle.rx_links.specs.Cycle.{clauses_in, clauses_of}
use Rattle.rx_spec.proofs.Items.{source_of, all_from, all_append}
use Rattle.rx_spec.proofs.Steps.{all_at}

-- the start or a field
abbrev pub IsBegin : Stop → Type 0
IsBegin Null = ⊥
IsBegin Start = Unit {0}
IsBegin (At i) = Unit {0}

-- a field or null
abbrev pub IsEnd : Stop → Type 0
IsEnd Start = ⊥
IsEnd Null = Unit {0}
IsEnd (At i) = Unit {0}

-- the clause of the node names the target
abbrev pub Says : List (Entry ℕ) → List ThenTree → Option ℕ → Stop → Type 0
Says table thens None target = Unit {0}
Says table thens (Some k) target = (t : ThenTree) × (slice_get thens k ≡ Some t) × (target_of table t.place t.target ≡ Ok target)

pub record IsWay (table : List (Entry ℕ)) (start : List ThenTree) (fields : List FieldTree) (w : Way) : Type 0 where
  pub begins : IsBegin w.source
  pub ends : IsEnd w.target
  pub says : Says table (clauses_of start fields w.source) w.clause w.target

end_if : (b : Bool) (i : ℕ) → IsEnd (if b then At i else Null)
end_if true i = tt
end_if false i = tt

stop_ends : (count i : ℕ) → IsEnd (stop_at count i)
stop_ends count i = end_if (nat_lt i count) i

field_ends : (p : Place) (w : List ℕ) (o : Option ℕ) (s : Stop) → field_at p w o ≡ Ok s → IsEnd s
field_ends p w None s e = absurd (err_differs _ s e)
field_ends p w (Some i) s e = subst (λ (x : Stop). IsEnd x) (ok_same (At i) s e) tt

target_ends : (table : List (Entry ℕ)) (p : Place) (t : Option (List ℕ)) (s : Stop) → target_of table p t ≡ Ok s → IsEnd s
target_ends table p None s e = subst (λ (x : Stop). IsEnd x) (ok_same Null s e) tt
target_ends table p (Some w) s e = field_ends p w (found table [] w) s e

-- ---- what each link is

module _ (table : List (Entry ℕ)) (start : List ThenTree) (fields : List FieldTree) where
  then_is : (source : Stop) (k : ℕ) (t : ThenTree) (w : Way) → IsBegin source → slice_get (clauses_of start fields source) k ≡ Some t → then_way table source k t ≡ Ok w → IsWay table start fields w
  then_is source k t w b h e =
      let both = bind_ok (target_of table t.place t.target) (λ (x : Stop). Ok (record { source = source; clause = Some k; target = x })) w e in
      subst (λ (x : Way). IsWay table start fields x) (ok_same (record { source = source; clause = Some k; target = both.0 }) w both.2) (record { begins = b; ends = target_ends table t.place t.target both.0 both.1; says = (t, h, both.1) })

  clause_is : (source : Stop) (ts : List ThenTree) (ws : List Way) (k : ℕ) (w : Way) → IsBegin source → clauses_of start fields source ≡ ts → each_from (then_way table source) 0 ts ≡ Ok ws → slice_get ws k ≡ Some w → IsWay table start fields w
  clause_is source ts ws k w b same e h =
      let x = source_of (then_way table source) 0 ts ws k w e h in
      let place : 0 + k ≡ k = omega arith in
      then_is source k x.0 w b (ap (λ zs. slice_get zs k) same ∙ x.1) (subst (λ (j : ℕ). then_way table source j x.0 ≡ Ok w) place x.2)

  node_are : (source next : Stop) (ts : List ThenTree) (ws : List Way) → IsBegin source → IsEnd next → clauses_of start fields source ≡ ts → node_ways table source next ts ≡ Ok ws → AllByRecursion (λ w. IsWay table start fields w) ws
  node_are source next [] ws b n same e =
      subst (λ (x : List Way). AllByRecursion (λ w. IsWay table start fields w) x) (ok_same (record { source = source; clause = None; target = next } ∷ []) ws e) (record { begins = b; ends = n; says = tt }, tt)
  node_are source next (t ∷ ts) ws b n same e =
      all_from (λ w. IsWay table start fields w) ws (λ k w h. clause_is source (t ∷ ts) ws k w b same e h)

  fields_are : (count i : ℕ) (rest : List FieldTree) (ws : List Way) → ((j : ℕ) (f : FieldTree) → slice_get rest j ≡ Some f → slice_get fields (i + j) ≡ Some f) → gathered_from (field_ways table count) i rest ≡ Ok ws → AllByRecursion (λ w. IsWay table start fields w) ws
  fields_are count i [] ws from e = subst (λ (x : List Way). AllByRecursion (λ w. IsWay table start fields w) x) (ok_same [] ws e) tt
  fields_are count i (f ∷ rest) ws from e =
      let one = bind_ok (field_ways table count i f) (λ (ys : List Way). gathered_from (field_ways table count) (i + 1) rest >>= (λ zs. Ok (ys ++ zs))) ws e in
      let more = bind_ok (gathered_from (field_ways table count) (i + 1) rest) (λ (zs : List Way). Ok (one.0 ++ zs)) ws one.2 in
      let place : i + 0 ≡ i = omega arith in
      let here : slice_get fields i ≡ Some f = subst (λ (j : ℕ). slice_get fields j ≡ Some f) place (from 0 f refl) in
      let later : (j : ℕ) (x : FieldTree) → slice_get rest j ≡ Some x → slice_get fields ((i + 1) + j) ≡ Some x = λ j x h. let p : i + suc j ≡ (i + 1) + j = omega arith in subst (λ (n : ℕ). slice_get fields n ≡ Some x) p (from (suc j) x h) in
      subst (λ (x : List Way). AllByRecursion (λ w. IsWay table start fields w) x) (ok_same (one.0 ++ more.0) ws more.2)
      (all_append (λ w. IsWay table start fields w) one.0 more.0 (node_are (At i) (stop_at count (i + 1)) f.thens.items one.0 tt (stop_ends count (i + 1)) (ap clauses_in here) one.1) (fields_are count (i + 1) rest more.0 later more.1))

  all_are : (count : ℕ) (ws : List Way) → links_by table count start fields ≡ Ok ws → AllByRecursion (λ w. IsWay table start fields w) ws
  all_are count ws e =
      let one = bind_ok (node_ways table Start (stop_at count 0) start) (λ (ys : List Way). gathered_from (field_ways table count) 0 fields >>= (λ zs. Ok (ys ++ zs))) ws e in
      let more = bind_ok (gathered_from (field_ways table count) 0 fields) (λ (zs : List Way). Ok (one.0 ++ zs)) ws one.2 in
      let from : (j : ℕ) (f : FieldTree) → slice_get fields j ≡ Some f → slice_get fields (0 + j) ≡ Some f = λ j f h. let p : j ≡ 0 + j = omega arith in subst (λ (n : ℕ). slice_get fields n ≡ Some f) p h in
      subst (λ (x : List Way). AllByRecursion (λ w. IsWay table start fields w) x) (ok_same (one.0 ++ more.0) ws more.2)
      (all_append (λ w. IsWay table start fields w) one.0 more.0 (node_are Start (stop_at count 0) start one.0 tt (stop_ends count 0) refl one.1) (fields_are count 0 fields more.0 from more.1))

-- each link of a message
pub is_way : (start : List ThenTree) (fields : List FieldTree) (ws : List Way) (k : ℕ) (w : Way) → links_of start fields ≡ Ok ws → slice_get ws k ≡ Some w → IsWay (positions fields) start fields w
is_way start fields ws k w e h = all_at (λ x. IsWay (positions fields) start fields x) ws k w (all_are (positions fields) start fields (length fields) ws e) h

-- ---- a node has a link

abbrev BeginsSome : Stop → List Way → Type 0
BeginsSome s [] = ⊥
BeginsSome s (w ∷ ws) = (w.source ≡ s) ⊎ BeginsSome s ws

some_left : (s : Stop) (ws vs : List Way) → BeginsSome s ws → BeginsSome s (ws ++ vs)
some_left s [] vs h = absurd h
some_left s (w ∷ ws) vs (inl e) = inl e
some_left s (w ∷ ws) vs (inr h) = inr (some_left s ws vs h)

some_right : (s : Stop) (ws vs : List Way) → BeginsSome s vs → BeginsSome s (ws ++ vs)
some_right s [] vs h = h
some_right s (w ∷ ws) vs h = inr (some_right s ws vs h)

some_at : (s : Stop) (ws : List Way) → BeginsSome s ws → (k : ℕ) × (w : Way) × (slice_get ws k ≡ Some w) × (w.source ≡ s)
some_at s [] h = absurd h
some_at s (w ∷ ws) (inl e) = (0, w, refl, e)
some_at s (w ∷ ws) (inr h) = let r = some_at s ws h in (suc r.0, r.1, r.2, r.3)

then_source : (table : List (Entry ℕ)) (source : Stop) (k : ℕ) (t : ThenTree) (w : Way) → then_way table source k t ≡ Ok w → w.source ≡ source
then_source table source k t w e =
    let both = bind_ok (target_of table t.place t.target) (λ (x : Stop). Ok (record { source = source; clause = Some k; target = x })) w e in
    ap (λ (x : Way). x.source) (sym (ok_same (record { source = source; clause = Some k; target = both.0 }) w both.2))

node_has : (table : List (Entry ℕ)) (source next : Stop) (ts : List ThenTree) (ws : List Way) → node_ways table source next ts ≡ Ok ws → BeginsSome source ws
node_has table source next [] ws e = subst (λ (x : List Way). BeginsSome source x) (ok_same (record { source = source; clause = None; target = next } ∷ []) ws e) (inl refl)
node_has table source next (t ∷ ts) ws e =
    let one = bind_ok (then_way table source 0 t) (λ (y : Way). each_from (then_way table source) 1 ts >>= (λ ys. Ok (y ∷ ys))) ws e in
    let rest = bind_ok (each_from (then_way table source) 1 ts) (λ (ys : List Way). Ok (one.0 ∷ ys)) ws one.2 in
    subst (λ (x : List Way). BeginsSome source x) (ok_same (one.0 ∷ rest.0) ws rest.2) (inl (then_source table source 0 t one.0 one.1))

fields_have : (table : List (Entry ℕ)) (count i : ℕ) (rest : List FieldTree) (ws : List Way) (j : ℕ) → gathered_from (field_ways table count) i rest ≡ Ok ws → j < length rest → BeginsSome (At (i + j)) ws
fields_have table count i [] ws j e h = absurd (omega (arith, h))
fields_have table count i (f ∷ rest) ws zero e h =
    let one = bind_ok (field_ways table count i f) (λ (ys : List Way). gathered_from (field_ways table count) (i + 1) rest >>= (λ zs. Ok (ys ++ zs))) ws e in
    let more = bind_ok (gathered_from (field_ways table count) (i + 1) rest) (λ (zs : List Way). Ok (one.0 ++ zs)) ws one.2 in
    let place : i ≡ i + 0 = omega arith in
    subst (λ (n : ℕ). BeginsSome (At n) ws) place
    (subst (λ (x : List Way). BeginsSome (At i) x) (ok_same (one.0 ++ more.0) ws more.2) (some_left (At i) one.0 more.0 (node_has table (At i) (stop_at count (i + 1)) f.thens.items one.0 one.1)))
fields_have table count i (f ∷ rest) ws (suc j) e h =
    let one = bind_ok (field_ways table count i f) (λ (ys : List Way). gathered_from (field_ways table count) (i + 1) rest >>= (λ zs. Ok (ys ++ zs))) ws e in
    let more = bind_ok (gathered_from (field_ways table count) (i + 1) rest) (λ (zs : List Way). Ok (one.0 ++ zs)) ws one.2 in
    let place : (i + 1) + j ≡ i + suc j = omega arith in
    subst (λ (n : ℕ). BeginsSome (At n) ws) place
    (subst (λ (x : List Way). BeginsSome (At ((i + 1) + j)) x) (ok_same (one.0 ++ more.0) ws more.2) (some_right (At ((i + 1) + j)) one.0 more.0 (fields_have table count (i + 1) rest more.0 j more.1 (omega (arith, h)))))

-- a link of the start
pub start_has : (start : List ThenTree) (fields : List FieldTree) (ws : List Way) → links_of start fields ≡ Ok ws → (k : ℕ) × (w : Way) × (slice_get ws k ≡ Some w) × (w.source ≡ Start)
start_has start fields ws e =
    let one = bind_ok (node_ways (positions fields) Start (stop_at (length fields) 0) start) (λ (ys : List Way). gathered_from (field_ways (positions fields) (length fields)) 0 fields >>= (λ zs. Ok (ys ++ zs))) ws e in
    let more = bind_ok (gathered_from (field_ways (positions fields) (length fields)) 0 fields) (λ (zs : List Way). Ok (one.0 ++ zs)) ws one.2 in
    some_at Start ws (subst (λ (x : List Way). BeginsSome Start x) (ok_same (one.0 ++ more.0) ws more.2) (some_left Start one.0 more.0 (node_has (positions fields) Start (stop_at (length fields) 0) start one.0 one.1)))

-- and one of each field
pub field_has : (start : List ThenTree) (fields : List FieldTree) (ws : List Way) (f : ℕ) → links_of start fields ≡ Ok ws → f < length fields → (k : ℕ) × (w : Way) × (slice_get ws k ≡ Some w) × (w.source ≡ At f)
field_has start fields ws f e h =
    let one = bind_ok (node_ways (positions fields) Start (stop_at (length fields) 0) start) (λ (ys : List Way). gathered_from (field_ways (positions fields) (length fields)) 0 fields >>= (λ zs. Ok (ys ++ zs))) ws e in
    let more = bind_ok (gathered_from (field_ways (positions fields) (length fields)) 0 fields) (λ (zs : List Way). Ok (one.0 ++ zs)) ws one.2 in
    let place : 0 + f ≡ f = omega arith in
    let here = subst (λ (n : ℕ). BeginsSome (At n) more.0) place (fields_have (positions fields) (length fields) 0 fields more.0 f more.1 h) in
    some_at (At f) ws (subst (λ (x : List Way). BeginsSome (At f) x) (ok_same (one.0 ++ more.0) ws more.2) (some_right (At f) one.0 more.0 here))
