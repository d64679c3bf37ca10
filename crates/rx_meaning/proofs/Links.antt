-- Messages that are the same have the same links, and the same is told of them.
use Rattle.std.proofs.Common.{◌≡◌, ◌∙◌, ap, refl, ℕ, ◌+◌, List, [], ◌++◌, length, map, Option, Some, None, Ok, Err}
use Rattle.std.specs.Prelude.{slice_get}
use Rattle.rx_syntax.specs.declared.token.Place.{Place}
use Rattle.rx_syntax.specs.declared.tree.Named.{Named}
use Rattle.rx_syntax.specs.declared.tree.FieldTree.{FieldTree}
use Rattle.rx_syntax.specs.declared.tree.ThenTree.{ThenTree}
use Rattle.rx_cycle.specs.Graph.{first_returning}
use Rattle.rx_judge.specs.Table.{Entry, added}
use Rattle.rx_links.specs.Positions.{positions_from, positions}
use Rattle.rx_links.specs.Links.{target_of, then_way, node_ways, stop_at, field_ways, links_by, links_of}
use Rattle.rx_links.specs.Cycle.{ends_of, cycle_at, clauses_in, clauses_of, clause_of, told_of_field, told_by_field, told_by_clause, told_at, told_of_way, told, unless_returning, no_cycle}
use Rattle.rx_links.specs.declared.links.Stop.{Stop}
use Rattle.rx_links.specs.declared.links.Stop.TheVariants.{Start, At, Null}
use Rattle.rx_links.specs.declared.links.Way.{Way}
use Rattle.rx_trees.specs.Alike as alike
use Rattle.rx_trees.specs.Alike.{AreSame, IsSameIfAny, IsSameField, IsSameThen}
use Rattle.rx_meaning.proofs.Lists.{ap_two, bind_same, first_same, each_same, gathered_same, length_same, item_same}

-- ---- the places of fields

positions_from_same : (i : ℕ) (table : List (Entry ℕ)) {fs gs : List FieldTree} → AreSame IsSameField fs gs → positions_from i table fs ≡ positions_from i table gs
positions_from_same i table alike.none = refl
positions_from_same i table (alike.next {y = g} {xs = fs} s ss) = ap (λ (n : Named). positions_from (i + 1) (added table [] n.word i) fs) s.name ∙ positions_from_same (i + 1) (added table [] g.name.word i) ss

pub positions_same : {fs gs : List FieldTree} → AreSame IsSameField fs gs → positions fs ≡ positions gs
positions_same ss = positions_from_same 0 [] ss

-- ---- the links

pub then_way_same : (table : List (Entry ℕ)) (source : Stop) (k : ℕ) {t u : ThenTree} → IsSameThen t u → then_way table source k t ≡ then_way table source k u
then_way_same table source k s = first_same (λ target. Ok (record { source = source; clause = Some k; target = target })) (ap_two (target_of table) s.place s.target)

pub node_ways_same : (table : List (Entry ℕ)) (source next : Stop) {ts us : List ThenTree} → AreSame IsSameThen ts us → node_ways table source next ts ≡ node_ways table source next us
node_ways_same table source next alike.none = refl
node_ways_same table source next (alike.next s ss) = each_same 0 (λ k x y h. then_way_same table source k h) (alike.next s ss)

pub field_ways_same : (table : List (Entry ℕ)) (count i : ℕ) {f g : FieldTree} → IsSameField f g → field_ways table count i f ≡ field_ways table count i g
field_ways_same table count i s = node_ways_same table (At i) (stop_at count (i + 1)) s.thens

pub links_by_same : (table : List (Entry ℕ)) (count : ℕ) {ts us : List ThenTree} {fs gs : List FieldTree} → AreSame IsSameThen ts us → AreSame IsSameField fs gs → links_by table count ts fs ≡ links_by table count us gs
links_by_same table count ts fs = bind_same (node_ways_same table Start (stop_at count 0) ts) (λ ws. first_same (λ vs. Ok (ws ++ vs)) (gathered_same 0 (λ i x y h. field_ways_same table count i h) fs))

pub links_of_same : {ts us : List ThenTree} {fs gs : List FieldTree} → AreSame IsSameThen ts us → AreSame IsSameField fs gs → links_of ts fs ≡ links_of us gs
links_of_same {ts} {us} {fs} {gs} a b = ap_two (λ table count. links_by table count ts fs) (positions_same b) (length_same b) ∙ links_by_same (positions gs) (length gs) a b

-- ---- the clauses of a node, and the clause of a link

pub clauses_in_same : {o p : Option FieldTree} → IsSameIfAny IsSameField o p → AreSame IsSameThen (clauses_in o) (clauses_in p)
clauses_in_same alike.none = alike.none
clauses_in_same (alike.some s) = s.thens

pub clauses_of_same : (source : Stop) {ts us : List ThenTree} {fs gs : List FieldTree} → AreSame IsSameThen ts us → AreSame IsSameField fs gs → AreSame IsSameThen (clauses_of ts fs source) (clauses_of us gs source)
clauses_of_same Start a b = a
clauses_of_same (At i) a b = clauses_in_same (item_same i b)
clauses_of_same Null a b = alike.none

pub clause_of_same : (k : Option ℕ) {ts us : List ThenTree} → AreSame IsSameThen ts us → IsSameIfAny IsSameThen (clause_of ts k) (clause_of us k)
clause_of_same None a = alike.none
clause_of_same (Some k) a = item_same k a

-- the clause of a link of a message
pub clause_same : (w : Way) {ts us : List ThenTree} {fs gs : List FieldTree} → AreSame IsSameThen ts us → AreSame IsSameField fs gs → IsSameIfAny IsSameThen (clause_of (clauses_of ts fs w.source) w.clause) (clause_of (clauses_of us gs w.source) w.clause)
clause_same w a b = clause_of_same w.clause (clauses_of_same w.source a b)

-- ---- what is told of a link

told_of_field_same : (name : Named) {o p : Option FieldTree} → IsSameIfAny IsSameField o p → told_of_field name o ≡ told_of_field name p
told_of_field_same name alike.none = refl
told_of_field_same name (alike.some s) = ap (λ (n : Named). cycle_at n.place n.word) s.name

pub told_by_field_same : (name : Named) (target : Stop) {fs gs : List FieldTree} → AreSame IsSameField fs gs → told_by_field name fs target ≡ told_by_field name gs target
told_by_field_same name Start b = refl
told_by_field_same name (At i) b = told_of_field_same name (item_same i b)
told_by_field_same name Null b = refl

told_by_clause_same : (name : Named) (target : Stop) (p : Place) (o : Option (List ℕ)) {fs gs : List FieldTree} → AreSame IsSameField fs gs → told_by_clause name fs target p o ≡ told_by_clause name gs target p o
told_by_clause_same name target p None b = told_by_field_same name target b
told_by_clause_same name target p (Some w) b = refl

told_at_same : (name : Named) (target : Stop) {fs gs : List FieldTree} {o p : Option ThenTree} → AreSame IsSameField fs gs → IsSameIfAny IsSameThen o p → told_at name fs target o ≡ told_at name gs target p
told_at_same name target b alike.none = told_by_field_same name target b
told_at_same name target {fs} b (alike.some {y = u} s) = ap_two (told_by_clause name fs target) s.place s.target ∙ told_by_clause_same name target u.place u.target b

told_of_way_same : (name : Named) (w : Way) {ts us : List ThenTree} {fs gs : List FieldTree} → AreSame IsSameThen ts us → AreSame IsSameField fs gs → told_of_way name ts fs w ≡ told_of_way name us gs w
told_of_way_same name w a b = told_at_same name w.target b (clause_same w a b)

told_same : (name : Named) (o : Option Way) {ts us : List ThenTree} {fs gs : List FieldTree} → AreSame IsSameThen ts us → AreSame IsSameField fs gs → told name ts fs o ≡ told name us gs o
told_same name None a b = refl
told_same name (Some w) a b = told_of_way_same name w a b

unless_returning_same : (name : Named) (ways : List Way) (o : Option ℕ) {ts us : List ThenTree} {fs gs : List FieldTree} → AreSame IsSameThen ts us → AreSame IsSameField fs gs → unless_returning name ts fs ways o ≡ unless_returning name us gs ways o
unless_returning_same name ways None a b = refl
unless_returning_same name ways (Some i) a b = ap (λ r. Err r) (told_same name (slice_get ways i) a b)

pub no_cycle_same : (name : Named) (ways : List Way) {ts us : List ThenTree} {fs gs : List FieldTree} → AreSame IsSameThen ts us → AreSame IsSameField fs gs → no_cycle name ts fs ways ≡ no_cycle name us gs ways
no_cycle_same name ways a b = unless_returning_same name ways (first_returning (map ends_of ways)) a b
