-- The fields that links name are those of the message.
use Rattle.std.proofs.Common.{◌≡◌, sym, refl, subst, ℕ, zero, suc, ◌+◌, ◌<◌, ◌≤◌, Bool, true, false, List, [], ◌∷◌, ◌++◌, length, Option, Some, None, Ok, arith, add-zero}
use Rattle.std.specs.Prelude.{slice_get, find, nat_lt, if◌then◌else◌}
use Rattle.std.specs.Option.{option_map}
use Rattle.std.proofs.lemmas.Bool.{ltb-true}
use Rattle.std.proofs.lemmas.Option.{none-some, same_Some}
use Rattle.rx_syntax.specs.declared.token.Place.{Place}
use Rattle.rx_syntax.specs.declared.tree.ThenTree.{ThenTree}
use Rattle.rx_syntax.specs.declared.tree.FieldTree.{FieldTree}
use Rattle.rx_judge.specs.Meaning.{◌>>=◌, each_from}
use Rattle.rx_judge.specs.Table.{Entry, entry, is_entry, found, has, added}
use Rattle.rx_judge.proofs.Meanings.{bind_ok, ok_same, err_differs}
use Rattle.rx_links.specs.declared.links.Stop.{Stop}
use Rattle.rx_links.specs.declared.links.Stop.TheVariants.{Start, At, Null}
use Rattle.rx_links.specs.declared.links.Way.{Way}
use Rattle.rx_links.specs.Positions.{positions, positions_from}
use Rattle.rx_links.specs.Links.{gathered_from, stop_at, field_at, target_of, then_way, node_ways, field_ways, links_by, links_of}
use Rattle.rx_links.specs.Cycle.{IsStop, AreWithin}

-- ---- the table of places

Below : ℕ → List (Entry ℕ) → Type 0
Below n [] = Unit {0}
Below n (e ∷ es) = (e.thing < n) × Below n es

below_more : (n : ℕ) (es : List (Entry ℕ)) → Below n es → Below (n + 1) es
unfolding Below
below_more n [] b = tt
below_more n (e ∷ es) b = (let h = b.0 in omega arith, below_more n es b.1)

below_push : (n : ℕ) (es : List (Entry ℕ)) (e : Entry ℕ) → Below n es → e.thing < n → Below n (es ++ e ∷ [])
unfolding Below
below_push n [] e b h = (h, tt)
below_push n (x ∷ es) e b h = (b.0, below_push n es e b.1 h)

below_if : (b : Bool) (n : ℕ) (es : List (Entry ℕ)) (e : Entry ℕ) → Below n es → e.thing ≡ n → Below (n + 1) (if b then es else es ++ e ∷ [])
below_if true n es e b h = below_more n es b
below_if false n es e b h = below_push (n + 1) es e (below_more n es b) (omega arith)

positions_below : (i : ℕ) (table : List (Entry ℕ)) (fs : List FieldTree) → Below i table → Below (i + length fs) (positions_from i table fs)
positions_below i table [] b = subst (λ (n : ℕ). Below n table) (sym (add-zero i)) b
positions_below i table (f ∷ fs) b =
    let all = positions_below (i + 1) (added table [] f.name.word i) fs (below_if (has table [] f.name.word) i table (entry [] f.name.word i) b refl) in
    let e : i + 1 + length fs ≡ i + suc (length fs) = omega arith in
    subst (λ (n : ℕ). Below n (positions_from (i + 1) (added table [] f.name.word i) fs)) e all

found_if : (b : Bool) (n : ℕ) (e : Entry ℕ) (rest : Option (Entry ℕ)) (j : ℕ) → e.thing < n → (option_map (λ (x : Entry ℕ). x.thing) rest ≡ Some j → j < n) → option_map (λ (x : Entry ℕ). x.thing) (if b then Some e else rest) ≡ Some j → j < n
found_if true n e rest j h k q = subst (λ (x : ℕ). x < n) (same_Some e.thing j q) h
found_if false n e rest j h k q = k q

found_below : (n : ℕ) (w : List ℕ) (es : List (Entry ℕ)) (j : ℕ) → Below n es → found es [] w ≡ Some j → j < n
unfolding Below
found_below n w [] j b q = absurd (none-some j q)
found_below n w (e ∷ es) j b q = found_if (is_entry [] w e) n e (find (is_entry [] w) es) j b.0 (found_below n w es j b.1) q

-- ---- links

record IsIn (count : ℕ) (w : Way) : Type 0 where
  source : IsStop count w.source
  target : IsStop count w.target

AllIn : ℕ → List Way → Type 0
AllIn count [] = Unit {0}
AllIn count (w ∷ ws) = IsIn count w × AllIn count ws

all_append : (count : ℕ) (ws vs : List Way) → AllIn count ws → AllIn count vs → AllIn count (ws ++ vs)
unfolding AllIn
all_append count [] vs a b = b
all_append count (w ∷ ws) vs a b = (a.0, all_append count ws vs a.1 b)

in_at : (count : ℕ) (ws : List Way) (k : ℕ) (w : Way) → AllIn count ws → slice_get ws k ≡ Some w → IsIn count w
unfolding AllIn
in_at count [] k w a h = absurd (none-some w h)
in_at count (v ∷ ws) zero w a h = subst (λ (x : Way). IsIn count x) (same_Some v w h) a.0
in_at count (v ∷ ws) (suc k) w a h = in_at count ws k w a.1 h

stop_in_if : (count i : ℕ) (b : Bool) → nat_lt i count ≡ b → IsStop count (if b then At i else Null)
stop_in_if count i true e = ltb-true i count e
stop_in_if count i false e = tt

stop_in : (count i : ℕ) → IsStop count (stop_at count i)
stop_in count i = stop_in_if count i (nat_lt i count) refl

field_in : (count : ℕ) (p : Place) (w : List ℕ) (o : Option ℕ) (s : Stop) → ((j : ℕ) → o ≡ Some j → j < count) → field_at p w o ≡ Ok s → IsStop count s
field_in count p w None s k e = absurd (err_differs _ _ e)
field_in count p w (Some i) s k e = subst (λ (x : Stop). IsStop count x) (ok_same (At i) s e) (k i refl)

target_in : (count : ℕ) (table : List (Entry ℕ)) (p : Place) (t : Option (List ℕ)) (s : Stop) → Below count table → target_of table p t ≡ Ok s → IsStop count s
target_in count table p None s b e = subst (λ (x : Stop). IsStop count x) (ok_same Null s e) tt
target_in count table p (Some w) s b e = field_in count p w (found table [] w) s (λ j q. found_below count w table j b q) e

then_in : (count : ℕ) (table : List (Entry ℕ)) (source : Stop) (k : ℕ) (t : ThenTree) (w : Way) → Below count table → IsStop count source → then_way table source k t ≡ Ok w → IsIn count w
then_in count table source k t w b s e =
    let both = bind_ok (target_of table t.place t.target) (λ (x : Stop). Ok (record { source = source; clause = Some k; target = x })) w e in
    subst (λ (x : Way). IsIn count x) (ok_same _ w both.2) record { source = s; target = target_in count table t.place t.target both.0 b both.1 }

thens_in : (count : ℕ) (table : List (Entry ℕ)) (source : Stop) (k : ℕ) (ts : List ThenTree) (ws : List Way) → Below count table → IsStop count source → each_from (then_way table source) k ts ≡ Ok ws → AllIn count ws
unfolding AllIn
thens_in count table source k [] ws b s e = subst (λ (x : List Way). AllIn count x) (ok_same [] ws e) tt
thens_in count table source k (t ∷ ts) ws b s e =
    let one = bind_ok (then_way table source k t) (λ (y : Way). each_from (then_way table source) (k + 1) ts >>= (λ ys. Ok (y ∷ ys))) ws e in
    let rest = bind_ok (each_from (then_way table source) (k + 1) ts) (λ (ys : List Way). Ok (one.0 ∷ ys)) ws one.2 in
    subst (λ (x : List Way). AllIn count x) (ok_same (one.0 ∷ rest.0) ws rest.2) (then_in count table source k t one.0 b s one.1, thens_in count table source (k + 1) ts rest.0 b s rest.1)

node_in : (count : ℕ) (table : List (Entry ℕ)) (source next : Stop) (ts : List ThenTree) (ws : List Way) → Below count table → IsStop count source → IsStop count next → node_ways table source next ts ≡ Ok ws → AllIn count ws
unfolding AllIn
node_in count table source next [] ws b s n e = subst (λ (x : List Way). AllIn count x) (ok_same (record { source = source; clause = None; target = next } ∷ []) ws e) (record { source = s; target = n }, tt)
node_in count table source next (t ∷ ts) ws b s n e = thens_in count table source 0 (t ∷ ts) ws b s e

fields_in : (count : ℕ) (table : List (Entry ℕ)) (i : ℕ) (fs : List FieldTree) (ws : List Way) → Below count table → i + length fs ≤ count → gathered_from (field_ways table count) i fs ≡ Ok ws → AllIn count ws
unfolding AllIn
fields_in count table i [] ws b h e = subst (λ (x : List Way). AllIn count x) (ok_same [] ws e) tt
fields_in count table i (f ∷ fs) ws b h e =
    let one = bind_ok (field_ways table count i f) (λ (ys : List Way). gathered_from (field_ways table count) (i + 1) fs >>= (λ zs. Ok (ys ++ zs))) ws e in
    let rest = bind_ok (gathered_from (field_ways table count) (i + 1) fs) (λ (zs : List Way). Ok (one.0 ++ zs)) ws one.2 in
    let here : i < count = omega arith in
    subst (λ (x : List Way). AllIn count x) (ok_same (one.0 ++ rest.0) ws rest.2)
    (all_append count one.0 rest.0 (node_in count table (At i) (stop_at count (i + 1)) f.thens.items one.0 b here (stop_in count (i + 1)) one.1) (fields_in count table (i + 1) fs rest.0 b (omega arith) rest.1))

links_in : (count : ℕ) (table : List (Entry ℕ)) (start : List ThenTree) (fs : List FieldTree) (ws : List Way) → Below count table → length fs ≤ count → links_by table count start fs ≡ Ok ws → AllIn count ws
links_in count table start fs ws b h e =
    let one = bind_ok (node_ways table Start (stop_at count 0) start) (λ (ys : List Way). gathered_from (field_ways table count) 0 fs >>= (λ zs. Ok (ys ++ zs))) ws e in
    let rest = bind_ok (gathered_from (field_ways table count) 0 fs) (λ (zs : List Way). Ok (one.0 ++ zs)) ws one.2 in
    subst (λ (x : List Way). AllIn count x) (ok_same (one.0 ++ rest.0) ws rest.2)
    (all_append count one.0 rest.0 (node_in count table Start (stop_at count 0) start one.0 b tt (stop_in count 0) one.1) (fields_in count table 0 fs rest.0 b (omega arith) rest.1))

-- the fields that a message's links name are the message's
pub links_within : (start : List ThenTree) (fs : List FieldTree) (ws : List Way) → links_of start fs ≡ Ok ws → AreWithin (length fs) ws
unfolding Below
links_within start fs ws e =
    let table = positions_below 0 [] fs tt in
    let same : 0 + length fs ≡ length fs = omega arith in
    let all = links_in (length fs) (positions fs) start fs ws (subst (λ (n : ℕ). Below n (positions fs)) same table) (omega arith) e in
    record { source = λ k w h. (in_at (length fs) ws k w all h).source; target = λ k w h. (in_at (length fs) ws k w all h).target }
