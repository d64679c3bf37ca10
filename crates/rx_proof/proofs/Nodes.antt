-- The measure of the check, and what it needs at each node below.
use Rattle.std.proofs.Common.{◌≡◌, refl, sym, ap, ◌∙◌, ℕ, zero, suc, ◌+◌, ◌<◌, ◌≤◌, ◌^◌, arith, List, [], ◌∷◌, ◌++◌, map, take, length, get_or, Bool, true, false, cond, ◌&&◌, ◌||◌, Option, Some, None, ℤ, pos, negsuc, neg_ℤ, ◌+ℤ◌, length-append, unsigned_abs, nat_lt, to_z, of_z, ◌-ℤ◌}
use Rattle.std.specs.List.{slice_get, list_any}
use Rattle.std.proofs.lemmas.List.{take_all, take-take, take-append-le}
use Rattle.std.specs.Int.{w128}
use Rattle.std.proofs.lemmas.Int.{ints}
use Rattle.std.proofs.lemmas.Bool.{ltb-true}
use Rattle.rx_linear.proofs.Joining.{both}
use Rattle.rx_linear.specs.declared.row.Row.{Row}
use Rattle.rx_linear.specs.declared.step.Step.{Step}
use Rattle.rx_linear.specs.Cells.{Stacked}
use Rattle.rx_linear.specs.Rows.{tight}
use Rattle.rx_linear.specs.Joining.{joined, joined_one, is_true, same_row}
use Rattle.rx_linear.specs.Units.{unit_row}
use Rattle.rx_linear.specs.Steps.{if_some, closes}
use Rattle.rx_proof.specs.declared.query.Query.{Query, out-Query}
use Rattle.rx_proof.specs.declared.proof.Proof.{Proof, Case, Halve, Close}
use Rattle.rx_proof.specs.declared.proof.Proof.TheVariants.{rolls-Halve, rolls-Case}
use Rattle.rx_proof.specs.declared.proof.Proof.TheOpen.{Proof-F}
use Rattle.rx_proof.specs.declared.proof.Proof.TheFolds.{fold-Proof, fold-roll-Proof}
use Rattle.rx_proof.specs.declared.open.Open.{Open}
use Rattle.rx_proof.specs.Acceptance.{Node, accepted, each_accepts, can_halve, halves_accepted, entered, with_row, root}
use Rattle.rx_proof.specs.Room.{total}
use Rattle.rx_proof.specs.Open.{node_of}
use Rattle.rx_proof.proofs.Equations.{accepted_close, accepted_halve, accepted_case}

-- ---- the measure

abbrev pub nodes_step : Proof-F ℕ → ℕ
nodes_step (Proof-F.Case i proofs) = 1 + total proofs
nodes_step (Proof-F.Halve x c low high) = 1 + (low + high)
nodes_step (Proof-F.Close steps) = 1

-- how many nodes the proof has
unfoldable pub nodes : Proof → ℕ
nodes = fold-Proof ℕ nodes_step

pub nodes_halve : (x : ℕ) (c : ℤ) (low high : Proof) → nodes (Halve x c low high) ≡ 1 + (nodes low + nodes high)
unfolding nodes
nodes_halve x c low high = ap nodes (sym (rolls-Halve x c low high)) ∙ fold-roll-Proof ℕ nodes_step (Proof-F.Halve x c low high)

pub nodes_case : (i : ℕ) (proofs : List Proof) → nodes (Case i proofs) ≡ 1 + total (map nodes proofs)
unfolding nodes
nodes_case i proofs = ap nodes (sym (rolls-Case i proofs)) ∙ fold-roll-Proof ℕ nodes_step (Proof-F.Case i proofs)

pub nodes_at : (proofs : List Proof) (i : ℕ) (d : Proof) → i < length proofs → nodes (get_or proofs i d) ≤ total (map nodes proofs)
nodes_at [] i d h = absurd (omega arith)
nodes_at (p ∷ proofs) zero d h = omega arith
nodes_at (p ∷ proofs) (suc i) d h = let l : i < length proofs = omega arith in omega (arith, nodes_at proofs i d l)

-- ---- joined rows

one_more : (rows : List Row) (row : Row) → (take (length rows) (joined_one rows row) ≡ rows) × (length rows ≤ length (joined_one rows row)) × (length (joined_one rows row) ≤ length rows + 1)
one_more rows row = by_test (is_true row || list_any (same_row row) rows)
  where
    by_test : (b : Bool) → (take (length rows) (cond b rows (rows ++ row ∷ [])) ≡ rows) × (length rows ≤ length (cond b rows (rows ++ row ∷ []))) × (length (cond b rows (rows ++ row ∷ [])) ≤ length rows + 1)
    by_test true = (take_all (length rows) rows (omega arith), omega arith, omega arith)
    by_test false = let l = length-append rows (row ∷ []) in (take-append-le (length rows) rows (row ∷ []) (omega arith) ∙ take_all (length rows) rows (omega arith), omega (arith, l), omega (arith, l))

pub joined_longer : (rows more : List Row) → length rows ≤ length (joined rows more)
joined_longer rows [] = omega arith
joined_longer rows (row ∷ more) = let o = one_more rows (tight row) in omega (arith, o.1, joined_longer (joined_one rows (tight row)) more)

pub joined_at_most : (rows more : List Row) → length (joined rows more) ≤ length rows + length more
joined_at_most rows [] = omega arith
joined_at_most rows (row ∷ more) = let o = one_more rows (tight row) in omega (arith, o.2, joined_at_most (joined_one rows (tight row)) more)

pub joined_front : (rows more : List Row) → take (length rows) (joined rows more) ≡ rows
joined_front rows [] = take_all (length rows) rows (omega arith)
joined_front rows (row ∷ more) =
    let o = one_more rows (tight row) in
    sym (take-take (length rows) (length (joined_one rows (tight row))) (joined (joined_one rows (tight row)) more) o.1)
    ∙ ap (take (length rows)) (joined_front (joined_one rows (tight row)) more)
    ∙ o.0

-- ---- values

pub close_value : (proof : Proof) (steps given : List Step) (node : Node) (r : Bool) → proof ≡ Close steps → given ≡ steps → r ≡ closes node.rows given → r ≡ accepted proof node
close_value proof steps given node r e f v = v ∙ ap (closes node.rows) f ∙ sym (accepted_close steps node) ∙ ap (λ (p : Proof). accepted p node) (sym e)

pub halve_value : (proof : Proof) (x : ℕ) (c : ℤ) (low high given_low given_high : Proof) (node : Node) (r : Bool) → proof ≡ Halve x c low high → given_low ≡ low → given_high ≡ high
    → r ≡ halves_accepted x c given_low given_high node → r ≡ accepted proof node
halve_value proof x c low high gl gh node r e el eh v =
    v ∙ ap (λ (p : Proof). halves_accepted x c p gh node) el ∙ ap (λ (p : Proof). halves_accepted x c low p node) eh ∙ sym (accepted_halve x c low high node) ∙ ap (λ (p : Proof). accepted p node) (sym e)

pub none_value : (proof : Proof) (i : ℕ) (proofs : List Proof) (node : Node) → proof ≡ Case i proofs → slice_get node.either i ≡ None → false ≡ accepted proof node
none_value proof i proofs node e n =
    sym (ap (λ (p : Proof). accepted p node) e ∙ accepted_case i proofs node ∙ ap (λ (o : Option (List Query)). if_some o (λ branches. each_accepts node i (map accepted proofs) branches)) n)

pub some_value : (proof : Proof) (i : ℕ) (proofs given : List Proof) (branches given_branches : List Query) (node : Node) (r : Bool) → proof ≡ Case i proofs → given ≡ proofs → given_branches ≡ branches
    → slice_get node.either i ≡ Some branches → r ≡ each_accepts node i (map accepted given) given_branches → r ≡ accepted proof node
some_value proof i proofs given branches given_branches node r e f g s v =
    v ∙ ap (λ (ps : List Proof). each_accepts node i (map accepted ps) given_branches) f ∙ ap (each_accepts node i (map accepted proofs)) g
    ∙ sym (ap (λ (p : Proof). accepted p node) e ∙ accepted_case i proofs node ∙ ap (λ (o : Option (List Query)). if_some o (λ bs. each_accepts node i (map accepted proofs) bs)) s)

-- proofs of another number than the branches are not accepted
pub unequal : (node : Node) (i : ℕ) (tests : List (Node → Bool)) (branches : List Query) → (length tests ≡ length branches → ⊥) → false ≡ each_accepts node i tests branches
unequal node i [] [] h = absurd (h refl)
unequal node i [] (b ∷ branches) h = refl
unequal node i (t ∷ tests) [] h = refl
unequal node i (t ∷ tests) (b ∷ branches) h = no_more (t (entered node i b)) (unequal node i tests branches (λ e. h (ap suc e)))
  where
    no_more : (p : Bool) {q : Bool} → false ≡ q → false ≡ (p && q)
    no_more true e = e
    no_more false e = refl

-- ---- halves

pub record Halvable (n x : ℕ) (m : ℤ) : Type 0 where
  pub within : x < n
  pub small : unsigned_abs m < 2 ^ 100
  pub next_small : unsigned_abs (m +ℤ pos 1) < 2 ^ 100

pub halvable : (n x : ℕ) (m : ℤ) → can_halve n x m ≡ true → Halvable n x m
halvable n x m h =
    let last = both {a = nat_lt x n && nat_lt (unsigned_abs m) (2 ^ 100)} {b = nat_lt (unsigned_abs (m +ℤ pos 1)) (2 ^ 100)} h in
    let before = both {a = nat_lt x n} {b = nat_lt (unsigned_abs m) (2 ^ 100)} last.0 in
    record {
      within = ltb-true x n before.0;
      small = ltb-true (unsigned_abs m) (2 ^ 100) before.1;
      next_small = ltb-true (unsigned_abs (m +ℤ pos 1)) (2 ^ 100) last.1;
    }

-- the code's cast values
pub low_code : (m : ℤ) → unsigned_abs m < 2 ^ 100 → to_z w128 (of_z w128 (pos 0 -ℤ to_z w128 (of_z w128 m))) ≡ neg_ℤ m
low_code m h = omega (arith, ints, h)

pub high_code : (m : ℤ) → unsigned_abs m < 2 ^ 100 → to_z w128 (of_z w128 (to_z w128 (of_z w128 m) +ℤ pos 1)) ≡ m +ℤ pos 1
high_code m h = omega (arith, ints, h)

pub low_small : (m l : ℤ) → unsigned_abs m < 2 ^ 100 → l ≡ neg_ℤ m → unsigned_abs l < 2 ^ 100
low_small m l h e = omega (arith, ints, h, e)

both_true : (a b c r : Bool) → a ≡ true → b ≡ true → r ≡ c → r ≡ (a && b && c)
both_true true true c r e f g = g
both_true true false c r e f g = absurd (cc)
both_true false b c r e f g = absurd (cc)

pub halves_value : (x : ℕ) (m low_least high_least : ℤ) (low high : Proof) (stack after : Stacked) (chain : Open) (first r : Bool) → can_halve stack.variables x m ≡ true
    → low_least ≡ neg_ℤ m → high_least ≡ m +ℤ pos 1 → after ≡ stack
    → first ≡ accepted low (with_row (node_of stack chain) (unit_row stack.variables x (negsuc 0) low_least)) → first ≡ true
    → r ≡ accepted high (with_row (node_of after chain) (unit_row after.variables x (pos 1) high_least)) → r ≡ halves_accepted x m low high (node_of stack chain)
halves_value x m ll hl low high stack after chain first r t el eh s f ft v =
    both_true (can_halve stack.variables x m) _ _ r t
    (ap (λ (z : ℤ). accepted low (with_row (node_of stack chain) (unit_row stack.variables x (negsuc 0) z))) (sym el) ∙ sym f ∙ ft)
    (v ∙ ap (λ (y : Stacked). accepted high (with_row (node_of y chain) (unit_row y.variables x (pos 1) hl))) s ∙ ap (λ (z : ℤ). accepted high (with_row (node_of stack chain) (unit_row stack.variables x (pos 1) z))) eh)

-- ---- branches

pub cut_back : (stack joined_stack after cut : Stacked) (more : List Row) (count : ℕ) → joined_stack ≡ (let y : Stacked = record { variables = stack.variables; rows = joined stack.rows more; limit = stack.limit } in y) → after ≡ joined_stack → count ≡ length stack.rows
    → cut ≡ (let y : Stacked = record { variables = after.variables; rows = take count after.rows; limit = after.limit } in y) → cut ≡ stack
cut_back stack joined_stack after cut more count e f g h =
    let all = f ∙ e in
    h
    ∙ ap (λ (z : Stacked). let y : Stacked = record { variables = z.variables; rows = take count z.rows; limit = z.limit } in y) all
    ∙ ap (λ (k : ℕ). let y : Stacked = record { variables = stack.variables; rows = take k (joined stack.rows more); limit = stack.limit } in y) g
    ∙ ap (λ (rs : List Row). let y : Stacked = record { variables = stack.variables; rows = rs; limit = stack.limit } in y) (joined_front stack.rows more)

-- ---- the query's own node

abbrev node_with : ℕ → List Row → List (List Query) → Node
node_with n rows either = record { variables = n; rows = rows; either = either }

pub root_node : (query : Query) (n : ℕ) (rows : List Row) (either : List (List Query)) → n ≡ (out-Query query).system.variables → rows ≡ joined [] (out-Query query).system.rows → either ≡ (out-Query query).either → node_with n rows either ≡ root query
root_node query n rows either e f g =
    ap (λ (k : ℕ). node_with k rows either) e ∙ ap (λ (rs : List Row). node_with (out-Query query).system.variables rs either) f ∙ ap (λ (ds : List (List Query)). node_with (out-Query query).system.variables (joined [] (out-Query query).system.rows) ds) g
